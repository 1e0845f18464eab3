use Rattle.std.proofs.Common.{ℕ, map}
use Rattle.std.proofs.lemmas.List.Filters.{FiltersInPlace}
use Rattle.watch_core.specs.Watching.{is_pending_at}
use Rattle.watch_core.specs.Watches.{watched_of}
use Rattle.watch_core.proofs.watches.pack_pending.Given as goal

abbrev pub invariant-loop-i : goal.invariant-loop-i
invariant-loop-i g l =
    FiltersInPlace (λ (number : ℕ). is_pending_at number (map watched_of l.watches)) l.initial.numbers l.numbers l.kept l.i
