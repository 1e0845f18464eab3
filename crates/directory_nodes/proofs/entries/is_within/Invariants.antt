use Rattle.std.proofs.Common.{◌≡◌, length, drop}
use Rattle.std.specs.Prelude.{bytes_eq}
use Rattle.std.specs.List.{starts_with}
use Rattle.directory_nodes.proofs.entries.is_within.Given as goal

-- the names that are left of both tell it
abbrev pub invariant-loop-name : goal.invariant-loop-name
invariant-loop-name l =
    starts_with bytes_eq (drop (length l.yielded) l.path) (drop (length l.yielded) l.front) ≡ starts_with bytes_eq l.path l.front
