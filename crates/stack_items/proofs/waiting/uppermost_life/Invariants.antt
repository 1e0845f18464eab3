use Rattle.std.proofs.Common.{◌≡◌, take, reverse}
use Rattle.model_machine.specs.Machines.{first_life}
use Rattle.stack_items.proofs.waiting.uppermost_life.Given as goal

-- the items from this place on are known
abbrev pub invariant-loop-place : goal.invariant-loop-place
invariant-loop-place l = first_life (reverse l.items) ≡ first_life (reverse (take l.place l.items))
