use Rattle.std.proofs.Common.{◌≡◌, take, reverse}
use Rattle.stack_items.specs.Items.{waiting_place}
use Rattle.stack_items.proofs.waiting.uppermost_waiting.Given as goal

-- the items from this place on are known
abbrev pub invariant-loop-place : goal.invariant-loop-place
invariant-loop-place l = waiting_place (reverse l.items) ≡ waiting_place (reverse (take l.place l.items))
