use Rattle.std.proofs.Common.{◌≡◌, subst, ◌∙◌}
use Rattle.model_allocator.specs.Acts.{AddsWriteConflict}
use Rattle.model_allocator.specs.Counters.{recent_key}
use Rattle.prefix_allocator.proofs.Calls.{Quiet, quiet_done}
use Rattle.prefix_allocator.proofs.tries.claim_number.Goals as goal

pub returns-clause-claimed : goal.returns-clause-claimed
returns-clause-claimed g c setting t stands =
    let key : c.as_slice.result.now ≡ recent_key c.args.keys.now.space c.args.number = c.as_slice.ensures ∙ c.in_ok-key.ensures in
    let after = g.T.Tr.stands c.write_conflict_key.new.self setting in
    quiet_done c.write_conflict_key.result setting after (AddsWriteConflict (recent_key c.args.keys.now.space c.args.number)) t
    (subst (λ key. Quiet c.write_conflict_key.result after setting (AddsWriteConflict key) t) key
    (c.write_conflict_key.ensures.answer setting t stands))
