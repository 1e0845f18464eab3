use Rattle.std.proofs.Common.{List, ℕ, subst}
use Rattle.fdb_calls.specs.declared.Request.TheVariants as request
use Rattle.model_machine.specs.Worlds.{World, step}
use Rattle.client_core.specs.Stands.{StandsFor}
use Rattle.core_tr.specs.Standing.{Makes}
use Rattle.core_tr.proofs.Answering.{makes_apart}
use Rattle.core_tr.proofs.Replied.{split_told}
use Rattle.core_tr.proofs.named.CoreTr.call.Goals as goal

pub returns-clause-made : goal.returns-clause-made
returns-clause-made c =
    subst (λ (name : List ℕ). (world : World) → StandsFor c.args.self.now.core.now world
    → Makes c.split.result c.is_no_memory-self.result c.apply-reply.new.self world (step world (request.On name c.args.call)))
    (c.in_ok-name.ensures {u = tt})
    (makes_apart c.split.result c.is_no_memory-self.result c.args.self.now.core.now c.apply-reply.new.self c.in_ok-name.name c.args.call
    _ _ c.apply-reply.result c.split.ensures c.is_no_memory-self.ensures c.apply-reply.ensures.step)

pub returns-clause-kind : goal.returns-clause-kind
returns-clause-kind c = split_told c.split.result c.args.call c.apply-reply.result c.split.ensures c.apply-reply.ensures.fits
