use Rattle.std.proofs.Common.{◌≡◌, None, subst}
use Rattle.model_allocator.specs.Acts.{refusal}
use Rattle.fdb_calls.specs.declared.Reply.{Reply}
use Rattle.core_tr.proofs.named.CoreTr.call_silently.Goals as goal

pub returns-clause-made : goal.returns-clause-made
returns-clause-made c world stands =
    let made = (c.in_ok-call.ensures {u = tt}).made world stands in
    (subst (λ (r : Reply). refusal r ≡ None) made.0 made.1, made.2)
