use Rattle.std.proofs.Common.{◌∙◌, subst, arith, All}
use Rattle.std.proofs.lemmas.List.{take_all}
use Rattle.std.proofs.lemmas.List.Elements.{All-more}
use Rattle.stack_items.specs.Unpacked.{PacksSome}
use Rattle.stack_items.proofs.tuples.unpack_each.Goals as goal

pub loop-string-preserved : goal.loop-string-preserved
loop-string-preserved c =
    All-more PacksSome c.args.strings.now c.loop-string.string-index c.string-item.result (omega arith) c.loop-string.invariant
    (subst PacksSome (c.as_slice.ensures ∙ c.string-item.is) (c.in_ok-unpack_operand.field-0, c.in_ok-unpack_operand.ensures))

pub returns : goal.returns
returns c = subst (All PacksSome) (take_all c.loop-string.string-index c.args.strings.now (omega arith)) c.loop-string.invariant
