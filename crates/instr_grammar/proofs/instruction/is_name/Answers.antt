use Rattle.std.proofs.Common.{arith, ◌∙◌, sym, ap}
use Rattle.instr_grammar.proofs.NameLists.{none_left, found_at}
use Rattle.std.specs.Prelude.{bytes_eq}
use Rattle.instr_grammar.proofs.instruction.is_name.Goals as goal

pub returns-then-eq : goal.returns-then-eq
returns-then-eq c =
    found_at c.loop-i.i c.args.bytes.now (omega (arith, c.loop-i-test.true)) (ap (λ n. bytes_eq n c.args.bytes.now) (sym c.name_at.ensures) ∙ sym c.if-eq.ensures) c.loop-i.invariant.all

pub returns : goal.returns
returns c = none_left c.loop-i.i c.args.bytes.now (omega (arith, c.loop-i-test.false)) c.loop-i.invariant.all
