use Rattle.std.proofs.Common.{[], take, ◌∙◌, arith}
use Rattle.std.proofs.lemmas.List.{take_more_set, length-set, length-replicate}
use Rattle.std.proofs.lemmas.Result.{err_from_is_err_and}
use Rattle.instr_grammar.specs.Reading.{hexadecimal_at}
use Rattle.instr_grammar.proofs.Hexadecimal.{hex_begins, hex_goes_on, hex_fails, hex_ends}
use Rattle.instr_grammar.proofs.string.hexadecimal_of.Goals as goal

pub loop-i-init : goal.loop-i-init
loop-i-init g c = record { all = hex_begins g.row.N c.args.bytes.now []; len = length-replicate g.row.N 0; within = omega arith }

pub loop-i-smaller : goal.loop-i-smaller
loop-i-smaller g c = omega (arith, c.loop-i-test.true)

pub loop-i-preserved : goal.loop-i-preserved
loop-i-preserved g c = record {
  all = rw (take_more_set c.loop-i.read c.loop-i.i c.in_ok-byte.byte (omega (arith, c.loop-i-test.true, c.loop-i.invariant.len)))
      (hex_goes_on g.row.N c.loop-i.i (take c.loop-i.i c.loop-i.read) c.loop-i.left.now c.in_ok-byte.rest.now c.in_ok-byte.byte
      (hexadecimal_at g.row.N c.args.bytes.now) c.loop-i-test.true c.in_ok-byte.ensures c.loop-i.invariant.all);
  len = length-set c.loop-i.read c.loop-i.i c.in_ok-byte.byte ∙ c.loop-i.invariant.len;
  within = omega (arith, c.loop-i-test.true);
}

pub returns-in_err-byte : goal.returns-in_err-byte
returns-in_err-byte g c =
    let p = err_from_is_err_and c.from_residual.result c.from_residual.ensures.1 in
    rw (p.1, p.2) (hex_fails g.row.N c.loop-i.i (take c.loop-i.i c.loop-i.read) c.loop-i.left.now c.in_err-byte.field-0.0
    (hexadecimal_at g.row.N c.args.bytes.now) c.loop-i-test.true c.in_err-byte.ensures c.loop-i.invariant.all)

pub returns : goal.returns
returns g c =
    hex_ends g.row.N c.loop-i.i c.loop-i.read c.loop-i.left.now (hexadecimal_at g.row.N c.args.bytes.now) (omega (arith, c.loop-i-test.false)) c.loop-i.invariant.len
    c.loop-i.invariant.all
