use Rattle.std.proofs.Common.{ℕ, ◌+◌, length, Err, refl, sym, ap, ◌∙◌, arith}
use Rattle.std.proofs.lemmas.Bool.{eqb-true}
use Rattle.std.proofs.lemmas.Result.{err_from_is_err_and}
use Rattle.model_lines.specs.Reading.{BadLine, lines_of, size_of}
use Rattle.dump_reading.specs.Seen.{line_is}
use Rattle.instr_grammar.specs.Lines.{start, next_place, read_lines, assembled}
use Rattle.instr_text.proofs.Lawful.{size_is, line_was, may_stand}
use Rattle.instr_text.proofs.Prefixes.{grows, next_is}
use Rattle.instr_text.proofs.Steps.{nothing_read, line_goes_on, line_ends, all_read, all_read_waiting}
use Rattle.instr_text.proofs.assembling.read_all.Goals as goal

pub loop-left-init : goal.loop-left-init
unfolding assembled
loop-left-init c =
    let at = c.new-sections.ensures in
    record {
      stands = record {
        place = start;
        is_at = at;
        number_is = refl;
        bytes = omega arith;
        all = rw c.new-pairs.ensures (nothing_read (read_lines start (lines_of c.args.text.now)));
      };
      within = omega arith;
      counted = omega arith;
      size = omega arith;
      index = omega (arith, at.index);
      instructions = omega (arith, at.instructions);
    }

pub returns-in_err-said : goal.returns-in_err-said
returns-in_err-said c =
    let p = err_from_is_err_and c.from_residual.result c.from_residual.ensures.1 in
    let stands = c.loop-left.invariant.stands in
    let fails = c.in_err-said.ensures stands.place stands.is_at stands.bytes (c.first_line.ensures.number ∙ stands.number_is) in
    rw (p.1, p.2)
    (line_ends c.in_err-said.field-0.0 stands.place c.loop-left.left.now c.first_line.result.1.now c.loop-left.pairs (line_is c.first_line.result.0)
    (assembled c.args.text.now) c.first_line.ensures.lines fails stands.all)

pub loop-left-preserved : goal.loop-left-preserved
loop-left-preserved c =
    let stands = c.loop-left.invariant.stands in
    let place = stands.place in
    let line = line_is c.first_line.result.0 in
    let says = c.in_ok-said.ensures place stands.is_at stands.bytes (c.first_line.ensures.number ∙ stands.number_is) in
    let told = says.0 in
    let was = line_was place line told says.1.0 in
    let taken = c.in_ok-take.ensures place line told stands.is_at says.1.1 (may_stand place told was.1) in
    let next = next_is place line told in
    let most = grows place line told in
    let sizes = ap size_of was.0 ∙ size_is told in
    let fits = was.1.size in
    record {
      stands = record {
        place = next_place place line told;
        is_at = taken.stands;
        number_is = ap (λ (n : ℕ). n + 1) stands.number_is ∙ sym next.0;
        bytes = omega (arith, next.1, stands.bytes, c.first_line.ensures.size, c.loop-left.invariant.within);
        all = rw taken.pairs (line_goes_on place c.loop-left.left.now c.first_line.result.1.now c.loop-left.pairs told line (assembled c.args.text.now)
            c.first_line.ensures.lines says.1.0 stands.all);
      };
      within = omega (arith, c.first_line.ensures.less);
      counted = omega (arith, c.first_line.ensures.less);
      size = omega (arith, stands.bytes, c.first_line.ensures.size, sizes, fits);
      index = omega (arith, taken.stands.index, most.0, stands.is_at.index, c.loop-left.invariant.index);
      instructions = omega (arith, taken.stands.instructions, most.1, stands.is_at.instructions, c.loop-left.invariant.instructions);
    }

pub returns-then-is_waiting : goal.returns-then-is_waiting
returns-then-is_waiting c =
    let stands = c.loop-left.invariant.stands in
    all_read_waiting stands.place c.loop-left.left.now c.loop-left.pairs (assembled c.args.text.now)
    (eqb-true (length c.loop-left.left.now) 0 (sym c.loop-left-test.ensures)) (sym (c.if-is_waiting.ensures stands.place stands.is_at)) stands.all
    ∙ ap (λ (n : ℕ). Err (BadLine n 0)) (sym stands.number_is)

pub returns : goal.returns
returns c =
    let stands = c.loop-left.invariant.stands in
    all_read stands.place c.loop-left.left.now c.loop-left.pairs (assembled c.args.text.now)
    (eqb-true (length c.loop-left.left.now) 0 (sym c.loop-left-test.ensures)) (sym (c.if-is_waiting.ensures stands.place stands.is_at)) stands.all
