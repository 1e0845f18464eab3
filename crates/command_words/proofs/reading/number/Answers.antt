use Rattle.std.proofs.Common.{◌≡◌, ◌∙◌, ◌<◌, ◌≤◌, ◌^◌, ◌&&◌, cond, false, ℕ, Some, None, nat_le, le-leb, arith, sym, ap, refl}
use Rattle.laws_commands.proofs.Numbers.{number_read, within}
use Rattle.laws_commands.specs.Found.{is_marked}
use Rattle.command_words.proofs.reading.number.Goals as goal

pub returns-in_default-clause-value : goal.returns-in_default-clause-value
returns-in_default-clause-value c =
    let fits : c.args.most < 2 ^ 64 = omega arith in
    let unmarked : is_marked c.args.word.now ≡ false = ap is_marked (sym c.as_bytes.ensures.value) ∙ sym c.is_marked.ensures ∙ c.if-is_marked.false in
    sym (number_read c.args.least c.args.most c.args.word.now c.parse.result fits c.parse.ensures.value.0 unmarked
    ∙ ap (within c.args.least c.args.most) c.in_default.is)

within_bounds : (least most n : ℕ) → least ≤ n → n ≤ most → cond (nat_le least n && nat_le n most) (Some n) None ≡ Some n
within_bounds least most n low high = rw (le-leb least n low, le-leb n most high) refl

pub returns-then-number-most-clause-value : goal.returns-then-number-most-clause-value
returns-then-number-most-clause-value c =
    let fits : c.args.most < 2 ^ 64 = omega arith in
    let unmarked : is_marked c.args.word.now ≡ false = ap is_marked (sym c.as_bytes.ensures.value) ∙ sym c.is_marked.ensures ∙ c.if-is_marked.false in
    sym (number_read c.args.least c.args.most c.args.word.now c.parse.result fits c.parse.ensures.value.0 unmarked
    ∙ ap (within c.args.least c.args.most) c.in-Ok.is ∙ within_bounds c.args.least c.args.most c.in-Ok.number c.if-least-number.true c.if-number-most.true)
