use Rattle.std.proofs.Common.{◌≡◌, ◌≤◌, ◌^◌, ◌*◌, ◌+◌, ◌-◌, refl, sym, ap, ◌∙◌, arith, drop, get_or}
use Rattle.std.proofs.lemmas.Bool.{le-ltb, lt-ltb}
use Rattle.dump_reading.specs.Fields.{value_after}
use Rattle.dump_reading.proofs.FieldSteps.{value_grows, next_digit, no_digit}
use Rattle.instr_grammar.proofs.number.value_of.Goals as goal

pub returns-then-value-digit : goal.returns-then-value-digit
returns-then-value-digit c =
    let digits = c.args.digits.now in
    let i = c.loop-digit.digit-index in
    let next = c.loop-digit.value * 10 + (get_or digits i 0 - 48) in
    let all = sym (next_digit c.loop-digit.value digits i c.loop-digit-test.true) ∙ c.loop-digit.invariant.all in
    let large : 2 ^ 128 ≤ value_after 0 digits =
    omega (arith, all, value_grows next (drop (i + 1) digits), c.if-value-digit.true, c.saturating_sub.ensures, c.from-digit.ensures) in
    rw (le-ltb (value_after 0 digits) (2 ^ 128) large) refl

pub loop-digit-preserved : goal.loop-digit-preserved
loop-digit-preserved c =
    let digits = c.args.digits.now in
    let i = c.loop-digit.digit-index in
    let next_is : c.loop-digit.value * 10 + c.from-digit.result ≡ c.loop-digit.value * 10 + (get_or digits i 0 - 48) =
    omega (arith, c.saturating_sub.ensures, c.from-digit.ensures) in
    record {
      all = ap (λ n. value_after n (drop (i + 1) digits)) next_is
          ∙ sym (next_digit c.loop-digit.value digits i c.loop-digit-test.true) ∙ c.loop-digit.invariant.all;
      fits = omega (arith, c.if-value-digit.false);
    }

pub returns : goal.returns
returns c =
    let digits = c.args.digits.now in
    let all = sym (no_digit c.loop-digit.value digits c.loop-digit.digit-index c.loop-digit-test.false) ∙ c.loop-digit.invariant.all in
    let fits = c.loop-digit.invariant.fits in
    rw (← all, lt-ltb c.loop-digit.value (2 ^ 128) fits) refl
