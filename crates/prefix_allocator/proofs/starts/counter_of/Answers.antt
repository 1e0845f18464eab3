use Rattle.std.proofs.Common.{◌≡◌, length, reverse, Some, sym, ap, ◌∙◌, arith}
use Rattle.std.specs.Prelude.{bytes_eq}
use Rattle.std.proofs.lemmas.Bool.{not-true, not-false}
use Rattle.key_bytes.specs.Numbers.{number_low}
use Rattle.model_allocator.specs.Counters.{counter_key}
use Rattle.prefix_allocator.proofs.Counters.{said, many_digits, said_counter, another_key, great_number}
use Rattle.prefix_allocator.proofs.starts.counter_of.Goals.{then-number-gt-GREATEST_COUNTER-via-then-number-gt-GREATEST_COUNTER, then-number-gt-GREATEST_COUNTER-via-else-number-gt-GREATEST_COUNTER+in_ok-counter+then-ne}
use Rattle.prefix_allocator.proofs.starts.counter_of.Goals as goal

pub returns-in_default : goal.returns-in_default
returns-in_default c =
    many_digits c.args.keys.now.space c.args.key.now (omega (arith, c.in_default.ensures, ap length c.digits_in.ensures))

pub returns-then-number-gt-GREATEST_COUNTER : goal.returns-then-number-gt-GREATEST_COUNTER
returns-then-number-gt-GREATEST_COUNTER c =
    let space = c.args.keys.now.space in
    let key = c.args.key.now in
    let number : c.in-Some.number ≡ said space key = c.in-Some.ensures ∙ ap (λ digits. number_low (reverse digits)) c.digits_in.ensures in
    elim c.then-number-gt-GREATEST_COUNTER.branch [
      | then-number-gt-GREATEST_COUNTER-via-then-number-gt-GREATEST_COUNTER w ↦
          great_number space key (omega (arith, w.if-number-gt-GREATEST_COUNTER.true, number))
      | then-number-gt-GREATEST_COUNTER-via-else-number-gt-GREATEST_COUNTER+in_ok-counter+then-ne w ↦
          let differs = not-true (bytes_eq key w.in_ok-counter.field-0) (sym w.ne.ensures ∙ w.if-ne.true) in
          another_key space key (ap (bytes_eq key) (ap (counter_key space) (sym number) ∙ sym w.in_ok-counter.ensures) ∙ differs)
    ]

pub returns : goal.returns
returns c =
    let space = c.args.keys.now.space in
    let key = c.args.key.now in
    let number : c.in-Some.number ≡ said space key = c.in-Some.ensures ∙ ap (λ digits. number_low (reverse digits)) c.digits_in.ensures in
    let equal = not-false (bytes_eq key c.in_ok-counter.field-0) (sym c.ne.ensures ∙ c.if-ne.false) in
    ap Some number
    ∙ said_counter space key (ap (bytes_eq key) (ap (counter_key space) (sym number) ∙ sym c.in_ok-counter.ensures) ∙ equal)
    (omega (arith, c.if-number-gt-GREATEST_COUNTER.false, number))
