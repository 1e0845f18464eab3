use Rattle.std.proofs.Common.{◌≡◌, length, reverse, Some, sym, ap, ◌∙◌, arith}
use Rattle.std.specs.Prelude.{bytes_eq}
use Rattle.std.proofs.lemmas.Bool.{not-true, not-false}
use Rattle.key_bytes.specs.Numbers.{number_low}
use Rattle.model_recipes.specs.Queues.{index_key}
use Rattle.recipe_layers.proofs.Digits.{said, many_digits, said_index, another_key, great_number}
use Rattle.recipe_layers.proofs.keys.index_in.Goals.{then-index-gt-GREATEST_INDEX-via-then-index-gt-GREATEST_INDEX, then-index-gt-GREATEST_INDEX-via-else-index-gt-GREATEST_INDEX+in_ok-index_key+then-ne}
use Rattle.recipe_layers.proofs.keys.index_in.Goals as goal

pub returns-in_default : goal.returns-in_default
returns-in_default c =
    many_digits c.args.s.now.prefix c.args.key.now (omega (arith, c.in_default.ensures, ap length c.digits_behind.ensures))

pub returns-then-index-gt-GREATEST_INDEX : goal.returns-then-index-gt-GREATEST_INDEX
returns-then-index-gt-GREATEST_INDEX c =
    let space = c.args.s.now.prefix in
    let key = c.args.key.now in
    let index : c.in-Some.index ≡ said space key = c.in-Some.ensures ∙ ap (λ digits. number_low (reverse digits)) c.digits_behind.ensures in
    elim c.then-index-gt-GREATEST_INDEX.branch [
      | then-index-gt-GREATEST_INDEX-via-then-index-gt-GREATEST_INDEX w ↦
          great_number space key (omega (arith, w.if-index-gt-GREATEST_INDEX.true, index))
      | then-index-gt-GREATEST_INDEX-via-else-index-gt-GREATEST_INDEX+in_ok-index_key+then-ne w ↦
          let differs = not-true (bytes_eq key w.in_ok-index_key.field-0) (sym w.ne.ensures ∙ w.if-ne.true) in
          another_key space key (ap (bytes_eq key) (ap (index_key space) (sym index) ∙ sym w.in_ok-index_key.ensures) ∙ differs)
    ]

pub returns : goal.returns
returns c =
    let space = c.args.s.now.prefix in
    let key = c.args.key.now in
    let index : c.in-Some.index ≡ said space key = c.in-Some.ensures ∙ ap (λ digits. number_low (reverse digits)) c.digits_behind.ensures in
    let equal = not-false (bytes_eq key c.in_ok-index_key.field-0) (sym c.ne.ensures ∙ c.if-ne.false) in
    ap Some index
    ∙ said_index space key (ap (bytes_eq key) (ap (index_key space) (sym index) ∙ sym c.in_ok-index_key.ensures) ∙ equal)
    (omega (arith, c.if-index-gt-GREATEST_INDEX.false, index))
