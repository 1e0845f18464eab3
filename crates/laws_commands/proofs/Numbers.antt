-- A number of the grammar is what std's `parse` reads of a word without a sign and without a leading zero.
use Rattle.std.proofs.Common.{◌≡◌, ◌∙◌, ◌≢◌, ◌<◌, ◌≤◌, ◌^◌, ◌==◌, ◌&&◌, ◌||◌, ℕ, Bool, cond, not, true, false, true≢false, List, [], ◌∷◌, length, get_or, Option, Some, None, Result, Ok, Err, OkIff, codes, nat_le, nat_eq, refl, sym, ap, arith, eq-eqb, leb-true}
use Rattle.std.specs.Str.{all_ascii_digits}
use Rattle.std.specs.Str.Parse.{ParsesUnsigned, digits_value}
use Rattle.std.proofs.lemmas.Str.Parse.{IsNumeralModel, numerals_by_value, parse_plain, tells_all_ascii_digits}
use Rattle.std.proofs.lemmas.Bool.Decides.{nat_tests}
use Rattle.clap.proofs.WalkLemmas.{both}
use Rattle.key_bytes.specs.Keys.{begins_with}
use Rattle.model_commands.specs.Grammar.{is_numeral, number_in}
use Rattle.laws_commands.specs.Found.{is_marked}

-- the number that was read, where it is within its bounds
abbrev pub within : {E : Type 0} → ℕ → ℕ → Result ℕ E → Option ℕ
within least most (Ok n) = cond (nat_le least n && nat_le n most) (Some n) None
within least most (Err e) = None

own : IsNumeralModel (λ ds. all_ascii_digits ds ≡ true) (digits_value 10)
own = numerals_by_value _ tells_all_ascii_digits

no_plus : (word : List ℕ) → begins_with word (codes "+") ≡ false → get_or word 0 0 ≢ 43
no_plus [] begins is = omega arith
no_plus (x ∷ xs) begins is =
    let plus : nat_eq 43 x ≡ true = eq-eqb 43 x (sym is) in
    absurd (true≢false (sym plus ∙ sym (both_true (nat_eq 43 x)) ∙ begins))
  where
    both_true : (b : Bool) → (b && true) ≡ b
    both_true true = refl
    both_true false = refl

neither : (a b : Bool) → (a || b) ≡ false → (a ≡ false) × (b ≡ false)
neither true b e = absurd (true≢false e)
neither false b e = (refl, e)

unpadded : (a b : Bool) → (a && not b) ≡ false → (not a || b) ≡ true
unpadded true true e = refl
unpadded true false e = absurd (true≢false e)
unpadded false b e = refl

not_empty : (word : List ℕ) → 0 < length word → (length word == 0) ≡ false
not_empty word some = grind (arith, nat_tests)

some_length : (word : List ℕ) → not (length word == 0) ≡ true → 0 < length word
some_length [] e = absurd (true≢false (sym e))
some_length (x ∷ xs) e = omega arith

module _ {E : Type 0} (least most : ℕ) (word : List ℕ) where
  pub number_read : (r : Result ℕ E) → most < 2 ^ 64 → ParsesUnsigned 64 10 word r → is_marked word ≡ false → number_in least most word ≡ within least most r
  number_read r fits parsed unmarked = go r (parse_plain own 64 word r parsed (no_plus word marks.0))
    where
      marks : (begins_with word (codes "+") ≡ false) × ((begins_with word (codes "0") && not (length word == 1)) ≡ false)
      marks = neither (begins_with word (codes "+")) _ unmarked

      zeros : (not (begins_with word (codes "0")) || length word == 1) ≡ true
      zeros = unpadded (begins_with word (codes "0")) (length word == 1) marks.1

      go : (o : Result ℕ E) → OkIff o ((all_ascii_digits word ≡ true) × (0 < length word) × (digits_value 10 word < 2 ^ 64)) (digits_value 10 word)
          → number_in least most word ≡ within least most o
      go (Ok n) facts =
          let numeral : is_numeral word ≡ true = λ i. not (not_empty word facts.0.1 i) && (facts.0.0 i && zeros i) in
          ap (λ b. cond (b && (nat_le least (digits_value 10 word) && nat_le (digits_value 10 word) most)) (Some (digits_value 10 word)) None) numeral
          ∙ ap (λ m. cond (nat_le least m && nat_le m most) (Some m) None) (sym facts.1)
      go (Err e) none = refuse (is_numeral word && (nat_le least (digits_value 10 word) && nat_le (digits_value 10 word) most)) refl
        where
          refuse : (b : Bool) → (is_numeral word && (nat_le least (digits_value 10 word) && nat_le (digits_value 10 word) most)) ≡ b
              → cond b (Some (digits_value 10 word)) None ≡ None
          refuse false e = refl
          refuse true e =
              let parts = both (is_numeral word) _ e in
              let numeral = both (not (length word == 0)) _ parts.0 in
              let digits = both (all_ascii_digits word) _ numeral.1 in
              let bounds = both (nat_le least (digits_value 10 word)) _ parts.1 in
              let below : digits_value 10 word ≤ most = leb-true _ _ bounds.1 in
              let small : digits_value 10 word < 2 ^ 64 = omega arith in
              absurd (none (digits.0, some_length word numeral.0, small))
