-- The kinds of codes in a range, and of bytes that are no code.
use Rattle.std.proofs.Common.{◌≡◌, ℕ, ◌-◌, ◌<◌, ◌≤◌, Bool, true, false, None, Some, refl, arith}
use Rattle.std.proofs.lemmas.Bool.{ne_eqb, lt-ltb, le-ltb}
use Rattle.std.proofs.lemmas.Bool.Decides.{nat_tests}
use Rattle.fdb_tuple.specs.declared.code.Kind.TheVariants as kind
use Rattle.fdb_tuple.specs.Kinds.{kind_of}

pub negative_kind : (code : ℕ) → 12 ≤ code → code < 20 → kind_of code ≡ Some (kind.ShortInt true (20 - code))
unfolding kind_of
negative_kind code low high =
    rw (
      ne_eqb code 0 (λ e. omega arith),
      ne_eqb code 1 (λ e. omega arith),
      ne_eqb code 2 (λ e. omega arith),
      ne_eqb code 5 (λ e. omega arith),
      le-ltb code 11 (omega arith),
      ne_eqb code 11 (λ e. omega arith),
      lt-ltb code 20 high,
    ) refl

pub positive_kind : (code : ℕ) → 20 ≤ code → code < 29 → kind_of code ≡ Some (kind.ShortInt false (code - 20))
unfolding kind_of
positive_kind code low high =
    rw (
      ne_eqb code 0 (λ e. omega arith),
      ne_eqb code 1 (λ e. omega arith),
      ne_eqb code 2 (λ e. omega arith),
      ne_eqb code 5 (λ e. omega arith),
      le-ltb code 11 (omega arith),
      ne_eqb code 11 (λ e. omega arith),
      le-ltb code 20 low,
      lt-ltb code 29 high,
    ) refl

pub no_kind_low : (code : ℕ) → (code ≡ 0 → ⊥) → (code ≡ 1 → ⊥) → (code ≡ 2 → ⊥) → (code ≡ 5 → ⊥) → code < 11 → kind_of code ≡ None
unfolding kind_of
no_kind_low code n0 n1 n2 n5 high = rw (ne_eqb code 0 n0, ne_eqb code 1 n1, ne_eqb code 2 n2, ne_eqb code 5 n5, lt-ltb code 11 high) refl

pub no_kind_high : (code : ℕ) → 29 < code → (code ≡ 38 → ⊥) → (code ≡ 39 → ⊥) → (code ≡ 48 → ⊥) → (code ≡ 51 → ⊥) → kind_of code ≡ None
unfolding kind_of
no_kind_high code low n38 n39 n48 n51 =
    rw (
      ne_eqb code 0 (λ e. omega arith),
      ne_eqb code 1 (λ e. omega arith),
      ne_eqb code 2 (λ e. omega arith),
      ne_eqb code 5 (λ e. omega arith),
      le-ltb code 11 (omega arith),
      ne_eqb code 11 (λ e. omega arith),
      le-ltb code 20 (omega arith),
      le-ltb code 29 (omega arith),
      ne_eqb code 29 (λ e. omega arith),
      ne_eqb code 38 n38,
      ne_eqb code 39 n39,
      ne_eqb code 48 n48,
      ne_eqb code 51 n51,
    ) refl

-- a short integer has at most 8 bytes
pub short_size : (code size : ℕ) (negative : Bool) → kind_of code ≡ Some (kind.ShortInt negative size) → size ≤ 8
unfolding kind_of
short_size code size negative e = grind (arith, nat_tests)
