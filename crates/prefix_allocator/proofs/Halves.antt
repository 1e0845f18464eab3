-- 8 bytes as a count.
use Rattle.std.proofs.Common.{◌≡◌, ℕ, ◌*◌, ◌^◌, ◌<◌, Bool, true, false, List, sym, ap, ◌∙◌}
use Rattle.std.specs.Prelude.{◌&&◌, nat_lt, nat_le}
use Rattle.std.proofs.lemmas.Bool.{lt-ltb}
use Rattle.key_bytes.specs.Numbers.{number_low}
use Rattle.model_allocator.specs.Counters.{window, counts_half}

pub half_where_positive : (start : ℕ) (count : List ℕ) (number wide : ℕ) → number ≡ number_low count → number < 2 ^ 63 → wide ≡ window start
    → nat_le wide (2 * number) ≡ counts_half start count
half_where_positive start count number wide is positive window_is =
    let low : nat_lt number (2 ^ 63) ≡ true = lt-ltb number (2 ^ 63) positive in
    ap (λ (low : Bool). low && nat_le wide (2 * number)) (sym low)
    ∙ ap (λ wide. nat_lt number (2 ^ 63) && nat_le wide (2 * number)) window_is
    ∙ ap (λ number. nat_lt number (2 ^ 63) && nat_le (window start) (2 * number)) is

pub no_half_where_negative : (start : ℕ) (count : List ℕ) (number : ℕ) (low : Bool) → number ≡ number_low count
    → low ≡ nat_lt number (2 ^ 63) → low ≡ false
    → low ≡ counts_half start count
no_half_where_negative start count number low is low_is negative =
    negative ∙ ap (λ (low : Bool). low && nat_le (window start) (2 * number_low count)) (sym negative ∙ low_is
    ∙ ap (λ number. nat_lt number (2 ^ 63)) is)
