-- The pairs that are made for at most 30 workers are such that an input may have.
use Rattle.std.proofs.Common.{◌≡◌, ◌∙◌, ◌<◌, ◌≤◌, ◌&&◌, ℕ, zero, suc, Bool, true, false, true≢false, List, [], ◌∷◌, ◌++◌, nat_lt, nat_le, nat_eq, leb-true, length, refl, sym, ap, subst, arith}
use Rattle.std.specs.List.{All, AllByRecursion, list_all}
use Rattle.std.specs.Fmt.{digits}
use Rattle.std.proofs.lemmas.Bool.{ltb-true}
use Rattle.std.proofs.lemmas.Bool.Decides.{nat_tests}
use Rattle.std.proofs.lemmas.List.Folds.{list_all-append}
use Rattle.key_bytes.specs.Keys.{IsByteString, key_lt, top}
use Rattle.model_database.specs.declared.TheConstants.{KEY_LIMIT, VALUE_LIMIT}
use Rattle.model_lines.specs.Inputs.{IsSmall}
use Rattle.fdb_tuple.specs.Spelling.{signed_spelled, least_bytes, low_first}
use Rattle.generator.specs.Generated.{busy_pairs, gen_pairs, main_instructions, main_prefix, pairs_of, worker_pairs}

-- ---- one pair, as a test

abbrev is_small : List ℕ × List ℕ → Bool
is_small pair =
    list_all (λ byte. nat_lt byte 256) pair.0
    && (list_all (λ byte. nat_lt byte 256) pair.1
    && (key_lt pair.0 top && (nat_le (length pair.0) KEY_LIMIT && nat_le (length pair.1) VALUE_LIMIT)))

both : (a b : Bool) → (a && b) ≡ true → (a ≡ true) × (b ≡ true)
both true b e = (refl, e)
both false b e = absurd (true≢false (sym e))

one_more : (byte : ℕ) (bytes : List ℕ) → byte < 256 → IsByteString bytes → IsByteString (byte ∷ bytes)
one_more byte bytes is are zero other inside = is
one_more byte bytes is are (suc place) other inside = are place other (omega (arith, inside))

bytes_are : (bytes : List ℕ) → list_all (λ byte. nat_lt byte 256) bytes ≡ true → IsByteString bytes
bytes_are [] e = λ place other inside. absurd (omega (arith, inside))
bytes_are (byte ∷ bytes) e =
    let parts = both (nat_lt byte 256) _ e in
    one_more byte bytes (ltb-true byte 256 parts.0) (bytes_are bytes parts.1)

small_is : (pair : List ℕ × List ℕ) → is_small pair ≡ true → IsSmall pair
small_is pair e =
    let key = both (list_all (λ byte. nat_lt byte 256) pair.0) _ e in
    let value = both (list_all (λ byte. nat_lt byte 256) pair.1) _ key.1 in
    let below = both (key_lt pair.0 top) _ value.1 in
    let lengths = both (nat_le (length pair.0) KEY_LIMIT) _ below.1 in
    record {
      key = bytes_are pair.0 key.0;
      value = bytes_are pair.1 value.0;
      below_top = below.0;
      key_len = leb-true _ _ lengths.0;
      value_len = leb-true _ _ lengths.1;
    }

all_small : (pairs : List (List ℕ × List ℕ)) → list_all is_small pairs ≡ true → AllByRecursion IsSmall pairs
all_small [] e = tt
all_small (pair ∷ pairs) e = let parts = both (is_small pair) _ e in (small_is pair parts.0, all_small pairs parts.1)

-- ---- all pairs, computed

abbrev all_pass : List (List ℕ × List ℕ) → Bool
all_pass pairs = list_all is_small pairs

workers_pass : all_pass (worker_pairs 30) ≡ true
unfolding signed_spelled least_bytes low_first digits
workers_pass = refl

busy_pass : all_pass (busy_pairs 30) ≡ true
unfolding signed_spelled least_bytes low_first digits
busy_pass = refl

main_0_passes : all_pass (pairs_of main_prefix (main_instructions 0)) ≡ true
unfolding signed_spelled least_bytes low_first digits
main_0_passes = refl

abbrev main_passes : ℕ → Bool
main_passes zero = true
main_passes (suc count) = main_passes count && all_pass (pairs_of main_prefix (main_instructions (suc count)))

mains_pass : main_passes 30 ≡ true
unfolding signed_spelled least_bytes low_first digits
mains_pass = refl

-- what passes for a number of workers passes for fewer
fewer : (passes : ℕ → Bool) → ((count : ℕ) → passes (suc count) ≡ true → passes count ≡ true) → (most count : ℕ) → count ≤ most
    → passes most ≡ true → passes count ≡ true
fewer passes one_less zero count within e = subst (λ n. passes n ≡ true) (omega (arith, within)) e
fewer passes one_less (suc most) count within e = go (nat_le count most) refl (λ less. fewer passes one_less most count less (one_less most e))
  where
    go : (b : Bool) → nat_le count most ≡ b → (count ≤ most → passes count ≡ true) → passes count ≡ true
    go true less next = next (leb-true count most less)
    go false more next = let last : suc most ≡ count = grind (arith, nat_tests) in subst (λ n. passes n ≡ true) last e

front_passes : (pairs more : List (List ℕ × List ℕ)) → all_pass (pairs ++ more) ≡ true → all_pass pairs ≡ true
front_passes pairs more e = (both (all_pass pairs) (all_pass more) (sym (list_all-append is_small pairs more) ∙ e)).0

join_passes : (pairs more : List (List ℕ × List ℕ)) → all_pass pairs ≡ true → all_pass more ≡ true → all_pass (pairs ++ more) ≡ true
join_passes pairs more e f = list_all-append is_small pairs more ∙ rw (e, f) refl

main_alone : (count : ℕ) → main_passes count ≡ true → all_pass (pairs_of main_prefix (main_instructions count)) ≡ true
main_alone zero e = main_0_passes
main_alone (suc count) e = (both (main_passes count) _ e).1

pub gen_pairs_small : (count : ℕ) → count ≤ 30 → AllByRecursion IsSmall (gen_pairs count)
gen_pairs_small count within =
    let mains = main_alone count (fewer main_passes (λ n e. (both (main_passes n) _ e).0) 30 count within mains_pass) in
    let workers = fewer (λ n. all_pass (worker_pairs n)) (λ n. front_passes (worker_pairs n) _) 30 count within workers_pass in
    let busy = fewer (λ n. all_pass (busy_pairs n)) (λ n. front_passes (busy_pairs n) _) 30 count within busy_pass in
    all_small (gen_pairs count)
    (join_passes (pairs_of main_prefix (main_instructions count) ++ worker_pairs count) (busy_pairs count)
    (join_passes (pairs_of main_prefix (main_instructions count)) (worker_pairs count) mains workers) busy)
