-- What a call of the allocator is to do: a number that it grants is less than 2^63; its mutations have no versionstamp, they are
-- fit, and they leave that number spent.
use Rattle.std.proofs.Common.{◌≡◌, ℕ, ◌+◌, ◌^◌, ◌≤◌, Bool, true, false, List, [], ◌∷◌, ◌++◌, Option, Some, None, refl, sym, ap, subst, ◌∙◌, arith}
use Rattle.std.specs.Prelude.{◌<◌, flat_map, unwrap_or}
use Rattle.std.proofs.lemmas.List.{append-nil}
use Rattle.std.proofs.lemmas.List.Concat.{flat_map-append}
use Rattle.model_database.specs.Databases.{Database}
use Rattle.model_database.specs.Slices.{Entries}
use Rattle.model_database.specs.States.{all_filled}
use Rattle.model_database.proofs.States.{filled-append}
use Rattle.model_allocator.specs.declared.TheConstants.{GREATEST_COUNTER}
use Rattle.model_allocator.specs.Acts.{Act, writing, written_by}
use Rattle.model_allocator.specs.Counters.{counter_key, is_recent, window, counter_in, greatest_counter, counts_half, counted}
use Rattle.model_allocator.specs.Granting.{candidates, first_absent, tried, counts, opens, tries, claims, Grants, Plan, granting, plan_from, plan_by, plan_at, plan_counter, plan_under, plan}
use Rattle.model_allocator.proofs.Codes.{counter_in_is}
use Rattle.laws_prefixes.specs.Held.{AreSpending, AreFit}
use Rattle.laws_prefixes.proofs.Spending.{spending_last, fit_nothing, fit_append, fit_count, fit_advance, advance}
use Rattle.laws_prefixes.proofs.Choosing.{window_size, candidates_small, tried_small, chosen_small, sets, written_tries, sets_plain, sets_fit, sets_spend}

record IsFitPlan (space : List ℕ) (planned : Plan) : Type 0 where
  small : (number : ℕ) → planned.ending ≡ Grants number → number < 2 ^ 63
  plain : (stamp : List ℕ) → all_filled stamp (written_by planned.acts) ≡ written_by planned.acts
  fit : AreFit space (written_by planned.acts)
  spends : (number : ℕ) → planned.ending ≡ Grants number → AreSpending space number (written_by planned.acts)

-- ---- from a start on

written_claims : (space : List ℕ) (found : Option ℕ) → written_by (claims space found) ≡ []
written_claims space None = refl
written_claims space (Some number) = refl

granting_is : (start number : ℕ) (found : Option ℕ) → granting start found ≡ Grants number → found ≡ Some number
granting_is start number None is = absurd cc
granting_is start number (Some other) is = cc

-- behind what opens a call, it sets the numbers that are tried
written_from : (before : List Act) (space : List ℕ) (database : Database) (words : ℕ → ℕ) (start : ℕ)
    → written_by (plan_from before space database words start).acts
    ≡ written_by before ++ sets space (tried (is_recent space database) (candidates start words))
written_from before space database words start =
    let chosen = tried (is_recent space database) (candidates start words) in
    let found = first_absent (is_recent space database) (candidates start words) in
    let trying = flat_map (tries space) chosen in
    let claiming = claims space found in
    flat_map-append writing (before ++ trying) claiming
    ∙ ap (λ list. list ++ written_by claiming) (flat_map-append writing before trying)
    ∙ ap (λ list. (written_by before ++ written_by trying) ++ list) (written_claims space found)
    ∙ append-nil (written_by before ++ written_by trying)
    ∙ ap (λ list. written_by before ++ list) (written_tries space chosen)

from_start : (before : List Act) (space : List ℕ) (database : Database) (words : ℕ → ℕ) (start : ℕ) → start + window start ≤ 2 ^ 63
    → ((stamp : List ℕ) → all_filled stamp (written_by before) ≡ written_by before) → AreFit space (written_by before)
    → IsFitPlan space (plan_from before space database words start)
from_start before space database words start room plain fit =
    let present = is_recent space database in
    let all = candidates start words in
    let small = candidates_small start words room in
    let setting = sets space (tried present all) in
    let written = written_from before space database words start in
    record {
      small = λ number ending. chosen_small present all number small (granting_is start number (first_absent present all) ending);
      plain = λ stamp.
          ap (all_filled stamp) written
          ∙ filled-append stamp (written_by before) setting
          ∙ ap (λ list. list ++ all_filled stamp setting) (plain stamp)
          ∙ ap (λ list. written_by before ++ list) (sets_plain stamp space (tried present all))
          ∙ sym written;
      fit =
          subst (AreFit space) (sym written)
          (fit_append space (written_by before) setting fit (sets_fit space (tried present all) (tried_small present all small)));
      spends = λ number ending.
          subst (AreSpending space number) (sym written)
          (spending_last space number (written_by before) setting
          (sets_spend space present all number (granting_is start number (first_absent present all) ending)));
    }

-- ---- by the greatest counter

-- a counter counts, and where its window is half full, the next window is opened
by_half : (is_half : Bool) (space : List ℕ) (database : Database) (words : ℕ → ℕ) (first : ℕ) → first ≤ GREATEST_COUNTER
    → IsFitPlan space (plan_by is_half space database words first)
by_half false space database words first low =
    from_start (opens false space first) space database words first (omega (arith, (window_size first).1)) (λ stamp. refl)
    (fit_count space (counter_key space first))
by_half true space database words first low =
    let next = first + window first in
    from_start (opens true space first) space database words next (omega (arith, (window_size first).1, (window_size next).1))
    (λ stamp. refl)
    (fit_append space (written_by (counts space first)) (advance space next)
    (fit_count space (counter_key space first)) (fit_advance space next (omega (arith, (window_size first).1))))

at_counter : (space : List ℕ) (database : Database) (words : ℕ → ℕ) (first : ℕ) → first ≤ GREATEST_COUNTER
    → IsFitPlan space (plan_at space database words first)
at_counter space database words first low =
    by_half (counts_half first (unwrap_or (counted space database first) [])) space database words first low

of_counter : (space : List ℕ) (database : Database) (words : ℕ → ℕ) (key : List ℕ) (read : Option ℕ) → counter_in space key ≡ read
    → IsFitPlan space (plan_counter space database words key read)
of_counter space database words key None is = record {
  small = λ number ending. absurd cc;
  plain = λ stamp. refl;
  fit = fit_nothing space;
  spends = λ number ending. absurd cc;
}
of_counter space database words key (Some first) is = at_counter space database words first (counter_in_is space key first is).1

under_entries : (space : List ℕ) (database : Database) (words : ℕ → ℕ) (entries : Entries)
    → IsFitPlan space (plan_under space database words entries)
under_entries space database words [] = at_counter space database words 0 (omega arith)
under_entries space database words (entry ∷ entries) = of_counter space database words entry.0 (counter_in space entry.0) refl

fit_plan : (space : List ℕ) (database : Database) (words : ℕ → ℕ) → IsFitPlan space (plan space database words)
unfolding plan
fit_plan space database words = under_entries space database words (greatest_counter space database)

-- ---- what follows

-- a number that a call grants is less than 2^63
pub plan_small : (space : List ℕ) (database : Database) (words : ℕ → ℕ) (number : ℕ) → (plan space database words).ending ≡ Grants number
    → number < 2 ^ 63
plan_small space database words number ending = (fit_plan space database words).small number ending

-- no mutation of a call has a versionstamp
pub plan_plain : (stamp space : List ℕ) (database : Database) (words : ℕ → ℕ)
    → all_filled stamp (written_by (plan space database words).acts) ≡ written_by (plan space database words).acts
plan_plain stamp space database words = (fit_plan space database words).plain stamp

-- however a call ends, its mutations are fit
pub plan_fit : (space : List ℕ) (database : Database) (words : ℕ → ℕ) → AreFit space (written_by (plan space database words).acts)
plan_fit space database words = (fit_plan space database words).fit

-- they leave the number that the call grants spent
pub plan_spends : (space : List ℕ) (database : Database) (words : ℕ → ℕ) (number : ℕ) → (plan space database words).ending ≡ Grants number
    → AreSpending space number (written_by (plan space database words).acts)
plan_spends space database words number ending = (fit_plan space database words).spends number ending
