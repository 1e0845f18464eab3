-- The weights of all chains together: what becomes of them where one chain changes.
use Rattle.std.proofs.Common.{◌≡◌, ℕ, ◌+◌, ◌≤◌, Bool, true, false, cond, List, [], ◌∷◌, length, Option, Some, None, is_some, refl, sym, ap, subst, ◌∙◌, arith}
use Rattle.std.proofs.lemmas.List.Recursion.{is_sum_by}
use Rattle.std.proofs.lemmas.Map.{keys-set_value, lookup-none, lookup-remove_entry, lookup-set_value}
use Rattle.std.proofs.lemmas.Map.Entries.{none_past_head, sum_by-remove_entry, sum_by-set_value}
use Rattle.std.proofs.lemmas.Map.Keys.{sorted_tail, IsDistinct-from_sorted}
use Rattle.std.proofs.lemmas.Map.Lookups.{exact_bytes}
use Rattle.std.proofs.lemmas.Map.Made.{lookup-map_values}
use Rattle.std.proofs.lemmas.Map.Views.{tells_apart}
use Rattle.std.specs.Cmp.{eq_by_cmp_equiv}
use Rattle.std.specs.Cmp.Lexicographic.{nat_list_cmp_total}
use Rattle.std.specs.FinMap.{entries, same_map}
use Rattle.std.specs.List.{AllByRecursion, sum_by}
use Rattle.std.specs.List.Sorted.{IsStrictlySortedBy}
use Rattle.std.specs.Map.{keys_of, lookup, remove_entry, set_value, values_of}
use Rattle.std.specs.Option.{IfSome, option_map, unwrap_or}
use Rattle.std.specs.Ordering.{eq_by_cmp}
use Rattle.key_bytes.specs.Keys.{key_cmp}
use Rattle.key_map.proofs.Finite.{is_key, map_of, entries-map_of, get-map_of}
use Rattle.version_store.specs.Chains.{Slots, Places, chain_of, chains_of, total}
use Rattle.version_store.specs.Versions.{Chain, place_of}
use Rattle.version_store.proofs.Spans.{rising-chains_of}

-- keys that rise, each with a chain
abbrev Chains : Type 0
Chains = List (List ℕ × Chain)

abbrev AreRising : Chains → Type 0
AreRising chains = IsStrictlySortedBy key_cmp (keys_of chains)

-- two lists are one where each key has the same chain in both
same_chains : (one other : Chains) → AreRising one → AreRising other → ((q : List ℕ) → lookup (is_key q) one ≡ lookup (is_key q) other) → one ≡ other
same_chains one other rising rising' same =
    sym (entries-map_of one rising)
    ∙ ap entries (same_map nat_list_cmp_total exact_bytes (map_of one) (map_of other) (λ q. get-map_of one q ∙ same q ∙ sym (get-map_of other q)))
    ∙ entries-map_of other rising'

-- what the chains have at a key
pub lookup-chains_of : (slots : Slots) (places : Places) (q : List ℕ)
    → lookup (is_key q) (chains_of slots places) ≡ option_map (chain_of slots) (place_of places q)
lookup-chains_of slots places q = lookup-map_values (chain_of slots) (is_key q) places

-- the chains stay where each key's does
pub chains_of-same : (slots slots' : Slots) (old new : Places) → IsStrictlySortedBy key_cmp (keys_of old) → IsStrictlySortedBy key_cmp (keys_of new)
    → ((q : List ℕ) → option_map (chain_of slots') (place_of new q) ≡ option_map (chain_of slots) (place_of old q))
    → chains_of slots' new ≡ chains_of slots old
chains_of-same slots slots' old new rising rising' same =
    same_chains (chains_of slots' new) (chains_of slots old) (rising-chains_of slots' new rising') (rising-chains_of slots old rising)
    (λ q. lookup-chains_of slots' new q ∙ same q ∙ sym (lookup-chains_of slots old q))

one_key : (key x y : List ℕ) → is_key key x ≡ true → is_key key y ≡ eq_by_cmp key_cmp x y
one_key key x y same = ap (λ k. is_key k y) (tells_apart exact_bytes key x same)

All-removed : (P : List ℕ → Type 0) (test : List ℕ → Bool) (es : Chains) → AllByRecursion P (keys_of es)
    → AllByRecursion P (keys_of (remove_entry test es))
All-removed P test [] all = tt
All-removed P test (e ∷ es) all =
    elim (test e.0)
    as (λ b. AllByRecursion P (keys_of (cond b es (e ∷ remove_entry test es)))) [
      | true ↦ all.1
      | false ↦ (all.0, All-removed P test es all.1)
    ]

rising-removed : (test : List ℕ → Bool) (es : Chains) → AreRising es → AreRising (remove_entry test es)
unfolding IsStrictlySortedBy
rising-removed test [] rising = tt
rising-removed test (e ∷ es) rising =
    elim (test e.0)
    as (λ b. AreRising (cond b es (e ∷ remove_entry test es))) [
      | true ↦ rising.1
      | false ↦ (All-removed _ test es rising.0, rising-removed test es rising.1)
    ]

abbrev added : (Chain → ℕ) → List Chain → ℕ
added weight [] = 0
added weight (chain ∷ chains) = weight chain + added weight chains

added-sum_by : (weight : Chain → ℕ) (chains : List Chain) → added weight chains ≡ sum_by weight chains
added-sum_by weight = is_sum_by (added weight) weight refl (λ _ _. refl)

module _ (weight : Chain → ℕ) where
  -- a chain goes
  pub total-removed : (key : List ℕ) (more less : Chains) (chain : Chain) → AreRising more → AreRising less
      → lookup (is_key key) more ≡ Some chain
      → ((q : List ℕ) → lookup (is_key q) less ≡ cond (is_key key q) None (lookup (is_key q) more))
      → sum_by weight (values_of less) + weight chain ≡ sum_by weight (values_of more)
  total-removed key more less chain rising rising' has without =
      let same : less ≡ remove_entry (is_key key) more =
      same_chains less (remove_entry (is_key key) more) rising' (rising-removed (is_key key) more rising)
      (λ q. without q
      ∙ sym
      (lookup-remove_entry (eq_by_cmp_equiv nat_list_cmp_total) (is_key key) (one_key key) q more
      (IsDistinct-from_sorted key_cmp (keys_of more) rising))) in
      ap (λ es. sum_by weight (values_of es) + weight chain) same
      ∙ ap (λ o. sum_by weight (values_of (remove_entry (is_key key) more)) + unwrap_or (option_map weight o) 0) (sym has)
      ∙ sum_by-remove_entry weight (is_key key) more

  -- a chain becomes another
  pub total-set : (key : List ℕ) (old new : Chains) (chain chain' : Chain) → AreRising old → AreRising new
      → lookup (is_key key) old ≡ Some chain
      → ((q : List ℕ) → lookup (is_key q) new ≡ cond (is_key key q) (Some chain') (lookup (is_key q) old))
      → sum_by weight (values_of new) + weight chain ≡ sum_by weight (values_of old) + weight chain'
  total-set key old new chain chain' rising rising' has with_it =
      let same : new ≡ set_value (is_key key) old chain' =
      same_chains new (set_value (is_key key) old chain') rising'
      (subst (IsStrictlySortedBy key_cmp) (sym (keys-set_value (is_key key) old chain')) rising)
      (λ q. with_it q
      ∙ sym
      (lookup-set_value (eq_by_cmp_equiv nat_list_cmp_total) (is_key key) (one_key key) q chain' old (subst (λ (o : Option Chain). is_some o ≡ true) (sym has) refl))) in
      ap (λ es. sum_by weight (values_of es) + weight chain) same ∙ sum_by-set_value weight (is_key key) old chain chain' has

  -- the first chain, and the others
  pub total-cons : (slots : Slots) (e : List ℕ × ℕ) (es : Places)
      → total weight slots (e ∷ es) ≡ weight (chain_of slots e.1) + total weight slots es
  total-cons slots e es =
      sym (added-sum_by weight (values_of (chains_of slots (e ∷ es))))
      ∙ ap (λ n. weight (chain_of slots e.1) + n) (added-sum_by weight (values_of (chains_of slots es)))

  -- no chain weighs more
  pub total-less : (slots slots' : Slots) → ((place : ℕ) → weight (chain_of slots' place) ≤ weight (chain_of slots place)) → (places : Places)
      → total weight slots' places ≤ total weight slots places
  total-less slots slots' less [] = omega arith
  total-less slots slots' less (e ∷ es) =
      omega (arith, total-cons slots e es, total-cons slots' e es, less e.1, total-less slots slots' less es)

  -- no chain weighs anything
  pub total-none : (slots : Slots) (places : Places) → AllByRecursion (λ e. weight (chain_of slots e.1) ≡ 0) places → total weight slots places ≡ 0
  total-none slots [] all = refl
  total-none slots (e ∷ es) all = omega (arith, total-cons slots e es, all.0, total-none slots es all.1)

  -- no chain weighs more than one
  pub total-ones : (slots : Slots) (places : Places) → AllByRecursion (λ e. weight (chain_of slots e.1) ≤ 1) places
      → total weight slots places ≤ length places
  total-ones slots [] all = omega arith
  total-ones slots (e ∷ es) all = omega (arith, total-cons slots e es, all.0, total-ones slots es all.1)

-- what is so of the place of each key is so of all entries
pub All-found : (P : List ℕ → ℕ → Type 0) (places : Places) → IsStrictlySortedBy key_cmp (keys_of places)
    → ((q : List ℕ) → IfSome (place_of places q) (P q)) → AllByRecursion (λ e. P e.0 e.1) places
All-found P [] rising all = tt
All-found P (e ∷ es) rising all = (
  subst (λ b. IfSome (cond b (Some e.1) (place_of es e.0)) (P e.0)) ((eq_by_cmp_equiv nat_list_cmp_total).refl e.0) (all e.0),
  All-found P es (sorted_tail key_cmp e.0 (keys_of es) rising) (λ q. rest q (is_key q e.0) refl (all q)),
)
  where
    rest : (q : List ℕ) (b : Bool) → is_key q e.0 ≡ b → IfSome (cond b (Some e.1) (place_of es q)) (P q) → IfSome (place_of es q) (P q)
    rest q true same here =
        subst (λ o. IfSome o (P q))
        (sym
        (lookup-none (is_key q) es
        (none_past_head (eq_by_cmp_equiv nat_list_cmp_total) q e es (IsDistinct-from_sorted key_cmp (keys_of (e ∷ es)) rising) same))) tt
    rest q false past here = here
