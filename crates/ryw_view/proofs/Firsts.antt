-- What a walk meets first: by the lists of entries, and key by key.
use Rattle.std.proofs.Common.{◌≡◌, ℕ, Bool, true, false, cond, ◌⊎◌, inl, inr, List, [], ◌∷◌, Option, Some, None, refl, sym, ap, subst, ◌∙◌, true≢false}
use Rattle.std.proofs.lemmas.Cmp.{tied_itself}
use Rattle.std.proofs.lemmas.Map.Lookups.{exact_bytes}
use Rattle.std.proofs.lemmas.Option.{none-some, same_Some}
use Rattle.std.specs.declared.cmp.Ordering.TheVariants.{Less, Equal, Greater}
use Rattle.std.specs.Cmp.Lexicographic.{nat_list_cmp_total}
use Rattle.std.specs.FinMap as finite
use Rattle.std.specs.FinMap.Entries.{find}
use Rattle.std.specs.List.{filter}
use Rattle.std.specs.Ordering.{is_eq, is_lt, ordering_reverse}
use Rattle.key_bytes.specs.Keys.{key_cmp, key_lt}
use Rattle.key_bytes.proofs.Orders.{above_not_below, irreflexive, less}
use Rattle.key_map.specs.Ends.{first, last}
use Rattle.model_database.specs.Databases.{Database}
use Rattle.model_database.specs.Slices.{Entries, turned}
use Rattle.range_read.specs.Walks.{is_onward, onward}
use Rattle.range_read.proofs.Lists.{filter-reverse, first-reverse}
use Rattle.range_read.proofs.Rising.{Rises, first_passes}
use Rattle.range_read.proofs.Walks.{Entry, turned_rises, meets_first as entry_first}
use Rattle.ryw_view.specs.Walks.{meets_first, MeetsFirst, IsFirstMet}
use Rattle.ryw_view.proofs.Lists.{Has, has_reverse, has_reversed, has_first, none_passes, before_each, first_before}

-- ---- the entries of a database

-- what is found under a key is an entry
has_found : (q value : List ℕ) (es : Entries) → find key_cmp q es ≡ Some value → Has (q, value) es
has_found q value [] is = absurd (none-some value is)
has_found q value (e ∷ es) is =
    elim (key_cmp q e.0)
    as (λ o. key_cmp q e.0 ≡ o → cond (is_eq o) (Some e.1) (find key_cmp q es) ≡ Some value → Has (q, value) (e ∷ es)) [
      | Less ↦ λ _ is. inr (has_found q value es is)
      | Equal ↦ λ tied is. inl (λ i. (sym (exact_bytes q e.0 tied) i, same_Some e.1 value is i))
      | Greater ↦ λ _ is. inr (has_found q value es is)
    ] refl is

-- an entry is found under its key, where the keys rise
pub found : (e : Entry) (es : Entries) → Rises (entry_first false) es → Has e es → find key_cmp e.0 es ≡ Some e.1
found e [] rises h = absurd h
found e (f ∷ es) rises (inl here) =
    subst (λ e. find key_cmp e.0 (f ∷ es) ≡ Some e.1) here
    (ap (λ o. cond (is_eq o) (Some f.1) (find key_cmp f.0 es)) (tied_itself nat_list_cmp_total f.0))
found e (f ∷ es) rises (inr there) =
    let above : key_lt f.0 e.0 ≡ true = before_each (λ _. true) (entry_first false) f es rises.0 e there in
    ap (λ o. cond (is_eq o) (Some f.1) (find key_cmp e.0 es))
    (nat_list_cmp_total.antisymm e.0 f.0 ∙ ap ordering_reverse (less (key_cmp f.0 e.0) above))
    ∙ found e es rises.1 there

has_turned : (backward : Bool) (e : Entry) (es : Entries) → Has e es → Has e (turned backward es)
has_turned true e es h = has_reverse e es h
has_turned false e es h = h

turned_has : (backward : Bool) (e : Entry) (es : Entries) → Has e (turned backward es) → Has e es
turned_has true e es h = has_reversed e es h
turned_has false e es h = h

-- ---- two keys on a walk

entries_first : (backward : Bool) (a b : Entry) → entry_first backward a b ≡ meets_first backward a.0 b.0
entries_first true a b = refl
entries_first false a b = refl

pub not_first_itself : (backward : Bool) (a : List ℕ) → meets_first backward a a ≡ true → ⊥
not_first_itself true a is = true≢false (sym is ∙ irreflexive a)
not_first_itself false a is = true≢false (sym is ∙ irreflexive a)

not_first_both : (backward : Bool) (a b : List ℕ) → meets_first backward a b ≡ true → meets_first backward b a ≡ true → ⊥
not_first_both true a b is back = true≢false (sym is ∙ above_not_below a b back)
not_first_both false a b is back = true≢false (sym back ∙ above_not_below a b is)

-- of two keys a walk meets one first, or they are the same
pub which_first : (backward : Bool) (a b : List ℕ) → (a ≡ b) ⊎ ((meets_first backward a b ≡ true) ⊎ (meets_first backward b a ≡ true))
which_first backward a b =
    elim (key_cmp a b) as (λ o. key_cmp a b ≡ o → (a ≡ b) ⊎ ((meets_first backward a b ≡ true) ⊎ (meets_first backward b a ≡ true))) [
      | Less ↦ λ is. inr (below backward (ap is_lt is))
      | Equal ↦ λ is. inl (exact_bytes a b is)
      | Greater ↦ λ is. inr (above backward (ap is_lt (nat_list_cmp_total.antisymm b a ∙ ap ordering_reverse is)))
    ] refl
  where
    below : (backward : Bool) → key_lt a b ≡ true → (meets_first backward a b ≡ true) ⊎ (meets_first backward b a ≡ true)
    below true is = inr is
    below false is = inl is

    above : (backward : Bool) → key_lt b a ≡ true → (meets_first backward a b ≡ true) ⊎ (meets_first backward b a ≡ true)
    above true is = inl is
    above false is = inr is

-- ---- the first on a walk

module _ (database : Database) (from : List ℕ) (backward : Bool) where
  on_way : Entry → Bool
  on_way e = is_onward from backward e.0

  pub has_got : (q value : List ℕ) → finite.get database q ≡ Some value → Has (q, value) (turned backward (finite.entries database))
  has_got q value is =
      has_turned backward (q, value) (finite.entries database)
      (has_found q value (finite.entries database) (sym (finite.get-entries database q) ∙ is))

  pub first_met : (pair : Option Entry) → first (onward database from backward) ≡ pair → IsFirstMet database from backward None pair
  unfolding on_way
  first_met None is = λ q is_on inside.
      elim (finite.get database q) as (λ got. finite.get database q ≡ got → got ≡ None) [
        | None ↦ λ _. refl
        | Some value ↦ λ is_there. absurd
            (true≢false
            (sym is_on ∙ none_passes on_way (turned backward (finite.entries database)) (q, value) is (has_got q value is_there)))
      ] refl
  first_met (Some e) is = (met, refl)
    where
      met : MeetsFirst database from backward e
      met = record {
        onward = first_passes on_way (turned backward (finite.entries database)) e is;
        there = finite.get-entries database e.0
            ∙ found e (finite.entries database) (turned_rises database false)
            (turned_has backward e (finite.entries database) (has_first on_way (turned backward (finite.entries database)) e is));
        gap = λ q is_on before. elim (finite.get database q) as (λ got. finite.get database q ≡ got → got ≡ None) [
          | None ↦ λ _. refl
          | Some value ↦ λ is_there. absurd
              (elim
              (first_before on_way (entry_first backward) (turned backward (finite.entries database)) (turned_rises database backward) e is (q, value)
              (has_got q value is_there) is_on) [
                | inl same ↦ not_first_itself backward q (subst (λ k. meets_first backward q k ≡ true) (ap (λ e. e.0) same) before)
                | inr later ↦ not_first_both backward q e.0 before (sym (entries_first backward e (q, value)) ∙ later)
              ])
        ] refl;
      }

  -- there is but one first
  only_first : (pair other : Option Entry) → IsFirstMet database from backward None pair → IsFirstMet database from backward None other
      → pair ≡ other
  only_first None None none also = refl
  only_first None (Some e) none met = absurd (none-some e.1 (sym (none e.0 met.0.onward refl) ∙ met.0.there))
  only_first (Some e) None met none = absurd (none-some e.1 (sym (none e.0 met.0.onward refl) ∙ met.0.there))
  only_first (Some e) (Some f) met also =
      elim (which_first backward e.0 f.0) [
        | inl same ↦ (λ i. Some (same i, same_Some e.1 f.1 (sym met.0.there ∙ ap (finite.get database) same ∙ also.0.there) i))
        | inr (inl before) ↦ absurd (none-some e.1 (sym (also.0.gap e.0 met.0.onward before) ∙ met.0.there))
        | inr (inr before) ↦ absurd (none-some f.1 (sym (met.0.gap f.0 also.0.onward before) ∙ also.0.there))
      ]

  pub met_first : (pair : Option Entry) → IsFirstMet database from backward None pair → pair ≡ first (onward database from backward)
  met_first pair met = only_first pair (first (onward database from backward)) met (first_met (first (onward database from backward)) refl)

-- ---- the first going down is the last below the key

module _ (database : Database) (from : List ℕ) where
  last_is : first (onward database from true) ≡ last (filter (λ e. key_lt e.0 from) (finite.entries database))
  last_is =
      ap first (filter-reverse (λ e. key_lt e.0 from) (finite.entries database))
      ∙ first-reverse (filter (λ e. key_lt e.0 from) (finite.entries database))

  pub last_met : (pair : Option Entry) → pair ≡ last (filter (λ e. key_lt e.0 from) (finite.entries database))
      → IsFirstMet database from true None pair
  last_met pair is = first_met database from true pair (last_is ∙ sym is)

  pub met_last : (pair : Option Entry) → IsFirstMet database from true None pair
      → pair ≡ last (filter (λ e. key_lt e.0 from) (finite.entries database))
  met_last pair met = met_first database from true pair met ∙ last_is
