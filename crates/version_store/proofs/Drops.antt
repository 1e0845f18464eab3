-- What trims and dropped keys leave of the databases.
use Rattle.std.proofs.Common.{◌≡◌, ◌≢◌, ◌⊎◌, inl, inr, ℕ, ◌≤◌, Bool, true, false, cond, List, [], Option, Some, None, slice_index_or, refl, sym, ap, subst, ◌∙◌, arith}
use Rattle.std.proofs.lemmas.Bool.{cases_eq, false≢true}
use Rattle.std.proofs.lemmas.Map.Lookups.{exact_bytes}
use Rattle.std.proofs.lemmas.Map.Views.{tells_apart}
use Rattle.std.proofs.lemmas.Option.{none-some}
use Rattle.std.specs.BTreeMap.{is_at}
use Rattle.std.specs.Cmp.{eq_by_cmp_equiv}
use Rattle.std.specs.Cmp.Lexicographic.{nat_list_cmp_total}
use Rattle.std.specs.FinMap.{same_map}
use Rattle.std.specs.List.Sorted.{IsStrictlySortedBy}
use Rattle.std.specs.Map.{keys_of, lookup}
use Rattle.std.specs.Option.{IfSome, option_and_then, option_map}
use Rattle.key_bytes.specs.Keys.{key_cmp}
use Rattle.key_map.proofs.Finite.{is_key}
use Rattle.version_store.specs.declared.pruning.Due.{Due}
use Rattle.version_store.specs.Chains.{Slots, Places, chain_in, chain_of, chains_of, IsFalling, IsSoundPlace, IsThere, Sound}
use Rattle.version_store.specs.Dues.{AreNoted, IsNoted, Trims}
use Rattle.version_store.specs.Kept.{IsWeight, Keeps, KeepsFrom}
use Rattle.version_store.specs.Versions.{Chain, holding, place_of}
use Rattle.version_store.proofs.Slots.{kept-others, IsFalling-begins}
use Rattle.version_store.proofs.Spans.{get-database_of, rising-chains_of}
use Rattle.version_store.proofs.Totals.{lookup-chains_of, total-less, total-removed}

-- a chain that lost its end
module _ (oldest trimmed : ℕ) (slots slots' : Slots) (places : Places) (trims : Trims oldest trimmed slots slots') where
  IsSoundPlace-trimmed : (next place : ℕ) → IsSoundPlace slots next place → IsSoundPlace slots' next place
  IsSoundPlace-trimmed next place sound = by_place (cases_eq place trimmed)
    where
      by_place : (place ≡ trimmed) ⊎ (place ≢ trimmed) → IsSoundPlace slots' next place
      by_place (inl same) =
          let chain = subst (IsFalling next) (ap (chain_of slots) same ∙ trims.begins.1) sound.1 in
          subst (IsSoundPlace slots' next) (sym same)
          (trims.there (subst (IsThere slots) same sound.0), IsFalling-begins (chain_of slots' trimmed) trims.begins.0 next chain)
      by_place (inr apart) =
          let kept = kept-others slots slots' place (trims.others place apart) sound.0 in
          (kept.0, subst (IsFalling next) (sym kept.1) sound.1)

  held-trimmed : (version place : ℕ) → oldest ≤ version → holding version (chain_of slots' place) ≡ holding version (chain_of slots place)
  held-trimmed version place from = by_place (cases_eq place trimmed)
    where
      by_place : (place ≡ trimmed) ⊎ (place ≢ trimmed) → holding version (chain_of slots' place) ≡ holding version (chain_of slots place)
      by_place (inl same) =
          ap (λ p. holding version (chain_of slots' p)) same ∙ trims.held version from ∙ sym (ap (λ p. holding version (chain_of slots p)) same)
      by_place (inr apart) = ap (λ o. holding version (chain_in o)) (trims.others place apart)

  weight-trimmed : (weight : Chain → ℕ) → IsWeight weight → (place : ℕ) → weight (chain_of slots' place) ≤ weight (chain_of slots place)
  weight-trimmed weight less place = by_place (cases_eq place trimmed)
    where
      by_place : (place ≡ trimmed) ⊎ (place ≢ trimmed) → weight (chain_of slots' place) ≤ weight (chain_of slots place)
      by_place (inl same) =
          subst (λ p. weight (chain_of slots' p) ≤ weight (chain_of slots p)) (sym same)
          (subst (λ chain. weight (chain_of slots' trimmed) ≤ weight chain) (sym trims.begins.1)
          (less (chain_of slots' trimmed) trims.begins.0))
      by_place (inr apart) = let same = ap (λ o. weight (chain_in o)) (trims.others place apart) in omega (arith, same)

  pub KeepsFrom-trimmed : KeepsFrom oldest slots places slots' places
  KeepsFrom-trimmed next sound = record {
    sound = record {
      rising = sound.rising;
      places_sound = λ q. still (place_of places q) (sound.places_sound q);
      apart = sound.apart;
    };
    reads =
        λ version from. same_map nat_list_cmp_total exact_bytes _ _ (λ q.
        get-database_of slots' version places q sound.rising
        ∙ held version from (place_of places q)
        ∙ sym (get-database_of slots version places q sound.rising));
    totals = λ weight less. total-less weight slots slots' (weight-trimmed weight less) places;
  }
    where
      still : (o : Option ℕ) → IfSome o (IsSoundPlace slots next) → IfSome o (IsSoundPlace slots' next)
      still None all = tt
      still (Some place) all = IsSoundPlace-trimmed next place all

      held : (version : ℕ) → oldest ≤ version → (o : Option ℕ)
          → option_and_then (λ place. holding version (chain_of slots' place)) o
          ≡ option_and_then (λ place. holding version (chain_of slots place)) o
      held version from None = refl
      held version from (Some place) = held-trimmed version place from

-- nothing goes
pub KeepsFrom-same : (oldest : ℕ) (slots : Slots) (places : Places) → KeepsFrom oldest slots places slots places
KeepsFrom-same oldest slots places next sound =
    record { sound = sound; reads = λ version from. refl; totals = λ weight less. omega arith }

-- one after the other
pub KeepsFrom-then : (oldest first second : ℕ) → first ≤ oldest → second ≤ oldest → (slots slots' slots'' : Slots) (places places' places'' : Places)
    → KeepsFrom first slots places slots' places' → KeepsFrom second slots' places' slots'' places''
    → KeepsFrom oldest slots places slots'' places''
KeepsFrom-then oldest first second low lower slots slots' slots'' places places' places'' one other next sound =
    let half = one next sound in let whole = other next half.sound in record {
      sound = whole.sound;
      reads = λ version from. whole.reads version (omega (arith, lower, from)) ∙ half.reads version (omega (arith, low, from));
      totals = λ weight less. omega (arith, whole.totals weight less, half.totals weight less);
    }

-- a key whose chain holds nothing goes
module _ (slots slots' : Slots) (places places' : Places) (key : List ℕ) (place : ℕ) (has : place_of places key ≡ Some place)
    (gone : chain_of slots place ≡ [])
    (updates : (q : List ℕ) → place_of places' q ≡ cond (is_at (key_cmp key) q) None (place_of places q))
    (rising : IsStrictlySortedBy key_cmp (keys_of places'))
    (others : (at : ℕ) → at ≢ place → slice_index_or slots' at None ≡ slice_index_or slots at None) (next : ℕ) (sound : Sound slots next places) where
  -- another key has another place
  other_place : (q : List ℕ) → is_at (key_cmp key) q ≡ false → (p : ℕ) → place_of places q ≡ Some p → p ≢ place
  other_place q past p is same =
      let one = sound.apart key q place has (is ∙ ap Some same) in
      false≢true (sym past ∙ ap (is_at (key_cmp key)) (sym one) ∙ (eq_by_cmp_equiv nat_list_cmp_total).refl key)

  has_dropped : lookup (is_key key) (chains_of slots places) ≡ Some []
  has_dropped = lookup-chains_of slots places key ∙ ap (option_map (chain_of slots)) has ∙ ap Some gone

  without_dropped : (q : List ℕ)
      → lookup (is_key q) (chains_of slots' places') ≡ cond (is_key key q) None (lookup (is_key q) (chains_of slots places))
  without_dropped q =
      lookup-chains_of slots' places' q
      ∙ ap (option_map (chain_of slots')) (updates q)
      ∙ at_test (is_at (key_cmp key) q) refl (place_of places q) refl
      ∙ ap (cond (is_key key q) None) (sym (lookup-chains_of slots places q))
    where
      at_test : (b : Bool) → is_at (key_cmp key) q ≡ b → (o : Option ℕ) → place_of places q ≡ o
          → option_map (chain_of slots') (cond b None o) ≡ cond b None (option_map (chain_of slots) o)
      at_test true same o is = refl
      at_test false past None is = refl
      at_test false past (Some p) is = ap (λ slot. Some (chain_in slot)) (others p (other_place q past p is))

  pub Keeps-dropped : Keeps 0 next slots places slots' places'
  unfolding holding
  Keeps-dropped = record {
    sound = record {
      rising = rising;
      places_sound =
          λ q. subst (λ o. IfSome o (IsSoundPlace slots' next)) (sym (updates q))
          (still q (is_at (key_cmp key) q) refl (place_of places q) refl (sound.places_sound q));
      apart = λ a b p one other.
          sound.apart a b p (was a (is_at (key_cmp key) a) p (sym (updates a) ∙ one)) (was b (is_at (key_cmp key) b) p (sym (updates b) ∙ other));
    };
    reads =
        λ version from. same_map nat_list_cmp_total exact_bytes _ _ (λ q.
        get-database_of slots' version places' q rising
        ∙ ap (option_and_then (λ p. holding version (chain_of slots' p))) (updates q)
        ∙ held version q (is_at (key_cmp key) q) refl (place_of places q) refl
        ∙ sym (get-database_of slots version places q sound.rising));
    totals = λ weight less.
        let removed =
        total-removed weight key (chains_of slots places) (chains_of slots' places') [] (rising-chains_of slots places sound.rising)
        (rising-chains_of slots' places' rising) has_dropped without_dropped in
        omega (arith, removed);
  }
    where
      still : (q : List ℕ) (b : Bool) → is_at (key_cmp key) q ≡ b → (o : Option ℕ) → place_of places q ≡ o
          → IfSome o (IsSoundPlace slots next) → IfSome (cond b None o) (IsSoundPlace slots' next)
      still q true same o is all = tt
      still q false past None is all = tt
      still q false past (Some p) is all =
          let kept = kept-others slots slots' p (others p (other_place q past p is)) all.0 in
          (kept.0, subst (IsFalling next) (sym kept.1) all.1)

      was : (q : List ℕ) (b : Bool) (p : ℕ) → cond b None (place_of places q) ≡ Some p → place_of places q ≡ Some p
      was q true p is = absurd (none-some p is)
      was q false p is = is

      held : (version : ℕ) (q : List ℕ) (b : Bool) → is_at (key_cmp key) q ≡ b → (o : Option ℕ) → place_of places q ≡ o
          → option_and_then (λ p. holding version (chain_of slots' p)) (cond b None o) ≡ option_and_then (λ p. holding version (chain_of slots p)) o
      held version q true same o is =
          sym (ap (option_and_then (λ p. holding version (chain_of slots p)))
          (sym is ∙ ap (place_of places) (sym (tells_apart exact_bytes key q same)) ∙ has)
          ∙ ap (holding version) gone)
      held version q false past None is = refl
      held version q false past (Some p) is = ap (λ o. holding version (chain_in o)) (others p (other_place q past p is))

  -- what was noted of the other keys is
  pub AreNoted-dropped : (dues : List Due) → AreNoted dues slots places → AreNoted dues slots' places'
  AreNoted-dropped dues noted q =
      subst (λ o. IfSome o (λ p. IsNoted dues p (chain_of slots' p))) (sym (updates q))
      (at_test (is_at (key_cmp key) q) refl (place_of places q) refl (noted q))
    where
      at_test : (b : Bool) → is_at (key_cmp key) q ≡ b → (o : Option ℕ) → place_of places q ≡ o
          → IfSome o (λ p. IsNoted dues p (chain_of slots p)) → IfSome (cond b None o) (λ p. IsNoted dues p (chain_of slots' p))
      at_test true same o is all = tt
      at_test false past None is all = tt
      at_test false past (Some p) is all = subst (IsNoted dues p) (sym (ap chain_in (others p (other_place q past p is)))) all
