-- Keys come in with chains that hold nothing: no database changes.
use Rattle.std.proofs.Common.{◌≡◌, ◌≢◌, ℕ, Bool, true, false, cond, List, [], Option, Some, None, is_some, slice_index_or, refl, sym, ap, subst, ◌∙◌, arith}
use Rattle.std.proofs.lemmas.Map.Lookups.{exact_bytes}
use Rattle.std.proofs.lemmas.Map.Views.{tells_apart}
use Rattle.std.proofs.lemmas.Option.{none-some}
use Rattle.std.specs.BTreeMap.{is_at}
use Rattle.std.specs.Cmp.{eq_by_cmp_equiv}
use Rattle.std.specs.Cmp.Lexicographic.{nat_list_cmp_total}
use Rattle.std.specs.FinMap.{same_map}
use Rattle.std.specs.List.{sum_by}
use Rattle.std.specs.List.Sorted.{IsStrictlySortedBy}
use Rattle.std.specs.Map.{keys_of, lookup, values_of}
use Rattle.std.specs.Option.{IfSome, option_and_then, option_map, unwrap_or}
use Rattle.key_bytes.specs.Keys.{key_cmp}
use Rattle.key_map.proofs.Finite.{is_key}
use Rattle.version_store.specs.declared.pruning.Due.{Due}
use Rattle.version_store.specs.declared.values.Values.{Values}
use Rattle.version_store.specs.declared.values.Values.TheVariants.{Nothing}
use Rattle.version_store.specs.Chains.{Slots, Places, chain_in, chain_of, chains_of, has_room_in, total, IsFalling, IsSoundPlace, IsThere, KeepsChains, KeepsPlaces, Sound}
use Rattle.version_store.specs.Dues.{AreNoted, IsNoted}
use Rattle.version_store.specs.Kept.{Adds}
use Rattle.version_store.specs.Versions.{Chain, holding, place_of}
use Rattle.version_store.proofs.Slots.{apart-vacant, has_room_at-in, kept-others, there-has_room_at, database_of-kept, IsSoundPlace-kept, KeepsChains-same, KeepsChains-then, Sound-kept}
use Rattle.version_store.proofs.Spans.{get-database_of, rising-chains_of}
use Rattle.version_store.proofs.Totals.{chains_of-same, lookup-chains_of, total-removed}

-- each key has the place that it had
pub Adds-same : (slots : Slots) (next : ℕ) (old new : Places) → Sound slots next old
    → IsStrictlySortedBy key_cmp (keys_of new) → ((q : List ℕ) → place_of new q ≡ place_of old q)
    → Adds slots slots next old new
Adds-same slots next old new sound rising same = record {
  sound = record {
    rising = rising;
    places_sound = λ q. subst (λ o. IfSome o (IsSoundPlace slots next)) (sym (same q)) (sound.places_sound q);
    apart = λ a b place one other. sound.apart a b place (sym (same a) ∙ one) (sym (same b) ∙ other);
  };
  reads =
      λ version. same_map nat_list_cmp_total exact_bytes _ _ (λ q.
      get-database_of slots version new q rising
      ∙ ap (option_and_then (λ p. holding version (chain_of slots p))) (same q)
      ∙ sym (get-database_of slots version old q sound.rising));
  keeps = λ key place is. same key ∙ is;
  chains = KeepsChains-same slots;
  totals = λ weight none. ap (λ chains. sum_by weight (values_of chains))
      (chains_of-same slots slots old new sound.rising rising (λ q. ap (option_map (chain_of slots)) (same q)));
  noted = λ dues noted key. subst (λ o. IfSome o (λ p. IsNoted dues p (chain_of slots p))) (sym (same key)) (noted key);
}

-- chains that stay, at places that stay
pub Adds-kept : (slots slots' : Slots) (next : ℕ) (places : Places) → Sound slots next places → KeepsChains slots slots'
    → Adds slots slots' next places places
Adds-kept slots slots' next places sound keeps = record {
  sound = Sound-kept slots slots' keeps.chains next places sound;
  reads = database_of-kept slots slots' keeps.chains next places sound;
  keeps = λ key place is. is;
  chains = keeps;
  totals = λ weight none. ap (λ chains. sum_by weight (values_of chains))
      (chains_of-same slots slots' places places sound.rising sound.rising (λ q. same_at (place_of places q) (sound.places_sound q)));
  noted = λ dues noted key. noted_at dues (place_of places key) (sound.places_sound key) (noted key);
}
  where
    same_at : (o : Option ℕ) → IfSome o (IsSoundPlace slots next) → option_map (chain_of slots') o ≡ option_map (chain_of slots) o
    same_at None all = refl
    same_at (Some place) all = ap Some (keeps.chains place all.0).1

    noted_at : (dues : List Due) (o : Option ℕ) → IfSome o (IsSoundPlace slots next) → IfSome o (λ p. IsNoted dues p (chain_of slots p))
        → IfSome o (λ p. IsNoted dues p (chain_of slots' p))
    noted_at dues None all noted = tt
    noted_at dues (Some place) all noted = subst (IsNoted dues place) (sym (keeps.chains place all.0).1) noted

pub Adds-none : (slots : Slots) (next : ℕ) (places : Places) → Sound slots next places → Adds slots slots next places places
Adds-none slots next places sound = Adds-kept slots slots next places sound (KeepsChains-same slots)

-- one after the other
pub Adds-then : (slots slots' slots'' : Slots) (next : ℕ) (old between new : Places) → Adds slots slots' next old between
    → Adds slots' slots'' next between new → Adds slots slots'' next old new
Adds-then slots slots' slots'' next old between new one other = record {
  sound = other.sound;
  reads = λ version. other.reads version ∙ one.reads version;
  keeps = λ key place is. other.keeps key place (one.keeps key place is);
  chains = KeepsChains-then slots slots' slots'' one.chains other.chains;
  totals = λ weight none. other.totals weight none ∙ one.totals weight none;
  noted = λ dues noted. other.noted dues (one.noted dues noted);
}

-- a key came in, and then chains stay
pub Adds-then_kept : (slots slots' slots'' : Slots) (next : ℕ) (old new : Places) → Adds slots slots' next old new → KeepsChains slots' slots''
    → Adds slots slots'' next old new
Adds-then_kept slots slots' slots'' next old new one keeps =
    Adds-then slots slots' slots'' next old new new one (Adds-kept slots' slots'' next new one.sound keeps)

-- a key that had no place gets a vacant one, with a chain that holds nothing
module _ (slots slots' : Slots) (next : ℕ) (old new : Places) (key : List ℕ) (place : ℕ) (sound : Sound slots next old)
    (vacant : slice_index_or slots place None ≡ None) (slot : slice_index_or slots' place None ≡ Some Nothing)
    (others : (at : ℕ) → at ≢ place → slice_index_or slots' at None ≡ slice_index_or slots at None)
    (was : place_of old key ≡ None)
    (updates : (q : List ℕ) → place_of new q ≡ cond (is_at (key_cmp key) q) (Some place) (place_of old q))
    (rising : IsStrictlySortedBy key_cmp (keys_of new)) where
  kept : (at : ℕ) → IsThere slots at → IsThere slots' at × (chain_of slots' at ≡ chain_of slots at)
  kept at there = kept-others slots slots' at (others at (apart-vacant slots at place there vacant)) there

  -- no key had the place
  free : (q : List ℕ) → place_of old q ≢ Some place
  free q is =
      apart-vacant slots place place (subst (λ o. IfSome o (IsSoundPlace slots next)) is (sound.places_sound q)).0 vacant refl

  IsSoundPlace-added : IsSoundPlace slots' next place
  IsSoundPlace-added = (ap (λ (o : Option Values). is_some o) slot, subst (IsFalling next) (sym (ap chain_in slot)) tt)

  -- it holds nothing
  holding-added : (version : ℕ) → holding version (chain_of slots' place) ≡ None
  unfolding holding
  holding-added version = ap (λ o. holding version (chain_in o)) slot

  -- what a key has now
  abbrev after : List ℕ → Bool → Option ℕ
  after q b = cond b (Some place) (place_of old q)

  apart_after : (a b : List ℕ) (p : ℕ) → place_of new a ≡ Some p → place_of new b ≡ Some p → a ≡ b
  apart_after a b p one other =
      at_tests (is_at (key_cmp key) a) (is_at (key_cmp key) b) refl refl (sym (updates a) ∙ one) (sym (updates b) ∙ other)
    where
      at_tests : (s t : Bool) → is_at (key_cmp key) a ≡ s → is_at (key_cmp key) b ≡ t → after a s ≡ Some p → after b t ≡ Some p → a ≡ b
      at_tests true true here there one other = sym (tells_apart exact_bytes key a here) ∙ tells_apart exact_bytes key b there
      at_tests true false here there one other = absurd (free b (other ∙ sym one))
      at_tests false true here there one other = absurd (free a (one ∙ sym other))
      at_tests false false here there one other = sound.apart a b p one other

  keeps_after : KeepsPlaces old new
  keeps_after q p is = updates q ∙ kept_at (is_at (key_cmp key) q) refl
    where
      kept_at : (b : Bool) → is_at (key_cmp key) q ≡ b → after q b ≡ Some p
      kept_at true same = absurd (none-some p (sym was ∙ ap (place_of old) (tells_apart exact_bytes key q same) ∙ is))
      kept_at false _ = is

  -- what the key has now
  has_added : lookup (is_key key) (chains_of slots' new) ≡ Some []
  has_added =
      lookup-chains_of slots' new key
      ∙ ap (option_map (chain_of slots'))
      (updates key ∙ ap (λ b. cond b (Some place) (place_of old key)) ((eq_by_cmp_equiv nat_list_cmp_total).refl key))
      ∙ ap (λ o. Some (chain_in o)) slot

  without_added : (q : List ℕ) → lookup (is_key q) (chains_of slots old) ≡ cond (is_key key q) None (lookup (is_key q) (chains_of slots' new))
  without_added q =
      lookup-chains_of slots old q
      ∙ at_test (is_at (key_cmp key) q) refl (place_of old q) refl (sound.places_sound q)
      ∙ ap (cond (is_key key q) None) (sym (lookup-chains_of slots' new q ∙ ap (option_map (chain_of slots')) (updates q)))
    where
      at_test : (b : Bool) → is_at (key_cmp key) q ≡ b → (o : Option ℕ) → place_of old q ≡ o → IfSome o (IsSoundPlace slots next)
          → option_map (chain_of slots) o ≡ cond b None (option_map (chain_of slots') (cond b (Some place) o))
      at_test true same None is all = refl
      at_test true same (Some other) is all = absurd (none-some other (sym was ∙ ap (place_of old) (tells_apart exact_bytes key q same) ∙ is))
      at_test false past None is all = refl
      at_test false past (Some other) is all = ap Some (sym (kept other all.0).1)

  total-added : (weight : Chain → ℕ) → weight [] ≡ 0 → total weight slots' new ≡ total weight slots old
  total-added weight none =
      let removed =
      total-removed weight key (chains_of slots' new) (chains_of slots old) [] (rising-chains_of slots' new rising)
      (rising-chains_of slots old sound.rising) has_added without_added in
      omega (arith, removed, none)

  noted_added : (dues : List Due) → AreNoted dues slots old → AreNoted dues slots' new
  noted_added dues noted q =
      subst (λ o. IfSome o (λ p. IsNoted dues p (chain_of slots' p))) (sym (updates q))
      (noted_at (is_at (key_cmp key) q) (place_of old q) (sound.places_sound q) (noted q))
    where
      noted_at : (b : Bool) (o : Option ℕ) → IfSome o (IsSoundPlace slots next) → IfSome o (λ p. IsNoted dues p (chain_of slots p))
          → IfSome (cond b (Some place) o) (λ p. IsNoted dues p (chain_of slots' p))
      noted_at true o all noted = subst (IsNoted dues place) (sym (ap chain_in slot)) tt
      noted_at false None all noted = tt
      noted_at false (Some other) all noted = subst (IsNoted dues other) (sym (kept other all.0).1) noted

  pub Adds-new : Adds slots slots' next old new
  Adds-new = record {
    sound = record {
      rising = rising;
      places_sound =
          λ q. subst (λ o. IfSome o (IsSoundPlace slots' next)) (sym (updates q))
          (sound_after (is_at (key_cmp key) q) (place_of old q) (sound.places_sound q));
      apart = apart_after;
    };
    reads =
        λ version. same_map nat_list_cmp_total exact_bytes _ _ (λ q.
        get-database_of slots' version new q rising
        ∙ ap (option_and_then (λ p. holding version (chain_of slots' p))) (updates q)
        ∙ same_held version q (is_at (key_cmp key) q) refl (place_of old q) refl (sound.places_sound q)
        ∙ sym (get-database_of slots version old q sound.rising));
    keeps = keeps_after;
    chains = record {
      chains = kept;
      rooms = λ at room.
          has_room_at-in slots' at
          ∙ ap has_room_in (others at (apart-vacant slots at place (there-has_room_at slots at room) vacant))
          ∙ sym (has_room_at-in slots at) ∙ room;
    };
    totals = total-added;
    noted = noted_added;
  }
    where
      sound_after : (b : Bool) (o : Option ℕ) → IfSome o (IsSoundPlace slots next) → IfSome (cond b (Some place) o) (IsSoundPlace slots' next)
      sound_after true o all = IsSoundPlace-added
      sound_after false None all = tt
      sound_after false (Some other) all = IsSoundPlace-kept slots slots' kept next other all

      same_held : (version : ℕ) (q : List ℕ) (b : Bool) → is_at (key_cmp key) q ≡ b → (o : Option ℕ) → place_of old q ≡ o
          → IfSome o (IsSoundPlace slots next)
          → option_and_then (λ p. holding version (chain_of slots' p)) (cond b (Some place) o)
          ≡ option_and_then (λ p. holding version (chain_of slots p)) o
      same_held version q true same None is all = holding-added version
      same_held version q true same (Some other) is all =
          absurd (none-some other (sym was ∙ ap (place_of old) (tells_apart exact_bytes key q same) ∙ is))
      same_held version q false past None is all = refl
      same_held version q false past (Some other) is all = ap (holding version) (kept other all.0).1

-- a key gets a vacant place where it has none
module _ (slots : Slots) (next : ℕ) (old new : Places) (key : List ℕ) (vacant : ℕ) (sound : Sound slots next old)
    (empty : slice_index_or slots vacant None ≡ None)
    (updates : (q : List ℕ)
    → place_of new q ≡ cond (is_at (key_cmp key) q) (Some (unwrap_or (place_of old key) vacant)) (place_of old q))
    (rising : IsStrictlySortedBy key_cmp (keys_of new)) where
  -- it had one
  pub Adds-found : unwrap_or (place_of old key) vacant ≢ vacant → Adds slots slots next old new
  Adds-found other =
      Adds-same slots next old new sound rising
      (λ q. updates q ∙ found_at q (is_at (key_cmp key) q) refl (place_of old key) refl other)
    where
      found_at : (q : List ℕ) (b : Bool) → is_at (key_cmp key) q ≡ b → (o : Option ℕ) → place_of old key ≡ o
          → unwrap_or o vacant ≢ vacant → cond b (Some (unwrap_or o vacant)) (place_of old q) ≡ place_of old q
      found_at q true same None is other = absurd (other refl)
      found_at q true same (Some p) is other = sym is ∙ ap (place_of old) (tells_apart exact_bytes key q same)
      found_at q false past o is other = refl

  -- it had none
  pub Adds-missing : (slots' : Slots) → unwrap_or (place_of old key) vacant ≡ vacant
      → slice_index_or slots' vacant None ≡ Some Nothing
      → ((at : ℕ) → at ≢ vacant → slice_index_or slots' at None ≡ slice_index_or slots at None)
      → Adds slots slots' next old new
  Adds-missing slots' same slot others =
      Adds-new slots slots' next old new key vacant sound empty slot others (was_none (place_of old key) refl same)
      (λ q. updates q ∙ ap (λ p. cond (is_at (key_cmp key) q) (Some p) (place_of old q)) same) rising
    where
      was_none : (o : Option ℕ) → place_of old key ≡ o → unwrap_or o vacant ≡ vacant → o ≡ None
      was_none None is same = refl
      was_none (Some p) is same =
          absurd
          (apart-vacant slots vacant vacant
          (subst (λ o. IfSome o (IsSoundPlace slots next)) (is ∙ ap Some same) (sound.places_sound key)).0 empty refl)
