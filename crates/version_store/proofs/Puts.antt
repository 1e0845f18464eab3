-- A key is given a value at its place: what becomes of the databases.
use Rattle.std.proofs.Common.{◌≡◌, ◌≢◌, ℕ, ◌+◌, ◌<◌, Bool, true, false, cond, List, ◌∷◌, Option, Some, None, refl, sym, ap, subst, ◌∙◌, arith, lt-ltb, le-ltb}
use Rattle.std.proofs.lemmas.Bool.{false≢true}
use Rattle.std.proofs.lemmas.Map.Lookups.{exact_bytes}
use Rattle.std.proofs.lemmas.Map.Views.{tells_apart}
use Rattle.std.proofs.lemmas.Cmp.{tied_itself}
use Rattle.std.specs.declared.cmp.Ordering.TheVariants.{Less, Equal}
use Rattle.std.specs.BTreeMap.{is_at}
use Rattle.std.specs.Cmp.{eq_by_cmp_equiv}
use Rattle.std.specs.Cmp.Lexicographic.{nat_list_cmp_total}
use Rattle.std.specs.FinMap.{get, get-insert, get-remove, same_map}
use Rattle.std.specs.List.{AllByRecursion, AllZip}
use Rattle.std.specs.Map.{keys_of}
use Rattle.std.specs.Option.{IfSome, option_and_then, option_map}
use Rattle.std.specs.Ordering.{is_lt}
use Rattle.model_database.specs.Databases.{Database}
use Rattle.key_bytes.specs.Keys.{key_cmp}
use Rattle.version_store.specs.Changed.{changed_by}
use Rattle.version_store.specs.Chains.{Slots, Places, chain_in, chain_of, chains_of, database_of, has_room_in, rooms_of, total, IsFalling, IsSoundPlace, AreReady, Puts, Sound}
use Rattle.version_store.specs.Versions.{Chain, holding, place_of, IsReadyAt}
use Rattle.version_store.proofs.Noted.{AllZip-others, AllZip-weaker}
use Rattle.version_store.proofs.Slots.{has_room_at-in, kept-others}
use Rattle.version_store.proofs.Spans.{get-database_of, rising-chains_of}
use Rattle.version_store.proofs.Totals.{lookup-chains_of, total-set}

module _ (places : Places) (slots slots' : Slots) (version place : ℕ) (key : List ℕ) (value : Option (List ℕ))
    (sound : Sound slots (version + 1) places) (has : place_of places key ≡ Some place) (falling : IsFalling version (chain_of slots place))
    (puts : Puts slots slots' place (version, value)) where
  -- the place of another key
  pub IsSoundPlace-other : (other : ℕ) → other ≢ place → IsSoundPlace slots (version + 1) other
      → IsSoundPlace slots' (version + 1) other × (chain_of slots' other ≡ chain_of slots other)
  IsSoundPlace-other other apart all =
      let kept = kept-others slots slots' other (puts.others other apart) all.0 in
      ((kept.0, subst (IsFalling (version + 1)) (sym kept.1) all.1), kept.1)

  IsSoundPlace-put : IsSoundPlace slots' (version + 1) place
  IsSoundPlace-put = (puts.there, subst (IsFalling (version + 1)) (sym puts.chain) (omega arith, falling))

  holding-put : (v : ℕ) → holding v (chain_of slots' place) ≡ holding v ((version, value) ∷ chain_of slots place)
  holding-put v = ap (holding v) puts.chain

  -- two keys are one, or their places differ
  pub apart_from : (q : List ℕ) → is_at (key_cmp key) q ≡ false → (other : ℕ) → place_of places q ≡ Some other → other ≢ place
  apart_from q past other is same =
      let one = sound.apart key q place has (is ∙ ap Some same) in
      false≢true (sym past ∙ ap (is_at (key_cmp key)) (sym one) ∙ (eq_by_cmp_equiv nat_list_cmp_total).refl key)

  -- what is so at the place of the key, and at those of others, is so at all
  by_place : (P : List ℕ → Bool → Option ℕ → Type 0) → P key true (Some place)
      → ((q : List ℕ) → P q false None)
      → ((q : List ℕ) (other : ℕ) → other ≢ place → IsSoundPlace slots (version + 1) other → P q false (Some other))
      → (q : List ℕ) → P q (is_at (key_cmp key) q) (place_of places q)
  by_place P here none others q = at_test (is_at (key_cmp key) q) refl (place_of places q) refl (sound.places_sound q)
    where
      at_test : (b : Bool) → is_at (key_cmp key) q ≡ b → (o : Option ℕ) → place_of places q ≡ o
          → IfSome o (IsSoundPlace slots (version + 1)) → P q b o
      at_test true same o is all =
          let one = tells_apart exact_bytes key q same in
          subst (λ o. P q true o) (sym has ∙ ap (place_of places) one ∙ is) (subst (λ k. P k true (Some place)) one here)
      at_test false past None is all = none q
      at_test false past (Some other) is all = others q other (apart_from q past other is) all

  pub Sound-given : Sound slots' (version + 1) places
  Sound-given = record {
    rising = sound.rising;
    places_sound =
        by_place (λ _ _ o. IfSome o (IsSoundPlace slots' (version + 1))) IsSoundPlace-put (λ _. tt)
        (λ _ other apart all. (IsSoundPlace-other other apart all).0);
    apart = sound.apart;
  }

  -- what a version of the database has at a key
  get-given : (v : ℕ) (q : List ℕ)
      → get (database_of v slots' places) q
      ≡ cond (is_at (key_cmp key) q) (holding v ((version, value) ∷ chain_of slots place)) (get (database_of v slots places) q)
  get-given v q =
      get-database_of slots' v places q sound.rising
      ∙ by_place
      (λ _ b o. option_and_then (λ p. holding v (chain_of slots' p)) o
      ≡ cond b (holding v ((version, value) ∷ chain_of slots place)) (option_and_then (λ p. holding v (chain_of slots p)) o))
      (holding-put v) (λ _. refl) (λ _ other apart all. ap (holding v) (IsSoundPlace-other other apart all).1) q
      ∙ ap (cond (is_at (key_cmp key) q) (holding v ((version, value) ∷ chain_of slots place)))
      (sym (get-database_of slots v places q sound.rising))

  -- each other chain weighs what it did
  total-put : (weight : Chain → ℕ) → total weight slots' places + weight (chain_of slots place)
      ≡ total weight slots places + weight ((version, value) ∷ chain_of slots place)
  total-put weight =
      total-set weight key (chains_of slots places) (chains_of slots' places) (chain_of slots place) ((version, value) ∷ chain_of slots place)
      (rising-chains_of slots places sound.rising) (rising-chains_of slots' places sound.rising)
      (lookup-chains_of slots places key ∙ ap (option_map (chain_of slots)) has)
      (λ q. lookup-chains_of slots' places q
      ∙ by_place
      (λ _ b o. option_map (chain_of slots') o ≡ cond b (Some ((version, value) ∷ chain_of slots place)) (option_map (chain_of slots) o))
      (ap Some puts.chain) (λ _. refl) (λ _ other apart all. ap Some (IsSoundPlace-other other apart all).1) q
      ∙ ap (cond (is_at (key_cmp key) q) (Some ((version, value) ∷ chain_of slots place))) (sym (lookup-chains_of slots places q)))

  -- one more value counts
  pub total-put_one : (weight : Chain → ℕ) → ((value : Option (List ℕ)) (chain : Chain) → weight ((version, value) ∷ chain) ≡ weight chain + 1)
      → total weight slots' places ≡ total weight slots places + 1
  total-put_one weight counts = omega (arith, total-put weight, counts value (chain_of slots place))

  -- at the version of the node the change is made
  pub database_of-given : database_of version slots' places ≡ changed_by (key, value) (database_of version slots places)
  unfolding holding
  database_of-given = same_map nat_list_cmp_total exact_bytes _ _ (λ q.
      get-given version q
      ∙ ap
      (λ b. cond (is_at (key_cmp key) q) (cond b (holding version (chain_of slots place)) value) (get (database_of version slots places) q))
      (le-ltb version version (omega arith))
      ∙ changed_at value q (database_of version slots places))
    where
      changed_at : (o : Option (List ℕ)) (q : List ℕ) (m : Database)
          → cond (is_at (key_cmp key) q) o (get m q) ≡ get (changed_by (key, o) m) q
      changed_at None q m =
          ap (λ b. cond b None (get m q)) ((eq_by_cmp_equiv nat_list_cmp_total).symm key q) ∙ sym (get-remove nat_list_cmp_total m key q)
      changed_at (Some v) q m =
          ap (λ b. cond b (Some v) (get m q)) ((eq_by_cmp_equiv nat_list_cmp_total).symm key q)
          ∙ sym (get-insert nat_list_cmp_total m key v q)

  -- versions before are as they were
  pub database_of-before_given : (v : ℕ) → v < version → database_of v slots' places ≡ database_of v slots places
  unfolding holding
  database_of-before_given v earlier = same_map nat_list_cmp_total exact_bytes _ _ (λ q.
      get-given v q
      ∙ ap (λ b. cond (is_at (key_cmp key) q) (cond b (holding v (chain_of slots place)) value) (get (database_of v slots places) q))
      (lt-ltb v version earlier)
      ∙ same_at q (is_at (key_cmp key) q) refl)
    where
      here : get (database_of v slots places) key ≡ holding v (chain_of slots place)
      here = get-database_of slots v places key sound.rising ∙ ap (option_and_then (λ p. holding v (chain_of slots p))) has

      same_at : (q : List ℕ) (b : Bool) → is_at (key_cmp key) q ≡ b
          → cond b (holding v (chain_of slots place)) (get (database_of v slots places) q) ≡ get (database_of v slots places) q
      same_at q true same = sym here ∙ ap (get (database_of v slots places)) (tells_apart exact_bytes key q same)
      same_at q false _ = refl

less≢equal : Less ≢ Equal
less≢equal same = false≢true (sym (ap is_lt same))

-- a change's key has a place, with room there for one more value, and all that it was given is earlier than a version
abbrev pub IsOpenAt : Slots → ℕ → Places → List ℕ × Option (List ℕ) → ℕ → Type 0
IsOpenAt slots version places change place = IsReadyAt places (rooms_of slots) change place × IsFalling version (chain_of slots place)

abbrev pub AreOpen : Slots → ℕ → Places → List (List ℕ × Option (List ℕ)) → List ℕ → Type 0
AreOpen slots version places = AllZip (IsOpenAt slots version places)

-- where the store is sound for the version, places with room are open
pub AreOpen-ready : (slots : Slots) (version : ℕ) (places : Places) (changes : List (List ℕ × Option (List ℕ))) (noted : List ℕ)
    → Sound slots version places → AreReady slots places changes noted → AreOpen slots version places changes noted
AreOpen-ready slots version places changes noted sound =
    AllZip-weaker (IsReadyAt places (rooms_of slots)) (IsOpenAt slots version places)
    (λ change place ready. (ready, (subst (λ o. IfSome o (IsSoundPlace slots version)) ready.0 (sound.places_sound change.0)).1)) changes noted

-- a put leaves the places of greater keys open
pub AreOpen-put : (places : Places) (slots slots' : Slots) (version place : ℕ) (key : List ℕ) (value : Option (List ℕ))
    → Sound slots (version + 1) places → place_of places key ≡ Some place → Puts slots slots' place (version, value)
    → (changes : List (List ℕ × Option (List ℕ))) (noted : List ℕ) → AllByRecursion (λ y. key_cmp key y ≡ Less) (keys_of changes)
    → AreOpen slots version places changes noted → AreOpen slots' version places changes noted
AreOpen-put places slots slots' version place key value sound has puts =
    AllZip-others (IsOpenAt slots version places) (IsOpenAt slots' version places) key stays
  where
    stays : (change : List ℕ × Option (List ℕ)) (other : ℕ) → key_cmp key change.0 ≡ Less → IsOpenAt slots version places change other
        → IsOpenAt slots' version places change other
    stays change other less ready =
        let apart : other ≢ place =
        λ same. less≢equal
        (sym less ∙ ap (key_cmp key) (sound.apart change.0 key place (ready.0.0 ∙ ap Some same) has) ∙ tied_itself nat_list_cmp_total key) in
        let same = puts.others other apart in (
          (ready.0.0, has_room_at-in slots' other ∙ ap has_room_in same ∙ sym (has_room_at-in slots other) ∙ ready.0.1),
          subst (IsFalling version) (sym (ap chain_in same)) ready.1,
        )
