-- A step of a loop over places: what is present among those that are left.
use Rattle.std.proofs.Common.{◌≡◌, ℕ, Bool, true, false, cond, List, [], ◌∷◌, ◌++◌, Option, Some, None, refl, sym, ap, ◌∙◌}
use Rattle.std.proofs.lemmas.List.{map-append, append-nil}
use Rattle.std.proofs.lemmas.List.Elements.{filter_map-append}
use Rattle.std.proofs.lemmas.Map.Made.{lookup-map_values}
use Rattle.std.specs.List.{filter}
use Rattle.std.specs.List.Sorted.{IsStrictlySortedBy}
use Rattle.std.specs.Map.{keys_of}
use Rattle.std.specs.Option.{option_map, option_and_then}
use Rattle.std.specs.FinMap.{entries, get}
use Rattle.key_bytes.specs.Keys.{key_cmp}
use Rattle.key_map.specs.Ends.{last}
use Rattle.key_map.proofs.Spans.{last-append}
use Rattle.version_store.specs.Chains.{Slots, Places, chain_of, chains_of, database_of}
use Rattle.version_store.specs.Versions.{holding, place_of, present}
use Rattle.version_store.proofs.Present.{with_present, present-filter, entries-database_at, get-database_at}

-- what is present of the keys of these places
abbrev pub present_of : ℕ → Slots → Places → List (List ℕ × List ℕ)
present_of version slots places = present version (chains_of slots places)

module _ (version : ℕ) (slots : Slots) (left more : Places) (key : List ℕ) (place : ℕ) where
  -- the first holds something
  pub present_of-here : (value : List ℕ) → left ≡ (key, place) ∷ more → Some value ≡ holding version (chain_of slots place)
      → present_of version slots left ≡ (key, value) ∷ present_of version slots more
  unfolding present
  present_of-here value step here =
      ap (present_of version slots) step ∙ ap (λ o. with_present key o (present_of version slots more)) (sym here)

  -- the first holds nothing
  pub present_of-passed : left ≡ (key, place) ∷ more → None ≡ holding version (chain_of slots place)
      → present_of version slots left ≡ present_of version slots more
  unfolding present
  present_of-passed step gone = ap (present_of version slots) step ∙ ap (λ o. with_present key o (present_of version slots more)) (sym gone)

  present_of-append : left ≡ more ++ (key, place) ∷ []
      → present_of version slots left ≡ present_of version slots more ++ present_of version slots ((key, place) ∷ [])
  unfolding present
  present_of-append step =
      ap (present_of version slots) step
      ∙ ap (present version) (map-append _ more ((key, place) ∷ []))
      ∙ filter_map-append _ (chains_of slots more) (chains_of slots ((key, place) ∷ []))

  -- the last holds something
  pub last-present_of : (value : List ℕ) → left ≡ more ++ (key, place) ∷ [] → Some value ≡ holding version (chain_of slots place)
      → last (present_of version slots left) ≡ Some (key, value)
  unfolding present
  last-present_of value step here =
      ap last (present_of-append step ∙ ap (λ o. present_of version slots more ++ with_present key o []) (sym here))
      ∙ last-append (present_of version slots more) (key, value)

  -- the last holds nothing
  pub present_of-passed_last : left ≡ more ++ (key, place) ∷ [] → None ≡ holding version (chain_of slots place)
      → present_of version slots left ≡ present_of version slots more
  unfolding present
  present_of-passed_last step gone =
      present_of-append step ∙ ap (λ o. present_of version slots more ++ with_present key o []) (sym gone)
      ∙ append-nil (present_of version slots more)

module _ (slots : Slots) where
  keys_of-chains_of : (places : Places) → keys_of (chains_of slots places) ≡ keys_of places
  keys_of-chains_of [] = refl
  keys_of-chains_of (e ∷ es) = ap (λ ks. e.0 ∷ ks) (keys_of-chains_of es)

  pub rising-chains_of : (places : Places) → IsStrictlySortedBy key_cmp (keys_of places)
      → IsStrictlySortedBy key_cmp (keys_of (chains_of slots places))
  rising-chains_of places rising = rw keys_of-chains_of rising

  -- the entries of the database
  pub entries-database_of : (version : ℕ) (places : Places) → IsStrictlySortedBy key_cmp (keys_of places)
      → entries (database_of version slots places) ≡ present_of version slots places
  entries-database_of version places rising = entries-database_at version (chains_of slots places) (rising-chains_of places rising)

  pub and_then-chain_of : (version : ℕ) (o : Option ℕ)
      → option_and_then (holding version) (option_map (chain_of slots) o)
      ≡ option_and_then (λ place. holding version (chain_of slots place)) o
  and_then-chain_of version None = refl
  and_then-chain_of version (Some place) = refl

  -- what the database has at a key
  pub get-database_of : (version : ℕ) (places : Places) (key : List ℕ) → IsStrictlySortedBy key_cmp (keys_of places)
      → get (database_of version slots places) key ≡ option_and_then (λ place. holding version (chain_of slots place)) (place_of places key)
  get-database_of version places key rising =
      get-database_at version (chains_of slots places) key (rising-chains_of places rising)
      ∙ ap (option_and_then (holding version)) (lookup-map_values (chain_of slots) _ places)
      ∙ and_then-chain_of version (place_of places key)

  -- a test of the keys may come first
  pub filter-present_of : (version : ℕ) (p : List ℕ → Bool) (places : Places)
      → filter (λ e. p e.0) (present_of version slots places) ≡ present_of version slots (filter (λ e. p e.0) places)
  filter-present_of version p places = present-filter version p (chains_of slots places) ∙ ap (present version) (filter-chains_of places)
    where
      filter-chains_of : (places : Places)
          → filter (λ e. p e.0) (chains_of slots places) ≡ chains_of slots (filter (λ e. p e.0) places)
      filter-chains_of [] = refl
      filter-chains_of (e ∷ es) =
          elim (p e.0)
          as (λ b. cond b ((e.0, chain_of slots e.1) ∷ filter (λ e. p e.0) (chains_of slots es)) (filter (λ e. p e.0) (chains_of slots es))
          ≡ chains_of slots (cond b (e ∷ filter (λ e. p e.0) es) (filter (λ e. p e.0) es))) [
            | true ↦ ap (λ xs. (e.0, chain_of slots e.1) ∷ xs) (filter-chains_of es)
            | false ↦ filter-chains_of es
          ]
