-- What a read of a store answers, over its parts.
use Rattle.std.proofs.Common.{◌≡◌, ℕ, List, Option, Some, None, sym, ap, ◌∙◌}
use Rattle.std.specs.BTreeMap.Range.{range_contains}
use Rattle.std.specs.declared.ops.Bound.TheVariants.{Included, Excluded, Unbounded}
use Rattle.std.specs.FinMap.{entries, get}
use Rattle.std.specs.List.{filter}
use Rattle.std.specs.List.Sorted.{IsStrictlySortedBy}
use Rattle.std.specs.Map.{keys_of}
use Rattle.std.specs.Option.{option_and_then}
use Rattle.key_bytes.specs.Keys.{key_cmp, key_le, key_lt, within}
use Rattle.key_map.proofs.Spans.{range_contains-from, range_contains-below, range_contains-within}
use Rattle.version_store.specs.Chains.{Slots, Places, chain_of, database_of}
use Rattle.version_store.specs.Versions.{holding, place_of}
use Rattle.version_store.proofs.Spans.{present_of, entries-database_of, get-database_of, filter-present_of}

module _ (version : ℕ) (slots : Slots) (places : Places) (rising : IsStrictlySortedBy key_cmp (keys_of places))
    (key : List ℕ) where
  -- the key has no chain
  pub get-without_place : None ≡ place_of places key → None ≡ get (database_of version slots places) key
  get-without_place none =
      ap (option_and_then (λ place. holding version (chain_of slots place))) none ∙ sym (get-database_of slots version places key rising)

  -- the key has a chain, which holds this
  pub get-with_place : (place : ℕ) (value : Option (List ℕ)) → Some place ≡ place_of places key
      → value ≡ holding version (chain_of slots place) → value ≡ get (database_of version slots places) key
  get-with_place place value has is =
      is ∙ ap (option_and_then (λ place. holding version (chain_of slots place))) has ∙ sym (get-database_of slots version places key rising)

  -- the keys from one on
  pub present_of-from : present_of version slots (filter (λ e. range_contains key_cmp (Included key) Unbounded e.0) places)
      ≡ filter (λ e. key_le key e.0) (entries (database_of version slots places))
  present_of-from =
      ap (present_of version slots) (λ i. filter (λ e. range_contains-from key e.0 i) places)
      ∙ sym (filter-present_of slots version (key_le key) places)
      ∙ ap (filter (λ e. key_le key e.0)) (sym (entries-database_of slots version places rising))

  -- the keys below one
  pub present_of-below : present_of version slots (filter (λ e. range_contains key_cmp Unbounded (Excluded key) e.0) places)
      ≡ filter (λ e. key_lt e.0 key) (entries (database_of version slots places))
  present_of-below =
      ap (present_of version slots) (λ i. filter (λ e. range_contains-below key e.0 i) places)
      ∙ sym (filter-present_of slots version (λ k. key_lt k key) places)
      ∙ ap (filter (λ e. key_lt e.0 key)) (sym (entries-database_of slots version places rising))

  -- the keys from one up to another
  pub present_of-within : (end : List ℕ)
      → present_of version slots (filter (λ e. range_contains key_cmp (Included key) (Excluded end) e.0) places)
      ≡ filter (λ e. within key end e.0) (entries (database_of version slots places))
  present_of-within end =
      ap (present_of version slots) (λ i. filter (λ e. range_contains-within key end e.0 i) places)
      ∙ sym (filter-present_of slots version (within key end) places)
      ∙ ap (filter (λ e. within key end e.0)) (sym (entries-database_of slots version places rising))
