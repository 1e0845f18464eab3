-- The numbers under each key of an index, where one key was given others.
use Rattle.std.proofs.Common.{◌≡◌, ℕ, ◌<◌, true, false, cond, List, [], Option, Some, None, refl, sym, ap, subst, ◌∙◌}
use Rattle.std.specs.Prelude.{bytes_eq, vec_len, vec_capacity}
use Rattle.std.specs.Cmp.Lexicographic.{nat_list_cmp_total, nat_list_eq_equiv, texts_ties, same_text}
use Rattle.std.specs.FinMap as finite
use Rattle.std.specs.Global.{Vec}
use Rattle.std.specs.Option.{option_map_or, unwrap_or, MatchOption}
use Rattle.key_bytes.specs.Keys.{key_cmp}
use Rattle.watch_core.specs.Watches.{Index, given, numbers_in, HasRoomAt}

abbrev pub items_in : Option (Vec ℕ) → List ℕ
items_in found = option_map_or (λ (numbers : Vec ℕ). numbers.items) found []

-- what an index has under a key, where one was inserted
pub get_given : (index : Index) (key : List ℕ) (numbers : Vec ℕ) (at : List ℕ)
    → finite.get (finite.insert index key numbers) at ≡ cond (bytes_eq at key) (Some numbers) (finite.get index at)
get_given index key numbers at =
    finite.get-insert nat_list_cmp_total index key numbers at
    ∙ ap (λ b. cond b (Some numbers) (finite.get index at)) (sym (texts_ties at key))

-- the numbers under each key, where those under one key were inserted
pub numbers_given : (index : Index) (key : List ℕ) (numbers : Vec ℕ)
    → numbers_in (finite.insert index key numbers) ≡ given (numbers_in index) key numbers.items
numbers_given index key numbers = λ i at. one at i
  where
    one : (at : List ℕ) → numbers_in (finite.insert index key numbers) at ≡ given (numbers_in index) key numbers.items at
    one at =
        ap items_in (get_given index key numbers at)
        ∙ elim (bytes_eq at key) as (λ b. items_in (cond b (Some numbers) (finite.get index at)) ≡ cond b numbers.items (numbers_in index at)) [
          | true ↦ refl
          | false ↦ refl
        ]

-- those that were there already change nothing
pub given_same : (numbers : List ℕ → List ℕ) (key others : List ℕ) → others ≡ numbers key → given numbers key others ≡ numbers
given_same numbers key others same = λ i at. one at i
  where
    one : (at : List ℕ) → given numbers key others at ≡ numbers at
    one at =
        elim (bytes_eq at key) as (λ b. bytes_eq at key ≡ b → cond b others (numbers at) ≡ numbers at) [
          | true ↦ λ e. same ∙ ap numbers (sym (same_text at key (sym e)))
          | false ↦ λ e. refl
        ] refl

-- a key that was given numbers has them
pub get_here : (index : Index) (key : List ℕ) (numbers : Vec ℕ) → finite.get (finite.insert index key numbers) key ≡ Some numbers
get_here index key numbers =
    get_given index key numbers key ∙ ap (λ b. cond b (Some numbers) (finite.get index key)) (nat_list_eq_equiv.refl key)

-- no number comes where a key without numbers was given none
pub numbers_missing : (index : Index) (key : List ℕ) (numbers : Vec ℕ) → numbers.items ≡ []
    → numbers_in (finite.insert index key (unwrap_or (finite.get index key) numbers)) ≡ numbers_in index
numbers_missing index key numbers none =
    numbers_given index key (unwrap_or (finite.get index key) numbers)
    ∙ given_same (numbers_in index) key (unwrap_or (finite.get index key) numbers).items (by_found (finite.get index key))
  where
    by_found : (found : Option (Vec ℕ)) → (unwrap_or found numbers).items ≡ items_in found
    by_found None = none
    by_found (Some had) = refl

-- a key that was given numbers with room has room
pub room_here : (index : Index) (key : List ℕ) (numbers : Vec ℕ) → vec_len numbers < vec_capacity numbers
    → HasRoomAt (finite.insert index key numbers) key
room_here index key numbers room =
    subst (λ found. MatchOption found ⊥ (λ (had : Vec ℕ). vec_len had < vec_capacity had)) (sym (get_here index key numbers)) room

-- the empty index has no numbers
pub numbers_empty : (index : Index) → index ≡ finite.empty → (key : List ℕ) → numbers_in index key ≡ []
numbers_empty index none key = ap (λ (m : Index). numbers_in m key) none ∙ ap items_in (finite.get-empty key_cmp key)
