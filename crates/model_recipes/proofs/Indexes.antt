-- The keys of indexes: their order is that of the indexes, and they lie in the subspace.
use Rattle.std.proofs.Common.{◌≡◌, ℕ, ◌+◌, ◌^◌, ◌<◌, ◌≤◌, true, false, not, ◌&&◌, List, [], ◌∷◌, ◌++◌, length, drop, reverse, cond, Option, Some, None, pos, refl, sym, ap, ◌∙◌, arith}
use Rattle.std.specs.Prelude.{bytes_eq, nat_le}
use Rattle.std.specs.Ordering.{is_lt, nat_cmp}
use Rattle.std.specs.declared.cmp.Ordering.TheVariants.{Less, Greater}
use Rattle.std.specs.Cmp.Lexicographic.{same_text}
use Rattle.std.proofs.lemmas.Bool.{and_parts, and_from, le-leb, leb-true}
use Rattle.std.proofs.lemmas.Option.{cond_some}
use Rattle.key_bytes.specs.Keys.{key_cmp, key_lt}
use Rattle.key_bytes.proofs.Orders.{key_cmp-same_front, key_cmp-first_less, key_cmp-first_greater, nat_cmp-less}
use Rattle.fdb_tuple.specs.Spelling.{least_bytes, int_spelled}
use Rattle.model_allocator.proofs.Codes.{number_spelled}
use Rattle.model_allocator.proofs.Keys.{packed_cmp}
use Rattle.fdb_tuple.proofs.Digits.{length-low_first_le, number_low-low_first}
use Rattle.model_allocator.proofs.Viewing.{itself}
use Rattle.key_bytes.specs.Numbers.{number_low}
use Rattle.std.proofs.Math.Seq.{drop-append-add}
use Rattle.fdb_tuple.specs.Spelling.{low_first}
use Rattle.std.proofs.lemmas.List.{append-nil, length-reverse, reverse-reverse}
use Rattle.model_recipes.specs.declared.TheConstants.{GREATEST_INDEX}
use Rattle.model_recipes.specs.Turns.{is_inside, space_begin, space_end}
use Rattle.model_recipes.specs.Queues.{index_key, index_in}

pub index_cmp : (space : List ℕ) (one other : ℕ) → one < 2 ^ 63 → other < 2 ^ 63
    → key_cmp (index_key space one) (index_key space other) ≡ nat_cmp one other
index_cmp space one other small other_small = key_cmp-same_front space _ _ ∙ packed_cmp one other small other_small

-- the key of a greater index is greater
pub index_lt : (space : List ℕ) (one other : ℕ) → one < other → other < 2 ^ 63
    → key_lt (index_key space one) (index_key space other) ≡ true
index_lt space one other below small =
    ap is_lt (index_cmp space one other (omega arith) small ∙ nat_cmp-less one other below)

few_bytes : (number : ℕ) → number < 2 ^ 63 → length (least_bytes number) ≤ 8
unfolding least_bytes
few_bytes number small = omega (arith, length-reverse (low_first 16 number), length-low_first_le 16 8 number (omega arith))

-- the key of an index lies in the subspace
pub index_inside : (space : List ℕ) (index : ℕ) → index < 2 ^ 63 → is_inside space (index_key space index) ≡ true
index_inside space index small = and_from _ _ (ap not (ap is_lt from)) (ap is_lt to)
  where
    from : key_cmp (index_key space index) (space_begin space) ≡ Greater
    from =
        key_cmp-same_front space (int_spelled (pos index) ++ []) (0 ∷ [])
        ∙ rw (number_spelled index small) (key_cmp-first_greater (0x14 + length (least_bytes index)) 0 _ [] (omega arith))

    to : key_cmp (index_key space index) (space_end space) ≡ Less
    to =
        key_cmp-same_front space (int_spelled (pos index) ++ []) (255 ∷ [])
        ∙ rw (number_spelled index small)
        (key_cmp-first_less (0x14 + length (least_bytes index)) 255 _ [] (omega (arith, few_bytes index small)))

-- a key that is read as an index's is the key of that index, which is not above the greatest
pub index_in_is : (space key : List ℕ) (index : ℕ) → index_in space key ≡ Some index
    → (key ≡ index_key space index) × (index ≤ GREATEST_INDEX)
unfolding index_in
index_in_is space key index is =
    let read = number_low (reverse (drop (length space + 1) key)) in
    let both = cond_some (bytes_eq key (index_key space read) && nat_le read GREATEST_INDEX) read index is in
    let parts = and_parts (bytes_eq key (index_key space read)) (nat_le read GREATEST_INDEX) both.0 in (
      same_text key (index_key space read) (sym parts.0) ∙ ap (index_key space) both.1,
      omega (arith, leb-true read GREATEST_INDEX parts.1, both.1),
    )

-- the bytes behind the code give the index
read_again : (space : List ℕ) (index : ℕ) → index < 2 ^ 63
    → number_low (reverse (drop (length space + 1) (index_key space index))) ≡ index
unfolding least_bytes
read_again space index small =
    ap (λ bytes. number_low (reverse (drop (length space + 1) (space ++ bytes)))) (append-nil (int_spelled (pos index)) ∙ number_spelled index small)
    ∙ ap (λ bytes. number_low (reverse bytes)) (drop-append-add space _ 1)
    ∙ ap number_low (reverse-reverse (low_first 16 index))
    ∙ number_low-low_first 16 index (omega arith)

-- and the key of each such index is read as it
pub index_in_again : (space : List ℕ) (index : ℕ) → index ≤ GREATEST_INDEX → index_in space (index_key space index) ≡ Some index
unfolding index_in
index_in_again space index small =
    let key = index_key space index in
    ap (λ read. cond (bytes_eq key (index_key space read) && nat_le read GREATEST_INDEX) (Some read) None) (read_again space index (omega arith))
    ∙ ap (λ b. cond b (Some index) None) (and_from _ _ (itself key) (le-leb index GREATEST_INDEX small))
