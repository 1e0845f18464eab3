-- Elements that are packed one behind the other.
use Rattle.std.proofs.Common.{◌≡◌, ◌∙◌, ℕ, true, false, List, [], ◌∷◌, ◌++◌, Result, Ok, Err, refl, sym, ap, append_assoc}
use Rattle.std.proofs.lemmas.List.{append-nil}
use Rattle.fdb_tuple.specs.declared.tuple.Elem.{Elem}
use Rattle.fdb_tuple.specs.declared.tuple.Elem.TheVariants as elem
use Rattle.fdb_tuple.specs.Tuples.{Scalar, Null, Bytes, Text, Int, Boolean, Uuid, Stamp, Elements, Empty}
use Rattle.fdb_tuple.specs.Listed.{before, tuple_of}
use Rattle.fdb_tuple.specs.Spelling.{spelling, spelled_in, scalar_spelled}
use Rattle.std.specs.Prelude.{map, flat_map, OnOk}
use Rattle.key_bytes.specs.declared.pairs.Pair.{Pair}
use Rattle.key_bytes.specs.Entries.{entries_of}
use Rattle.fdb_wire.specs.Elements.{packed, count, path_elements, pair_elements}

behind_nothing : (front rest : List ℕ) → front ++ rest ≡ (front ++ []) ++ rest
behind_nothing front rest = ap (λ (t : List ℕ). t ++ rest) (sym (append-nil front))

one_behind : (element : Elem) (rest : Elements) → spelling (before element rest) ≡ spelling (before element Empty) ++ spelling rest
one_behind elem.Null rest = behind_nothing (scalar_spelled false Null) (spelling rest)
one_behind (elem.Bytes bytes) rest = behind_nothing (scalar_spelled false (Bytes bytes)) (spelling rest)
one_behind (elem.Text text) rest = behind_nothing (scalar_spelled false (Text text)) (spelling rest)
one_behind (elem.Nested tuple) rest = ap (λ (t : List ℕ). 5 ∷ t) (sym (append_assoc (spelled_in true tuple) (0 ∷ []) (spelling rest)))
one_behind (elem.Int number) rest = behind_nothing (scalar_spelled false (Int number)) (spelling rest)
one_behind (elem.Bool flag) rest = behind_nothing (scalar_spelled false (Boolean flag)) (spelling rest)
one_behind (elem.Uuid bytes) rest = behind_nothing (scalar_spelled false (Uuid bytes)) (spelling rest)
one_behind (elem.Stamp stamp) rest = behind_nothing (scalar_spelled false (Stamp stamp.stamp stamp.user)) (spelling rest)

pub packed_one : (element : Elem) (rest : List Elem) → packed (element ∷ rest) ≡ packed (element ∷ []) ++ packed rest
unfolding packed
packed_one element rest = one_behind element (tuple_of rest)

pub packed_two : (element other : Elem) (rest : List Elem) → packed (element ∷ other ∷ rest) ≡ packed (element ∷ []) ++ packed (other ∷ rest)
packed_two element other rest = packed_one element (other ∷ rest)

pub packed_append : (front rest : List Elem) → packed (front ++ rest) ≡ packed front ++ packed rest
unfolding packed
packed_append [] rest = refl
packed_append (element ∷ front) rest =
    packed_one element (front ++ rest) ∙ ap (λ (t : List ℕ). packed (element ∷ []) ++ t) (packed_append front rest)
    ∙ sym (append_assoc (packed (element ∷ [])) (packed front) (packed rest))
    ∙ ap (λ (t : List ℕ). t ++ packed rest) (sym (packed_one element front))

-- elements that are added behind others
pub added : (before middle after : List ℕ) (front rest : List Elem) → middle ≡ before ++ packed front → after ≡ middle ++ packed rest
    → after ≡ before ++ packed (front ++ rest)
added before middle after front rest first then =
    then ∙ ap (λ (t : List ℕ). t ++ packed rest) first ∙ append_assoc before (packed front) (packed rest)
    ∙ ap (λ (t : List ℕ). before ++ t) (sym (packed_append front rest))

-- ---- lists

packed_map : {A : Type 0} (of : A → Elem) (items : List A) → packed (map of items) ≡ flat_map (λ item. packed (of item ∷ [])) items
unfolding packed
packed_map of [] = refl
packed_map of (item ∷ items) = packed_one (of item) (map of items) ∙ ap (λ (t : List ℕ). packed (of item ∷ []) ++ t) (packed_map of items)

pub packed_names : (names : List (List ℕ)) → packed (path_elements names) ≡ flat_map (λ name. packed (elem.Text name ∷ [])) names
packed_names names = packed_map elem.Text names

pub packed_counts : (numbers : List ℕ) → packed (map count numbers) ≡ flat_map (λ number. packed (count number ∷ [])) numbers
packed_counts numbers = packed_map count numbers

pub packed_pairs : (pairs : List Pair)
    → packed (pair_elements (entries_of pairs)) ≡ flat_map (λ (pair : Pair). packed (elem.Bytes pair.key ∷ elem.Bytes pair.value ∷ [])) pairs
unfolding packed
packed_pairs [] = refl
packed_pairs (pair ∷ pairs) =
    packed_append (elem.Bytes pair.key ∷ elem.Bytes pair.value ∷ []) (pair_elements (entries_of pairs))
    ∙ ap (λ (t : List ℕ). packed (elem.Bytes pair.key ∷ elem.Bytes pair.value ∷ []) ++ t) (packed_pairs pairs)

-- the same where the last of them may not be added
pub behind : {E : Type 0} (r : Result (Unit {0}) E) (before middle after : List ℕ) (front rest : List Elem) → middle ≡ before ++ packed front
    → OnOk r (after ≡ middle ++ packed rest) → OnOk r (after ≡ before ++ packed (front ++ rest))
behind (Ok done) before middle after front rest first then = added before middle after front rest first then
behind (Err why) before middle after front rest first then = tt
