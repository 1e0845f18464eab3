-- The bytes of a tuple's elements, one after the other, are those of the tuple.
use Rattle.std.proofs.Common.{◌≡◌, ℕ, false, List, [], ◌∷◌, ◌++◌, sym, ap, ◌∙◌}
use Rattle.std.proofs.lemmas.List.{append-nil, append_assoc}
use Rattle.fdb_tuple.specs.declared.tuple.Elem.{Elem}
use Rattle.fdb_tuple.specs.Tuples.{Empty}
use Rattle.fdb_tuple.specs.Listed.{before, tuple_of}
use Rattle.fdb_tuple.specs.Spelling.{spelling}
use Rattle.fdb_tuple.proofs.Spellings.{spelled_in-before}

-- the bytes are those of the first elements of any tuple that begins with them
abbrev pub PacksFirst : List ℕ → List Elem → Type 0
PacksFirst packed firsts = (rest : List Elem) → packed ++ spelling (tuple_of rest) ≡ spelling (tuple_of (firsts ++ rest))

-- a loop's step: one more is packed
pub packed_more : (packed : List ℕ) (firsts : List Elem) (element : Elem) → PacksFirst packed firsts
    → PacksFirst (packed ++ spelling (before element Empty)) (firsts ++ element ∷ [])
packed_more packed firsts element before_it rest =
    append_assoc packed (spelling (before element Empty)) (spelling (tuple_of rest))
    ∙ ap (λ (bytes : List ℕ). packed ++ bytes) (sym (spelled_in-before false element (tuple_of rest)))
    ∙ before_it (element ∷ rest)
    ∙ ap (λ (elements : List Elem). spelling (tuple_of elements)) (sym (append_assoc firsts (element ∷ []) rest))

-- its end: all are packed
pub packed_all : (packed : List ℕ) (firsts : List Elem) → PacksFirst packed firsts → packed ≡ spelling (tuple_of firsts)
packed_all packed firsts packs =
    sym (append-nil packed) ∙ packs [] ∙ ap (λ (elements : List Elem). spelling (tuple_of elements)) (append-nil firsts)
