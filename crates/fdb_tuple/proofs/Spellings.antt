-- Spellings of elements one after the other.
use Rattle.std.proofs.Common.{◌≡◌, ◌<◌, ℕ, ◌+◌, Bool, true, List, [], ◌∷◌, ◌++◌, length, get_or, take, append_assoc, refl, sym, ap, ◌∙◌}
use Rattle.std.proofs.lemmas.List.{append-nil, take_more}
use Rattle.fdb_tuple.specs.declared.tuple.Elem.{Elem}
use Rattle.fdb_tuple.specs.declared.tuple.Elem.TheVariants as elem
use Rattle.fdb_tuple.specs.Tuples.{Scalar, Null, Bytes, Text, Int, Boolean, Uuid, Stamp, Elements, Empty}
use Rattle.fdb_tuple.specs.Listed.{before, tuple_of}
use Rattle.fdb_tuple.specs.Spelling.{scalar_spelled, spelled_in}

scalar_before : (nested : Bool) (scalar : Scalar) (rest : List ℕ)
    → scalar_spelled nested scalar ++ rest ≡ (scalar_spelled nested scalar ++ []) ++ rest
scalar_before nested scalar rest = ap (λ (bytes : List ℕ). bytes ++ rest) (sym (append-nil (scalar_spelled nested scalar)))

pub spelled_in-before : (nested : Bool) (element : Elem) (rest : Elements)
    → spelled_in nested (before element rest) ≡ spelled_in nested (before element Empty) ++ spelled_in nested rest
spelled_in-before nested elem.Null rest = scalar_before nested Null (spelled_in nested rest)
spelled_in-before nested (elem.Bytes bytes) rest = scalar_before nested (Bytes bytes) (spelled_in nested rest)
spelled_in-before nested (elem.Text text) rest = scalar_before nested (Text text) (spelled_in nested rest)
spelled_in-before nested (elem.Nested tuple) rest = ap (λ (bytes : List ℕ). 5 ∷ bytes) (sym (append_assoc (spelled_in true tuple) (0 ∷ []) (spelled_in nested rest)))
spelled_in-before nested (elem.Int number) rest = scalar_before nested (Int number) (spelled_in nested rest)
spelled_in-before nested (elem.Bool value) rest = scalar_before nested (Boolean value) (spelled_in nested rest)
spelled_in-before nested (elem.Uuid bytes) rest = scalar_before nested (Uuid bytes) (spelled_in nested rest)
spelled_in-before nested (elem.Stamp stamp) rest = scalar_before nested (Stamp stamp.stamp stamp.user) (spelled_in nested rest)

spelled_in-push : (nested : Bool) (elements : List Elem) (element : Elem)
    → spelled_in nested (tuple_of (elements ++ element ∷ [])) ≡ spelled_in nested (tuple_of elements) ++ spelled_in nested (before element Empty)
spelled_in-push nested [] element = refl
spelled_in-push nested (first ∷ elements) element =
    let all = tuple_of (elements ++ element ∷ []) in
    spelled_in-before nested first all
    ∙ ap (λ (bytes : List ℕ). spelled_in nested (before first Empty) ++ bytes) (spelled_in-push nested elements element)
    ∙ sym (append_assoc (spelled_in nested (before first Empty)) (spelled_in nested (tuple_of elements)) (spelled_in nested (before element Empty)))
    ∙ ap (λ (bytes : List ℕ). bytes ++ spelled_in nested (before element Empty)) (sym (spelled_in-before nested first (tuple_of elements)))

-- the elements up to a place and the one there
pub spelled_in_more : (nested : Bool) (elements : List Elem) (i : ℕ) (element : Elem) → i < length elements
    → element ≡ get_or elements i element
    → spelled_in nested (tuple_of (take (i + 1) elements)) ≡ spelled_in nested (tuple_of (take i elements)) ++ spelled_in nested (before element Empty)
spelled_in_more nested elements i element lt is =
    let more : take (i + 1) elements ≡ take i elements ++ element ∷ [] = take_more elements i element lt ∙ ap (λ (last : Elem). take i elements ++ last ∷ []) (sym is) in
    ap (λ (front : List Elem). spelled_in nested (tuple_of front)) more ∙ spelled_in-push nested (take i elements) element
