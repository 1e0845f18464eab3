use Rattle.std.proofs.Common.{◌≡◌, ℕ, List, [], ◌∷◌, ◌++◌, ap, sym, ◌∙◌, codes}
use Rattle.fdb_tuple.specs.declared.tuple.Elem.{Elem}
use Rattle.fdb_tuple.specs.declared.tuple.Elem.TheVariants as elem
use Rattle.fdb_tuple.specs.Tuples.{Elements, Empty, Single, Bytes}
use Rattle.fdb_tuple.specs.Listed.{tuple_of, elements_of, tuple_of-elements_of}
use Rattle.machine_registers.proofs.errors.error_tuple.Goals as goal

-- a tuple of two byte strings, by the elements that were added to the empty one
of_two : (start one two : Elements) (first said second : List ℕ) → start ≡ Empty → first ≡ said
    → elements_of one ≡ elements_of start ++ elem.Bytes first ∷ []
    → elements_of two ≡ elements_of one ++ elem.Bytes second ∷ [] → two ≡ Single (Bytes said) (Single (Bytes second) Empty)
of_two start one two first said second none is added more =
    sym (tuple_of-elements_of two)
    ∙ ap tuple_of (more ∙ ap (λ (elements : List Elem). elements ++ elem.Bytes second ∷ []) (added
    ∙ ap (λ (elements : List Elem). elements ++ elem.Bytes first ∷ []) (ap elements_of none)
    ∙ ap (λ (word : List ℕ). elem.Bytes word ∷ []) is))

pub returns : goal.returns
returns c =
    of_two c.new-tuple.result c.add.new.tuple c.add-2.new.tuple c.in_ok-from_slice.field-0 (codes "ERROR") c.args.digits
    c.new-tuple.ensures c.in_ok-from_slice.ensures c.in_ok-add.ensures c.in_ok-add-2.ensures
