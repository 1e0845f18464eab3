-- A list to which others are added, one behind the other; and scripts in particular.
use Rattle.std.proofs.Common.{◌≡◌, ℕ, List, [], ◌∷◌, ◌++◌, map, sym, ap, ◌∙◌}
use Rattle.std.proofs.lemmas.List.{append_assoc, map-append}
use Rattle.fdb_tuple.specs.declared.tuple.Elem.TheVariants.{Bytes}
use Rattle.generator.specs.Generated.{push, packed_instruction, opening, rounds, closing, worker_instructions}

pub more : {A : Type 0} {before now : List A} (start added items : List A) → before ≡ start ++ added → now ≡ before ++ items
    → now ≡ start ++ (added ++ items)
more start added items is_before is_now =
    is_now ∙ ap (λ so_far. so_far ++ items) is_before ∙ append_assoc start added items

-- the bytes that are pushed are these
pub pushes : {now : List (List ℕ)} (before : List (List ℕ)) (bytes value : List ℕ) → bytes ≡ value
    → now ≡ before ++ packed_instruction (push (Bytes bytes)) ∷ [] → now ≡ before ++ packed_instruction (push (Bytes value)) ∷ []
pushes before bytes value same is_now = is_now ∙ ap (λ pushed. before ++ packed_instruction (push (Bytes pushed)) ∷ []) same

-- behind the opening and all rounds the closing makes the script of a worker whole
pub whole : {now script : List (List ℕ)} (worker count : ℕ) → count ≡ 20
    → script ≡ map packed_instruction (opening worker ++ rounds worker count)
    → now ≡ script ++ map packed_instruction (closing worker) → now ≡ map packed_instruction (worker_instructions worker)
whole worker count all is_script is_now =
    is_now
    ∙ ap (λ so_far. so_far ++ map packed_instruction (closing worker)) is_script
    ∙ ap (λ made. map packed_instruction (opening worker ++ rounds worker made) ++ map packed_instruction (closing worker)) all
    ∙ sym (map-append packed_instruction (opening worker ++ rounds worker 20) (closing worker))
    ∙ ap (map packed_instruction) (append_assoc (opening worker) (rounds worker 20) (closing worker))
