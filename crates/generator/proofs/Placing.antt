-- Instructions are placed under a prefix, one at each place.
use Rattle.std.proofs.Common.{◌≡◌, ℕ, ◌+◌, ◌<◌, length, List, [], ◌∷◌, ◌++◌, map, drop, get_or, sym, ap, ◌∙◌}
use Rattle.std.proofs.lemmas.List.{append_assoc, at_drop_more}
use Rattle.std.proofs.Math.Numerals.{suc-eq-add-one}
use Rattle.generator.specs.Generated.{placed, instruction_key, packed_instruction, worker_prefix, worker_instructions, worker_pairs, pairs_of}

-- a loop's step: the one at this place is placed
pub places_one : {now : List (List ℕ × List ℕ)} (so_far : List (List ℕ × List ℕ)) (prefix : List ℕ) (place : ℕ)
    (script : List (List ℕ)) (key packed other : List ℕ)
    → place < length script → key ≡ instruction_key prefix place → packed ≡ get_or script place other
    → now ≡ so_far ++ (key, packed) ∷ []
    → now ++ placed prefix (place + 1) (drop (place + 1) script) ≡ so_far ++ placed prefix place (drop place script)
places_one so_far prefix place script key packed other within at_key here is_now =
    let rest = placed prefix (place + 1) (drop (place + 1) script) in
    ap (λ made. made ++ rest) is_now
    ∙ append_assoc so_far ((key, packed) ∷ []) rest
    ∙ ap (λ made. so_far ++ (made, packed) ∷ rest) at_key
    ∙ ap (λ made. so_far ++ (instruction_key prefix place, made) ∷ rest) here
    ∙ sym (at_drop_more (λ left. so_far ++ placed prefix place left) script place other within)

-- a loop's step: the instructions of one worker more
pub next_worker : {now so_far : List (List ℕ × List ℕ)} (start : List (List ℕ × List ℕ)) (count : ℕ) (prefix : List ℕ)
    (script : List (List ℕ)) → so_far ≡ start ++ worker_pairs count → prefix ≡ worker_prefix (count + 1)
    → script ≡ map packed_instruction (worker_instructions (count + 1)) → now ≡ so_far ++ placed prefix 0 script
    → now ≡ start ++ worker_pairs (count + 1)
next_worker start count prefix script is_so_far at_prefix all is_now =
    is_now
    ∙ ap (λ before. before ++ placed prefix 0 script) is_so_far
    ∙ ap (λ made. (start ++ worker_pairs count) ++ placed made 0 script) at_prefix
    ∙ ap (λ made. (start ++ worker_pairs count) ++ placed (worker_prefix (count + 1)) 0 made) all
    ∙ append_assoc start (worker_pairs count) (pairs_of (worker_prefix (count + 1)) (worker_instructions (count + 1)))
    ∙ ap (λ worker. start ++ (worker_pairs count ++ pairs_of (worker_prefix worker) (worker_instructions worker)))
    (sym (suc-eq-add-one count))
    ∙ ap (λ workers. start ++ worker_pairs workers) (suc-eq-add-one count)
