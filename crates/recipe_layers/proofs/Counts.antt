-- The counts of pairs, one after the other: those that were found, and those of the pairs that are left.
use Rattle.std.proofs.Common.{◌≡◌, ℕ, suc, ◌+◌, ◌<◌, ◌≤◌, ◌^◌, Bool, true, false, cond, ◌&&◌, Some, None, arith, List, [], ◌∷◌, ◌++◌, length, get_or, drop, Result, Ok, Err, refl, sym, ap, ◌∙◌, append_assoc, append-nil}
use Rattle.std.specs.Prelude.{◌==◌, nat_lt}
use Rattle.std.specs.Int.{w64, from_le_bytes}
use Rattle.std.proofs.lemmas.Bool.{and_from, ne_eqb, eq-eqb, le-ltb, lt-ltb}
use Rattle.std.proofs.lemmas.List.{at_drop_more, at_drop_all}
use Rattle.key_bytes.specs.declared.pairs.Pair.{Pair}
use Rattle.key_bytes.specs.Entries.{entry_of, entries_of}
use Rattle.model_recipes.specs.declared.Count.{Count}
use Rattle.model_recipes.specs.declared.fault.RecipeFault.{RecipeFault}
use Rattle.model_recipes.specs.declared.fault.RecipeFault.TheVariants as fault
use Rattle.model_recipes.specs.declared.TheConstants.{GREATEST_COUNT}
use Rattle.model_recipes.specs.Multimaps.{count_said, count_in, before_others, counts_in}
use Rattle.recipe_layers.specs.Steps.{Tells}

-- those that were found, and the others behind them
abbrev pub behind_found : List Count → Result (List Count) RecipeFault → Result (List Count) RecipeFault
behind_found found (Ok others) = Ok (found ++ others)
behind_found found (Err fault) = Err fault

first_count : (front : List ℕ) (pairs : List Pair) (place : ℕ) (pair : Pair) → place < length pairs → pair ≡ get_or pairs place pair
    → counts_in front (entries_of (drop place pairs))
    ≡ before_others (count_in front (entry_of pair)) (counts_in front (entries_of (drop (place + 1) pairs)))
unfolding counts_in
first_count front pairs place pair inside is =
    at_drop_more (λ (pairs : List Pair). counts_in front (entries_of pairs)) pairs place pair inside
    ∙ ap (λ (pair : Pair). before_others (count_in front (entry_of pair)) (counts_in front (entries_of (drop (place + 1) pairs)))) (sym is)

added : (found : List Count) (count : Count) (read : Result (List Count) RecipeFault)
    → behind_found found (before_others (Ok count) read) ≡ behind_found (found ++ count ∷ []) read
added found count (Ok others) = ap (λ (all : List Count). Ok all) (sym (append_assoc found (count ∷ []) others))
added found count (Err fault) = refl

-- one more was found
pub count_more : (front : List ℕ) (pairs : List Pair) (place : ℕ) (pair : Pair) (found more : List Count) (count : Count)
    (all : Result (List Count) RecipeFault)
    → place < length pairs → pair ≡ get_or pairs place pair → count_in front (entry_of pair) ≡ Ok count → more ≡ found ++ count ∷ []
    → behind_found found (counts_in front (entries_of (drop place pairs))) ≡ all
    → behind_found more (counts_in front (entries_of (drop (place + 1) pairs))) ≡ all
count_more front pairs place pair found more count all inside is read next before =
    let left = counts_in front (entries_of (drop (place + 1) pairs)) in
    ap (λ (found : List Count). behind_found found left) next ∙ sym (added found count left)
    ∙ ap (λ (one : Result Count RecipeFault). behind_found found (before_others one left)) (sym read)
    ∙ ap (behind_found found) (sym (first_count front pairs place pair inside is)) ∙ before

spoiled_by : (front : List ℕ) (pairs : List Pair) (place : ℕ) (pair : Pair) (found : List Count) (fault : RecipeFault)
    (all : Result (List Count) RecipeFault)
    → place < length pairs → pair ≡ get_or pairs place pair → count_in front (entry_of pair) ≡ Err fault
    → behind_found found (counts_in front (entries_of (drop place pairs))) ≡ all → all ≡ Err fault
spoiled_by front pairs place pair found fault all inside is read before =
    let left = counts_in front (entries_of (drop (place + 1) pairs)) in
    sym before ∙ ap (behind_found found) (first_count front pairs place pair inside is)
    ∙ ap (λ (one : Result Count RecipeFault). behind_found found (before_others one left)) read

-- the next one is a fault, or memory ran out
pub count_spoiled : (front : List ℕ) (pairs : List Pair) (place : ℕ) (pair : Pair) (found : List Count) (fault : RecipeFault)
    (all : Result (List Count) RecipeFault)
    → place < length pairs → pair ≡ get_or pairs place pair → Tells {A = Count} (Err fault) (count_in front (entry_of pair))
    → behind_found found (counts_in front (entries_of (drop place pairs))) ≡ all → Tells {A = List Count} (Err fault) all
count_spoiled front pairs place pair found fault.NoMemory all inside is told before = tt
count_spoiled front pairs place pair found (fault.Tr code) all inside is told before = absurd told
count_spoiled front pairs place pair found (fault.BadKey key) all inside is told before =
    spoiled_by front pairs place pair found (fault.BadKey key) all inside is told before
count_spoiled front pairs place pair found fault.IndexEnd all inside is told before =
    spoiled_by front pairs place pair found fault.IndexEnd all inside is told before
count_spoiled front pairs place pair found (fault.PastEnd size) all inside is told before =
    spoiled_by front pairs place pair found (fault.PastEnd size) all inside is told before

-- no pair is left
pub counts_found : (front : List ℕ) (pairs : List Pair) (place : ℕ) (found : List Count) (all : Result (List Count) RecipeFault)
    → length pairs ≤ place
    → behind_found found (counts_in front (entries_of (drop place pairs))) ≡ all → all ≡ Ok found
unfolding counts_in
counts_found front pairs place found all past before =
    sym before ∙ at_drop_all (λ (pairs : List Pair). behind_found found (counts_in front (entries_of pairs))) pairs place past
    ∙ ap (λ (all : List Count). Ok all) (append-nil found)

-- ---- 8 bytes

-- more or fewer are none
pub said_length : (bytes : List ℕ) → (length bytes ≡ 8 → ⊥) → None ≡ count_said bytes
unfolding count_said
said_length bytes differ =
    let number = from_le_bytes w64 bytes in
    sym (ap (λ (b : Bool). cond ((b && nat_lt 0 number) && nat_lt number (suc GREATEST_COUNT)) (Some number) None) (ne_eqb (length bytes) 8 differ))

-- 0 is none
pub said_zero : (bytes : List ℕ) (count : ℕ) → length bytes ≡ 8 → count ≡ from_le_bytes w64 bytes → count ≡ 0 → None ≡ count_said bytes
unfolding count_said
said_zero bytes count long is zero_is =
    let number = from_le_bytes w64 bytes in
    let none : number ≡ 0 = sym is ∙ zero_is in
    sym (ap (λ (b : Bool). cond ((b && nat_lt 0 number) && nat_lt number (suc GREATEST_COUNT)) (Some number) None) (eq-eqb (length bytes) 8 long)
    ∙ ap (λ (b : Bool). cond (b && nat_lt number (suc GREATEST_COUNT)) (Some number) None) (le-ltb 0 number (omega (arith, none))))

-- and each other number is one
pub said_some : (bytes : List ℕ) (count : ℕ) → length bytes ≡ 8 → count ≡ from_le_bytes w64 bytes → (count ≡ 0 → ⊥) → count < 2 ^ 64
    → Some count ≡ count_said bytes
unfolding count_said
said_some bytes count long is some small =
    let number = from_le_bytes w64 bytes in
    let positive : 0 < number = omega (arith, is, some) in
    let below : number < suc GREATEST_COUNT = omega (arith, is, small) in
    ap Some is
    ∙ sym (ap (λ (b : Bool). cond b (Some number) None)
    (and_from _ _ (and_from _ _ (eq-eqb (length bytes) 8 long) (lt-ltb 0 number positive)) (lt-ltb number (suc GREATEST_COUNT) below)))
