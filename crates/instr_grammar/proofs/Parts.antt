-- A part of a tuple that was read is spelled so.
use Rattle.std.proofs.Common.{◌≡◌, ◌≢◌, ℕ, ◌<◌, ◌≤◌, Bool, true, false, cond, ◌==◌, List, [], ◌∷◌, ◌++◌, length, pos, negsuc, Ok, Err, IfOk, refl, ap, arith}
use Rattle.std.proofs.lemmas.Bool.{eqb-true, le-ltb}
use Rattle.std.proofs.lemmas.Bool.Decides.{nat_tests}
use Rattle.std.proofs.lemmas.List.{length-append}
use Rattle.fdb_tuple.specs.declared.tuple.Elem.{Elem}
use Rattle.fdb_tuple.specs.Tuples.{Scalar, Null, Bytes, Text, Int, Boolean, Uuid, Stamp, IsScalar, greatest_magnitude}
use Rattle.fdb_tuple.specs.Listed.{element_of}
use Rattle.model_lines.specs.Printing.{space}
use Rattle.instr_grammar.specs.declared.part.Part.{Part}
use Rattle.instr_grammar.specs.declared.part.Part.TheVariants as part
use Rattle.instr_grammar.specs.Texts.{opening, closing, gap, scalar_text}
use Rattle.instr_grammar.specs.Reading.{PartRead, Read, held, scalar_at, element_part, next_part}
use Rattle.instr_grammar.proofs.Scalars.{IsTaken, scalar_was}
use Rattle.dump_reading.proofs.Numbers.{some_digits}

is_small : (n : ℕ) → IsScalar (Int (pos n)) → n ≤ greatest_magnitude false
is_small n h = rw (le-ltb n 0 (omega arith)) at h

pub some_text : (scalar : Scalar) → IsScalar scalar → 0 < length (scalar_text scalar)
unfolding scalar_text
some_text Null is = omega arith
some_text (Bytes bytes) is = omega arith
some_text (Text text) is = omega arith
some_text (Int (pos n)) is = some_digits n (omega (arith, is_small n is))
some_text (Int (negsuc n)) is = omega arith
some_text (Boolean false) is = omega arith
some_text (Boolean true) is = omega arith
some_text (Uuid uuid) is = omega arith
some_text (Stamp stamp user) is = omega arith

-- what a part says of the bytes at whose front it was read
pub record HeldIs (first : Bool) (bytes : List ℕ) (element : Elem) (rest : List ℕ) : Type 0 where
  pub scalar : Scalar
  pub element_is : element ≡ element_of scalar
  pub is_scalar : IsScalar scalar
  pub parts : bytes ≡ gap first ++ (scalar_text scalar ++ rest)

abbrev pub PartIs : Bool → ℕ → List ℕ → Part × List ℕ → Type 0
PartIs first around bytes (part.Ends, rest) = bytes ≡ closing ∷ rest
PartIs first around bytes (part.Opens, rest) = (bytes ≡ gap first ++ opening ∷ rest) × (around ≢ 100)
PartIs first around bytes (part.Holds element, rest) = HeldIs first bytes element rest

-- an element, which is no end
abbrev pub ElementIs : ℕ → List ℕ → Part × List ℕ → Type 0
ElementIs around bytes (part.Ends, rest) = ⊥
ElementIs around bytes (part.Opens, rest) = (bytes ≡ opening ∷ rest) × (around ≢ 100)
ElementIs around bytes (part.Holds element, rest) = HeldIs true bytes element rest

is_not : (around : ℕ) → (around == 100) ≡ false → around ≢ 100
is_not around e k = grind (arith, nat_tests)

held_found : (around : ℕ) (bytes : List ℕ) (read : Read) → IfOk read (IsTaken bytes) → IfOk (held read) (ElementIs around bytes)
held_found around bytes (Ok x) h = record { scalar = h.scalar; element_is = h.element_is; is_scalar = h.is_scalar; parts = h.parts }
held_found around bytes (Err left) h = tt

pub element_found : (around : ℕ) (bytes : List ℕ) → IfOk (element_part around bytes) (ElementIs around bytes)
unfolding element_part
element_found around [] = tt
element_found around (byte ∷ rest) = by (byte == opening) refl (around == 100) refl
  where
    by : (test : Bool) → (byte == opening) ≡ test → (deep : Bool) → (around == 100) ≡ deep
        → IfOk (cond test (cond deep (Err (length (byte ∷ rest))) (Ok (part.Opens, rest))) (held (scalar_at (byte ∷ rest)))) (ElementIs around (byte ∷ rest))
    by true e true d = tt
    by true e false d = (ap (λ (x : ℕ). x ∷ rest) (eqb-true byte opening e), is_not around d)
    by false e deep d = held_found around (byte ∷ rest) (scalar_at (byte ∷ rest)) (scalar_was (byte ∷ rest))

as_first : (around : ℕ) (bytes : List ℕ) (read : PartRead) → IfOk read (ElementIs around bytes) → IfOk read (PartIs true around bytes)
as_first around bytes (Ok (part.Ends, rest)) h = absurd h
as_first around bytes (Ok (part.Opens, rest)) h = h
as_first around bytes (Ok (part.Holds element, rest)) h = h
as_first around bytes (Err left) h = tt

as_next : (around : ℕ) (bytes : List ℕ) (read : PartRead) → IfOk read (ElementIs around bytes) → IfOk read (PartIs false around (space ∷ bytes))
as_next around bytes (Ok (part.Ends, rest)) h = absurd h
as_next around bytes (Ok (part.Opens, rest)) h = (ap (λ (x : List ℕ). space ∷ x) h.0, h.1)
as_next around bytes (Ok (part.Holds element, rest)) h =
    record { scalar = h.scalar; element_is = h.element_is; is_scalar = h.is_scalar; parts = ap (λ (x : List ℕ). space ∷ x) h.parts }
as_next around bytes (Err left) h = tt

pub part_found : (first : Bool) (around : ℕ) (bytes : List ℕ) → IfOk (next_part first around bytes) (PartIs first around bytes)
unfolding next_part
part_found first around [] = tt
part_found first around (byte ∷ rest) = by (byte == closing) refl first (byte == space) refl
  where
    by : (ends : Bool) → (byte == closing) ≡ ends → (one : Bool) (spaced : Bool) → (byte == space) ≡ spaced
        → IfOk (cond ends (Ok (part.Ends, rest)) (cond one (element_part around (byte ∷ rest)) (cond spaced (element_part around rest) (Err (length (byte ∷ rest))))))
        (PartIs one around (byte ∷ rest))
    by true e one spaced f = ap (λ (x : ℕ). x ∷ rest) (eqb-true byte closing e)
    by false e true spaced f = as_first around (byte ∷ rest) (element_part around (byte ∷ rest)) (element_found around (byte ∷ rest))
    by false e false true f =
        rw (eqb-true byte space f) (as_next around rest (element_part around rest) (element_found around rest))
    by false e false false f = tt

pub shorter : (first : Bool) (around : ℕ) (bytes : List ℕ) (p : Part) (rest : List ℕ) → PartIs first around bytes (p, rest) → length rest < length bytes
shorter first around bytes part.Ends rest h = omega (arith, ap length h)
shorter first around bytes part.Opens rest h = omega (arith, ap length h.0, length-append (gap first) (opening ∷ rest))
shorter first around bytes (part.Holds element) rest h =
    omega (arith, ap length h.parts, length-append (gap first) (scalar_text h.scalar ++ rest), length-append (scalar_text h.scalar) rest, some_text h.scalar h.is_scalar)
