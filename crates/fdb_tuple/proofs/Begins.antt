-- What elements begin with, so that no FF stands after the 00 that ends a string or a nested tuple before them.
use Rattle.std.proofs.Common.{◌≡◌, ℕ, ◌+◌, ◌-◌, ◌<◌, Bool, true, false, leb, List, [], ◌∷◌, ◌++◌, length, refl, arith}
use Rattle.std.specs.Int.{is_negative}
use Rattle.std.proofs.lemmas.Bool.{leb-true, cond_both}
use Rattle.fdb_tuple.specs.Tuples.{Scalar, Null, Bytes, Text, Int, Boolean, Uuid, Stamp, Elements, Empty, Single, Nested}
use Rattle.fdb_tuple.specs.Zeros.{IsNoEscape}
use Rattle.fdb_tuple.specs.Spelling.{int_code, signed_spelled, scalar_spelled, spelled_in}
use Rattle.fdb_tuple.specs.Stops.{EndsByZero}

-- a byte that is no FF comes first
record Begins (bytes : List ℕ) : Type 0 where
  code : ℕ
  others : List ℕ
  is : bytes ≡ code ∷ others
  low : code < 255

Begins-cons : (code : ℕ) (others : List ℕ) → code < 255 → Begins (code ∷ others)
Begins-cons code others low = record { code = code; others = others; is = refl; low = low }

int_begins : (negative : Bool) (size : ℕ) (rest : List ℕ) → Begins (int_code negative size ++ rest)
int_begins false size rest =
    cond_both (leb size 8) ((0x14 + size) ∷ []) (0x1D ∷ size ∷ []) (λ code. Begins (code ++ rest)) (λ e. Begins-cons (0x14 + size) rest (omega (arith, leb-true size 8 e))) (λ e. Begins-cons 0x1D (size ∷ rest) (omega arith))
int_begins true size rest =
    cond_both (leb size 8) ((0x14 - size) ∷ []) (0x0B ∷ (0xFF - size) ∷ []) (λ code. Begins (code ++ rest)) (λ e. Begins-cons (0x14 - size) rest (omega arith)) (λ e. Begins-cons 0x0B ((0xFF - size) ∷ rest) (omega arith))

scalar_begins : (nested : Bool) (scalar : Scalar) → Begins (scalar_spelled nested scalar)
unfolding signed_spelled
scalar_begins false Null = Begins-cons 0 [] (omega arith)
scalar_begins true Null = Begins-cons 0 (0xFF ∷ []) (omega arith)
scalar_begins nested (Bytes bytes) = Begins-cons 1 _ (omega arith)
scalar_begins nested (Text text) = Begins-cons 2 _ (omega arith)
scalar_begins nested (Int z) = int_begins (is_negative z) _ _
scalar_begins nested (Boolean false) = Begins-cons 0x26 [] (omega arith)
scalar_begins nested (Boolean true) = Begins-cons 0x27 [] (omega arith)
scalar_begins nested (Uuid bytes) = Begins-cons 0x30 bytes (omega arith)
scalar_begins nested (Stamp stamp user) = Begins-cons 0x33 _ (omega arith)

pub some_byte : (nested : Bool) (scalar : Scalar) → 0 < length (scalar_spelled nested scalar)
some_byte nested scalar = rw (scalar_begins nested scalar).is (omega arith)

pub IsNoEscape-spelled_in : (nested : Bool) (elements : Elements) (after : List ℕ) → (elements ≡ Empty → IsNoEscape after)
    → IsNoEscape (spelled_in nested elements ++ after)
IsNoEscape-spelled_in nested Empty after end = end refl
IsNoEscape-spelled_in nested (Single scalar rest) after end =
    let b = scalar_begins nested scalar in
    rw b.is (λ e. omega (arith, b.low))
IsNoEscape-spelled_in nested (Nested inner rest) after end = λ e. omega arith

-- what ends by a 00 does so with an element before it too
pub EndsByZero-single : (scalar : Scalar) (elements : Elements) → EndsByZero elements → EndsByZero (Single scalar elements)
EndsByZero-single scalar Empty ends = absurd ends
EndsByZero-single scalar (Single second rest) ends = ends
EndsByZero-single scalar (Nested inner rest) ends = ends

pub EndsByZero-nested : (first elements : Elements) → EndsByZero elements → EndsByZero (Nested first elements)
EndsByZero-nested first Empty ends = absurd ends
EndsByZero-nested first (Single scalar rest) ends = ends
EndsByZero-nested first (Nested inner rest) ends = ends
