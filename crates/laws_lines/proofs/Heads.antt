-- What the lines of pairs and of orders have alike: the letter of their kind and a space, before what is their own.
use Rattle.std.proofs.Common.{◌≡◌, ◌≤◌, ◌+◌, ℕ, true, false, cond, not, ◌==◌, List, [], ◌∷◌, ◌++◌, length, Result, Err, refl, sym, ap, subst, ◌∙◌, arith}
use Rattle.std.proofs.lemmas.Bool.{eqb-true, eqb-false}
use Rattle.std.proofs.lemmas.List.{append-nil, length-append}
use Rattle.model_lines.specs.Printing.{space}
use Rattle.model_lines.specs.Reading.{Flaw, Bad}
use Rattle.laws_lines.specs.Places.{IsLongestFront}

-- a front is nothing, the letter, or begins with the letter and a space
pub data Heads (kind : ℕ) (front : List ℕ) : Type 0 where
  no_byte : (is : front ≡ []) → Heads kind front
  one_byte : (is : front ≡ kind ∷ []) → Heads kind front
  more_bytes : (fields : List ℕ) (is : front ≡ kind ∷ space ∷ fields) → Heads kind front

-- the fronts of lines of a kind
pub record IsHeaded (kind : ℕ) (IsFront : (front rest : List ℕ) → Type 0) : Type 0 where
  pub nothing : (rest : List ℕ) → IsFront [] rest
  pub letter : (rest : List ℕ) → IsFront (kind ∷ []) rest
  pub heads : (front rest : List ℕ) → IsFront front rest → Heads kind front

-- how lines of a kind are read, where it is known how what stands behind the space is read
abbrev pub read_behind : {A : Type 0} → ℕ → (List ℕ → Result A Flaw) → List ℕ → Result A Flaw
read_behind kind fields [] = Err (Bad 0)
read_behind kind fields (first ∷ []) = Err (Bad (cond (first == kind) 1 0))
read_behind kind fields (first ∷ gap ∷ rest) =
    cond (not (first == kind)) (Err (Bad 0)) (cond (not (gap == space)) (Err (Bad 1)) (fields rest))

-- a fault at a place, where a value of this type was to be read
abbrev pub bad : (A : Type 0) → ℕ → Result A Flaw
bad A place = Err (Bad place)

pub place_of_bad : (A : Type 0) (n place : ℕ) → bad A n ≡ bad A place → n ≡ place
place_of_bad A n place e = cc

-- no front is longer where none leaves less
pub leaves_least : (IsFront : (front rest : List ℕ) → Type 0) (bytes front rest : List ℕ) (place : ℕ) → bytes ≡ front ++ rest
    → place + length rest ≡ length bytes → IsFront front rest
    → ((other behind : List ℕ) → bytes ≡ other ++ behind → IsFront other behind → length rest ≤ length behind)
    → IsLongestFront IsFront bytes place
leaves_least IsFront bytes front rest place parts size is_front least = record {
  front = front;
  rest = rest;
  parts = parts;
  place_is = omega (arith, ap length parts, length-append front rest);
  is_front = is_front;
  longest = λ other behind others h. omega (arith, ap length others, length-append other behind, least other behind others h);
}

-- a front to the end of the line
pub leaves_nothing : (IsFront : (front rest : List ℕ) → Type 0) (bytes : List ℕ) → IsFront bytes []
    → IsLongestFront IsFront bytes (length bytes)
leaves_nothing IsFront bytes h =
    leaves_least IsFront bytes bytes [] (length bytes) (sym (append-nil bytes)) (omega arith) h (λ other behind parts f. omega arith)

-- ---- the letter and the space

pub first_byte : (kind byte : ℕ) (bytes tail other behind : List ℕ) → byte ∷ bytes ≡ other ++ behind → other ≡ kind ∷ tail → byte ≡ kind
first_byte kind byte bytes tail other behind parts is =
    let same : byte ∷ bytes ≡ kind ∷ (tail ++ behind) = parts ∙ ap (λ (x : List ℕ). x ++ behind) is in
    cc

second_byte : (kind byte gap : ℕ) (bytes tail other behind : List ℕ) → byte ∷ gap ∷ bytes ≡ other ++ behind
    → other ≡ kind ∷ space ∷ tail → gap ≡ space
second_byte kind byte gap bytes tail other behind parts is =
    let same : byte ∷ gap ∷ bytes ≡ kind ∷ space ∷ (tail ++ behind) = parts ∙ ap (λ (x : List ℕ). x ++ behind) is in
    cc

-- what stands behind the space in a line, and in a front of it
pub behind_space : (kind : ℕ) (fields inner other behind : List ℕ) → kind ∷ space ∷ fields ≡ other ++ behind
    → other ≡ kind ∷ space ∷ inner → fields ≡ inner ++ behind
behind_space kind fields inner other behind parts is =
    let same : kind ∷ space ∷ fields ≡ kind ∷ space ∷ (inner ++ behind) = parts ∙ ap (λ (x : List ℕ). x ++ behind) is in
    cc

-- the first byte isn't the letter
other_letter : (IsFront : (front rest : List ℕ) → Type 0) (kind byte : ℕ) (bytes : List ℕ) → IsHeaded kind IsFront
    → (byte == kind) ≡ false → IsLongestFront IsFront (byte ∷ bytes) 0
other_letter IsFront kind byte bytes headed e = record {
  front = [];
  rest = byte ∷ bytes;
  parts = refl;
  place_is = refl;
  is_front = headed.nothing (byte ∷ bytes);
  longest = λ other behind parts h. short other behind parts (headed.heads other behind h);
}
  where
    short : (other behind : List ℕ) → byte ∷ bytes ≡ other ++ behind → Heads kind other → length other ≤ 0
    short other behind parts (no_byte is) = omega (arith, ap length is)
    short other behind parts (one_byte is) = absurd (eqb-false byte kind e (first_byte kind byte bytes [] other behind parts is))
    short other behind parts (more_bytes fields is) =
        absurd (eqb-false byte kind e (first_byte kind byte bytes (space ∷ fields) other behind parts is))

-- the second byte isn't the space
other_gap : (IsFront : (front rest : List ℕ) → Type 0) (kind gap : ℕ) (bytes : List ℕ) → IsHeaded kind IsFront
    → (gap == space) ≡ false → IsLongestFront IsFront (kind ∷ gap ∷ bytes) 1
other_gap IsFront kind gap bytes headed e = record {
  front = kind ∷ [];
  rest = gap ∷ bytes;
  parts = refl;
  place_is = refl;
  is_front = headed.letter (gap ∷ bytes);
  longest = λ other behind parts h. short other behind parts (headed.heads other behind h);
}
  where
    short : (other behind : List ℕ) → kind ∷ gap ∷ bytes ≡ other ++ behind → Heads kind other → length other ≤ 1
    short other behind parts (no_byte is) = omega (arith, ap length is)
    short other behind parts (one_byte is) = omega (arith, ap length is)
    short other behind parts (more_bytes fields is) =
        absurd (eqb-false gap space e (second_byte kind kind gap bytes fields other behind parts is))

-- fields are read to the longest front behind the letter and the space
abbrev pub ReadsToLongest : {A : Type 0} → ((front rest : List ℕ) → Type 0) → ℕ → (List ℕ → Result A Flaw) → List ℕ → Type 0
ReadsToLongest IsFront kind fields bytes = (rest : List ℕ) (place : ℕ) → bytes ≡ kind ∷ space ∷ rest → fields rest ≡ Err (Bad place)
    → IsLongestFront IsFront bytes place

-- then so is the whole line
pub line_longest : {A : Type 0} (IsFront : (front rest : List ℕ) → Type 0) (kind : ℕ) (fields : List ℕ → Result A Flaw)
    (bytes : List ℕ) (place : ℕ) → IsHeaded kind IsFront → ReadsToLongest IsFront kind fields bytes
    → read_behind kind fields bytes ≡ Err (Bad place) → IsLongestFront IsFront bytes place
line_longest {A} IsFront kind fields [] place headed behind e =
    subst (IsLongestFront IsFront []) (place_of_bad A 0 place e) (leaves_nothing IsFront [] (headed.nothing []))
line_longest {A} IsFront kind fields (first ∷ []) place headed behind e =
    elim (first == kind) as (λ b. (first == kind) ≡ b → bad A (cond b 1 0) ≡ bad A place → IsLongestFront IsFront (first ∷ []) place) [
      | true ↦ λ t f.
          rw (eqb-true first kind t) (subst (IsLongestFront IsFront (kind ∷ [])) (place_of_bad A 1 place f)
          (leaves_nothing IsFront (kind ∷ []) (headed.letter [])))
      | false ↦ λ t f.
          subst (IsLongestFront IsFront (first ∷ [])) (place_of_bad A 0 place f) (other_letter IsFront kind first [] headed t)
    ] refl e
line_longest {A} IsFront kind fields (first ∷ gap ∷ rest) place headed behind e =
    elim (first == kind) as (λ b. (first == kind) ≡ b
    → cond (not b) (Err (Bad 0)) (cond (not (gap == space)) (Err (Bad 1)) (fields rest)) ≡ Err (Bad place)
    → IsLongestFront IsFront (first ∷ gap ∷ rest) place) [
      | true ↦ λ t. gap_decides (eqb-true first kind t)
      | false ↦ λ t f.
          subst (IsLongestFront IsFront (first ∷ gap ∷ rest)) (place_of_bad A 0 place f)
          (other_letter IsFront kind first (gap ∷ rest) headed t)
    ] refl e
  where
    gap_decides : first ≡ kind → cond (not (gap == space)) (Err (Bad 1)) (fields rest) ≡ Err (Bad place)
        → IsLongestFront IsFront (first ∷ gap ∷ rest) place
    gap_decides is =
        elim (gap == space) as (λ b. (gap == space) ≡ b → cond (not b) (Err (Bad 1)) (fields rest) ≡ Err (Bad place)
        → IsLongestFront IsFront (first ∷ gap ∷ rest) place) [
          | true ↦ λ t f. behind rest place (ap (λ (x : ℕ). x ∷ gap ∷ rest) is ∙ ap (λ (x : ℕ). kind ∷ x ∷ rest) (eqb-true gap space t)) f
          | false ↦ λ t f.
              rw is (subst (IsLongestFront IsFront (kind ∷ gap ∷ rest)) (place_of_bad A 1 place f)
              (other_gap IsFront kind gap rest headed t))
        ] refl
