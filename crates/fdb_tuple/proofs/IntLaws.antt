-- An integer is read exactly where its spelling stands, and refused exactly where it is faulty.
use Rattle.std.proofs.Common.{◌≡◌, ℕ, zero, suc, ◌+◌, ◌-◌, ◌^◌, ◌<◌, ◌≤◌, Bool, true, false, ltb, cond, List, [], ◌∷◌, ◌++◌, length, take, drop, reverse, Some, Result, Ok, Err, ℤ, pos, negsuc, unsigned_abs, refl, sym, ap, subst, ◌∙◌, arith, inl, inr, length-append}
use Rattle.std.specs.Int.{is_negative}
use Rattle.std.proofs.Math.Nat.{pow-suc, pow-le-pow_right}
use Rattle.std.proofs.lemmas.Bool.{eqb-false, ne_eqb, ltb-true, ltb-false, le-ltb, lt-ltb, le-leb, lt-leb, cases_lt, cond_both}
use Rattle.std.proofs.lemmas.List.{reverse-append, reverse-reverse, length-reverse, length-map, length-take, take-append-drop, take_at, drop_at, append_assoc}
use Rattle.fdb_tuple.specs.declared.fault.UnpackFault.{UnpackFault}
use Rattle.fdb_tuple.specs.declared.fault.UnpackFault.TheVariants as fault
use Rattle.fdb_tuple.specs.declared.tuple.Elem.{Elem}
use Rattle.fdb_tuple.specs.declared.tuple.Elem.TheVariants as elem
use Rattle.fdb_tuple.specs.declared.code.Kind.TheVariants as kind
use Rattle.fdb_tuple.specs.declared.piece.Piece.TheVariants as piece
use Rattle.fdb_tuple.specs.Tuples.{Int, IsScalar, greatest_magnitude}
use Rattle.fdb_tuple.specs.Spelling.{low_first, least_bytes, signed_byte, with_sign, int_code, signed_spelled, int_spelled}
use Rattle.fdb_tuple.specs.Kinds.{kind_of}
use Rattle.key_bytes.specs.Numbers.{number_low}
use Rattle.fdb_tuple.specs.Reading.{number_high, int_of, int_by, leads_with_zero, short_at, sized_at, long_at, held, coded_at}
use Rattle.fdb_tuple.specs.Stops.{IsFaultyKind, IsFaultyLong}
use Rattle.fdb_tuple.proofs.ByteLists.{AreBytes, AreBytes-take, AreBytes-reverse, AreBytes-with_sign, number_high_below}
use Rattle.fdb_tuple.proofs.Codes.{negative_kind, positive_kind}
use Rattle.fdb_tuple.proofs.Digits.{IsLeast, IsLeast-low_first, low_first-number_low, number_low-low_first, length-low_first_le, length-low_first_ge}
use Rattle.fdb_tuple.proofs.Taken.{Taken, ElementIs}

-- ---- bytes with no zero in front are the least bytes of their number

IsLeast-push : (bytes : List ℕ) (b : ℕ) → AreBytes bytes → 0 < b → b < 256 → IsLeast (bytes ++ b ∷ [])
IsLeast-push [] b are low high = (low, high)
IsLeast-push (c ∷ []) b are low high = (are.0, (low, high))
IsLeast-push (c ∷ d ∷ bytes) b are low high = (are.0, IsLeast-push (d ∷ bytes) b are.1 low high)

above_zero : (b : ℕ) → (b ≡ 0 → ⊥) → 0 < b
above_zero zero h = absurd (h refl)
above_zero (suc b) h = omega arith

IsLeast-reverse : (bytes : List ℕ) → AreBytes bytes → leads_with_zero bytes ≡ false → IsLeast (reverse bytes)
IsLeast-reverse [] are leads = tt
IsLeast-reverse (b ∷ bytes) are leads =
    let high : 0 < b = above_zero b (eqb-false b 0 leads) in
    subst IsLeast (sym (reverse-append (b ∷ []) bytes)) (IsLeast-push (reverse bytes) b (AreBytes-reverse bytes are.1) high are.0)

least_again : (bytes : List ℕ) → length bytes ≤ 16 → AreBytes bytes → leads_with_zero bytes ≡ false
    → least_bytes (number_high bytes) ≡ bytes
unfolding least_bytes
least_again bytes le are leads =
    ap reverse (low_first-number_low 16 (reverse bytes) (omega (arith, length-reverse bytes)) (IsLeast-reverse bytes are leads))
    ∙ reverse-reverse bytes

number_low_ge : (k : ℕ) (bytes : List ℕ) → IsLeast bytes → length bytes ≡ suc k → 256 ^ k ≤ number_low bytes
unfolding number_low
number_low_ge k [] least e = absurd (omega arith)
number_low_ge zero (b ∷ []) least e = omega (arith, least.0)
number_low_ge zero (b ∷ c ∷ bytes) least e = absurd (omega arith)
number_low_ge (suc k) (b ∷ []) least e = absurd (omega arith)
number_low_ge (suc k) (b ∷ c ∷ bytes) least e = omega (arith, number_low_ge k (c ∷ bytes) least.1 (omega arith), pow-suc 256 k)

-- no more bytes than those of the greatest number
few_digits : (most size : ℕ) (bytes : List ℕ) → length bytes ≡ size → AreBytes bytes → leads_with_zero bytes ≡ false
    → number_high bytes < 256 ^ most → size ≤ most
few_digits most zero bytes e are leads lt = omega arith
few_digits most (suc k) bytes e are leads lt =
    let least : 256 ^ k ≤ number_high bytes = number_low_ge k (reverse bytes) (IsLeast-reverse bytes are leads) (omega (arith, length-reverse bytes)) in
    elim (cases_lt k most) [
      | inl below ↦ below
      | inr above ↦ absurd (let power : 256 ^ most ≤ 256 ^ k = pow-le-pow_right (omega arith) above in omega arith)
    ]

-- ---- the least bytes of a number

front_push : (bytes : List ℕ) (b : ℕ) (whole : List ℕ) → 0 < length bytes → leads_with_zero bytes ≡ false → whole ≡ bytes ++ b ∷ []
    → leads_with_zero whole ≡ false
front_push [] b whole some leads e = absurd (omega arith)
front_push (c ∷ bytes) b whole some leads e = rw e leads

last_not_zero : (bytes : List ℕ) → IsLeast bytes → leads_with_zero (reverse bytes) ≡ false
last_not_zero [] least = refl
last_not_zero (b ∷ []) least = ne_eqb b 0 (λ e. omega (arith, least.0))
last_not_zero (b ∷ c ∷ bytes) least =
    front_push (reverse (c ∷ bytes)) b (reverse (b ∷ c ∷ bytes)) (omega (arith, length-reverse (c ∷ bytes))) (last_not_zero (c ∷ bytes) least.1) (reverse-append (b ∷ []) (c ∷ bytes))

least_leads : (n : ℕ) → n < 256 ^ 16 → leads_with_zero (least_bytes n) ≡ false
unfolding least_bytes
least_leads n lt = last_not_zero (low_first 16 n) (IsLeast-low_first 16 n lt)

number_of_least : (n : ℕ) → n < 256 ^ 16 → number_high (least_bytes n) ≡ n
unfolding least_bytes
number_of_least n lt = ap number_low (reverse-reverse (low_first 16 n)) ∙ number_low-low_first 16 n lt

least_are_bytes : (bytes : List ℕ) → IsLeast bytes → AreBytes bytes
least_are_bytes [] least = tt
least_are_bytes (b ∷ []) least = (least.1, tt)
least_are_bytes (b ∷ c ∷ bytes) least = (least.0, least_are_bytes (c ∷ bytes) least.1)

least_are : (n : ℕ) → n < 256 ^ 16 → AreBytes (least_bytes n)
unfolding least_bytes
least_are n lt = AreBytes-reverse (low_first 16 n) (least_are_bytes (low_first 16 n) (IsLeast-low_first 16 n lt))

few_bytes : (n : ℕ) → n < 256 ^ 16 → length (least_bytes n) ≤ 16
unfolding least_bytes
few_bytes n lt = omega (arith, length-reverse (low_first 16 n), length-low_first_le 16 16 n lt)

some_byte : (n : ℕ) → 0 < n → 0 < length (least_bytes n)
unfolding least_bytes
some_byte n lt = omega (arith, length-reverse (low_first 16 n), length-low_first_ge 16 0 n (omega arith) lt)

has_digit : (bytes : List ℕ) → 0 < length bytes → length bytes ≤ 16 → AreBytes bytes → leads_with_zero bytes ≡ false → 0 < number_high bytes
unfolding least_bytes
has_digit bytes some le are leads =
    let same = least_again bytes le are leads in
    above_zero (number_high bytes) (λ z. omega (arith, ap (λ (n : ℕ). length (least_bytes n)) z, ap length same, length-low_first_le 16 0 0 (omega arith), length-reverse (low_first 16 0)))

-- ---- signs

signed_byte-twice : (negative : Bool) (b : ℕ) → b < 256 → signed_byte negative (signed_byte negative b) ≡ b
signed_byte-twice false b lt = refl
signed_byte-twice true b lt = omega arith

with_sign-twice : (negative : Bool) (bytes : List ℕ) → AreBytes bytes → with_sign negative (with_sign negative bytes) ≡ bytes
with_sign-twice negative [] are = refl
with_sign-twice negative (b ∷ bytes) are = rw (signed_byte-twice negative b are.0) (ap (λ (bs : List ℕ). b ∷ bs) (with_sign-twice negative bytes are.1))

of_number : (z : ℤ) → int_of (is_negative z) (unsigned_abs z) ≡ z
of_number (pos n) = rw (le-ltb n 0 (omega arith)) refl
of_number (negsuc n) = refl

sign_of : (negative : Bool) (n : ℕ) → (negative ≡ true → 0 < n)
    → (is_negative (int_of negative n) ≡ negative) × (unsigned_abs (int_of negative n) ≡ n)
sign_of false n h = (le-ltb n 0 (omega arith), refl)
sign_of true zero h = absurd (omega (arith, h refl))
sign_of true (suc n) h = (refl, refl)

positive_abs : (z : ℤ) → is_negative z ≡ true → 0 < unsigned_abs z
positive_abs (pos n) e = absurd (omega (arith, ltb-true n 0 e))
positive_abs (negsuc n) e = omega arith

greatest_below : (negative : Bool) → greatest_magnitude negative < 256 ^ 16
greatest_below false = omega arith
greatest_below true = omega arith

least_greatest : (negative : Bool) → 256 ^ 8 ≤ greatest_magnitude negative
least_greatest false = omega arith
least_greatest true = omega arith

-- ---- codes

-- the code of an integer with at most 8 bytes
abbrev pub code_of : Bool → ℕ → ℕ
code_of false size = 20 + size
code_of true size = 20 - size

-- the code of an integer by the long form
abbrev pub long_code : Bool → ℕ
long_code false = 0x1D
long_code true = 0x0B

int_code-short : (negative : Bool) (size : ℕ) → size ≤ 8 → int_code negative size ≡ code_of negative size ∷ []
int_code-short false size le = rw (le-leb size 8 le) refl
int_code-short true size le = rw (le-leb size 8 le) refl

int_code-long : (negative : Bool) (size : ℕ) → 8 < size → int_code negative size ≡ long_code negative ∷ signed_byte negative size ∷ []
int_code-long false size lt = rw (lt-leb size 8 lt) refl
int_code-long true size lt = rw (lt-leb size 8 lt) refl

kind_of-short : (negative : Bool) (size : ℕ) → size ≤ 8 → (negative ≡ true → 0 < size)
    → kind_of (code_of negative size) ≡ Some (kind.ShortInt negative size)
kind_of-short false size le some = positive_kind (20 + size) (omega arith) (omega arith)
    ∙ ap (λ (n : ℕ). Some (kind.ShortInt false n)) (omega arith)
kind_of-short true size le some = negative_kind (20 - size) (omega arith) (omega (arith, some refl))
    ∙ ap (λ (n : ℕ). Some (kind.ShortInt true n)) (omega arith)

kind_of-long : (negative : Bool) → kind_of (long_code negative) ≡ Some (kind.LongInt negative)
unfolding kind_of
kind_of-long false = refl
kind_of-long true = refl

-- ---- what is read

-- the integer whose magnitude is written by these bytes, in minimal form
record Written (negative : Bool) (front : List ℕ) (z : ℤ) : Type 0 where
  is_scalar : IsScalar (Int z)
  spelled : int_spelled z ≡ int_code negative (length front) ++ front

Written-int_of : (negative : Bool) (front : List ℕ) → AreBytes front → (negative ≡ true → 0 < length front)
    → leads_with_zero (with_sign negative front) ≡ false
    → number_high (with_sign negative front) ≤ greatest_magnitude negative → Written negative front (int_of negative (number_high (with_sign negative front)))
unfolding signed_spelled
Written-int_of negative front are some leads le =
    let digits = with_sign negative front in
    let n = number_high digits in
    let z = int_of negative n in
    let size : length digits ≡ length front = length-map front (signed_byte negative) in
    let are_digits : AreBytes digits = AreBytes-with_sign negative front are in
    let few : length digits ≤ 16 = few_digits 16 (length digits) digits refl are_digits leads (omega (arith, greatest_below negative)) in
    let sign = sign_of negative n (λ e. has_digit digits (omega (arith, some e)) few are_digits leads) in
    let least : least_bytes (unsigned_abs z) ≡ digits = ap least_bytes sign.1 ∙ least_again digits few are_digits leads in
    let one : int_spelled z ≡ signed_spelled negative digits = ap (λ (s : Bool). signed_spelled s (least_bytes (unsigned_abs z))) sign.0 ∙ ap (signed_spelled negative) least in
    let two : signed_spelled negative digits ≡ int_code negative (length front) ++ front = rw (size, with_sign-twice negative front are) refl in
    record { is_scalar = rw (sign.0, sign.1) le; spelled = one ∙ two }

-- an integer after its code, and after its number of bytes if that follows
taken_int : (nested negative : Bool) (front after bytes : List ℕ) (z : ℤ) → Written negative front z
    → bytes ≡ int_code negative (length front) ++ front ++ after → Taken nested bytes (elem.Int z) after
taken_int nested negative front after bytes z is parts = record {
  scalar = Int z;
  element_is = refl;
  is_scalar = is.is_scalar;
  parts = parts ∙ ap (λ (t : List ℕ). t ++ after) (sym is.spelled);
  ends = λ string. absurd string;
}

taken_size : (nested negative : Bool) (size : ℕ) (code rest : List ℕ) → AreBytes rest → (negative ≡ true → 0 < size) → size ≤ length rest
    → leads_with_zero (with_sign negative (take size rest)) ≡ false
    → number_high (with_sign negative (take size rest)) ≤ greatest_magnitude negative → int_code negative size ≡ code
    → Taken nested (code ++ rest) (elem.Int (int_of negative (number_high (with_sign negative (take size rest))))) (drop size rest)
taken_size nested negative size code rest are some there leads le code_is =
    let front = take size rest in
    let len : length front ≡ size = omega (arith, length-take size rest) in
    let is = Written-int_of negative front (AreBytes-take size rest are) (λ e. omega (arith, some e)) leads le in
    let whole : code ++ rest ≡ int_code negative (length front) ++ front ++ drop size rest = rw (len, code_is, append_assoc, take-append-drop) refl in
    taken_int nested negative front (drop size rest) (code ++ rest) (int_of negative (number_high (with_sign negative front))) is whole

pub short_found : (whole place around : ℕ) (nested negative : Bool) (size : ℕ) (rest : List ℕ) → size ≤ 8 → (negative ≡ true → 0 < size)
    → AreBytes rest
    → ElementIs (IsFaultyKind whole place around (Some (kind.ShortInt negative size)) rest) nested (code_of negative size ∷ rest) (short_at whole place negative size rest)
unfolding short_at
short_found whole place around nested negative size rest le some are =
    let front = take size rest in
    let digits = with_sign negative front in
    let is = ElementIs (IsFaultyKind whole place around (Some (kind.ShortInt negative size)) rest) nested (code_of negative size ∷ rest) in
    let few : length digits ≤ 8 = omega (arith, length-map front (signed_byte negative), length-take size rest) in
    let below = number_high_below 8 digits few (AreBytes-with_sign negative front (AreBytes-take size rest are)) in
    let inner = cond (leads_with_zero digits) (Err (fault.NotMinimal place)) (Ok (int_by negative digits (drop size rest))) in
    cond_both (ltb (length rest) size) (Err (fault.Truncated whole)) inner is
    (λ cut. inl (ltb-true _ _ cut, refl))
    (λ there. cond_both (leads_with_zero digits) (Err (fault.NotMinimal place)) (Ok (int_by negative digits (drop size rest))) is
    (λ zero_first. inr ((ltb-false _ _ there, zero_first), refl))
    (λ leads. taken_size nested negative size (code_of negative size ∷ []) rest are some (ltb-false _ _ there) leads (omega (arith, below, least_greatest negative)) (int_code-short negative size le)))

sized_found : (whole place : ℕ) (nested negative : Bool) (size : ℕ) (code rest : List ℕ) → (8 < size → int_code negative size ≡ code)
    → AreBytes rest
    → ElementIs (IsFaultyLong whole place negative size rest) nested (code ++ rest) (sized_at whole place negative size rest)
unfolding sized_at
sized_found whole place nested negative size code rest code_is are =
    let digits = with_sign negative (take size rest) in
    let is = ElementIs (IsFaultyLong whole place negative size rest) nested (code ++ rest) in
    let read = Ok (int_by negative digits (drop size rest)) in
    let sized = cond (ltb (greatest_magnitude negative) (number_high digits)) (Err (fault.TooBig place)) read in
    let led = cond (leads_with_zero digits) (Err (fault.NotMinimal place)) sized in
    cond_both (ltb (length rest) size) (Err (fault.Truncated whole)) (cond (ltb size 9) (Err (fault.NotMinimal place)) led) is
    (λ cut. inl (ltb-true _ _ cut, refl))
    (λ there. cond_both (ltb size 9) (Err (fault.NotMinimal place)) led is
    (λ short. inr (inl (ltb-false _ _ there, ltb-true _ _ short, refl)))
    (λ long. cond_both (leads_with_zero digits) (Err (fault.NotMinimal place)) sized is
    (λ zero_first. inr (inr (inl ((ltb-false _ _ there, zero_first), refl))))
    (λ leads. cond_both (ltb (greatest_magnitude negative) (number_high digits)) (Err (fault.TooBig place)) read is
    (λ big. inr (inr (inr (ltb-false _ _ there, ltb-false _ _ long, leads, ltb-true _ _ big, refl))))
    (λ fits. taken_size nested negative size code rest are (λ e. omega (arith, ltb-false size 9 long)) (ltb-false _ _ there) leads (ltb-false _ _ fits) (code_is (ltb-false _ _ long))))))

pub long_found : (whole place around : ℕ) (nested negative : Bool) (rest : List ℕ) → AreBytes rest
    → ElementIs (IsFaultyKind whole place around (Some (kind.LongInt negative)) rest) nested (long_code negative ∷ rest) (long_at whole place negative rest)
long_found whole place around nested negative [] are = refl
long_found whole place around nested negative (b ∷ rest) are =
    let size = signed_byte negative b in
    sized_found whole place nested negative size (long_code negative ∷ b ∷ []) rest (λ long. int_code-long negative size long ∙ rw (signed_byte-twice negative b are.0) refl) are.1

-- ---- what is spelled is read again

short_again : (whole place : ℕ) (negative : Bool) (digits rest : List ℕ) → AreBytes digits → leads_with_zero digits ≡ false
    → short_at whole place negative (length digits) (with_sign negative digits ++ rest) ≡ Ok (elem.Int (int_of negative (number_high digits)), rest)
unfolding short_at
short_again whole place negative digits rest are leads =
    let front = with_sign negative digits in
    let len : length front ≡ length digits = length-map digits (signed_byte negative) in
    let there : ltb (length (front ++ rest)) (length digits) ≡ false = le-ltb _ _ (omega (arith, length-append front rest, len)) in
    rw (there, take_at front rest (length digits) len, drop_at front rest (length digits) len, with_sign-twice negative digits are, leads) refl

sized_again : (whole place : ℕ) (negative : Bool) (digits rest : List ℕ) → AreBytes digits → leads_with_zero digits ≡ false
    → 8 < length digits → number_high digits ≤ greatest_magnitude negative
    → sized_at whole place negative (length digits) (with_sign negative digits ++ rest) ≡ Ok (elem.Int (int_of negative (number_high digits)), rest)
unfolding sized_at
sized_again whole place negative digits rest are leads long le =
    let front = with_sign negative digits in
    let len : length front ≡ length digits = length-map digits (signed_byte negative) in
    let there : ltb (length (front ++ rest)) (length digits) ≡ false = le-ltb _ _ (omega (arith, length-append front rest, len)) in
    rw (there, take_at front rest (length digits) len, drop_at front rest (length digits) len, with_sign-twice negative digits are, le-ltb (length digits) 9 long, leads, le-ltb (greatest_magnitude negative) (number_high digits) le) refl

-- the code that an integer is spelled with, and that it is read again
pub record IntAgain (whole around : ℕ) (z : ℤ) (rest : List ℕ) : Type 0 where
  pub code : ℕ
  pub bytes : List ℕ
  pub parts : int_spelled z ++ rest ≡ code ∷ bytes
  pub reads : (place : ℕ) → coded_at whole place around (kind_of code) bytes ≡ Ok (piece.Holds (elem.Int z), rest)

pub int_again : (whole around : ℕ) (z : ℤ) (rest : List ℕ) → IsScalar (Int z) → IntAgain whole around z rest
unfolding signed_spelled coded_at
int_again whole around z rest is =
    let negative = is_negative z in
    let n = unsigned_abs z in
    let digits = least_bytes n in
    let front = with_sign negative digits in
    let below : n < 256 ^ 16 = omega (arith, greatest_below negative) in
    let same : int_of negative (number_high digits) ≡ z = ap (int_of negative) (number_of_least n below) ∙ of_number z in
    let are = least_are n below in
    let leads = least_leads n below in
    let le : number_high digits ≤ greatest_magnitude negative = rw (number_of_least n below) is in
    elim (cases_lt 8 (length digits)) [
      | inl long ↦ record {
        code = long_code negative;
        bytes = signed_byte negative (length digits) ∷ front ++ rest;
        parts = ap (λ (code : List ℕ). code ++ front ++ rest) (int_code-long negative (length digits) long);
        reads = λ place. ap (λ k. coded_at whole place around k (signed_byte negative (length digits) ∷ front ++ rest)) (kind_of-long negative)
            ∙ ap (λ size. held (sized_at whole place negative size (front ++ rest))) (signed_byte-twice negative (length digits) (omega (arith, few_bytes n below)))
            ∙ ap held (sized_again whole place negative digits rest are leads long le)
            ∙ ap (λ (y : ℤ). Ok (piece.Holds (elem.Int y), rest)) same;
      }
      | inr short ↦ record {
        code = code_of negative (length digits);
        bytes = front ++ rest;
        parts = ap (λ (code : List ℕ). code ++ front ++ rest) (int_code-short negative (length digits) short);
        reads = λ place. ap (λ k. coded_at whole place around k (front ++ rest)) (kind_of-short negative (length digits) short (λ e. some_byte n (positive_abs z e)))
            ∙ ap held (short_again whole place negative digits rest are leads)
            ∙ ap (λ (y : ℤ). Ok (piece.Holds (elem.Int y), rest)) same;
      }
    ]

-- ---- what is faulty is refused

pub short_refused : (whole place around : ℕ) (negative : Bool) (size : ℕ) (rest : List ℕ) (f : UnpackFault)
    → IsFaultyKind whole place around (Some (kind.ShortInt negative size)) rest f
    → short_at whole place negative size rest ≡ Err f
unfolding short_at
short_refused whole place around negative size rest f (inl cut) = rw (lt-ltb (length rest) size cut.0, cut.1) refl
short_refused whole place around negative size rest f (inr zero_first) = rw (le-ltb (length rest) size zero_first.0.0, zero_first.0.1, zero_first.1) refl

sized_refused : (whole place : ℕ) (negative : Bool) (size : ℕ) (rest : List ℕ) (f : UnpackFault)
    → IsFaultyLong whole place negative size rest f → sized_at whole place negative size rest ≡ Err f
unfolding sized_at
sized_refused whole place negative size rest f (inl cut) = rw (lt-ltb (length rest) size cut.0, cut.1) refl
sized_refused whole place negative size rest f (inr (inl short)) = rw (le-ltb (length rest) size short.0, lt-ltb size 9 short.1, short.2) refl
sized_refused whole place negative size rest f (inr (inr (inl zero_first))) =
    rw (le-ltb (length rest) size zero_first.0.0, zero_first.0.1, zero_first.1)
    (cond_both (ltb size 9) (Err (fault.NotMinimal place)) (Err (fault.NotMinimal place)) (λ (r : Result (Elem × List ℕ) UnpackFault). r ≡ Err (fault.NotMinimal place)) (λ _. refl) (λ _. refl))
sized_refused whole place negative size rest f (inr (inr (inr big))) =
    rw (le-ltb (length rest) size big.0, le-ltb size 9 big.1, big.2, lt-ltb (greatest_magnitude negative) (number_high (with_sign negative (take size rest))) big.3, big.4) refl

pub long_refused : (whole place around : ℕ) (negative : Bool) (rest : List ℕ) (f : UnpackFault)
    → IsFaultyKind whole place around (Some (kind.LongInt negative)) rest f → long_at whole place negative rest ≡ Err f
long_refused whole place around negative [] f is = rw is refl
long_refused whole place around negative (size ∷ rest) f is = sized_refused whole place negative (signed_byte negative size) rest f is
