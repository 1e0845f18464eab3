-- A printable form, a byte at a time.
use Rattle.std.proofs.Common.{◌≡◌, ℕ, ◌+◌, ◌-◌, ◌<◌, true, false, ◌==◌, List, [], ◌∷◌, ◌++◌, length, drop, Option, Some, None, refl, sym, ap, ap₂, subst, ◌∙◌, append_assoc, arith}
use Rattle.std.proofs.Math.Seq.{take-append_seam, drop-append_seam}
use Rattle.std.proofs.lemmas.Bool.{eqb-true}
use Rattle.std.proofs.lemmas.List.{append-nil, length-append, length-drop, take-append-drop, nil_from_length}
use Rattle.std.proofs.lemmas.List.Elements.{All-append, All-from_recursion, recursion_from_All}
use Rattle.std.proofs.lemmas.Grind.{flat_map-append}
use Rattle.std.specs.List.{AllByRecursion}
use Rattle.key_bytes.specs.Keys.{IsByteString}
use Rattle.model_lines.specs.Printing.{printed_but, printable_but}
use Rattle.dump_reading.specs.Printable.{IsUnfit, IsBadAt}
use Rattle.dump_reading.specs.Spellings.{byte_at, Front, spelled}
use Rattle.dump_reading.proofs.Spellings.{Spells, length-spelling, byte_spells, byte_again}

-- ---- one byte more, or none

pub byte_was : (escaped : Option ℕ) (bytes rest : List ℕ) (byte : ℕ) → spelled byte rest ≡ byte_at escaped bytes
    → (bytes ≡ printed_but escaped byte ++ rest) × (byte < 256)
byte_was escaped bytes rest byte e = subst (Spells escaped bytes) (sym e) (byte_spells escaped bytes)

pub none_spelled : (escaped : Option ℕ) (bytes : List ℕ) → None ≡ byte_at escaped bytes → IsUnfit escaped bytes
none_spelled escaped bytes e =
    λ byte rest h is. let again = byte_again escaped byte rest h in let same = e ∙ ap (byte_at escaped) is ∙ again in absurd cc

printable_but-push : (escaped : Option ℕ) (front : List ℕ) (byte : ℕ)
    → printable_but escaped (front ++ byte ∷ []) ≡ printable_but escaped front ++ printed_but escaped byte
unfolding printable_but
printable_but-push escaped front byte = flat_map-append (printed_but escaped) front (byte ∷ [])
    ∙ ap (λ (x : List ℕ). printable_but escaped front ++ x) (append-nil (printed_but escaped byte))

pub bytes_go_on : (front : List ℕ) (byte : ℕ) → IsByteString front → byte < 256 → IsByteString (front ++ byte ∷ [])
bytes_go_on front byte h k = All-append (λ b. b < 256) front (byte ∷ []) h (All-from_recursion (λ b. b < 256) (byte ∷ []) (k, tt))

-- what was read and what is left are all
pub read_goes_on : (escaped : Option ℕ) (front left rest total : List ℕ) (byte : ℕ) → spelled byte rest ≡ byte_at escaped left
    → printable_but escaped front ++ left ≡ total → printable_but escaped (front ++ byte ∷ []) ++ rest ≡ total
read_goes_on escaped front left rest total byte e so_far =
    ap (λ (x : List ℕ). x ++ rest) (printable_but-push escaped front byte)
    ∙ append_assoc (printable_but escaped front) (printed_but escaped byte) rest
    ∙ ap (λ (x : List ℕ). printable_but escaped front ++ x) (sym (byte_was escaped left rest byte e).0) ∙ so_far

pub less_is_left : (escaped : Option ℕ) (left rest : List ℕ) (byte : ℕ) → spelled byte rest ≡ byte_at escaped left → length rest < length left
less_is_left escaped left rest byte e =
    let lens = ap length (byte_was escaped left rest byte e).0 ∙ length-append (printed_but escaped byte) rest in
    omega (arith, lens, length-spelling escaped byte)

pub some_left : (left : List ℕ) → false ≡ (length left == 0) → 0 < length left
some_left [] e = absurd cc
some_left (byte ∷ rest) e = omega arith

pub stops_at : (escaped : Option ℕ) (front left total : List ℕ) → None ≡ byte_at escaped left → 0 < length left → IsByteString front
    → printable_but escaped front ++ left ≡ total → IsBadAt escaped total (length total - length left)
stops_at escaped front left total e some small so_far =
    let printed = printable_but escaped front in
    let lens : length total ≡ length printed + length left = ap length (sym so_far) ∙ length-append printed left in
    let place : length total - length left ≡ length printed = omega arith in
    record {
      before = front;
      are_bytes = small;
      spelled = rw (place, ← so_far) (take-append_seam printed left);
      inside = omega arith;
      unfit = rw (place, ← so_far, drop-append_seam printed left) (none_spelled escaped left e);
    }

-- ---- what is spelled alike is the same

front_is : (front other : Front) → Some front ≡ Some other → front ≡ other
front_is front other e = cc

same_front : (escaped : Option ℕ) (x y : ℕ) (xs ys : List ℕ) → x < 256 → y < 256
    → printed_but escaped x ++ xs ≡ printed_but escaped y ++ ys → (x ≡ y) × (xs ≡ ys)
same_front escaped x y xs ys h k e =
    let same = front_is (x, xs) (y, ys) (sym (byte_again escaped x xs h) ∙ ap (byte_at escaped) e ∙ byte_again escaped y ys k) in
    (ap (λ (f : Front). f.0) same, ap (λ (f : Front). f.1) same)

not_spelled : (escaped : Option ℕ) (byte : ℕ) (rest : List ℕ) → [] ≡ printed_but escaped byte ++ rest → ⊥
not_spelled escaped byte rest e =
    let lens = ap length e ∙ length-append (printed_but escaped byte) rest in
    omega (arith, lens, length-spelling escaped byte)

-- what is printed alike up to places where no byte is spelled is the same up to there, and behind
same_stop : (escaped : Option ℕ) (front left other right : List ℕ) → AllByRecursion (λ b. b < 256) front → AllByRecursion (λ b. b < 256) other
    → IsUnfit escaped left → IsUnfit escaped right → printable_but escaped front ++ left ≡ printable_but escaped other ++ right
    → (front ≡ other) × (left ≡ right)
unfolding printable_but
same_stop escaped [] left [] right h k unfit stuck e = (refl, e)
same_stop escaped [] left (byte ∷ other) right h k unfit stuck e =
    absurd (unfit byte (printable_but escaped other ++ right) k.0 (e ∙ append_assoc (printed_but escaped byte) (printable_but escaped other) right))
same_stop escaped (byte ∷ front) left [] right h k unfit stuck e =
    absurd (stuck byte (printable_but escaped front ++ left) h.0 (sym e ∙ append_assoc (printed_but escaped byte) (printable_but escaped front) left))
same_stop escaped (byte ∷ front) left (next ∷ other) right h k unfit stuck e =
    let same = same_front escaped byte next (printable_but escaped front ++ left) (printable_but escaped other ++ right) h.0 k.0
    (sym (append_assoc (printed_but escaped byte) (printable_but escaped front) left) ∙ e
    ∙ append_assoc (printed_but escaped next) (printable_but escaped other) right) in
    let later = same_stop escaped front left other right h.1 k.1 unfit stuck same.1 in
    (ap₂ (λ (x : ℕ) (xs : List ℕ). x ∷ xs) same.0 later.0, later.1)

end_is_unfit : (escaped : Option ℕ) → IsUnfit escaped []
end_is_unfit escaped = λ byte rest h e. not_spelled escaped byte rest e

by_recursion : (bytes : List ℕ) → IsByteString bytes → AllByRecursion (λ b. b < 256) bytes
by_recursion bytes h = recursion_from_All (λ b. b < 256) bytes h

pub same_read : (escaped : Option ℕ) (bytes other : List ℕ) → IsByteString bytes → IsByteString other
    → printable_but escaped bytes ≡ printable_but escaped other → bytes ≡ other
same_read escaped bytes other h k e =
    (same_stop escaped bytes [] other [] (by_recursion bytes h) (by_recursion other k) (end_is_unfit escaped) (end_is_unfit escaped)
    (ap (λ (x : List ℕ). x ++ []) e)).0

-- the bytes up to a bad place, and behind it
bad_parts : (escaped : Option ℕ) (bytes : List ℕ) (place : ℕ) (bad : IsBadAt escaped bytes place)
    → bytes ≡ printable_but escaped bad.before ++ drop place bytes
bad_parts escaped bytes place bad = sym (take-append-drop place bytes) ∙ ap (λ (x : List ℕ). x ++ drop place bytes) bad.spelled

pub not_bad : (escaped : Option ℕ) (bytes read : List ℕ) (place : ℕ) → IsBadAt escaped bytes place → IsByteString read
    → bytes ≡ printable_but escaped read → ⊥
not_bad escaped bytes read place bad h e =
    let parts = sym (bad_parts escaped bytes place bad) ∙ e ∙ sym (append-nil (printable_but escaped read)) in
    let none = (same_stop escaped bad.before (drop place bytes) read [] (by_recursion bad.before bad.are_bytes) (by_recursion read h) bad.unfit
    (end_is_unfit escaped) parts).1 in
    let inside = bad.inside in
    omega (arith, ap length none, length-drop place bytes)

-- there is one bad place at most
pub one_place : (escaped : Option ℕ) (bytes : List ℕ) (place other : ℕ) → IsBadAt escaped bytes place → IsBadAt escaped bytes other
    → place ≡ other
one_place escaped bytes place other bad worse =
    let parts = sym (bad_parts escaped bytes place bad) ∙ bad_parts escaped bytes other worse in
    let same = (same_stop escaped bad.before (drop place bytes) worse.before (drop other bytes) (by_recursion bad.before bad.are_bytes)
    (by_recursion worse.before worse.are_bytes) bad.unfit worse.unfit parts).1 in
    let inside = bad.inside in
    let inside_too = worse.inside in
    omega (arith, ap length same, length-drop place bytes, length-drop other bytes)

-- what is read and what is left, at the end
pub all_read : (escaped : Option ℕ) (front left total : List ℕ) → true ≡ (length left == 0)
    → printable_but escaped front ++ left ≡ total → total ≡ printable_but escaped front
all_read escaped front left total e so_far =
    sym so_far ∙ ap (λ (x : List ℕ). printable_but escaped front ++ x) (nil_from_length left (eqb-true (length left) 0 (sym e))) ∙ append-nil (printable_but escaped front)

pub read_of_nothing : (escaped : Option ℕ) (bytes : List ℕ) → printable_but escaped [] ++ bytes ≡ bytes
unfolding printable_but
read_of_nothing escaped bytes = refl
