-- What stands in a room, and the table of printed forms.
use Rattle.std.proofs.Common.{◌≡◌, ℕ, zero, suc, ◌+◌, ◌<◌, ◌≤◌, Bool, true, false, ◌&&◌, ◌==◌, leb, T, List, [], ◌∷◌, ◌++◌, length, take, drop, get_or, slice_index_or, refl, sym, ap, ap₂, ◌∙◌, append_assoc, arith}
use Rattle.std.proofs.lemmas.Bool.{eqb-true, leb-true}
use Rattle.std.proofs.lemmas.List.{take-append-le, take-take, length-take, length-append, take_all}
use Rattle.std.proofs.lemmas.Simd.{chunk-drop, length-chunk, put_chunk_is}
use lib.Lanes.{chunk, put_chunk}
use Rattle.model_lines.specs.Printing.{printed, printable}
use Rattle.dump_text.specs.declared.room.TheConstants.{FORMS, LENGTHS}
use Rattle.dump_text.proofs.Runs.{printable-cons}
use Rattle.dump_text.proofs.Scanned.{holds_at, true_is, both}

-- ---- bytes that are put at a place

pub placed : (a n : ℕ) (room ys zs : List ℕ) → a ≤ length room → n ≤ length ys
    → take (a + n) (take a room ++ (ys ++ zs)) ≡ take a room ++ take n ys
placed zero n room ys zs h k = let same_count : zero + n ≡ n = omega arith in rw same_count (take-append-le n ys zs k)
placed (suc a) n [] ys zs h k = absurd (omega arith)
placed (suc a) n (byte ∷ room) ys zs h k =
    let next : suc a + n ≡ suc (a + n) = omega arith in
    rw next (ap (λ (x : List ℕ). byte ∷ x) (placed a n room ys zs (omega arith) k))

-- the first bytes of a vector that was put
pub vector_placed : (a n : ℕ) (room ys : List ℕ) → a + length ys ≤ length room → n ≤ length ys
    → take (a + n) (put_chunk a room ys) ≡ take a room ++ take n ys
vector_placed a n room ys h k = ap (take (a + n)) (put_chunk_is a room ys h) ∙ placed a n room ys _ (omega arith) k

-- the first bytes of the first some
pub front_placed : (a n m : ℕ) (room bytes : List ℕ) → a + length bytes ≤ length room → n ≤ m → m ≤ length bytes
    → take (a + n) (put_chunk a room (chunk 0 m bytes)) ≡ take a room ++ take n bytes
front_placed a n m room bytes h k l =
    let long : length (chunk 0 m bytes) ≡ m = length-chunk 0 m bytes (omega arith) in
    let same_front : take n (chunk 0 m bytes) ≡ take n bytes =
    sym (ap (take n) (chunk-drop 0 m bytes) ∙ take-append-le n (chunk 0 m bytes) _ (omega (arith, long))) in
    vector_placed a n room (chunk 0 m bytes) (omega (arith, long)) (omega (arith, long)) ∙ ap (λ (x : List ℕ). take a room ++ x) same_front

-- what was held stands in front of a room that was added
pub held : (old fill : List ℕ) (n end : ℕ) → n ≡ length old → n ≤ end → take n (take end old ++ fill) ≡ old
held old fill n end e h =
    take-append-le n (take end old) fill (omega (arith, length-take end old, e)) ∙ take-take n end old h ∙ take_all n old (omega (arith, e))

-- what was put into a room that was added, which is cut off behind it
pub added_behind : (old fill all room text behind : List ℕ) (n end added : ℕ) → all ≡ take end old ++ fill → n ≡ length old → n ≤ end
    → added ≤ length room → take added room ≡ text
    → take (n + added) (take n all ++ (room ++ behind)) ≡ old ++ text
added_behind old fill all room text behind n end added e long h within front =
    let fits : n ≤ length all = omega (arith, ap length e, length-append (take end old) fill, length-take end old, long, h) in
    placed n added all room behind fits within ∙ ap₂ (λ x y. x ++ y) (ap (take n) e ∙ held old fill n end long h) front

-- ---- printed bytes at the front

-- what stands behind a run is printed behind it
pub printed_behind : (to bytes now : List ℕ) (n m : ℕ) → n ≡ m → now ≡ to ++ take n bytes
    → printable bytes ≡ take n bytes ++ printable (drop n bytes)
    → now ++ printable (drop m bytes) ≡ to ++ printable bytes
printed_behind to bytes now n m e put parts =
    rw (← e, put, append_assoc) (ap (λ (x : List ℕ). to ++ x) (sym parts))

drop_at : (n : ℕ) (bytes : List ℕ) → n < length bytes → drop n bytes ≡ slice_index_or bytes n 0 ∷ drop (suc n) bytes
drop_at n [] h = absurd (omega arith)
drop_at zero (byte ∷ rest) h = refl
drop_at (suc n) (byte ∷ rest) h = drop_at n rest (omega arith)

-- and what stands behind a run and the byte behind it
pub printed_next : (to bytes now later : List ℕ) (n : ℕ) → n < length bytes → now ≡ to ++ take n bytes
    → later ≡ now ++ printed (slice_index_or bytes n 0)
    → printable bytes ≡ take n bytes ++ printable (drop n bytes)
    → later ++ printable (drop (n + 1) bytes) ≡ to ++ printable bytes
printed_next to bytes now later n h put form parts =
    let next : n + 1 ≡ suc n = omega arith in
    let byte = slice_index_or bytes n 0 in
    let behind : printed byte ++ printable (drop (suc n) bytes) ≡ printable (drop n bytes) =
    sym (printable-cons byte (drop (suc n) bytes)) ∙ ap printable (sym (drop_at n bytes h)) in
    rw (next, form, append_assoc now (printed byte) (printable (drop (suc n) bytes)), behind) (printed_behind to bytes now n n refl put parts)

-- ---- the table

-- two lists are the same
abbrev same : List ℕ → List ℕ → Bool
same [] [] = true
same [] (y ∷ ys) = false
same (x ∷ xs) [] = false
same (x ∷ xs) (y ∷ ys) = (x == y) && same xs ys

same_is : (xs ys : List ℕ) → T (same xs ys) → xs ≡ ys
same_is [] [] h = refl
same_is [] (y ∷ ys) h = absurd h
same_is (x ∷ xs) [] h = absurd h
same_is (x ∷ xs) (y ∷ ys) h =
    let parts = both (x == y) (same xs ys) h in
    ap₂ (λ a b. a ∷ b) (eqb-true x y (true_is _ parts.0)) (same_is xs ys parts.1)

pub form_is : (byte : ℕ) → byte < 256 → take (get_or LENGTHS byte 0) (get_or FORMS byte []) ≡ printed byte
form_is byte h = same_is _ _ (holds_at (λ x. same (take (get_or LENGTHS x 0) (get_or FORMS x [])) (printed x)) 256 tt byte h)

pub form_long : (byte : ℕ) → byte < 256 → length (get_or FORMS byte []) ≡ 4
form_long byte h = eqb-true _ _ (true_is _ (holds_at (λ x. length (get_or FORMS x []) == 4) 256 tt byte h))

pub form_short : (byte : ℕ) → byte < 256 → get_or LENGTHS byte 0 ≤ 4
form_short byte h = leb-true _ _ (true_is _ (holds_at (λ x. leb (get_or LENGTHS x 0) 4) 256 tt byte h))
