-- The printable form, a run or a piece at a time.
use Rattle.std.proofs.Common.{◌≡◌, ℕ, zero, suc, ◌+◌, ◌<◌, Bool, true, false, cond, not, ◌&&◌, ◌==◌, ltb, ◌*◌, List, [], ◌∷◌, ◌++◌, length, take, drop, slice_index_or, ◌-◌, ◌≤◌, refl, sym, ap, subst, ◌∙◌, append_assoc, arith}
use Rattle.std.specs.List.{take_while, prefix_len}
use Rattle.std.proofs.lemmas.List.{append-nil, take_all}
use Rattle.dump_text.specs.Texts.{with_front}
use Rattle.dump_text.proofs.Runs.{after, run_goes_on, run_stops}
use Rattle.model_lines.specs.Printing.{is_plain, backslash, separator}
use Rattle.model_lines.specs.Reading.{Piece, Nothing, Spelled, Separator, Unfit, piece_at, hexadecimal_piece, escaped_piece, digit_of, behind, read_on, ReadText, pieces, text_of, Stop, AtEnd, AtSeparator, AtFault}

-- behind each piece fewer bytes are left than before it, two fewer behind the separator
abbrev pub Shorter : ℕ → Piece → Type 0
Shorter n Nothing = Unit {0}
Shorter n (Spelled byte rest) = length rest < n
Shorter n (Separator rest) = length rest + 1 < n
Shorter n Unfit = Unit {0}

shorter_cond : (n : ℕ) (test : Bool) (p q : Piece) → Shorter n p → Shorter n q → Shorter n (cond test p q)
shorter_cond n true p q h k = h
shorter_cond n false p q h k = k

shorter_hexadecimal : (n : ℕ) (bytes : List ℕ) → length bytes < n → Shorter n (hexadecimal_piece bytes)
shorter_hexadecimal n [] h = tt
shorter_hexadecimal n (high ∷ []) h = tt
shorter_hexadecimal n (high ∷ low ∷ rest) h =
    let byte = 16 * digit_of high + digit_of low in
    shorter_cond n (ltb (digit_of high) 16 && ltb (digit_of low) 16 && not (is_plain byte) && not (byte == backslash))
    (Spelled byte rest) Unfit (omega arith) tt

shorter_escaped : (n : ℕ) (bytes : List ℕ) → length bytes < n → Shorter n (escaped_piece bytes)
shorter_escaped n [] h = tt
shorter_escaped n (byte ∷ rest) h =
    let hexadecimal = cond (byte == 120) (hexadecimal_piece rest) Unfit in
    let separated = cond (byte == 61) (Separator rest) hexadecimal in
    shorter_cond n (byte == backslash) (Spelled backslash rest) separated (omega arith)
    (shorter_cond n (byte == 61) (Separator rest) hexadecimal (omega arith)
    (shorter_cond n (byte == 120) (hexadecimal_piece rest) Unfit (shorter_hexadecimal n rest (omega arith)) tt))

pub piece_shorter : (bytes : List ℕ) → Shorter (length bytes) (piece_at bytes)
unfolding piece_at
piece_shorter [] = tt
piece_shorter (byte ∷ rest) =
    let escaped = cond (byte == backslash) (escaped_piece rest) Unfit in
    shorter_cond (suc (length rest)) (is_plain byte) (Spelled byte rest) escaped (omega arith)
    (shorter_cond (suc (length rest)) (byte == backslash) (escaped_piece rest) Unfit (shorter_escaped (suc (length rest)) rest (omega arith)) tt)

-- ---- text_of, a piece at a time

-- what is read_on depends on the text behind a spelled byte alone
same_read_on : (bytes : List ℕ) (n : ℕ) (p : Piece) (s t : ReadText) → Shorter n p → (length (behind p) < n → s ≡ t)
    → read_on bytes p s ≡ read_on bytes p t
same_read_on bytes n Nothing s t h e = refl
same_read_on bytes n (Spelled byte rest) s t h e = ap (λ (x : ReadText). read_on bytes (Spelled byte rest) x) (e h)
same_read_on bytes n (Separator rest) s t h e = refl
same_read_on bytes n Unfit s t h e = refl

-- as many pieces as bytes are enough, and more change nothing
pieces_enough : (n m : ℕ) (bytes : List ℕ) → length bytes < n → length bytes < m → pieces n bytes ≡ pieces m bytes
unfolding pieces
pieces_enough zero m bytes h k = absurd (omega arith)
pieces_enough (suc n) zero bytes h k = absurd (omega arith)
pieces_enough (suc n) (suc m) bytes h k =
    same_read_on bytes (length bytes) (piece_at bytes) (pieces n (behind (piece_at bytes))) (pieces m (behind (piece_at bytes)))
    (piece_shorter bytes)
    (λ l. pieces_enough n m (behind (piece_at bytes)) (omega arith) (omega arith))

pub text_read_on : (bytes : List ℕ) → text_of bytes ≡ read_on bytes (piece_at bytes) (text_of (behind (piece_at bytes)))
unfolding text_of pieces
text_read_on bytes =
    let next : length bytes + 1 ≡ suc (length bytes) = omega arith in
    let one : pieces (length bytes + 1) bytes ≡ read_on bytes (piece_at bytes) (pieces (length bytes) (behind (piece_at bytes))) =
    ap (λ (n : ℕ). pieces n bytes) next in
    one ∙ same_read_on bytes (length bytes) (piece_at bytes) (pieces (length bytes) (behind (piece_at bytes)))
    (text_of (behind (piece_at bytes))) (piece_shorter bytes)
    (λ l. pieces_enough (length bytes) (length (behind (piece_at bytes)) + 1) (behind (piece_at bytes)) l (omega arith))

-- what stands at each piece
pub text_spelled : (bytes rest : List ℕ) (byte : ℕ) → piece_at bytes ≡ Spelled byte rest
    → text_of bytes ≡ with_front (byte ∷ []) (text_of rest)
text_spelled bytes rest byte e = text_read_on bytes ∙ ap (λ (p : Piece). read_on bytes p (text_of (behind p))) e

pub text_nothing : (bytes : List ℕ) → piece_at bytes ≡ Nothing → text_of bytes ≡ record { bytes = []; stop = AtEnd; left = [] }
text_nothing bytes e = text_read_on bytes ∙ ap (λ (p : Piece). read_on bytes p (text_of (behind p))) e

pub text_separator : (bytes rest : List ℕ) → piece_at bytes ≡ Separator rest
    → text_of bytes ≡ record { bytes = []; stop = AtSeparator; left = rest }
text_separator bytes rest e = text_read_on bytes ∙ ap (λ (p : Piece). read_on bytes p (text_of (behind p))) e

pub text_unfit : (bytes : List ℕ) → piece_at bytes ≡ Unfit → text_of bytes ≡ record { bytes = []; stop = AtFault; left = bytes }
text_unfit bytes e = text_read_on bytes ∙ ap (λ (p : Piece). read_on bytes p (text_of (behind p))) e

-- ---- runs of plain bytes

plain_text : (byte : ℕ) (rest : List ℕ) → is_plain byte ≡ true → text_of (byte ∷ rest) ≡ with_front (byte ∷ []) (text_of rest)
unfolding piece_at
plain_text byte rest e = text_spelled (byte ∷ rest) rest byte (rw e refl)

run_with : (p : ℕ → Bool) → ((byte : ℕ) (rest : List ℕ) → p byte ≡ true → text_of (byte ∷ rest) ≡ with_front (byte ∷ []) (text_of rest))
    → (bytes : List ℕ) → text_of bytes ≡ with_front (take_while p bytes) (text_of (after p bytes))
run_with p step [] = refl
run_with p step (byte ∷ rest) =
    elim (p byte) as (λ b. p byte ≡ b → text_of (byte ∷ rest) ≡ with_front (take_while p (byte ∷ rest)) (text_of (after p (byte ∷ rest)))) [
      | true ↦ λ e.
          let parts = run_goes_on p byte rest e in
          step byte rest e ∙ ap (with_front (byte ∷ [])) (run_with p step rest) ∙ rw (parts.0, parts.1) refl
      | false ↦ λ e. let parts = run_stops p byte rest e in rw (parts.0, parts.1) refl
    ] refl

pub text_run : (bytes : List ℕ) → text_of bytes ≡ with_front (take_while is_plain bytes) (text_of (after is_plain bytes))
text_run bytes = run_with is_plain plain_text bytes

-- the text of a run and of what stands behind it
pub text_parts : (bytes run left : List ℕ) → run ≡ take_while is_plain bytes → left ≡ after is_plain bytes
    → with_front run (text_of left) ≡ text_of bytes
text_parts bytes run left f g = rw (f, g) (sym (text_run bytes))

-- ---- where reading stops

-- nothing is left only where no byte is
abbrev IsNotNothing : Piece → Type 0
IsNotNothing Nothing = ⊥
IsNotNothing (Spelled byte rest) = Unit {0}
IsNotNothing (Separator rest) = Unit {0}
IsNotNothing Unfit = Unit {0}

not_nothing_cond : (test : Bool) (p q : Piece) → IsNotNothing p → IsNotNothing q → IsNotNothing (cond test p q)
not_nothing_cond true p q h k = h
not_nothing_cond false p q h k = k

not_nothing_hexadecimal : (bytes : List ℕ) → IsNotNothing (hexadecimal_piece bytes)
not_nothing_hexadecimal [] = tt
not_nothing_hexadecimal (high ∷ []) = tt
not_nothing_hexadecimal (high ∷ low ∷ rest) =
    let byte = 16 * digit_of high + digit_of low in
    not_nothing_cond (ltb (digit_of high) 16 && ltb (digit_of low) 16 && not (is_plain byte) && not (byte == backslash))
    (Spelled byte rest) Unfit tt tt

not_nothing_escaped : (bytes : List ℕ) → IsNotNothing (escaped_piece bytes)
not_nothing_escaped [] = tt
not_nothing_escaped (byte ∷ rest) =
    let hexadecimal = cond (byte == 120) (hexadecimal_piece rest) Unfit in
    let separated = cond (byte == 61) (Separator rest) hexadecimal in
    not_nothing_cond (byte == backslash) (Spelled backslash rest) separated tt
    (not_nothing_cond (byte == 61) (Separator rest) hexadecimal tt
    (not_nothing_cond (byte == 120) (hexadecimal_piece rest) Unfit (not_nothing_hexadecimal rest) tt))

pub not_nothing : (byte : ℕ) (rest : List ℕ) → IsNotNothing (piece_at (byte ∷ rest))
unfolding piece_at
not_nothing byte rest =
    let escaped = cond (byte == backslash) (escaped_piece rest) Unfit in
    not_nothing_cond (is_plain byte) (Spelled byte rest) escaped tt
    (not_nothing_cond (byte == backslash) (escaped_piece rest) Unfit (not_nothing_escaped rest) tt)

pub nothing_left : (bytes : List ℕ) → piece_at bytes ≡ Nothing → bytes ≡ []
nothing_left [] e = refl
nothing_left (byte ∷ rest) e = absurd (subst IsNotNothing e (not_nothing byte rest))

-- what was read before a place where no byte is spelled is all
text_done : (front bytes : List ℕ) (stop : Stop) (left : List ℕ) (total : ReadText)
    → text_of bytes ≡ record { bytes = []; stop = stop; left = left } → with_front front (text_of bytes) ≡ total
    → record { bytes = front; stop = stop; left = left } ≡ total
text_done front bytes stop left total e so_far =
    ap (λ (x : List ℕ). record { bytes = x; stop = stop; left = left }) (sym (append-nil front)) ∙ ap (with_front front) (sym e) ∙ so_far

pub done_nothing : (front bytes : List ℕ) (total : ReadText) → Nothing ≡ piece_at bytes → with_front front (text_of bytes) ≡ total
    → record { bytes = front; stop = AtEnd; left = bytes } ≡ total
done_nothing front bytes total e so_far =
    let nothing = nothing_left bytes (sym e) in
    rw nothing (text_done front bytes AtEnd [] total (text_nothing bytes (sym e)) so_far)

pub done_separator : (front bytes rest : List ℕ) (total : ReadText) → Separator rest ≡ piece_at bytes
    → with_front front (text_of bytes) ≡ total → record { bytes = front; stop = AtSeparator; left = rest } ≡ total
done_separator front bytes rest total e so_far = text_done front bytes AtSeparator rest total (text_separator bytes rest (sym e)) so_far

pub done_unfit : (front bytes : List ℕ) (total : ReadText) → Unfit ≡ piece_at bytes → with_front front (text_of bytes) ≡ total
    → record { bytes = front; stop = AtFault; left = bytes } ≡ total
done_unfit front bytes total e so_far = text_done front bytes AtFault bytes total (text_unfit bytes (sym e)) so_far

-- where no byte is left
pub nothing_at : (bytes : List ℕ) → length bytes < 1 → Nothing ≡ piece_at bytes
unfolding piece_at
nothing_at [] h = refl
nothing_at (byte ∷ rest) h = absurd (omega arith)

-- where the separator stands, as a pattern takes the bytes apart
pub separator_at : (bytes : List ℕ) → 2 ≤ length bytes → slice_index_or bytes 0 0 ≡ 92 → slice_index_or bytes 1 0 ≡ 61
    → Separator (take (length bytes - 2) (drop 2 bytes)) ≡ piece_at bytes
unfolding piece_at
separator_at [] h first second = absurd (omega arith)
separator_at (byte ∷ []) h first second = absurd (omega arith)
separator_at (byte ∷ next ∷ rest) h first second =
    let all : length (byte ∷ next ∷ rest) - 2 ≡ length rest = omega arith in
    rw (first, second, all, take_all (length rest) rest (omega arith)) refl

-- one more byte
pub read_one : (front bytes rest : List ℕ) (byte : ℕ) (total : ReadText) → Spelled byte rest ≡ piece_at bytes
    → with_front front (text_of bytes) ≡ total → with_front (front ++ byte ∷ []) (text_of rest) ≡ total
read_one front bytes rest byte total e so_far =
    let joined : (front ++ byte ∷ []) ++ (text_of rest).bytes ≡ front ++ (byte ∷ (text_of rest).bytes) =
    append_assoc front (byte ∷ []) (text_of rest).bytes in
    ap (λ (x : List ℕ). record (text_of rest) { bytes = x }) joined
    ∙ ap (with_front front) (sym (text_spelled bytes rest byte (sym e))) ∙ so_far

-- one more run
pub read_run : (front bytes now : List ℕ) (n : ℕ) (total : ReadText) → now ≡ front ++ take n bytes
    → text_of bytes ≡ with_front (take n bytes) (text_of (drop n bytes))
    → with_front front (text_of bytes) ≡ total → with_front now (text_of (drop n bytes)) ≡ total
read_run front bytes now n total e parts so_far =
    let left = text_of (drop n bytes) in
    let joined : now ++ left.bytes ≡ front ++ (take n bytes ++ left.bytes) =
    ap (λ (x : List ℕ). x ++ left.bytes) e ∙ append_assoc front (take n bytes) left.bytes in
    ap (λ (x : List ℕ). record left { bytes = x }) joined ∙ ap (with_front front) (sym parts) ∙ so_far

pub spelled_within : (bytes rest : List ℕ) (byte : ℕ) → Spelled byte rest ≡ piece_at bytes → length rest < length bytes
spelled_within bytes rest byte e = rw (← e) at (piece_shorter bytes)

pub separator_within : (bytes rest : List ℕ) → Separator rest ≡ piece_at bytes → length rest + 1 < length bytes
separator_within bytes rest e = rw (← e) at (piece_shorter bytes)

pub text_empty : text_of [] ≡ record { bytes = []; stop = AtEnd; left = [] }
unfolding piece_at
text_empty = text_nothing [] refl

pub text_parted : (rest : List ℕ) → text_of (separator ++ rest) ≡ record { bytes = []; stop = AtSeparator; left = rest }
unfolding piece_at
text_parted rest = text_separator (separator ++ rest) rest refl

-- the bytes that a run begins with, and what stands behind them
pub text_front : (n : ℕ) (bytes : List ℕ) → n ≤ prefix_len is_plain bytes → text_of bytes ≡ with_front (take n bytes) (text_of (drop n bytes))
text_front zero bytes h = refl
text_front (suc n) [] h = absurd (omega arith)
text_front (suc n) (byte ∷ rest) h =
    elim (is_plain byte) as (λ b. is_plain byte ≡ b → text_of (byte ∷ rest) ≡ with_front (take (suc n) (byte ∷ rest)) (text_of (drop (suc n) (byte ∷ rest)))) [
      | true ↦ λ e.
          let less : n ≤ prefix_len is_plain rest = let k : suc n ≤ 1 + prefix_len is_plain rest = rw e at h in omega arith in
          plain_text byte rest e ∙ ap (with_front (byte ∷ [])) (text_front n rest less)
      | false ↦ λ e. let k : suc n ≤ 0 = rw e at h in absurd (omega arith)
    ] refl
