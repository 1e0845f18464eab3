-- Runs of bytes that pass a test, and how they are printed.
use Rattle.std.proofs.Common.{◌≡◌, ℕ, zero, suc, ◌+◌, ◌-◌, ◌<◌, ◌≤◌, Bool, true, false, List, [], ◌∷◌, ◌++◌, length, take, drop, slice_index_or, refl, sym, ap, ◌∙◌, append_assoc, arith}
use Rattle.std.specs.List.{prefix_len, take_while}
use Rattle.std.proofs.lemmas.List.{append-nil}
use Rattle.std.proofs.lemmas.Slice.{first_rest}
use Rattle.model_lines.specs.Printing.{is_plain, printed, printable}

-- what is left behind the bytes at the front that pass a test
abbrev pub after : (ℕ → Bool) → List ℕ → List ℕ
after p bytes = drop (prefix_len p bytes) bytes

pub run_goes_on : (p : ℕ → Bool) (byte : ℕ) (rest : List ℕ) → p byte ≡ true
    → (take_while p (byte ∷ rest) ≡ byte ∷ take_while p rest) × (after p (byte ∷ rest) ≡ after p rest)
run_goes_on p byte rest e =
    let next : 1 + prefix_len p rest ≡ suc (prefix_len p rest) = omega arith in
    (rw (e, next) refl, rw (e, next) refl)

pub run_stops : (p : ℕ → Bool) (byte : ℕ) (rest : List ℕ) → p byte ≡ false
    → (take_while p (byte ∷ rest) ≡ []) × (after p (byte ∷ rest) ≡ byte ∷ rest)
run_stops p byte rest e = (rw e refl, rw e refl)

-- ---- printing

-- where what passes is printed as itself
printed_run : (p : ℕ → Bool) → ((byte : ℕ) → p byte ≡ true → printed byte ≡ byte ∷ []) → (bytes : List ℕ)
    → printable bytes ≡ take_while p bytes ++ printable (after p bytes)
unfolding printable
printed_run p h [] = refl
printed_run p h (byte ∷ rest) =
    elim (p byte) as (λ b. p byte ≡ b → printable (byte ∷ rest) ≡ take_while p (byte ∷ rest) ++ printable (after p (byte ∷ rest))) [
      | true ↦ λ e. let parts = run_goes_on p byte rest e in ap (λ (x : List ℕ). x ++ printable rest) (h byte e) ∙ ap (λ (x : List ℕ). byte ∷ x) (printed_run p h rest) ∙ rw (parts.0, parts.1) refl
      | false ↦ λ e. let parts = run_stops p byte rest e in rw (parts.0, parts.1) refl
    ] refl

pub printable_run : (bytes : List ℕ) → printable bytes ≡ take_while is_plain bytes ++ printable (after is_plain bytes)
printable_run bytes = printed_run is_plain (λ byte e. rw e refl) bytes

pub parts_printed : (to bytes run left : List ℕ) → run ≡ take_while is_plain bytes → left ≡ after is_plain bytes
    → (to ++ run) ++ printable left ≡ to ++ printable bytes
parts_printed to bytes run left f g = rw (f, g, append_assoc, ← printable_run bytes) refl

-- a list that isn't empty, as a pattern takes it apart
taken_apart : (left : List ℕ) → 1 ≤ length left → left ≡ slice_index_or left 0 0 ∷ take (length left - 1) (drop 1 left)
taken_apart left h = first_rest left 0 h

pub printable-cons : (byte : ℕ) (rest : List ℕ) → printable (byte ∷ rest) ≡ printed byte ++ printable rest
unfolding printable
printable-cons byte rest = refl

-- the first byte is printed before the others
pub print_first : (to left total : List ℕ) (byte : ℕ) → 1 ≤ length left → slice_index_or left 0 0 ≡ byte → to ++ printable left ≡ total
    → to ++ (printed byte ++ printable (take (length left - 1) (drop 1 left))) ≡ total
print_first to left total byte h e so_far =
    let rest = take (length left - 1) (drop 1 left) in
    let whole : printable left ≡ printed byte ++ printable rest =
    ap printable (taken_apart left h) ∙ printable-cons (slice_index_or left 0 0) rest ∙ ap (λ (x : ℕ). printed x ++ printable rest) e in
    ap (λ (x : List ℕ). to ++ x) (sym whole) ∙ so_far

-- nothing is left to print
pub print_done : (to left total : List ℕ) → length left < 1 → to ++ printable left ≡ total → to ≡ total
unfolding printable
print_done to [] total h so_far = sym (append-nil to) ∙ so_far
print_done to (byte ∷ rest) total h so_far = absurd (omega arith)

-- the bytes that a run begins with, and what stands behind them
pub printable_front : (n : ℕ) (bytes : List ℕ) → n ≤ prefix_len is_plain bytes → printable bytes ≡ take n bytes ++ printable (drop n bytes)
printable_front zero bytes h = refl
printable_front (suc n) [] h = absurd (omega arith)
printable_front (suc n) (byte ∷ rest) h =
    elim (is_plain byte) as (λ b. is_plain byte ≡ b → printable (byte ∷ rest) ≡ take (suc n) (byte ∷ rest) ++ printable (drop (suc n) (byte ∷ rest))) [
      | true ↦ λ e.
          let less : n ≤ prefix_len is_plain rest = let k : suc n ≤ 1 + prefix_len is_plain rest = rw e at h in omega arith in
          let itself : printed byte ≡ byte ∷ [] = rw e refl in
          printable-cons byte rest ∙ ap (λ (x : List ℕ). x ++ printable rest) itself
          ∙ ap (λ (x : List ℕ). byte ∷ x) (printable_front n rest less)
      | false ↦ λ e. let k : suc n ≤ 0 = rw e at h in absurd (omega arith)
    ] refl
