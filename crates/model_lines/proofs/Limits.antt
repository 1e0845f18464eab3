-- Lines that pass the limit of an input are refused, and the bytes up to the first one past the limit decide how.
use Rattle.std.proofs.Common.{◌≡◌, ℕ, zero, suc, ◌+◌, ◌<◌, ◌≤◌, true, ltb, ◌⊎◌, inl, inr, List, [], ◌∷◌, ◌++◌, length, Result, Err, refl, sym, ap, subst, ◌∙◌, append_assoc, arith}
use Rattle.std.specs.Prelude.{IsErr}
use Rattle.std.proofs.lemmas.Bool.{lt-ltb}
use Rattle.std.proofs.lemmas.List.{append-nil, length-append}
use Rattle.model_lines.specs.Reading.{Line, Fault, Place, lines_of, size_of, next_place, read_line, read_lines, input_limit, TooMany}
use Rattle.model_lines.proofs.Lines.{IsFeedless, whole_first, Begins, first_line_begins, HasFeed, first_feed}

-- a line past the limit decides
pub past_is_too_many : (place : Place) (bytes : List ℕ) (lines : List Line) → Begins bytes lines → input_limit < place.bytes + length bytes
    → read_lines place lines ≡ Err (TooMany place.number)
unfolding read_lines read_line
past_is_too_many place bytes lines h past =
    let test : ltb input_limit (place.bytes + size_of h.line) ≡ true =
    lt-ltb input_limit (place.bytes + size_of h.line) (omega (arith, h.size)) in
    rw (h.parts, test) refl

-- two readings that are refused alike
pub record Alike {A : Type 0} (read other : Result A Fault) : Type 0 where
  pub same : other ≡ read
  pub refused : IsErr read

-- in each form what is behind a line within the limit decides alike
abbrev pub LaterAlike : {F A : Type 0} → (F → Place → List Line → Result A Fault) → Place → Line → List Line → List Line → Type 0
LaterAlike {F} read place line lines others = place.bytes + size_of line ≤ input_limit → (its_form : F)
    → Alike (read its_form (next_place place line) lines) (read its_form (next_place place line) others)

-- a reading of lines, in some forms, that a line past the limit ends, and that goes on behind a line only within the limit
pub record IsLimited {F A : Type 0} (read : F → Place → List Line → Result A Fault) : Type 0 where
  pub past : (its_form : F) (place : Place) (bytes : List ℕ) (lines : List Line) → Begins bytes lines
      → input_limit < place.bytes + length bytes → read its_form place lines ≡ Err (TooMany place.number)
  pub later : (its_form : F) (place : Place) (line : Line) (lines others : List Line) → LaterAlike read place line lines others
      → Alike (read its_form place (line ∷ lines)) (read its_form place (line ∷ others))

alike_by_feed : {F A : Type 0} (read : F → Place → List Line → Result A Fault) → IsLimited read
    → (n : ℕ) (its_form : F) (place : Place) (front rest : List ℕ) → length front < suc n → place.bytes ≤ input_limit
    → input_limit < place.bytes + length front → HasFeed front ⊎ IsFeedless front
    → ((its_form : F) (next : Place) (later : List ℕ) → length later < n → next.bytes ≤ input_limit
    → input_limit < next.bytes + length later
    → Alike (read its_form next (lines_of later)) (read its_form next (lines_of (later ++ rest))))
    → Alike (read its_form place (lines_of front)) (read its_form place (lines_of (front ++ rest)))
alike_by_feed read limited n its_form place front rest short within past (inl h) later =
    let line : Line = record { bytes = h.line; is_whole = true } in
    let lens : length front ≡ size_of line + length h.rest = ap length h.parts ∙ length-append (h.line ++ 10 ∷ []) h.rest
    ∙ ap (λ (k : ℕ). k + length h.rest) (length-append h.line (10 ∷ [])) in
    let here : lines_of front ≡ line ∷ lines_of h.rest = ap lines_of h.parts ∙ whole_first h.line h.rest h.feedless in
    let there : lines_of (front ++ rest) ≡ line ∷ lines_of (h.rest ++ rest) =
    ap (λ (x : List ℕ). lines_of (x ++ rest)) h.parts ∙ ap lines_of (append_assoc (h.line ++ 10 ∷ []) h.rest rest)
    ∙ whole_first h.line (h.rest ++ rest) h.feedless in
    rw (here, there) (limited.later its_form place line (lines_of h.rest) (lines_of (h.rest ++ rest))
    (λ size next_form. later next_form (next_place place line) h.rest (omega arith) size (omega arith)))
alike_by_feed read limited n its_form place [] rest short within past (inr h) later = absurd (omega arith)
alike_by_feed read limited n its_form place (byte ∷ bytes) rest short within past (inr h) later =
    let here = limited.past its_form place (byte ∷ bytes) (lines_of (byte ∷ bytes))
    (subst (λ (x : List ℕ). Begins (byte ∷ bytes) (lines_of x)) (append-nil (byte ∷ bytes)) (first_line_begins byte bytes [] h)) past in
    let there = limited.past its_form place (byte ∷ bytes) (lines_of ((byte ∷ bytes) ++ rest)) (first_line_begins byte bytes rest h) past in
    record { same = there ∙ sym here; refused = rw here refl }

pub alike_past : {F A : Type 0} (read : F → Place → List Line → Result A Fault) → IsLimited read
    → (n : ℕ) (its_form : F) (place : Place) (front rest : List ℕ) → length front < n → place.bytes ≤ input_limit
    → input_limit < place.bytes + length front
    → Alike (read its_form place (lines_of front)) (read its_form place (lines_of (front ++ rest)))
alike_past read limited zero its_form place front rest short within past = absurd (omega arith)
alike_past read limited (suc n) its_form place front rest short within past =
    alike_by_feed read limited n its_form place front rest short within past (first_feed front)
    (λ next_form next later a b c. alike_past read limited n next_form next later rest a b c)
