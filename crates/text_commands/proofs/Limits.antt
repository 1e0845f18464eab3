-- An input that is longer than its limit is refused, and its first bytes past the limit decide how.
use Rattle.std.proofs.Common.{◌≡◌, ℕ, zero, suc, ◌+◌, ◌<◌, ◌≤◌, ◌⊎◌, inl, inr, true, cond, not, ◌&&◌, ltb, nat_lt, nat_le, List, [], ◌∷◌, ◌++◌, length, Result, Ok, Err, refl, sym, ap, subst, ◌∙◌, append_assoc, arith}
use Rattle.std.proofs.lemmas.Bool.{lt-ltb, ltb-false}
use Rattle.std.proofs.lemmas.List.{append-nil, length-append}
use Rattle.model_lines.specs.Reading.{Line, Entry, Fault, TooMany, TooLong, lines_of, size_of, input_limit, line_limit}
use Rattle.model_lines.proofs.Lines.{IsFeedless, whole_first, Begins, first_line_begins, HasFeed, first_feed}
use Rattle.model_lines.proofs.Limits.{Alike}
use Rattle.model_lines.proofs.ReadLines.{guard_ok, neither}
use Rattle.model_events.specs.declared.event.Event.{Event}
use Rattle.model_events.specs.Events as events
use Rattle.model_events.specs.Events.{read_event, read_events, events_of}
use Rattle.event_lines.proofs.EventReading.{within_limit}
use Rattle.instr_grammar.specs.Texts.{instructions_limit}
use Rattle.instr_grammar.specs.Lines as texts
use Rattle.instr_grammar.specs.Lines.{read_line, read_lines, read_on, with_pairs, pairs_of, assembled}

-- ---- any reading, line by line

-- A reading of lines from places on, each with a number and with so many bytes before it. A line past the limit ends it, and it goes
-- on behind a line only within the limit: where readings of what is behind are refused alike, these are.
record IsLimited {P A : Type 0} (number_at bytes_at : P → ℕ) (read : P → List Line → Result A Fault) : Type 0 where
  pub past : (place : P) (bytes : List ℕ) (lines : List Line) → Begins bytes lines → input_limit < bytes_at place + length bytes
      → read place lines ≡ Err (TooMany (number_at place))
  pub later : (place : P) (line : Line) (lines others : List Line)
      → ((next : P) → bytes_at next ≡ bytes_at place + size_of line → bytes_at next ≤ input_limit → Alike (read next lines) (read next others))
      → Alike (read place (line ∷ lines)) (read place (line ∷ others))

module _ {P A : Type 0} (number_at bytes_at : P → ℕ) (read : P → List Line → Result A Fault) (limited : IsLimited number_at bytes_at read) where
  abbrev ReadAlike : P → List ℕ → List ℕ → Type 0
  ReadAlike place front rest = Alike (read place (lines_of front)) (read place (lines_of (front ++ rest)))

  by_feed : (n : ℕ) (place : P) (front rest : List ℕ) → length front < suc n → bytes_at place ≤ input_limit
      → input_limit < bytes_at place + length front → HasFeed front ⊎ IsFeedless front
      → ((next : P) (behind : List ℕ) → length behind < n → bytes_at next ≤ input_limit → input_limit < bytes_at next + length behind
      → ReadAlike next behind rest)
      → ReadAlike place front rest
  by_feed n place front rest short within past (inl h) later =
      let line : Line = record { bytes = h.line; is_whole = true } in
      let lens : length front ≡ size_of line + length h.rest = ap length h.parts ∙ length-append (h.line ++ 10 ∷ []) h.rest
      ∙ ap (λ (k : ℕ). k + length h.rest) (length-append h.line (10 ∷ [])) in
      let here : lines_of front ≡ line ∷ lines_of h.rest = ap lines_of h.parts ∙ whole_first h.line h.rest h.feedless in
      let there : lines_of (front ++ rest) ≡ line ∷ lines_of (h.rest ++ rest) =
      ap (λ (x : List ℕ). lines_of (x ++ rest)) h.parts ∙ ap lines_of (append_assoc (h.line ++ 10 ∷ []) h.rest rest)
      ∙ whole_first h.line (h.rest ++ rest) h.feedless in
      rw (here, there) (limited.later place line (lines_of h.rest) (lines_of (h.rest ++ rest))
      (λ next bytes size. later next h.rest (omega arith) size (omega arith)))
  by_feed n place [] rest short within past (inr h) later = absurd (omega arith)
  by_feed n place (byte ∷ bytes) rest short within past (inr h) later =
      let here = limited.past place (byte ∷ bytes) (lines_of (byte ∷ bytes))
      (subst (λ (x : List ℕ). Begins (byte ∷ bytes) (lines_of x)) (append-nil (byte ∷ bytes)) (first_line_begins byte bytes [] h)) past in
      let there = limited.past place (byte ∷ bytes) (lines_of ((byte ∷ bytes) ++ rest)) (first_line_begins byte bytes rest h) past in
      record { same = there ∙ sym here; refused = rw here refl }

  past_alike : (n : ℕ) (place : P) (front rest : List ℕ) → length front < n → bytes_at place ≤ input_limit
      → input_limit < bytes_at place + length front → ReadAlike place front rest
  past_alike zero place front rest short within past = absurd (omega arith)
  past_alike (suc n) place front rest short within past =
      by_feed n place front rest short within past (first_feed front) (λ next behind a b c. past_alike n next behind rest a b c)

-- ---- events

event_past : (place : events.Place) (bytes : List ℕ) (lines : List Line) → Begins bytes lines → input_limit < place.bytes + length bytes
    → read_events place lines ≡ Err (TooMany place.number)
unfolding read_events read_event
event_past place bytes lines h past =
    let test : ltb input_limit (place.bytes + size_of h.line) ≡ true =
    lt-ltb input_limit (place.bytes + size_of h.line) (omega (arith, h.size)) in
    rw (h.parts, test) refl

event_in_front : (one : Event) (read other : Result (List Event) Fault) → Alike read other
    → Alike (events.joined (Ok one) read) (events.joined (Ok one) other)
event_in_front one (Err fault) other h = record { same = ap (events.joined (Ok one)) h.same; refused = refl }
event_in_front one (Ok found) other h = absurd cc

event_later : (place : events.Place) (line : Line) (lines others : List Line)
    → ((next : events.Place) → next.bytes ≡ place.bytes + size_of line → next.bytes ≤ input_limit → Alike (read_events next lines) (read_events next others))
    → Alike (read_events place (line ∷ lines)) (read_events place (line ∷ others))
unfolding read_events
event_later place line lines others later = by (read_event place line) refl
  where
    by : (first : Result Event Fault) → read_event place line ≡ first
        → Alike (events.joined first (read_events (events.next_place place line) lines)) (events.joined first (read_events (events.next_place place line) others))
    by (Err fault) e = record { same = refl; refused = refl }
    by (Ok one) e =
        event_in_front one (read_events (events.next_place place line) lines) (read_events (events.next_place place line) others)
        (later (events.next_place place line) refl (within_limit place line one e))

pub events_past : (front rest : List ℕ) → input_limit < length front → Alike (events_of front) (events_of (front ++ rest))
unfolding events_of
events_past front rest h =
    past_alike (λ (p : events.Place). p.number) (λ (p : events.Place). p.bytes) read_events (record { past = event_past; later = event_later })
    (suc (length front)) events.start front rest (omega arith) (omega arith) (omega arith)

-- ---- instruction text

text_past : (place : texts.Place) (bytes : List ℕ) (lines : List Line) → Begins bytes lines → input_limit < place.bytes + length bytes
    → read_lines place lines ≡ Err (TooMany place.number)
unfolding read_lines read_line
text_past place bytes lines h past =
    let test : ltb input_limit (place.bytes + size_of h.line) ≡ true =
    lt-ltb input_limit (place.bytes + size_of h.line) (omega (arith, h.size)) in
    rw (h.parts, test) refl

text_within : (place : texts.Place) (line : Line) (said : texts.Said) → read_line place line ≡ Ok said → place.bytes + size_of line ≤ input_limit
unfolding read_line
text_within place line said e =
    let past = nat_lt input_limit (place.bytes + size_of line) in
    let more = not (texts.is_head line.bytes) && nat_le instructions_limit place.instructions in
    let many = guard_ok (texts.is_too_many place line) (TooMany place.number)
    (cond (nat_lt line_limit (length line.bytes)) (Err (TooLong place.number)) (texts.judged place.number (texts.said_at place line))) said e in
    ltb-false input_limit (place.bytes + size_of line) (neither past more many.0).0

next_bytes : (place : texts.Place) (line : Line) (said : texts.Said) → (texts.next_place place line said).bytes ≡ place.bytes + size_of line
next_bytes place line (texts.Begins prefix) = refl
next_bytes place line (texts.Does one) = refl

pairs_in_front : (pairs : List Entry) (read other : Result (List Entry) Fault) → Alike read other
    → Alike (with_pairs pairs read) (with_pairs pairs other)
pairs_in_front pairs (Err fault) other h = record { same = ap (with_pairs pairs) h.same; refused = refl }
pairs_in_front pairs (Ok found) other h = absurd cc

text_later : (place : texts.Place) (line : Line) (lines others : List Line)
    → ((next : texts.Place) → next.bytes ≡ place.bytes + size_of line → next.bytes ≤ input_limit → Alike (read_lines next lines) (read_lines next others))
    → Alike (read_lines place (line ∷ lines)) (read_lines place (line ∷ others))
unfolding read_lines
text_later place line lines others later = by (read_line place line) refl
  where
    by : (first : Result texts.Said Fault) → read_line place line ≡ first
        → Alike (read_on place line (λ next. read_lines next lines) first) (read_on place line (λ next. read_lines next others) first)
    by (Err fault) e = record { same = refl; refused = refl }
    by (Ok said) e =
        let next = texts.next_place place line said in
        let bytes = next_bytes place line said in
        pairs_in_front (pairs_of place said) (read_lines next lines) (read_lines next others)
        (later next bytes (omega (arith, bytes, text_within place line said e)))

pub texts_past : (front rest : List ℕ) → input_limit < length front → Alike (assembled front) (assembled (front ++ rest))
unfolding assembled
texts_past front rest h =
    past_alike (λ (p : texts.Place). p.number) (λ (p : texts.Place). p.bytes) read_lines (record { past = text_past; later = text_later })
    (suc (length front)) texts.start front rest (omega arith) (omega arith) (omega arith)
