-- Lines of events, one at a time.
use Rattle.std.proofs.Common.{◌≡◌, ℕ, ◌+◌, ◌≤◌, cond, ◌&&◌, ◌||◌, nat_lt, nat_le, List, [], ◌∷◌, ◌++◌, length, Result, Ok, Err, refl, sym, ap, ◌∙◌, append_assoc}
use Rattle.std.proofs.lemmas.List.{append-nil, nil_from_length}
use Rattle.std.proofs.lemmas.Bool.{ltb-false}
use Rattle.model_lines.specs.Reading.{Fault, TooMany, TooLong, Line, lines_of, is_pair, size_of, input_limit, pairs_limit, line_limit}
use Rattle.model_lines.proofs.ReadLines.{guard_ok, neither}
use Rattle.dump_text.specs.declared.fault.LineFault.{LineFault}
use Rattle.dump_text.specs.Reading.{Fails}
use Rattle.dump_text.proofs.Inputs.{fault_decides}
use Rattle.model_events.specs.declared.event.Event.{Event}
use Rattle.model_events.specs.Events.{Place, next_place, is_watch, is_too_many, watches_limit, judged, event_at, joined, read_event, read_events}

-- what was read before, and what is still read
abbrev pub before : List Event → Result (List Event) Fault → Result (List Event) Fault
before front (Ok events) = Ok (front ++ events)
before front (Err fault) = Err fault

before_joined : (front : List Event) (event : Event) (rest : Result (List Event) Fault)
    → before front (joined (Ok event) rest) ≡ before (front ++ event ∷ []) rest
before_joined front event (Ok events) = ap (λ (x : List Event). Ok x) (sym (append_assoc front (event ∷ []) events))
before_joined front event (Err fault) = refl

read_goes_on : (front : List Event) (event : Event) (place : Place) (line : Line) (lines : List Line) → read_event place line ≡ Ok event
    → before front (read_events place (line ∷ lines)) ≡ before (front ++ event ∷ []) (read_events (next_place place line) lines)
unfolding read_events
read_goes_on front event place line lines e = rw e (before_joined front event (read_events (next_place place line) lines))

pub before_nothing : (read : Result (List Event) Fault) → before [] read ≡ read
before_nothing (Ok events) = refl
before_nothing (Err fault) = refl

read_is_done : (front : List Event) (place : Place) (total : Result (List Event) Fault) → before front (read_events place []) ≡ total
    → total ≡ Ok front
unfolding read_events
read_is_done front place total so_far = sym so_far ∙ ap (λ (x : List Event). Ok x) (append-nil front)

-- nothing is left to read
pub all_read : (left : List ℕ) (front : List Event) (place : Place) (total : Result (List Event) Fault) → length left ≡ 0
    → before front (read_events place (lines_of left)) ≡ total → total ≡ Ok front
unfolding lines_of
all_read left front place total e so_far =
    let nothing = nil_from_length left e in
    read_is_done front place total (rw nothing at so_far)

-- a line was read, and the others are read behind it
pub line_goes_on : (place after : Place) (left rest : List ℕ) (front : List Event) (event : Event) (line : Line)
    (total : Result (List Event) Fault)
    → lines_of left ≡ line ∷ lines_of rest → read_event place line ≡ Ok event → after ≡ next_place place line
    → before front (read_events place (lines_of left)) ≡ total
    → before (front ++ event ∷ []) (read_events after (lines_of rest)) ≡ total
line_goes_on place after left rest front event line total e read next so_far =
    let one = read_goes_on front event place line (lines_of rest) read in
    rw next (sym one ∙ rw e at so_far)

-- the first fault decides
pub line_ends : (fault : LineFault) (place : Place) (left rest : List ℕ) (front : List Event) (line : Line)
    (total : Result (List Event) Fault)
    → lines_of left ≡ line ∷ lines_of rest → Fails fault (read_event place line) → before front (read_events place (lines_of left)) ≡ total
    → Fails fault total
unfolding read_events
line_ends fault place left rest front line total e h so_far =
    fault_decides fault (λ first. before front (joined first (read_events (next_place place line) (lines_of rest)))) (λ f. refl)
    (read_event place line) total h (rw e at so_far)

-- a line that was read is within the limit of the input
pub within_limit : (place : Place) (line : Line) (event : Event) → read_event place line ≡ Ok event → place.bytes + size_of line ≤ input_limit
unfolding read_event
within_limit place line event e =
    let past = nat_lt input_limit (place.bytes + size_of line) in
    let pairs = is_pair line.bytes && nat_le pairs_limit place.pairs in
    let watches = is_watch line.bytes && nat_le watches_limit place.watches in
    let many = guard_ok (is_too_many place line) (TooMany place.number)
    (cond (nat_lt line_limit (length line.bytes)) (Err (TooLong place.number)) (judged place.number (event_at line line.bytes))) event e in
    ltb-false input_limit (place.bytes + size_of line) (neither past pairs (neither (past || pairs) watches many.0).0).0
