-- Lines of events within their limits are read as these events.
use Rattle.std.proofs.Common.{◌≡◌, ℕ, ◌+◌, ◌*◌, ◌/◌, ◌%◌, ◌<◌, ◌≤◌, Bool, true, false, cond, ◌&&◌, ◌==◌, nat_lt, nat_le, List, [], ◌∷◌, ◌++◌, length, flat_map, count_by, Ok, refl, sym, ap, ◌∙◌, append_assoc, arith}
use Rattle.std.specs.List.{AllByRecursion}
use Rattle.std.proofs.lemmas.Bool.{le-ltb, lt-leb}
use Rattle.std.proofs.lemmas.Bool.Decides.{nat_tests}
use Rattle.std.proofs.lemmas.List.{append-nil, length-append}
use Rattle.std.proofs.lemmas.List.Elements.{recursion_from_All}
use Rattle.std.proofs.lemmas.List.Sums.{sum_by-cons}
use Rattle.key_bytes.specs.Keys.{IsByteString}
use Rattle.key_bytes.specs.Entries.{entry_of}
use Rattle.model_database.specs.declared.TheConstants.{KEY_LIMIT, VALUE_LIMIT}
use Rattle.model_lines.specs.Inputs.{IsSmall}
use Rattle.model_lines.specs.Printing.{separator, printed, printable, hexadecimal_digit, is_plain, backslash, pair_line}
use Rattle.model_lines.specs.Reading.{text_of, AtEnd, AtSeparator, Line, Entry, fields_at, is_pair, lines_of, size_of, input_limit, pairs_limit, line_limit}
use Rattle.model_lines.proofs.Lines.{IsFeedless, IsFeedless-append, whole_first}
use Rattle.dump_text.specs.Texts.{with_front}
use Rattle.dump_text.proofs.Pieces.{text_empty, text_parted}
use Rattle.dump_text.proofs.Printed.{text_printed}
use Rattle.model_events.specs.declared.event.Event.{Event}
use Rattle.model_events.specs.declared.event.Event.TheVariants.{Watch, Clear, Put}
use Rattle.model_events.specs.Events.{Place, start, next_place, is_watch, lone_key, event_at, read_event, read_events, events_of, event_line, is_watch_event, is_put_event, watches_limit, IsSmallKey, IsSmallEvent, AreEventsOf}

-- ---- printable bytes have no line feed, and are at most four times as long

feedless_digit : (n : ℕ) → (hexadecimal_digit n == 10) ≡ false
feedless_digit n = grind (arith, nat_tests)

feedless_plain : (byte : ℕ) → is_plain byte ≡ true → (byte == 10) ≡ false
feedless_plain byte e = grind (arith, nat_tests)

-- the spelling of one byte
record IsSpelling (bytes : List ℕ) : Type 0 where
  pub feedless : IsFeedless bytes
  pub len : length bytes ≤ 4

spelling : (byte : ℕ) → IsSpelling (printed byte)
spelling byte =
    elim (is_plain byte) as (λ p. is_plain byte ≡ p → IsSpelling (printed byte)) [
      | true ↦ λ p. rw p (record { feedless = (feedless_plain byte p, tt); len = omega arith })
      | false ↦ λ p.
          elim (byte == backslash) as (λ b. (byte == backslash) ≡ b → IsSpelling (printed byte)) [
            | true ↦ λ b. rw (p, b) (record { feedless = (refl, (refl, tt)); len = omega arith })
            | false ↦ λ b. rw (p, b) (record {
              feedless = (refl, (refl, (feedless_digit (byte / 16), (feedless_digit (byte % 16), tt))));
              len = omega arith;
            })
          ] refl
    ] refl

feedless : (bytes : List ℕ) → IsFeedless (printable bytes)
unfolding printable
feedless [] = tt
feedless (byte ∷ bytes) = IsFeedless-append (printed byte) (printable bytes) (spelling byte).feedless (feedless bytes)

length-printable : (bytes : List ℕ) → length (printable bytes) ≤ 4 * length bytes
unfolding printable
length-printable [] = omega arith
length-printable (byte ∷ bytes) =
    omega (arith, length-append (printed byte) (printable bytes), (spelling byte).len, length-printable bytes)

-- ---- printable bytes are read as these bytes

text_again : (bytes : List ℕ) → IsByteString bytes → text_of (printable bytes) ≡ record { bytes = bytes; stop = AtEnd; left = [] }
text_again bytes h =
    ap text_of (sym (append-nil (printable bytes))) ∙ text_printed bytes [] (recursion_from_All (λ b. b < 256) bytes h)
    ∙ ap (with_front bytes) text_empty
    ∙ ap (λ (x : List ℕ). record { bytes = x; stop = AtEnd; left = [] }) (append-nil bytes)

parted_again : (key rest : List ℕ) → IsByteString key
    → text_of (printable key ++ separator ++ rest) ≡ record { bytes = key; stop = AtSeparator; left = rest }
parted_again key rest h =
    ap text_of (append_assoc (printable key) separator rest)
    ∙ text_printed key (separator ++ rest) (recursion_from_All (λ b. b < 256) key h) ∙ ap (with_front key) (text_parted rest)
    ∙ ap (λ (x : List ℕ). record { bytes = x; stop = AtSeparator; left = rest }) (append-nil key)

lone_again : (line : Line) (key : List ℕ) → line.is_whole ≡ true → IsSmallKey key → lone_key line (text_of (printable key)) ≡ Ok key
lone_again line key whole small =
    let short : nat_lt KEY_LIMIT (length key) ≡ false = le-ltb KEY_LIMIT (length key) small.len in
    rw (text_again key small.bytes, small.below_top, whole, short) refl

fields_again : (line : Line) (entry : Entry) → line.is_whole ≡ true → IsSmall entry
    → fields_at line (text_of (printable entry.0 ++ separator ++ printable entry.1)) ≡ Ok entry
fields_again line entry whole small =
    let key_test : nat_lt KEY_LIMIT (length entry.0) ≡ false = le-ltb KEY_LIMIT (length entry.0) small.key_len in
    let value_test : nat_lt VALUE_LIMIT (length entry.1) ≡ false = le-ltb VALUE_LIMIT (length entry.1) small.value_len in
    rw (parted_again entry.0 (printable entry.1) small.key, small.below_top, text_again entry.1 small.value, whole, key_test, value_test) refl

-- ---- a line

-- the line of an event, without its line feed
abbrev content : Event → List ℕ
content (Watch key) = 87 ∷ 32 ∷ printable key
content (Clear key) = 67 ∷ 32 ∷ printable key
content (Put pair) = 75 ∷ 32 ∷ (printable pair.key ++ separator ++ printable pair.value)

-- the line of an event as it stands in the rules
abbrev line_for : Event → Line
line_for event = record { bytes = content event; is_whole = true }

event_line-is : (event : Event) → event_line event ≡ content event ++ 10 ∷ []
unfolding event_line pair_line
event_line-is (Watch key) = refl
event_line-is (Clear key) = refl
event_line-is (Put pair) = refl

-- what is true of the line of a small event, whatever the event is
record IsLine (event : Event) : Type 0 where
  pub read : event_at (line_for event) (content event) ≡ Ok event
  pub feedless : IsFeedless (content event)
  pub short : length (content event) ≤ line_limit
  pub pair : is_pair (content event) ≡ is_put_event event
  pub watch : is_watch (content event) ≡ is_watch_event event

is_line : (event : Event) → IsSmallEvent event → IsLine event
unfolding event_at
is_line (Watch key) small = record {
  read = rw (lone_again (line_for (Watch key)) key refl small) refl;
  feedless = (refl, (refl, feedless key));
  short = omega (arith, length-printable key, small.len);
  pair = refl;
  watch = refl;
}
is_line (Clear key) small = record {
  read = rw (lone_again (line_for (Clear key)) key refl small) refl;
  feedless = (refl, (refl, feedless key));
  short = omega (arith, length-printable key, small.len);
  pair = refl;
  watch = refl;
}
is_line (Put pair) small =
    let key = printable pair.key in
    let value = printable pair.value in
    let front = IsFeedless-append key separator (feedless pair.key) (refl, (refl, tt)) in
    record {
      read = rw (fields_again (line_for (Put pair)) (entry_of pair) refl small) refl;
      feedless = (refl, (refl, IsFeedless-append (key ++ separator) value front (feedless pair.value)));
      short = omega (
        arith,
        length-append (key ++ separator) value,
        length-append key separator,
        length-printable pair.key,
        length-printable pair.value,
        small.key_len,
        small.value_len,
      );
      pair = refl;
      watch = refl;
    }

-- ---- the lines

not_past : (test : Bool) (before limit : ℕ) → (test ≡ true → before < limit) → (test && nat_le limit before) ≡ false
not_past true before limit h = lt-leb limit before (h refl)
not_past false before limit h = refl

-- where one line more may stand
record HasRoom (place : Place) (event : Event) : Type 0 where
  pub puts : is_put_event event ≡ true → place.pairs < pairs_limit
  pub watches : is_watch_event event ≡ true → place.watches < watches_limit
  pub size : place.bytes + size_of (line_for event) ≤ input_limit

line_again : (place : Place) (event : Event) → IsSmallEvent event → HasRoom place event → read_event place (line_for event) ≡ Ok event
unfolding read_event
line_again place event small room =
    let is = is_line event small in
    rw (
      le-ltb input_limit (place.bytes + size_of (line_for event)) room.size,
      is.pair,
      not_past (is_put_event event) place.pairs pairs_limit room.puts,
      is.watch,
      not_past (is_watch_event event) place.watches watches_limit room.watches,
      le-ltb line_limit (length (content event)) is.short,
      is.read,
    ) refl

first_again : (event : Event) (rest : List ℕ) → IsSmallEvent event
    → lines_of (event_line event ++ rest) ≡ line_for event ∷ lines_of rest
first_again event rest small = ap (λ (x : List ℕ). lines_of (x ++ rest)) (event_line-is event)
    ∙ whole_first (content event) rest (is_line event small).feedless

count_one : (P : Event → Bool) (event : Event) (events : List Event) → count_by P (event ∷ events) ≡ cond (P event) 1 0 + count_by P events
count_one P event events = sum_by-cons (λ (e : Event). cond (P e) 1 0) event events

-- a count within its limit has room for what is counted
room_for : (test : Bool) (before later limit : ℕ) → before + (cond test 1 0 + later) ≤ limit → test ≡ true → before < limit
room_for true before later limit h e = omega arith
room_for false before later limit h e = absurd cc

-- lines of these events fit behind a place
record Fit (place : Place) (events : List Event) : Type 0 where
  pub small : AllByRecursion IsSmallEvent events
  pub puts : place.pairs + count_by is_put_event events ≤ pairs_limit
  pub watches : place.watches + count_by is_watch_event events ≤ watches_limit
  pub size : place.bytes + length (flat_map event_line events) ≤ input_limit

lines_again : (place : Place) (events : List Event) → Fit place events → read_events place (lines_of (flat_map event_line events)) ≡ Ok events
unfolding read_events lines_of
lines_again place [] fit = refl
lines_again place (event ∷ events) fit =
    let rest = flat_map event_line events in
    let line = line_for event in
    let is = is_line event fit.small.0 in
    let lens : length (event_line event ++ rest) ≡ size_of line + length rest =
    length-append (event_line event) rest
    ∙ ap (λ (n : ℕ). n + length rest) (ap length (event_line-is event) ∙ length-append (content event) (10 ∷ [])) in
    let puts : place.pairs + (cond (is_put_event event) 1 0 + count_by is_put_event events) ≤ pairs_limit =
    rw (count_one is_put_event event events) at fit.puts in
    let watches : place.watches + (cond (is_watch_event event) 1 0 + count_by is_watch_event events) ≤ watches_limit =
    rw (count_one is_watch_event event events) at fit.watches in
    let read = line_again place event fit.small.0 (record {
      puts = room_for (is_put_event event) place.pairs (count_by is_put_event events) pairs_limit puts;
      watches = room_for (is_watch_event event) place.watches (count_by is_watch_event events) watches_limit watches;
      size = omega (arith, lens, fit.size);
    }) in
    let puts_are : (next_place place line).pairs ≡ place.pairs + cond (is_put_event event) 1 0 =
    ap (λ (b : Bool). place.pairs + cond b 1 0) is.pair in
    let watches_are : (next_place place line).watches ≡ place.watches + cond (is_watch_event event) 1 0 =
    ap (λ (b : Bool). place.watches + cond b 1 0) is.watch in
    let later = lines_again (next_place place line) events (record {
      small = fit.small.1;
      puts = omega (arith, puts, puts_are);
      watches = omega (arith, watches, watches_are);
      size = omega (arith, lens, fit.size);
    }) in
    rw (first_again event rest fit.small.0, read, later) refl

-- bytes that are the lines of events are read as these
pub events_again : (bytes : List ℕ) (events : List Event) → AreEventsOf bytes events → events_of bytes ≡ Ok events
unfolding events_of
events_again bytes events h =
    rw h.spelled (lines_again start events (record {
      small = h.small;
      puts = omega (arith, h.puts);
      watches = omega (arith, h.watches);
      size = omega (arith, h.size, ap length h.spelled);
    }))
