-- Lines of events that were read are the lines of these events, within their limits.
use Rattle.std.proofs.Common.{◌≡◌, ℕ, ◌+◌, ◌<◌, ◌≤◌, Bool, true, false, cond, not, ◌&&◌, ◌||◌, ◌==◌, nat_lt, nat_le, List, [], ◌∷◌, ◌++◌, length, flat_map, count_by, Result, Ok, Err, refl, sym, ap, subst, ◌∙◌, arith}
use Rattle.std.specs.List.{AllByRecursion}
use Rattle.std.proofs.lemmas.Bool.{eqb-true, ltb-false, leb-false, not-false}
use Rattle.std.proofs.lemmas.List.{append-nil, length-append}
use Rattle.std.proofs.lemmas.List.Elements.{All-from_recursion}
use Rattle.std.proofs.lemmas.List.Sums.{sum_by-cons}
use Rattle.key_bytes.specs.Keys.{key_lt, top}
use Rattle.model_database.specs.declared.TheConstants.{KEY_LIMIT}
use Rattle.model_lines.specs.Printing.{printable, pair_line}
use Rattle.model_lines.specs.Reading as reading
use Rattle.model_lines.specs.Reading.{read_line, read_lines, ReadText, text_of, Stop, AtEnd, AtSeparator, AtFault, Line, Flaw, Bad, Long, Entry, Fault, TooMany, TooLong, fields_at, pair_at, is_pair, lines_of, size_of, input_limit, pairs_limit, line_limit}
use Rattle.model_lines.proofs.ReadLines.{guard_ok, neither, limits_pass}
use Rattle.model_input.proofs.Machines.{choice_ok}
use Rattle.std.specs.Prelude.{IfOk}
use Rattle.dump_text.specs.declared.fault.LineFault.{LineFault}
use Rattle.dump_text.specs.Reading.{Gives}
use Rattle.dump_text.proofs.Printed.{ending, text_was}
use Rattle.dump_text.proofs.Laws.{standing, lines_stand, length-standing, lines_were}
use Rattle.model_events.specs.declared.event.Event.{Event}
use Rattle.model_events.specs.declared.event.Event.TheVariants.{Watch, Clear, Put}
use Rattle.model_events.specs.Events.{Place, start, next_place, is_kind, is_watch, is_too_many, key_within, lone_key_at, lone_key, with_key, put_of, event_by, event_at, judged, read_event, joined, read_events, events_of, event_line, is_watch_event, is_put_event, watches_limit, IsSmallKey, IsSmallEvent, AreEventsOf}

-- ---- a key that stands alone

-- what stands behind the kind and the space is a key, up to the line feed
record IsLoneKey (line : Line) (fields key : List ℕ) : Type 0 where
  pub whole : line.is_whole ≡ true
  pub spelled : fields ≡ printable key
  pub small : IsSmallKey key

within_was : (read key : List ℕ) → key_within read ≡ Ok key → (length read ≤ KEY_LIMIT) × (read ≡ key)
within_was read key e =
    let test = guard_ok (nat_lt KEY_LIMIT (length read)) Long (Ok read) key e in
    (ltb-false KEY_LIMIT (length read) test.0, cc)

stop_was : (line : Line) (stop : Stop) (text : ReadText) (key : List ℕ) → lone_key_at line stop text ≡ Ok key
    → (stop ≡ AtEnd) × (line.is_whole ≡ true) × (key_within text.bytes ≡ Ok key)
stop_was line AtEnd text key e =
    let parts = choice_ok line.is_whole (Bad (length line.bytes)) (key_within text.bytes) key e in
    (refl, parts.0, parts.1)
stop_was line AtSeparator text key e = absurd cc
stop_was line AtFault text key e = absurd cc

key_was : (line : Line) (fields key : List ℕ) → lone_key line (text_of fields) ≡ Ok key → IsLoneKey line fields key
key_was line fields key e =
    let text = text_of fields in
    let below = choice_ok (key_lt text.bytes top) (Bad 2) (lone_key_at line text.stop text) key e in
    let stop = stop_was line text.stop text key below.1 in
    let within = within_was text.bytes key stop.2 in
    let was = text_was fields in
    subst (IsLoneKey line fields) within.1 (record {
      whole = stop.1;
      spelled = was.parts ∙ ap (λ (x : Stop). printable text.bytes ++ ending x text.left) stop.0 ∙ append-nil (printable text.bytes);
      small = record { bytes = All-from_recursion (λ b. b < 256) text.bytes was.small; below_top = below.0; len = within.0 };
    })

-- ---- a line

-- a line that was read is the line of its event
record IsEventLine (line : Line) (event : Event) : Type 0 where
  pub spelled : standing line ≡ event_line event
  pub small : IsSmallEvent event
  pub pair : is_pair line.bytes ≡ is_put_event event
  pub watch : is_watch line.bytes ≡ is_watch_event event

stands_as : (line : Line) (content : List ℕ) → line.is_whole ≡ true → line.bytes ≡ content → standing line ≡ content ++ 10 ∷ []
stands_as line content whole is = rw (whole, is) refl

keyed : (event : List ℕ → Event) (read : Result (List ℕ) Flaw) (found : Event) → with_key event read ≡ Ok found
    → (key : List ℕ) × ((read ≡ Ok key) × (event key ≡ found))
keyed event (Ok key) found e = (key, (refl, cc))
keyed event (Err flaw) found e = absurd cc

paired : (read : Result Entry Flaw) (found : Event) → put_of read ≡ Ok found
    → (entry : Entry) × ((read ≡ Ok entry) × (Put (record { key = entry.0; value = entry.1 }) ≡ found))
paired (Ok entry) found e = (entry, (refl, cc))
paired (Err flaw) found e = absurd cc

watch_was : (line : Line) (fields : List ℕ) (event : Event) → line.bytes ≡ 87 ∷ 32 ∷ fields
    → with_key Watch (lone_key line (text_of fields)) ≡ Ok event → IsEventLine line event
unfolding event_line
watch_was line fields event is e =
    let parts = keyed Watch (lone_key line (text_of fields)) event e in
    let key = key_was line fields parts.0 parts.1.0 in
    subst (IsEventLine line) parts.1.1 (record {
      spelled = stands_as line (87 ∷ 32 ∷ printable parts.0) key.whole (is ∙ ap (λ (x : List ℕ). 87 ∷ 32 ∷ x) key.spelled);
      small = key.small;
      pair = ap is_pair is;
      watch = ap is_watch is;
    })

clear_was : (line : Line) (fields : List ℕ) (event : Event) → line.bytes ≡ 67 ∷ 32 ∷ fields
    → with_key Clear (lone_key line (text_of fields)) ≡ Ok event → IsEventLine line event
unfolding event_line
clear_was line fields event is e =
    let parts = keyed Clear (lone_key line (text_of fields)) event e in
    let key = key_was line fields parts.0 parts.1.0 in
    subst (IsEventLine line) parts.1.1 (record {
      spelled = stands_as line (67 ∷ 32 ∷ printable parts.0) key.whole (is ∙ ap (λ (x : List ℕ). 67 ∷ 32 ∷ x) key.spelled);
      small = key.small;
      pair = ap is_pair is;
      watch = ap is_watch is;
    })

-- the limits of a line alone
record IsShort (line : Line) : Type 0 where
  pub size : size_of line ≤ input_limit
  pub short : length line.bytes ≤ line_limit

-- the line of a pair, read as an input of its own
alone : (line : Line) (fields : List ℕ) (entry : Entry) → line.bytes ≡ 75 ∷ 32 ∷ fields → IsShort line
    → fields_at line (text_of fields) ≡ Ok entry → read_lines reading.start (line ∷ []) ≡ Ok (entry ∷ [])
unfolding read_lines read_line pair_at
alone line fields entry is short e =
    let read : pair_at line line.bytes ≡ Ok entry = ap (pair_at line) is ∙ e in
    let one : read_line reading.start line ≡ Ok entry =
    limits_pass reading.start line (reading.judged 1 (pair_at line line.bytes))
    (record { size = omega (arith, short.size); few = λ pair. omega arith; short = short.short })
    ∙ ap (reading.judged 1) read in
    rw one refl

put_was : (line : Line) (fields : List ℕ) (event : Event) → line.bytes ≡ 75 ∷ 32 ∷ fields → IsShort line
    → put_of (fields_at line (text_of fields)) ≡ Ok event → IsEventLine line event
unfolding event_line
put_was line fields event is short e =
    let parts = paired (fields_at line (text_of fields)) event e in
    let entry = parts.0 in
    let were = lines_were reading.start (line ∷ []) (entry ∷ []) (omega arith) (omega arith) (alone line fields entry is short parts.1.0) in
    subst (IsEventLine line) parts.1.1 (record {
      spelled = sym (append-nil (standing line)) ∙ were.spelled ∙ append-nil (pair_line entry.0 entry.1);
      small = were.small.0;
      pair = ap is_pair is;
      watch = ap is_watch is;
    })

event_was : (line : Line) (bytes : List ℕ) (event : Event) → line.bytes ≡ bytes → IsShort line → event_at line bytes ≡ Ok event
    → IsEventLine line event
unfolding event_at
event_was line [] event is short e = absurd cc
event_was line (kind ∷ []) event is short e = absurd cc
event_was line (kind ∷ gap ∷ fields) event is short e =
    let first = guard_ok (not (is_kind kind)) (Bad 0) (cond (not (gap == 32)) (Err (Bad 1)) (event_by kind line (text_of fields))) event e in
    let second = guard_ok (not (gap == 32)) (Bad 1) (event_by kind line (text_of fields)) event first.1 in
    let gap_is : gap ≡ 32 = eqb-true gap 32 (not-false (gap == 32) second.0) in
    let known : is_kind kind ≡ true = not-false (is_kind kind) first.0 in
    by (kind == 87) (kind == 67) (kind == 75) refl refl refl gap_is known second.1
  where
    stands : (kind_is : ℕ) → kind ≡ kind_is → gap ≡ 32 → line.bytes ≡ kind_is ∷ 32 ∷ fields
    stands kind_is k g = is ∙ ap (λ (x : ℕ). x ∷ gap ∷ fields) k ∙ ap (λ (x : ℕ). kind_is ∷ x ∷ fields) g

    by : (w c k : Bool) → (kind == 87) ≡ w → (kind == 67) ≡ c → (kind == 75) ≡ k → gap ≡ 32 → (kind == 87 || kind == 67 || kind == 75) ≡ true
        → cond (kind == 87) (with_key Watch (lone_key line (text_of fields)))
        (cond (kind == 67) (with_key Clear (lone_key line (text_of fields))) (put_of (fields_at line (text_of fields)))) ≡ Ok event
        → IsEventLine line event
    by true c k w_is c_is k_is gap_is known read =
        watch_was line fields event (stands 87 (eqb-true kind 87 w_is) gap_is) (rw w_is at read)
    by false true k w_is c_is k_is gap_is known read =
        clear_was line fields event (stands 67 (eqb-true kind 67 c_is) gap_is) (rw (w_is, c_is) at read)
    by false false true w_is c_is k_is gap_is known read =
        put_was line fields event (stands 75 (eqb-true kind 75 k_is) gap_is) short (rw (w_is, c_is) at read)
    by false false false w_is c_is k_is gap_is known read = absurd (let no : false ≡ true = rw (w_is, c_is, k_is) at known in cc)

-- ---- the lines

judged_ok : (number : ℕ) (read : Result Event Flaw) (event : Event) → judged number read ≡ Ok event → read ≡ Ok event
judged_ok number (Ok other) event e = cc
judged_ok number (Err flaw) event e = absurd cc

not_both : (a b : Bool) → a ≡ true → (a && b) ≡ false → b ≡ false
not_both true b h e = e
not_both false b h e = absurd cc

-- a line that was read from a place on, within the limits
record IsReadAt (place : Place) (line : Line) (event : Event) : Type 0 where
  pub size : place.bytes + size_of line ≤ input_limit
  pub puts : is_put_event event ≡ true → place.pairs < pairs_limit
  pub watches : is_watch_event event ≡ true → place.watches < watches_limit
  pub is : IsEventLine line event

is_read : (place : Place) (line : Line) (event : Event) → read_event place line ≡ Ok event → IsReadAt place line event
unfolding read_event
is_read place line event e =
    let past = nat_lt input_limit (place.bytes + size_of line) in
    let pairs = is_pair line.bytes && nat_le pairs_limit place.pairs in
    let watches = is_watch line.bytes && nat_le watches_limit place.watches in
    let many = guard_ok (is_too_many place line) (TooMany place.number)
    (cond (nat_lt line_limit (length line.bytes)) (Err (TooLong place.number)) (judged place.number (event_at line line.bytes))) event e in
    let long = guard_ok (nat_lt line_limit (length line.bytes)) (TooLong place.number) (judged place.number (event_at line line.bytes)) event many.1 in
    let some = neither (past || pairs) watches many.0 in
    let both = neither past pairs some.0 in
    let size : place.bytes + size_of line ≤ input_limit = ltb-false input_limit (place.bytes + size_of line) both.0 in
    let short : length line.bytes ≤ line_limit = ltb-false line_limit (length line.bytes) long.0 in
    let read = judged_ok place.number (event_at line line.bytes) event long.1 in
    let its = event_was line line.bytes event refl (record { size = omega arith; short = short }) read in
    record {
      size = size;
      puts = λ h. leb-false pairs_limit place.pairs (not_both (is_pair line.bytes) (nat_le pairs_limit place.pairs) (its.pair ∙ h) both.1);
      watches = λ h. leb-false watches_limit place.watches (not_both (is_watch line.bytes) (nat_le watches_limit place.watches) (its.watch ∙ h) some.1);
      is = its;
    }

joined_ok : (first : Result Event Fault) (rest : Result (List Event) Fault) (events : List Event) → joined first rest ≡ Ok events
    → (event : Event) × ((others : List Event) × ((first ≡ Ok event) × (rest ≡ Ok others) × (event ∷ others ≡ events)))
joined_ok (Err fault) rest events e = absurd cc
joined_ok (Ok event) (Err fault) events e = absurd cc
joined_ok (Ok event) (Ok others) events e = (event, (others, (refl, refl, cc)))

-- lines that were read from a place on are the lines of their events, within the limits
record WereRead (place : Place) (lines : List Line) (events : List Event) : Type 0 where
  pub spelled : flat_map standing lines ≡ flat_map event_line events
  pub small : AllByRecursion IsSmallEvent events
  pub puts : place.pairs + count_by is_put_event events ≤ pairs_limit
  pub watches : place.watches + count_by is_watch_event events ≤ watches_limit
  pub size : place.bytes + length (flat_map standing lines) ≤ input_limit

-- a place within the limits
record IsLawful (place : Place) : Type 0 where
  pub puts : place.pairs ≤ pairs_limit
  pub watches : place.watches ≤ watches_limit
  pub size : place.bytes ≤ input_limit

one_more : (test : Bool) (before limit : ℕ) → before ≤ limit → (test ≡ true → before < limit) → before + cond test 1 0 ≤ limit
one_more true before limit within h = omega (arith, h refl)
one_more false before limit within h = omega arith

count_one : (P : Event → Bool) (event : Event) (others : List Event) → count_by P (event ∷ others) ≡ cond (P event) 1 0 + count_by P others
count_one P event others = sum_by-cons (λ (e : Event). cond (P e) 1 0) event others

lines_are : (place : Place) (lines : List Line) (events : List Event) → IsLawful place → read_events place lines ≡ Ok events
    → WereRead place lines events
unfolding read_events
lines_are place [] events lawful e =
    let none : [] ≡ events = cc in
    subst (WereRead place []) none (record {
      spelled = refl;
      small = tt;
      puts = omega (arith, lawful.puts);
      watches = omega (arith, lawful.watches);
      size = omega (arith, lawful.size);
    })
lines_are place (line ∷ lines) events lawful e =
    let parts = joined_ok (read_event place line) (read_events (next_place place line) lines) events e in
    let event = parts.0 in
    let others = parts.1.0 in
    let read = is_read place line event parts.1.1.0 in
    let more_puts : place.pairs + cond (is_put_event event) 1 0 ≤ pairs_limit =
    one_more (is_put_event event) place.pairs pairs_limit lawful.puts read.puts in
    let more_watches : place.watches + cond (is_watch_event event) 1 0 ≤ watches_limit =
    one_more (is_watch_event event) place.watches watches_limit lawful.watches read.watches in
    let puts_are : (next_place place line).pairs ≡ place.pairs + cond (is_put_event event) 1 0 =
    ap (λ (b : Bool). place.pairs + cond b 1 0) read.is.pair in
    let watches_are : (next_place place line).watches ≡ place.watches + cond (is_watch_event event) 1 0 =
    ap (λ (b : Bool). place.watches + cond b 1 0) read.is.watch in
    let later = lines_are (next_place place line) lines others
    (record { puts = omega (arith, puts_are, more_puts); watches = omega (arith, watches_are, more_watches); size = read.size }) parts.1.1.1 in
    subst (WereRead place (line ∷ lines)) parts.1.1.2 (record {
      spelled = ap (λ (x : List ℕ). x ++ flat_map standing lines) read.is.spelled
          ∙ ap (λ (x : List ℕ). event_line event ++ x) later.spelled;
      small = (read.is.small, later.small);
      puts = omega (arith, later.puts, puts_are, count_one is_put_event event others);
      watches = omega (arith, later.watches, watches_are, count_one is_watch_event event others);
      size = omega (arith, later.size, length-append (standing line) (flat_map standing lines), length-standing line);
    })

-- bytes that were read are the lines of their events
pub events_were : (bytes : List ℕ) (events : List Event) → events_of bytes ≡ Ok events → AreEventsOf bytes events
unfolding events_of
events_were bytes events e =
    let were = lines_are start (lines_of bytes) events (record { puts = omega arith; watches = omega arith; size = omega arith }) e in
    let stands = lines_stand bytes in
    record {
      spelled = sym stands ∙ were.spelled;
      small = were.small;
      watches = omega (arith, were.watches);
      puts = omega (arith, were.puts);
      size = omega (arith, ap length stands, were.size);
    }

pub found_events : (bytes : List ℕ) (result : Result (List Event) LineFault) → Gives (λ (events : List Event). events) result (events_of bytes)
    → IfOk result (λ events. AreEventsOf bytes events)
found_events bytes (Ok events) e = events_were bytes events e
found_events bytes (Err fault) e = tt
