-- How lines of events are read: W and a key, C and a key, or K with a key and a value, each from left to right, up to the first fault.
use Rattle.std.specs.Prelude.{◌≡◌, ◌≤◌, ℕ, ◌+◌, ◌-◌, Bool, true, false, not, ◌&&◌, ◌||◌, if◌then◌else◌, cond, List, [], ◌∷◌, length, count_by, flat_map, nat_lt, nat_le, ◌==◌, codes, Result, Ok, Err}
use Rattle.std.specs.List.{AllByRecursion}
use Rattle.key_bytes.specs.Keys.{IsByteString, key_lt, top}
use Rattle.key_bytes.specs.Entries.{entry_of}
use Rattle.model_database.specs.declared.TheConstants.{KEY_LIMIT}
use Rattle.model_lines.specs.Inputs.{IsSmall}
use Rattle.model_lines.specs.Printing as printing
use Rattle.model_lines.specs.Printing.{space, printable, pair_line}
use Rattle.model_lines.specs.Reading.{Stop, AtEnd, AtSeparator, AtFault, ReadText, Line, Flaw, Bad, Long, Fault, TooMany, TooLong, Entry, text_of, place_of, fields_at, lines_of, size_of, fault_of, is_pair, input_limit, pairs_limit, line_limit}
use Rattle.model_events.specs.declared.event.Event.{Event}
use Rattle.model_events.specs.declared.event.Event.TheVariants.{Watch, Clear, Put}

-- how many lines may watch a key
abbrev pub watches_limit : ℕ
watches_limit = 10000

-- ---- one line

-- whether a line watches a key, judged by its first byte
abbrev pub is_watch : List ℕ → Bool
is_watch [] = false
is_watch (kind ∷ rest) = kind == 87

-- whether a byte begins a line of an event: W, C or K
abbrev pub is_kind : ℕ → Bool
is_kind kind = kind == 87 || kind == 67 || kind == 75

-- the key of a line that was read without a fault, where it is within its limit
abbrev pub key_within : List ℕ → Result (List ℕ) Flaw
key_within key = if nat_lt KEY_LIMIT (length key) then Err Long else Ok key

-- the key goes up to the line feed; a separator fits no rule
abbrev pub lone_key_at : Line → Stop → ReadText → Result (List ℕ) Flaw
lone_key_at line AtEnd key = if line.is_whole then key_within key.bytes else Err (Bad (length line.bytes))
lone_key_at line AtSeparator key = Err (Bad (place_of line key.left - 2))
lone_key_at line AtFault key = Err (Bad (place_of line key.left))

-- a key that isn't less than FF is a fault at its first byte, before any fault further on
abbrev pub lone_key : Line → ReadText → Result (List ℕ) Flaw
lone_key line key = if key_lt key.bytes top then lone_key_at line key.stop key else Err (Bad 2)

abbrev pub with_key : (List ℕ → Event) → Result (List ℕ) Flaw → Result Event Flaw
with_key event (Ok key) = Ok (event key)
with_key event (Err flaw) = Err flaw

abbrev pub put_of : Result Entry Flaw → Result Event Flaw
put_of (Ok entry) = Ok (Put (record { key = entry.0; value = entry.1 }))
put_of (Err flaw) = Err flaw

-- what stands behind the kind and the space
abbrev pub event_by : ℕ → Line → ReadText → Result Event Flaw
event_by kind line text =
    if kind == 87 then with_key Watch (lone_key line text)
    else if kind == 67 then with_key Clear (lone_key line text)
    else put_of (fields_at line text)

-- a line of an event: its kind, a space, and the fields
unfoldable pub event_at : Line → List ℕ → Result Event Flaw
event_at line [] = Err (Bad 0)
event_at line (kind ∷ []) = Err (Bad (if is_kind kind then 1 else 0))
event_at line (kind ∷ gap ∷ fields) =
    if not (is_kind kind) then Err (Bad 0)
    else if not (gap == space) then Err (Bad 1)
    else event_by kind line (text_of fields)

-- ---- the lines

-- where reading stands: the number of the next line, the bytes before it, and its lines of pairs and of watches
pub record Place : Type 0 where
  pub number : ℕ
  pub bytes : ℕ
  pub pairs : ℕ
  pub watches : ℕ

abbrev pub start : Place
start = record { number = 1; bytes = 0; pairs = 0; watches = 0 }

abbrev pub next_place : Place → Line → Place
next_place place line = record {
  number = place.number + 1;
  bytes = place.bytes + size_of line;
  pairs = place.pairs + cond (is_pair line.bytes) 1 0;
  watches = place.watches + cond (is_watch line.bytes) 1 0;
}

-- a line passes the limits where it holds a byte past the input's, or where it is one line of a pair or of a watch more than may be
abbrev pub is_too_many : Place → Line → Bool
is_too_many place line =
    nat_lt input_limit (place.bytes + size_of line)
    || (is_pair line.bytes && nat_le pairs_limit place.pairs)
    || (is_watch line.bytes && nat_le watches_limit place.watches)

-- a line read without its limits
abbrev pub judged : ℕ → Result Event Flaw → Result Event Fault
judged number (Ok event) = Ok event
judged number (Err flaw) = Err (fault_of number flaw)

-- one line: too many, too long, a byte that fits no rule, a key or a value that is too long, in this order
unfoldable pub read_event : Place → Line → Result Event Fault
read_event place line =
    if is_too_many place line then Err (TooMany place.number)
    else if nat_lt line_limit (length line.bytes) then Err (TooLong place.number)
    else judged place.number (event_at line line.bytes)

abbrev pub joined : Result Event Fault → Result (List Event) Fault → Result (List Event) Fault
joined (Err fault) rest = Err fault
joined (Ok event) (Err fault) = Err fault
joined (Ok event) (Ok events) = Ok (event ∷ events)

-- lines from a place on: the first fault decides
unfoldable pub read_events : Place → List Line → Result (List Event) Fault
read_events place [] = Ok []
read_events place (line ∷ lines) = joined (read_event place line) (read_events (next_place place line) lines)

-- what bytes come to, or their first fault
unfoldable pub events_of : List ℕ → Result (List Event) Fault
events_of bytes = read_events start (lines_of bytes)

-- ---- the spelling of events

-- the line of an event
unfoldable pub event_line : Event → List ℕ
event_line (Watch key) = printing.line (codes "W" ∷ printable key ∷ [])
event_line (Clear key) = printing.line (codes "C" ∷ printable key ∷ [])
event_line (Put pair) = pair_line pair.key pair.value

-- a key that a line may have
pub record IsSmallKey (key : List ℕ) : Type 0 where
  pub bytes : IsByteString key
  pub below_top : key_lt key top ≡ true
  pub len : length key ≤ KEY_LIMIT

-- an event that a line may have
abbrev pub IsSmallEvent : Event → Type 0
IsSmallEvent (Watch key) = IsSmallKey key
IsSmallEvent (Clear key) = IsSmallKey key
IsSmallEvent (Put pair) = IsSmall (entry_of pair)

abbrev pub is_watch_event : Event → Bool
is_watch_event (Watch key) = true
is_watch_event (Clear key) = false
is_watch_event (Put pair) = false

abbrev pub is_put_event : Event → Bool
is_put_event (Watch key) = false
is_put_event (Clear key) = false
is_put_event (Put pair) = true

-- the bytes are the lines of these events, and all is within its limit
pub record AreEventsOf (bytes : List ℕ) (events : List Event) : Type 0 where
  pub spelled : bytes ≡ flat_map event_line events
  pub small : AllByRecursion IsSmallEvent events
  pub watches : count_by is_watch_event events ≤ watches_limit
  pub puts : count_by is_put_event events ≤ pairs_limit
  pub size : length bytes ≤ input_limit
