-- The place of a bad line of an event.
use Rattle.std.proofs.Common.{◌≡◌, ◌≤◌, ◌+◌, ◌-◌, ◌⊎◌, inl, inr, ℕ, Bool, true, false, true≢false, cond, not, nat_lt, ◌||◌, ◌==◌, List, [], ◌∷◌, ◌++◌, length, Result, Ok, Err, refl, sym, ap, subst, ◌∙◌, arith}
use Rattle.std.proofs.lemmas.Bool.{eqb-true, eqb-false}
use Rattle.std.proofs.lemmas.List.{length-append}
use Rattle.key_bytes.specs.Keys.{key_lt, top}
use Rattle.model_database.specs.declared.TheConstants.{KEY_LIMIT}
use Rattle.dump_text.proofs.Printed.{ending, text_was}
use Rattle.model_lines.specs.Printing.{printable, space}
use Rattle.model_lines.specs.Reading.{ReadText, text_of, Stop, AtEnd, AtSeparator, AtFault, Line, Flaw, Bad, Long, Entry, place_of, fields_at, pair_at}
use Rattle.model_events.specs.declared.event.Event.{Event}
use Rattle.model_events.specs.declared.event.Event.TheVariants.{Watch, Clear}
use Rattle.model_events.specs.Events.{is_kind, key_within, lone_key_at, lone_key, with_key, put_of, event_by, event_at}
use Rattle.laws_lines.specs.Places.{IsKey, IsPairFront, NoPair, IsKeyFront, NoLetter, LoneLetter, LoneKey, IsEventFront, WatchFront, ClearFront, PutFront, IsLongestFront, AreEventPlaces}
use Rattle.laws_lines.proofs.Heads.{Heads, no_byte, one_byte, more_bytes, IsHeaded, read_behind, bad, place_of_bad, leaves_least, first_byte, behind_space, line_longest}
use Rattle.laws_lines.proofs.Pairs.{unspelled, no_longer, byte_string, begun, begun_leaves, stays_below, empty_key, heads, pair_places}

-- ---- a line of a letter and one key

-- its fronts, whatever stands behind them
abbrev KeyFronts : ℕ → (front rest : List ℕ) → Type 0
KeyFronts letter front rest = IsKeyFront letter front

key_heads : (letter : ℕ) (front : List ℕ) → IsKeyFront letter front → Heads letter front
key_heads letter front (NoLetter is) = no_byte is
key_heads letter front (LoneLetter is) = one_byte is
key_heads letter front (LoneKey key lawful is) = more_bytes (printable key) is

key_headed : (letter : ℕ) → IsHeaded letter (KeyFronts letter)
key_headed letter = record { nothing = λ rest. NoLetter refl; letter = λ rest. LoneLetter refl; heads = λ front rest h. key_heads letter front h }

-- a key that isn't less than FF
past_top : (letter : ℕ) (fields : List ℕ) → key_lt (text_of fields).bytes top ≡ false
    → IsLongestFront (KeyFronts letter) (letter ∷ space ∷ fields) 2
unfolding printable
past_top letter fields past = record {
  front = letter ∷ space ∷ [];
  rest = fields;
  parts = refl;
  place_is = refl;
  is_front = LoneKey [] empty_key refl;
  longest = λ other behind parts h. short other behind parts h;
}
  where
    no_longer_key : (key other behind : List ℕ) → IsKey key → letter ∷ space ∷ fields ≡ other ++ behind
        → other ≡ letter ∷ space ∷ printable key → length other ≤ 2
    no_longer_key [] other behind lawful parts is = omega (arith, ap length is)
    no_longer_key (byte ∷ rest) other behind lawful parts is =
        let text = begun fields (byte ∷ rest) behind lawful.bytes
        (behind_space letter fields (printable (byte ∷ rest)) other behind parts is) in
        let below : key_lt (text_of fields).bytes top ≡ true =
        ap (λ (x : ReadText). key_lt x.bytes top) text ∙ stays_below byte rest (rest ++ (text_of behind).bytes) lawful.below_top in
        absurd (true≢false (sym below ∙ past))

    short : (other behind : List ℕ) → letter ∷ space ∷ fields ≡ other ++ behind → IsKeyFront letter other → length other ≤ 2
    short other behind parts (NoLetter is) = omega (arith, ap length is)
    short other behind parts (LoneLetter is) = omega (arith, ap length is)
    short other behind parts (LoneKey key lawful is) = no_longer_key key other behind lawful parts is

-- the last front ends behind the bytes that are spelled
key_last : (letter : ℕ) (fields : List ℕ) (place : ℕ) → key_lt (text_of fields).bytes top ≡ true
    → place + length (unspelled (text_of fields)) ≡ length fields + 2 → IsLongestFront (KeyFronts letter) (letter ∷ space ∷ fields) place
key_last letter fields place below size =
    let text = text_of fields in
    leaves_least (KeyFronts letter) (letter ∷ space ∷ fields) (letter ∷ space ∷ printable text.bytes) (unspelled text) place
    (ap (λ (x : List ℕ). letter ∷ space ∷ x) (text_was fields).parts) (omega arith)
    (LoneKey text.bytes (record { bytes = byte_string fields; below_top = below }) refl) least
  where
    least : (other behind : List ℕ) → letter ∷ space ∷ fields ≡ other ++ behind → IsKeyFront letter other
        → length (unspelled (text_of fields)) ≤ length behind
    least other behind parts (NoLetter is) =
        omega (arith, ap length parts, length-append other behind, ap length is, no_longer fields)
    least other behind parts (LoneLetter is) =
        omega (arith, ap length parts, length-append other behind, ap length is, no_longer fields)
    least other behind parts (LoneKey key lawful is) =
        begun_leaves fields key behind lawful.bytes (behind_space letter fields (printable key) other behind parts is)

-- a key that is too long has no place
no_place : (long : Bool) (key : List ℕ) (place : ℕ) → cond long (Err Long) (Ok key) ≡ Err (Bad place) → ⊥
no_place true key place e = absurd cc
no_place false key place e = absurd cc

stop_place : (line : Line) (stop : Stop) (key : ReadText) (place : ℕ) → lone_key_at line stop key ≡ Err (Bad place)
    → place ≡ length line.bytes - length (ending stop key.left)
stop_place line AtEnd key place e =
    elim line.is_whole as (λ b. cond b (key_within key.bytes) (Err (Bad (length line.bytes))) ≡ Err (Bad place)
    → place ≡ length line.bytes - 0) [
      | true ↦ λ f. absurd (no_place (nat_lt KEY_LIMIT (length key.bytes)) key.bytes place f)
      | false ↦ λ f. let is = place_of_bad (List ℕ) (length line.bytes) place f in omega arith
    ] e
stop_place line AtSeparator key place e =
    let is = place_of_bad (List ℕ) (place_of line key.left - 2) place e in
    omega arith
stop_place line AtFault key place e = sym (place_of_bad (List ℕ) (place_of line key.left) place e)

lone_place : (letter : ℕ) (line : Line) (fields : List ℕ) (place : ℕ) → line.bytes ≡ letter ∷ space ∷ fields
    → lone_key line (text_of fields) ≡ Err (Bad place) → IsLongestFront (KeyFronts letter) line.bytes place
lone_place letter line fields place bytes =
    let key = text_of fields in
    elim (key_lt key.bytes top) as
    (λ b. key_lt key.bytes top ≡ b → cond b (lone_key_at line key.stop key) (Err (Bad 2)) ≡ Err (Bad place)
    → IsLongestFront (KeyFronts letter) line.bytes place) [
      | true ↦ λ below e.
          let is = stop_place line key.stop key place e in
          subst (λ (x : List ℕ). IsLongestFront (KeyFronts letter) x place) (sym bytes)
          (key_last letter fields place below (omega (arith, is, ap length bytes, no_longer fields)))
      | false ↦ λ past e.
          subst (λ (x : List ℕ). IsLongestFront (KeyFronts letter) x place) (sym bytes)
          (subst (IsLongestFront (KeyFronts letter) (letter ∷ space ∷ fields)) (place_of_bad (List ℕ) 2 place e) (past_top letter fields past))
    ] refl

-- ---- the fronts of all kinds

-- a front of a line of another letter is empty
other_kind : (kind byte : ℕ) (tail front behind : List ℕ) → (byte ≡ kind → ⊥) → byte ∷ tail ≡ front ++ behind → Heads kind front → front ≡ []
other_kind kind byte tail front behind other parts (no_byte is) = is
other_kind kind byte tail front behind other parts (one_byte is) = absurd (other (first_byte kind byte tail [] front behind parts is))
other_kind kind byte tail front behind other parts (more_bytes fields is) =
    absurd (other (first_byte kind byte tail (space ∷ fields) front behind parts is))

abbrev EventFronts : (front rest : List ℕ) → Type 0
EventFronts front rest = IsEventFront front

-- the longest front of a line's own kind is the longest of all, where each front of another kind is empty
of_all : (IsFront : (front rest : List ℕ) → Type 0) (bytes : List ℕ) (place : ℕ)
    → ((front rest : List ℕ) → IsFront front rest → IsEventFront front)
    → ((front rest : List ℕ) → bytes ≡ front ++ rest → IsEventFront front → IsFront front rest ⊎ (front ≡ []))
    → IsLongestFront IsFront bytes place → IsLongestFront EventFronts bytes place
of_all IsFront bytes place wide narrow h = record {
  front = h.front;
  rest = h.rest;
  parts = h.parts;
  place_is = h.place_is;
  is_front = wide h.front h.rest h.is_front;
  longest = λ other behind parts f. by other behind parts (narrow other behind parts f);
}
  where
    by : (other behind : List ℕ) → bytes ≡ other ++ behind → IsFront other behind ⊎ (other ≡ []) → length other ≤ place
    by other behind parts (inl f) = h.longest other behind parts f
    by other behind parts (inr none) = omega (arith, ap length none)

not_same : (a b : ℕ) → (a == b) ≡ false → a ≡ b → ⊥
not_same a b e = eqb-false a b e

-- in a line that begins with W, the fronts are those of W
of_watch : (tail front behind : List ℕ) → 87 ∷ tail ≡ front ++ behind → IsEventFront front → IsKeyFront 87 front ⊎ (front ≡ [])
of_watch tail front behind parts (WatchFront its) = inl its
of_watch tail front behind parts (ClearFront its) =
    inr (other_kind 67 87 tail front behind (not_same 87 67 refl) parts (key_heads 67 front its))
of_watch tail front behind parts (PutFront its) =
    inr (other_kind 75 87 tail front behind (not_same 87 75 refl) parts (heads front its))

of_clear : (tail front behind : List ℕ) → 67 ∷ tail ≡ front ++ behind → IsEventFront front → IsKeyFront 67 front ⊎ (front ≡ [])
of_clear tail front behind parts (WatchFront its) =
    inr (other_kind 87 67 tail front behind (not_same 67 87 refl) parts (key_heads 87 front its))
of_clear tail front behind parts (ClearFront its) = inl its
of_clear tail front behind parts (PutFront its) =
    inr (other_kind 75 67 tail front behind (not_same 67 75 refl) parts (heads front its))

of_put : (tail front behind : List ℕ) → 75 ∷ tail ≡ front ++ behind → IsEventFront front → IsPairFront front ⊎ (front ≡ [])
of_put tail front behind parts (WatchFront its) =
    inr (other_kind 87 75 tail front behind (not_same 75 87 refl) parts (key_heads 87 front its))
of_put tail front behind parts (ClearFront its) =
    inr (other_kind 67 75 tail front behind (not_same 75 67 refl) parts (key_heads 67 front its))
of_put tail front behind parts (PutFront its) = inl its

-- a line of no kind has no front but the empty one
of_none : (byte : ℕ) (tail front behind : List ℕ) → is_kind byte ≡ false → byte ∷ tail ≡ front ++ behind → IsEventFront front → front ≡ []
of_none byte tail front behind none parts =
    elim (byte == 87) as (λ w. (byte == 87) ≡ w → (w || byte == 67 || byte == 75) ≡ false → IsEventFront front → front ≡ []) [
      | true ↦ λ w f. absurd cc
      | false ↦ λ w. elim (byte == 67) as (λ c. (byte == 67) ≡ c → (c || byte == 75) ≡ false → IsEventFront front → front ≡ []) [
        | true ↦ λ c f. absurd cc
        | false ↦ λ c k. all w c k
      ] refl
    ] refl none
  where
    all : (byte == 87) ≡ false → (byte == 67) ≡ false → (byte == 75) ≡ false → IsEventFront front → front ≡ []
    all w c k (WatchFront its) = other_kind 87 byte tail front behind (not_same byte 87 w) parts (key_heads 87 front its)
    all w c k (ClearFront its) = other_kind 67 byte tail front behind (not_same byte 67 c) parts (key_heads 67 front its)
    all w c k (PutFront its) = other_kind 75 byte tail front behind (not_same byte 75 k) parts (heads front its)

-- ---- the place that reading gives

keyed : (event : List ℕ → Event) (read : Result (List ℕ) Flaw) (place : ℕ) → with_key event read ≡ Err (Bad place) → read ≡ Err (Bad place)
keyed event (Ok key) place e = absurd cc
keyed event (Err flaw) place e = cc

paired : (read : Result Entry Flaw) (place : ℕ) → put_of read ≡ Err (Bad place) → read ≡ Err (Bad place)
paired (Ok entry) place e = absurd cc
paired (Err flaw) place e = cc

read_watch : (line : Line) (rest : List ℕ)
    → event_at line (87 ∷ rest) ≡ read_behind 87 (λ fields. with_key Watch (lone_key line (text_of fields))) (87 ∷ rest)
unfolding event_at
read_watch line [] = refl
read_watch line (gap ∷ fields) = refl

read_clear : (line : Line) (rest : List ℕ)
    → event_at line (67 ∷ rest) ≡ read_behind 67 (λ fields. with_key Clear (lone_key line (text_of fields))) (67 ∷ rest)
unfolding event_at
read_clear line [] = refl
read_clear line (gap ∷ fields) = refl

read_put : (line : Line) (rest : List ℕ) → event_at line (75 ∷ rest) ≡ put_of (pair_at line (75 ∷ rest))
unfolding event_at pair_at
read_put line [] = refl
read_put line (gap ∷ fields) = by (gap == space)
  where
    by : (b : Bool) → cond (not b) (Err (Bad 1)) (put_of (fields_at line (text_of fields)))
        ≡ put_of (cond (not b) (Err (Bad 1)) (fields_at line (text_of fields)))
    by true = refl
    by false = refl

watch_place : (line : Line) (rest : List ℕ) (place : ℕ) → line.bytes ≡ 87 ∷ rest → event_at line line.bytes ≡ Err (Bad place)
    → IsLongestFront EventFronts line.bytes place
watch_place line rest place bytes e =
    let read = λ (fields : List ℕ). with_key Watch (lone_key line (text_of fields)) in
    let by_kind : read_behind 87 read line.bytes ≡ Err (Bad place) =
    ap (read_behind 87 read) bytes ∙ sym (read_watch line rest) ∙ ap (event_at line) (sym bytes) ∙ e in
    of_all (KeyFronts 87) line.bytes place (λ front behind h. WatchFront h)
    (λ front behind parts h. of_watch rest front behind (sym bytes ∙ parts) h)
    (line_longest (KeyFronts 87) 87 read line.bytes place (key_headed 87)
    (λ fields its_place is f. lone_place 87 line fields its_place is (keyed Watch (lone_key line (text_of fields)) its_place f)) by_kind)

clear_place : (line : Line) (rest : List ℕ) (place : ℕ) → line.bytes ≡ 67 ∷ rest → event_at line line.bytes ≡ Err (Bad place)
    → IsLongestFront EventFronts line.bytes place
clear_place line rest place bytes e =
    let read = λ (fields : List ℕ). with_key Clear (lone_key line (text_of fields)) in
    let by_kind : read_behind 67 read line.bytes ≡ Err (Bad place) =
    ap (read_behind 67 read) bytes ∙ sym (read_clear line rest) ∙ ap (event_at line) (sym bytes) ∙ e in
    of_all (KeyFronts 67) line.bytes place (λ front behind h. ClearFront h)
    (λ front behind parts h. of_clear rest front behind (sym bytes ∙ parts) h)
    (line_longest (KeyFronts 67) 67 read line.bytes place (key_headed 67)
    (λ fields its_place is f. lone_place 67 line fields its_place is (keyed Clear (lone_key line (text_of fields)) its_place f)) by_kind)

put_place : (line : Line) (rest : List ℕ) (place : ℕ) → line.bytes ≡ 75 ∷ rest → event_at line line.bytes ≡ Err (Bad place)
    → IsLongestFront EventFronts line.bytes place
put_place line rest place bytes e =
    let read : pair_at line line.bytes ≡ Err (Bad place) =
    paired (pair_at line line.bytes) place
    (ap (λ (x : List ℕ). put_of (pair_at line x)) bytes ∙ sym (read_put line rest) ∙ ap (event_at line) (sym bytes) ∙ e) in
    of_all (λ front behind. IsPairFront front) line.bytes place (λ front behind h. PutFront h)
    (λ front behind parts h. of_put rest front behind (sym bytes ∙ parts) h) (pair_places line place read)

-- a line of no kind is bad at its first byte
kindless : (line : Line) (byte : ℕ) (rest : List ℕ) (place : ℕ) → is_kind byte ≡ false → event_at line (byte ∷ rest) ≡ Err (Bad place)
    → 0 ≡ place
unfolding event_at
kindless line byte [] place none e = place_of_bad Event 0 place (ap (λ (b : Bool). bad Event (cond b 1 0)) (sym none) ∙ e)
kindless line byte (gap ∷ fields) place none e =
    place_of_bad Event 0 place (sym (ap (λ (b : Bool). cond (not b) (bad Event 0) (cond (not (gap == space)) (Err (Bad 1))
    (event_by byte line (text_of fields)))) none) ∙ e)

no_event : (line : Line) (byte : ℕ) (rest : List ℕ) (place : ℕ) → line.bytes ≡ byte ∷ rest → is_kind byte ≡ false
    → event_at line line.bytes ≡ Err (Bad place) → IsLongestFront EventFronts line.bytes place
no_event line byte rest place bytes none e =
    let is = kindless line byte rest place none (ap (event_at line) (sym bytes) ∙ e) in
    record {
      front = [];
      rest = line.bytes;
      parts = refl;
      place_is = sym is;
      is_front = PutFront (NoPair refl);
      longest = λ other behind parts h. omega (arith, ap length (of_none byte rest other behind none (sym bytes ∙ parts) h));
    }

empty_line : (line : Line) (place : ℕ) → event_at line [] ≡ Err (Bad place) → 0 ≡ place
unfolding event_at
empty_line line place e = place_of_bad Event 0 place e

by_kind : (line : Line) (place : ℕ) (bytes : List ℕ) → line.bytes ≡ bytes → event_at line line.bytes ≡ Err (Bad place)
    → IsLongestFront EventFronts line.bytes place
by_kind line place [] is e =
    let none = empty_line line place (ap (event_at line) (sym is) ∙ e) in
    record {
      front = [];
      rest = line.bytes;
      parts = refl;
      place_is = sym none;
      is_front = PutFront (NoPair refl);
      longest = λ other behind parts h. omega (arith, ap length is, ap length parts, length-append other behind);
    }
by_kind line place (byte ∷ rest) is e =
    elim (byte == 87) as (λ w. (byte == 87) ≡ w → IsLongestFront EventFronts line.bytes place) [
      | true ↦ λ w. watch_place line rest place (is ∙ ap (λ (x : ℕ). x ∷ rest) (eqb-true byte 87 w)) e
      | false ↦ λ w. elim (byte == 67) as (λ c. (byte == 67) ≡ c → IsLongestFront EventFronts line.bytes place) [
        | true ↦ λ c. clear_place line rest place (is ∙ ap (λ (x : ℕ). x ∷ rest) (eqb-true byte 67 c)) e
        | false ↦ λ c. elim (byte == 75) as (λ k. (byte == 75) ≡ k → IsLongestFront EventFronts line.bytes place) [
          | true ↦ λ k. put_place line rest place (is ∙ ap (λ (x : ℕ). x ∷ rest) (eqb-true byte 75 k)) e
          | false ↦ λ k. no_event line byte rest place is (rw (w, c, k) refl) e
        ] refl
      ] refl
    ] refl

pub event_places : AreEventPlaces
event_places line place e = by_kind line place line.bytes refl e
