-- What a byte of the input, and its end, make of where reading stands.
use Rattle.std.proofs.Common.{◌≡◌, inl, inr, ℕ, ◌+◌, ◌-◌, ◌≤◌, false, ◌==◌, List, [], ◌∷◌, ◌++◌, length, map, Option, Some, None, Result, Ok, Err, refl, sym, ap, subst, ◌∙◌, arith}
use Rattle.std.specs.Prelude.{slice_get, OnOk}
use Rattle.std.specs.Io.KnownBytes.{Keeps, Appends, Consumes, IsAtEnd}
use Rattle.std.proofs.KnownBytes.{Appends-nil, Consumes-nil}
use Rattle.std.proofs.lemmas.List.{append-nil, length-append}
use Rattle.outside.specs.Streams.{AppendsFront}
use Rattle.model_lines.specs.Reading.{Line, TooLong, TooMany, lines_of}
use Rattle.model_lines.proofs.Lines.{IsFeedless}
use Rattle.model_shell.specs.Sessions.{printed_for, after_lines, answered, first_session}
use Rattle.fdb_shell.specs.declared.position.Reading.{Reading}
use Rattle.fdb_shell.specs.declared.reading.Halt.{Halt}
use Rattle.fdb_shell.specs.declared.reading.Halt.TheVariants as halt
use Rattle.fdb_shell.specs.declared.session.Session as code
use Rattle.fdb_shell.specs.Limits.{line_limit, input_limit}
use Rattle.fdb_shell.specs.Doing.{IsSession}
use Rattle.fdb_shell.specs.Outcomes.{lines_in, whole_lines_in, lines_before, IsWithin, Passes, AppendsSome}
use Rattle.fdb_shell.specs.Endings.{joined, IsAt, IsByteRead, Ends, Goes, Closes, Answers, Finishes}
use Rattle.fdb_shell.proofs.Lines.{whole, open_line, last_line, OneMore, lines_in_are, whole_lines_are, within_by, joined_more, feedless_more, short_more, longer, feedless_byte, one_more, either_more, count_of_more, get_last, before_last, whole_in, whole_of_more}
use Rattle.fdb_shell.proofs.Printed.{written_more, written_front_more, after_line_more, some_of_more}

-- what a reading has of a line is no more than a line may have
abbrev IsSmall : Reading → Type 0
IsSmall reading = length reading.line ≤ line_limit

within_at : (start written : Option (List ℕ)) (reading : Reading) (bytes : List ℕ) (at : IsAt start written reading bytes) → IsSmall reading
    → reading.count ≤ input_limit → IsWithin bytes
within_at start written reading bytes at small few =
    within_by bytes at.lines reading.line at.parts at.feedless at.line_feedless at.short small (omega (arith, at.count))

-- ---- a line feed

abbrev answer_of : (start written : Option (List ℕ)) (reading : Reading) (bytes : List ℕ) → IsAt start written reading bytes → List ℕ
answer_of start written reading bytes at = (answered (after_lines first_session at.lines) reading.line).text

module _ (start before after : Option (List ℕ)) (reading new : Reading) (bytes : List ℕ) (at : IsAt start before reading bytes) where
  -- nothing was written
  still : after ≡ before → Appends start after (printed_for first_session at.lines)
  still same = subst (λ (w : Option (List ℕ)). Appends start w (printed_for first_session at.lines)) (sym same) at.written

  -- the lines behind the line feed
  lines_fed : IsSmall reading → lines_in (bytes ++ 10 ∷ []) ≡ at.lines ++ reading.line ∷ []
  lines_fed small =
      ap lines_in (joined_more at.lines reading.line bytes at.parts ∙ sym (append-nil (joined (at.lines ++ reading.line ∷ []))))
      ∙ lines_in_are (at.lines ++ reading.line ∷ []) [] (feedless_more at.lines reading.line at.feedless at.line_feedless) tt
      ∙ append-nil (at.lines ++ reading.line ∷ [])

  whole_fed : whole_lines_in (bytes ++ 10 ∷ []) ≡ at.lines ++ reading.line ∷ []
  whole_fed =
      ap whole_lines_in (joined_more at.lines reading.line bytes at.parts ∙ sym (append-nil (joined (at.lines ++ reading.line ∷ []))))
      ∙ whole_lines_are (at.lines ++ reading.line ∷ []) [] (feedless_more at.lines reading.line at.feedless at.line_feedless) tt

  within_fed : IsSmall reading → reading.count + 1 ≤ input_limit → IsWithin (bytes ++ 10 ∷ [])
  within_fed small few =
      within_by (bytes ++ 10 ∷ []) (at.lines ++ reading.line ∷ []) []
      (joined_more at.lines reading.line bytes at.parts ∙ sym (append-nil (joined (at.lines ++ reading.line ∷ []))))
      (feedless_more at.lines reading.line at.feedless at.line_feedless) tt
      (short_more at.lines reading.line at.short small) (omega arith) (omega (arith, at.count, length-append bytes (10 ∷ [])))

  pub fed : IsSmall reading → new.line ≡ [] → new.number ≡ reading.number + 1 → new.count ≡ reading.count + 1
      → IsSession new.session (answered (after_lines first_session at.lines) reading.line).session
      → Appends before after (answered (after_lines first_session at.lines) reading.line).text → IsAt start after new (bytes ++ 10 ∷ [])
  fed small line number count session written = record {
    lines = at.lines ++ reading.line ∷ [];
    parts = joined_more at.lines reading.line bytes at.parts ∙ sym (append-nil (joined (at.lines ++ reading.line ∷ [])))
        ∙ ap (λ (x : List ℕ). joined (at.lines ++ reading.line ∷ []) ++ x) (sym line);
    feedless = feedless_more at.lines reading.line at.feedless at.line_feedless;
    line_feedless = subst IsFeedless (sym line) tt;
    short = short_more at.lines reading.line at.short small;
    count = omega (arith, count, at.count, length-append bytes (10 ∷ []));
    number = omega (arith, number, at.number, length-append at.lines (reading.line ∷ []));
    session = subst (IsSession new.session) (sym (after_line_more first_session at.lines reading.line)) session;
    written = written_more start before after first_session at.lines reading.line at.written written;
  }

  pub fed_broken : IsSmall reading → reading.count + 1 ≤ input_limit
      → AppendsFront before after (answered (after_lines first_session at.lines) reading.line).text → Ends halt.Write start after (bytes ++ 10 ∷ [])
  fed_broken small few written = (
    within_fed small few,
    subst (λ (x : List (List ℕ)). AppendsFront start after (printed_for first_session x)) (sym (lines_fed small))
        (written_front_more start before after first_session at.lines reading.line at.written written),
  )

  pub fed_short : IsSmall reading → after ≡ before → Ends halt.NoMemory start after (bytes ++ 10 ∷ [])
  fed_short small same =
      subst (λ (x : List (List ℕ)). AppendsSome start after (printed_for first_session x)) (sym whole_fed)
      (some_of_more start after first_session at.lines (reading.line ∷ []) (still same))

  -- however the line was answered
  pub fed_by : (result : Result (Unit {0}) Halt) → IsSmall reading → reading.count + 1 ≤ input_limit → OnOk result (new.line ≡ [])
      → OnOk result (new.number ≡ reading.number + 1) → new.count ≡ reading.count + 1
      → Answers result before after new.session (answered (after_lines first_session at.lines) reading.line)
      → Goes result start after new (bytes ++ 10 ∷ [])
  fed_by (Ok done) small few line number count h = fed small line number count h.0 h.1
  fed_by (Err halt.Write) small few line number count h = fed_broken small few h
  fed_by (Err halt.NoMemory) small few line number count h = fed_short small h
  fed_by (Err halt.Read) small few line number count h = absurd h
  fed_by (Err (halt.TooLong its)) small few line number count h = absurd h
  fed_by (Err (halt.TooMany its)) small few line number count h = absurd h

  -- ---- another byte

  pub goes_on : (byte : ℕ) → (byte == 10) ≡ false → after ≡ before → new.line ≡ reading.line ++ byte ∷ [] → new.number ≡ reading.number
      → new.count ≡ reading.count + 1 → new.session ≡ reading.session → IsAt start after new (bytes ++ byte ∷ [])
  goes_on byte other same line number count session = record {
    lines = at.lines;
    parts = longer at.lines reading.line bytes byte at.parts ∙ ap (λ (x : List ℕ). joined at.lines ++ x) (sym line);
    feedless = at.feedless;
    line_feedless = subst IsFeedless (sym line) (feedless_byte reading.line byte at.line_feedless other);
    short = at.short;
    count = omega (arith, count, at.count, length-append bytes (byte ∷ []));
    number = number ∙ at.number;
    session = subst (λ (s : code.Session). IsSession s (after_lines first_session at.lines)) (sym session) at.session;
    written = subst (λ (w : Option (List ℕ)). Appends start w (printed_for first_session at.lines)) (sym same) at.written;
  }

  -- memory ran out for it
  pub stays_short : (byte : ℕ) → after ≡ before → Ends halt.NoMemory start after (bytes ++ byte ∷ [])
  stays_short byte same =
      let more = either_more at.lines reading.line bytes byte at.parts at.feedless at.line_feedless in
      subst (λ (x : List (List ℕ)). AppendsSome start after (printed_for first_session x)) (sym (whole_of_more at.lines (bytes ++ byte ∷ []) more))
      (some_of_more start after first_session at.lines (whole_in (more.last ∷ [])) (still same))

  -- what is printed for the lines before the one that the byte belongs to
  written_before : (longer_bytes : List ℕ) → OneMore at.lines longer_bytes → after ≡ before
      → Appends start after (printed_for first_session (lines_before reading.number longer_bytes))
  written_before longer_bytes more same =
      let lines_are : lines_before reading.number longer_bytes ≡ at.lines =
      ap (λ (n : ℕ). lines_before n longer_bytes) at.number ∙ before_last at.lines longer_bytes more in
      subst (λ (x : List (List ℕ)). Appends start after (printed_for first_session x)) (sym lines_are) (still same)

  -- it is one more than a line may have
  pub too_long : (byte : ℕ) → (byte == 10) ≡ false → length reading.line ≡ line_limit → reading.count + 1 ≤ input_limit → after ≡ before
      → Ends (halt.TooLong reading.number) start after (bytes ++ byte ∷ [])
  too_long byte other full few same =
      let last : Line = open_line (reading.line ++ byte ∷ []) in
      let lines_are : lines_of (bytes ++ byte ∷ []) ≡ map whole at.lines ++ last ∷ [] =
      one_more at.lines reading.line bytes byte at.parts at.feedless at.line_feedless other in
      let number : reading.number ≡ length (lines_of (bytes ++ byte ∷ [])) = at.number ∙ sym (ap length lines_are ∙ count_of_more at.lines last) in
      let before_it : reading.number - 1 ≡ length at.lines = omega (arith, at.number) in
      let passes : Passes (bytes ++ byte ∷ []) (TooLong reading.number) = record {
        front = bytes;
        byte = byte;
        bytes_are = refl;
        within = within_at start before reading bytes at (omega arith) (omega arith);
        past = (
          number,
          omega (arith, at.count, length-append bytes (byte ∷ [])),
          last,
          ap (λ (x : List Line). slice_get x (reading.number - 1)) lines_are
              ∙ ap (λ (n : ℕ). slice_get (map whole at.lines ++ last ∷ []) n) before_it ∙ get_last at.lines last,
          omega (arith, full, length-append reading.line (byte ∷ [])),
        );
      } in
      (passes, written_before (bytes ++ byte ∷ []) (record { last = last; lines_are = lines_are }) same)

  -- it is one more than an input may have
  pub too_many : (byte : ℕ) → IsSmall reading → reading.count ≡ input_limit → after ≡ before
      → Ends (halt.TooMany reading.number) start after (bytes ++ byte ∷ [])
  too_many byte small full same =
      let more = either_more at.lines reading.line bytes byte at.parts at.feedless at.line_feedless in
      let passes : Passes (bytes ++ byte ∷ []) (TooMany reading.number) = record {
        front = bytes;
        byte = byte;
        bytes_are = refl;
        within = within_at start before reading bytes at small (omega arith);
        past = (
          at.number ∙ sym (ap length more.lines_are ∙ count_of_more at.lines more.last),
          omega (arith, at.count, full, length-append bytes (byte ∷ [])),
        );
      } in
      (passes, written_before (bytes ++ byte ∷ []) more same)

  -- ---- the end of the input

  -- no line is left
  pub closes_empty : reading.line ≡ [] → reading.count ≤ input_limit → after ≡ before → Closes (Ok tt) start after bytes
  closes_empty empty few same =
      let lines_are : lines_in bytes ≡ at.lines = ap lines_in at.parts ∙ lines_in_are at.lines reading.line at.feedless at.line_feedless
      ∙ ap (λ (x : List ℕ). at.lines ++ last_line x) empty ∙ append-nil at.lines in
      let small : length reading.line ≤ line_limit = omega (arith, ap length empty) in (
        within_at start before reading bytes at small few,
        subst (λ (x : List (List ℕ)). Appends start after (printed_for first_session x)) (sym lines_are) (still same),
      )

  last_is : (line : List ℕ) → (line ≡ [] → ⊥) → last_line line ≡ line ∷ []
  last_is [] some = absurd (some refl)
  last_is (byte ∷ line) some = refl

  lines_closed : (reading.line ≡ [] → ⊥) → lines_in bytes ≡ at.lines ++ reading.line ∷ []
  lines_closed some = ap lines_in at.parts ∙ lines_in_are at.lines reading.line at.feedless at.line_feedless
      ∙ ap (λ (x : List (List ℕ)). at.lines ++ x) (last_is reading.line some)

  -- the last line was answered
  pub closes : (result : Result (Unit {0}) Halt) → (session : code.Session) → (reading.line ≡ [] → ⊥) → IsSmall reading → reading.count ≤ input_limit
      → Answers result before after session (answered (after_lines first_session at.lines) reading.line) → Closes result start after bytes
  closes (Ok done) session some small few h = (
    within_at start before reading bytes at small few,
    subst (λ (x : List (List ℕ)). Appends start after (printed_for first_session x)) (sym (lines_closed some))
        (written_more start before after first_session at.lines reading.line at.written h.1),
  )
  closes (Err halt.Write) session some small few h = (
    within_at start before reading bytes at small few,
    subst (λ (x : List (List ℕ)). AppendsFront start after (printed_for first_session x)) (sym (lines_closed some))
        (written_front_more start before after first_session at.lines reading.line at.written h),
  )
  closes (Err halt.NoMemory) session some small few h =
      subst (λ (x : List (List ℕ)). AppendsSome start after (printed_for first_session x)) (sym (lines_closed some))
      (some_of_more start after first_session at.lines (reading.line ∷ []) (still h))
  closes (Err halt.Read) session some small few h = absurd h
  closes (Err (halt.TooLong its)) session some small few h = absurd h
  closes (Err (halt.TooMany its)) session some small few h = absurd h

-- ---- the whole

-- nothing was read
pub at_first : (start : Option (List ℕ)) (reading : Reading) → reading.line ≡ [] → reading.number ≡ 1 → reading.count ≡ 0
    → IsSession reading.session first_session → IsAt start start reading []
unfolding printed_for after_lines
at_first start reading line number count session = record {
  lines = [];
  parts = sym line;
  feedless = tt;
  line_feedless = subst IsFeedless (sym line) tt;
  short = tt;
  count = count;
  number = number;
  session = session;
  written = Appends-nil start;
}

-- reading ended behind these bytes
pub finishes_by : (halt : Halt) (left left_after start after : Option (List ℕ)) (bytes : List ℕ) → Consumes left left_after bytes
    → Ends halt start after bytes → Finishes (Err halt) left left_after start after
finishes_by halt.Read left left_after start after bytes consumed h = absurd h
finishes_by halt.Write left left_after start after bytes consumed h = record { bytes = bytes; consumed = consumed; within = h.0; written = h.1 }
finishes_by (halt.TooLong line) left left_after start after bytes consumed h =
    record { bytes = bytes; consumed = consumed; passes = h.0; written = h.1 }
finishes_by (halt.TooMany line) left left_after start after bytes consumed h =
    record { bytes = bytes; consumed = consumed; passes = h.0; written = h.1 }
finishes_by halt.NoMemory left left_after start after bytes consumed h = record { bytes = bytes; consumed = consumed; written = inl h }

-- the source is at its end, and its lines were answered
pub finishes_closed : (result : Result (Unit {0}) Halt) (left left_after start after : Option (List ℕ)) (bytes : List ℕ)
    → Consumes left left_after bytes → IsAtEnd left_after → Closes result start after bytes → Finishes result left left_after start after
finishes_closed (Ok done) left left_after start after bytes consumed end h =
    record { bytes = bytes; consumed = consumed; end = end; within = h.0; written = h.1 }
finishes_closed (Err halt.NoMemory) left left_after start after bytes consumed end h =
    record { bytes = bytes; consumed = consumed; written = inr (end, h) }
finishes_closed (Err halt.Write) left left_after start after bytes consumed end h =
    finishes_by halt.Write left left_after start after bytes consumed h
finishes_closed (Err halt.Read) left left_after start after bytes consumed end h = absurd h
finishes_closed (Err (halt.TooLong line)) left left_after start after bytes consumed end h = absurd h
finishes_closed (Err (halt.TooMany line)) left left_after start after bytes consumed end h = absurd h

-- the source failed
pub finishes_unread : (left left_after start after : Option (List ℕ)) (reading : Reading) (bytes : List ℕ) → Consumes left left_after bytes
    → IsAt start after reading bytes → IsSmall reading → reading.count ≤ input_limit → Finishes (Err halt.Read) left left_after start after
finishes_unread left left_after start after reading bytes consumed at small few = record {
  bytes = bytes;
  consumed = consumed;
  within = within_at start after reading bytes at small few;
  written = subst (λ (x : List (List ℕ)). Appends start after (printed_for first_session x))
      (sym (ap whole_lines_in at.parts ∙ whole_lines_are at.lines reading.line at.feedless at.line_feedless)) at.written;
}

-- memory ran out before anything was read
pub finishes_at_once : (left before : Option (List ℕ)) → Finishes (Err halt.NoMemory) left left before before
finishes_at_once left before = record { bytes = []; consumed = Consumes-nil left; written = inl (0, omega arith, Appends-nil before) }

-- no line fails to be read
pub unread_ends : (why : Halt) (start after : Option (List ℕ)) (bytes : List ℕ) → Ends why start after bytes → why ≡ halt.Read → ⊥
unread_ends why start after bytes h e = subst (λ (its : Halt). Ends its start after bytes) e h

pub unread_closes : (result : Result (Unit {0}) Halt) (start after : Option (List ℕ)) (bytes : List ℕ) → Closes result start after bytes
    → result ≡ Err halt.Read → ⊥
unread_closes result start after bytes h e = subst (λ (r : Result (Unit {0}) Halt). Closes r start after bytes) e h

-- a byte was read, or there is none
pub read_byte : (read : Option ℕ) (byte : ℕ) (left left_after : Option (List ℕ)) (faults faults_after : ℕ) → read ≡ Some byte
    → IsByteRead (Ok read) left left_after faults faults_after → Consumes left left_after (byte ∷ [])
read_byte read byte left left_after faults faults_after is h =
    subst (λ (o : Option ℕ). IsByteRead (Ok o) left left_after faults faults_after) is h

pub read_none : (read : Option ℕ) (left left_after : Option (List ℕ)) (faults faults_after : ℕ) → ((byte : ℕ) → read ≡ Some byte → ⊥)
    → IsByteRead (Ok read) left left_after faults faults_after → Keeps left left_after × IsAtEnd left_after
read_none None left left_after faults faults_after none h = h
read_none (Some byte) left left_after faults faults_after none h = absurd (none byte refl)
