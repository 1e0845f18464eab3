-- What it tells that a line was read, and what is read of a line within the limits.
use Rattle.std.proofs.Common.{◌≡◌, ℕ, ◌+◌, ◌<◌, ◌≤◌, Bool, true, false, cond, not, ◌&&◌, ◌||◌, ◌==◌, nat_lt, nat_le, List, [], ◌∷◌, length, Result, Ok, Err, refl}
use Rattle.std.proofs.lemmas.Bool.{not-false, ltb-false, leb-false, le-ltb, lt-leb}
use Rattle.model_lines.specs.Reading.{Entry, Flaw, Fault, Bad, TooMany, TooLong, Line, Place, size_of, is_pair, is_too_many, text_of, fields_at, pair_at, judged, read_line, input_limit, pairs_limit, line_limit}

-- a test that did not fail
pub guard_ok : {A E : Type 0} (test : Bool) (fault : E) (read : Result A E) (value : A) → cond test (Err fault) read ≡ Ok value
    → (test ≡ false) × (read ≡ Ok value)
guard_ok true fault read value e = absurd cc
guard_ok false fault read value e = (refl, e)

pub neither : (a b : Bool) → (a || b) ≡ false → (a ≡ false) × (b ≡ false)
neither true b e = absurd cc
neither false b e = (refl, e)

not_both : (a b : Bool) → a ≡ true → (a && b) ≡ false → b ≡ false
not_both true b h e = e
not_both false b h e = absurd cc

judged_ok : (number : ℕ) (read : Result Entry Flaw) (entry : Entry) → judged number read ≡ Ok entry → read ≡ Ok entry
judged_ok number (Ok other) entry e = cc
judged_ok number (Err flaw) entry e = absurd cc

pair_is_pair : (line : Line) (bytes : List ℕ) (entry : Entry) → pair_at line bytes ≡ Ok entry → is_pair bytes ≡ true
unfolding pair_at
pair_is_pair line [] entry e = absurd cc
pair_is_pair line (kind ∷ []) entry e = absurd cc
pair_is_pair line (kind ∷ gap ∷ fields) entry e =
    not-false (kind == 75) (guard_ok (not (kind == 75)) (Bad 0) (cond (not (gap == 32)) (Err (Bad 1)) (fields_at line (text_of fields))) entry e).0

-- a line within the limits of an input
pub record IsWithin (place : Place) (line : Line) : Type 0 where
  pub size : place.bytes + size_of line ≤ input_limit
  pub few : is_pair line.bytes ≡ true → place.pairs < pairs_limit
  pub short : length line.bytes ≤ line_limit

-- what is read of a line: a fault where the line is past a limit
abbrev pub limited : {A : Type 0} → Place → Line → Result A Fault → Result A Fault
limited place line read =
    cond (is_too_many place line) (Err (TooMany place.number))
    (cond (nat_lt line_limit (length line.bytes)) (Err (TooLong place.number)) read)

pub was_within : {A : Type 0} (place : Place) (line : Line) (read : Result A Fault) (value : A) → limited place line read ≡ Ok value
    → IsWithin place line × (read ≡ Ok value)
was_within place line read value e =
    let many = guard_ok (is_too_many place line) (TooMany place.number)
    (cond (nat_lt line_limit (length line.bytes)) (Err (TooLong place.number)) read) value e in
    let long = guard_ok (nat_lt line_limit (length line.bytes)) (TooLong place.number) read value many.1 in
    let limits = neither (nat_lt input_limit (place.bytes + size_of line)) (is_pair line.bytes && nat_le pairs_limit place.pairs) many.0 in (
      record {
        size = ltb-false input_limit (place.bytes + size_of line) limits.0;
        few = λ pair. leb-false pairs_limit place.pairs (not_both (is_pair line.bytes) (nat_le pairs_limit place.pairs) pair limits.1);
        short = ltb-false line_limit (length line.bytes) long.0;
      },
      long.1,
    )

many_not : (test : Bool) (place : Place) → (test ≡ true → place.pairs < pairs_limit) → (test && nat_le pairs_limit place.pairs) ≡ false
many_not true place h = lt-leb pairs_limit place.pairs (h refl)
many_not false place h = refl

pub limits_pass : {A : Type 0} (place : Place) (line : Line) (read : Result A Fault) → IsWithin place line → limited place line read ≡ read
limits_pass place line read h =
    rw (
      le-ltb input_limit (place.bytes + size_of line) h.size,
      many_not (is_pair line.bytes) place h.few,
      le-ltb line_limit (length line.bytes) h.short,
    ) refl

-- a line that was read is one of a pair, within the limits
pub record IsRead (place : Place) (line : Line) (entry : Entry) : Type 0 where
  pub size : place.bytes + size_of line ≤ input_limit
  pub few : place.pairs < pairs_limit
  pub short : length line.bytes ≤ line_limit
  pub pair : is_pair line.bytes ≡ true
  pub read : pair_at line line.bytes ≡ Ok entry

pub is_read : (place : Place) (line : Line) (entry : Entry) → read_line place line ≡ Ok entry → IsRead place line entry
unfolding read_line
is_read place line entry e =
    let was = was_within place line (judged place.number (pair_at line line.bytes)) entry e in
    let read = judged_ok place.number (pair_at line line.bytes) entry was.1 in
    let pair = pair_is_pair line line.bytes entry read in
    record { size = was.0.size; few = was.0.few pair; short = was.0.short; pair = pair; read = read }
