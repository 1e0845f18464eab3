-- The line of a pair, read as an input of this one line; and the first line of bytes, alone.
use Rattle.std.proofs.Common.{◌≡◌, ℕ, zero, suc, ◌<◌, ◌≤◌, Bool, true, false, cond, ◌==◌, List, [], ◌∷◌, length, take, get_or, Result, Ok, Err, refl, sym, ap, arith}
use Rattle.std.proofs.lemmas.Bool.{false_from_ne_true}
use Rattle.model_lines.specs.Reading.{Line, Entry, Flaw, Bad, Long, Fault, BadLine, TooLong, TooMany, start, pair_at, joined, lines_of, line_limit}
use Rattle.model_lines.specs.Reading as reading
use Rattle.model_lines.proofs.ReadLines.{IsWithin, limits_pass}
use Rattle.model_input.specs.declared.input.Form.TheVariants as form
use Rattle.model_input.specs.declared.input.Input.{Input}
use Rattle.model_input.specs.Forms.{without_order, input_of}
use Rattle.dump_reading.specs.Dumps.{with_pair, judged}

pub length-feed : (is_whole : Bool) → cond is_whole 1 0 ≤ 1
length-feed true = omega arith
length-feed false = omega arith

-- a line that is short is within the limits at the start
pub short_is_within : (line : Line) → length line.bytes ≤ line_limit → IsWithin start line
short_is_within line short = record { size = omega (arith, length-feed line.is_whole); few = λ pair. omega arith; short = short }

pub read_alone : (line : Line) → length line.bytes ≤ line_limit → reading.read_line start line ≡ reading.judged 1 (pair_at line line.bytes)
unfolding reading.read_line
read_alone line short = limits_pass start line (reading.judged 1 (pair_at line line.bytes)) (short_is_within line short)

-- what an input of one line says
abbrev pub alone : Result Entry Flaw → Result Input Fault
alone read = without_order (joined (reading.judged 1 read) (Ok []))

pub input_alone : (line : Line) (spelled : List ℕ) → lines_of spelled ≡ line ∷ [] → length line.bytes ≤ line_limit
    → input_of form.Run spelled ≡ alone (pair_at line line.bytes)
unfolding input_of reading.read_lines
input_alone line spelled e short = rw (e, read_alone line short) refl

pub pair_found : (read : Result Entry Flaw) (input : Input) → alone read ≡ Ok input
    → (entry : Entry) × ((read ≡ Ok entry) × (input.pairs ≡ entry ∷ []))
pair_found (Err flaw) input e = absurd cc
pair_found (Ok entry) input e =
    let is : record { order = []; pairs = entry ∷ [] } ≡ input = cc in
    (entry, (refl, ap (λ (x : Input). x.pairs) (sym is)))

-- the fault of the one line is that of the line where it stands
pub bad_where_it_stands : (read : Result Entry Flaw) (first place number : ℕ) → alone read ≡ Err (BadLine first place)
    → judged number (with_pair read) ≡ Err (BadLine number place)
bad_where_it_stands (Ok entry) first place number e = absurd cc
bad_where_it_stands (Err (Bad at)) first place number e =
    let same : at ≡ place = cc in
    ap (λ (n : ℕ). Err (BadLine number n)) same
bad_where_it_stands (Err Long) first place number e = absurd cc

pub long_where_it_stands : (read : Result Entry Flaw) (first number : ℕ) → alone read ≡ Err (TooLong first)
    → judged number (with_pair read) ≡ Err (TooLong number)
long_where_it_stands (Ok entry) first number e = absurd cc
long_where_it_stands (Err (Bad at)) first number e = absurd cc
long_where_it_stands (Err Long) first number e = refl

pub never_too_many : (read : Result Entry Flaw) (first : ℕ) → alone read ≡ Err (TooMany first) → ⊥
never_too_many (Ok entry) first e = absurd cc
never_too_many (Err (Bad at)) first e = absurd cc
never_too_many (Err Long) first e = absurd cc

-- bytes up to their first line feed are one line
pub whole_alone : (n : ℕ) (bytes : List ℕ) → n < length bytes → ((k : ℕ) → k < n → (get_or bytes k 0 == 10) ≡ true → ⊥)
    → (get_or bytes n 0 == 10) ≡ true → lines_of (take (suc n) bytes) ≡ record { bytes = take n bytes; is_whole = true } ∷ []
unfolding lines_of
whole_alone n [] h none e = absurd (omega arith)
whole_alone zero (byte ∷ rest) h none e = rw e refl
whole_alone (suc n) (byte ∷ rest) h none e =
    let other : (byte == 10) ≡ false = false_from_ne_true (byte == 10) (none 0 (omega arith)) in
    let later = whole_alone n rest (omega arith) (λ k l. none (suc k) (omega arith)) e in
    rw (other, later) refl
