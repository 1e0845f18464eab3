-- A dump that was read is its lines, and the lines of a dump are read.
use Rattle.std.proofs.Common.{◌≡◌, ℕ, ◌+◌, ◌<◌, ◌≤◌, Bool, true, false, cond, nat_lt, List, [], ◌∷◌, ◌++◌, length, flat_map, Result, Ok, Err, refl, sym, ap, subst, ◌∙◌, arith}
use Rattle.std.specs.List.{AllByRecursion}
use Rattle.std.proofs.lemmas.Bool.{ltb-false, le-ltb}
use Rattle.std.proofs.lemmas.List.{length-append}
use Rattle.model_lines.specs.Reading.{Bad, Fault, Place, start, next_place, size_of, is_pair, lines_of, input_limit, pairs_limit, line_limit}
use Rattle.model_lines.specs.Reading as reading
use Rattle.model_lines.proofs.ReadLines.{IsWithin, guard_ok, limits_pass}
use Rattle.dump_text.specs.declared.line.Line.{Line}
use Rattle.dump_text.specs.Lines.{line_of}
use Rattle.dump_text.proofs.Laws.{standing, lines_stand, length-standing}
use Rattle.dump_reading.specs.Dumps.{rank_of, value_at, ranked, judged, read_line, with_line, read_lines, dump_in, kind_of, AreInOrder, pairs_of, IsDumpLine, IsDump}
use Rattle.dump_reading.proofs.DumpSteps.{is_read}
use Rattle.dump_reading.proofs.LineLaws.{content, rank_is, pairs_are, IsLine, value_was}
use Rattle.dump_reading.proofs.LinesAgain.{line_for, first_again, length-line, value_again}
use Rattle.dump_reading.proofs.PairLines.{length-feed}

-- ---- a dump that was read

-- a line that was read at a place
record WasRead (rank : ℕ) (place : Place) (its_line : reading.Line) (value : Line) : Type 0 where
  within : IsWithin place its_line
  ordered : rank ≤ kind_of value
  line : IsLine its_line value

line_was : (rank : ℕ) (place : Place) (its_line : reading.Line) (value : Line) → read_line rank place its_line ≡ Ok value
    → WasRead rank place its_line value
line_was rank place its_line value e =
    let read = is_read rank place its_line value e in
    let parts = guard_ok (nat_lt (rank_of its_line.bytes) rank) (Bad 0) (value_at its_line its_line.bytes) value read.1 in
    let line = value_was its_line value read.0.short parts.1 in
    record { within = read.0; ordered = omega (arith, ltb-false (rank_of its_line.bytes) rank parts.0, line.kind); line = line }

-- a line is as long as its value's
dump_line : (rank : ℕ) (place : Place) (its_line : reading.Line) (value : Line) → WasRead rank place its_line value → IsDumpLine value
dump_line rank place its_line value h =
    let lens : length (line_of value) ≡ size_of its_line = ap length (sym h.line.stands) ∙ length-standing its_line in
    record { lawful = h.line.lawful; short = omega (arith, lens, h.within.short, length-feed its_line.is_whole) }

few_pairs : (place : Place) (is_one : Bool) → (is_one ≡ true → place.pairs < pairs_limit) → place.pairs ≤ pairs_limit
    → place.pairs + cond is_one 1 0 ≤ pairs_limit
few_pairs place true h few = omega (arith, h refl)
few_pairs place false h few = omega arith

-- lines that were read from a place on are those of lawful values in order, within the limits
record WereRead (rank : ℕ) (place : Place) (lines : List reading.Line) (values : List Line) : Type 0 where
  spelled : flat_map standing lines ≡ flat_map line_of values
  ordered : AreInOrder rank values
  all : AllByRecursion IsDumpLine values
  count : place.pairs + length (flat_map pairs_of values) ≤ pairs_limit
  size : place.bytes + length (flat_map standing lines) ≤ input_limit

with_line_ok : (first : Result Line Fault) (rest : Result (List Line) Fault) (values : List Line) → with_line first rest ≡ Ok values
    → (value : Line) × ((others : List Line) × ((first ≡ Ok value) × (rest ≡ Ok others) × (value ∷ others ≡ values)))
with_line_ok (Err fault) rest values e = absurd cc
with_line_ok (Ok value) (Err fault) values e = absurd cc
with_line_ok (Ok value) (Ok others) values e = (value, (others, (refl, refl, cc)))

lines_were : (rank : ℕ) (place : Place) (lines : List reading.Line) (values : List Line) → place.pairs ≤ pairs_limit
    → place.bytes ≤ input_limit → read_lines rank place lines ≡ Ok values → WereRead rank place lines values
unfolding read_lines
lines_were rank place [] values few size e =
    let none : [] ≡ values = cc in
    subst (WereRead rank place []) none (record { spelled = refl; ordered = tt; all = tt; count = omega arith; size = omega arith })
lines_were rank place (its_line ∷ lines) values few size e =
    let next = next_place place its_line in
    let parts = with_line_ok (read_line rank place its_line) (read_lines (rank_of its_line.bytes) next lines) values e in
    let value = parts.0 in
    let others = parts.1.0 in
    let was = line_was rank place its_line value parts.1.1.0 in
    let counted = few_pairs place (is_pair its_line.bytes) was.within.few few in
    let later = lines_were (rank_of its_line.bytes) next lines others counted was.within.size parts.1.1.1 in
    let stands = was.line.stands in
    subst (WereRead rank place (its_line ∷ lines)) parts.1.1.2 (record {
      spelled = ap (λ (x : List ℕ). x ++ flat_map standing lines) stands ∙ ap (λ (x : List ℕ). line_of value ++ x) later.spelled;
      ordered = (was.ordered, subst (λ (kind : ℕ). AreInOrder kind others) (sym was.line.kind) later.ordered);
      all = (dump_line rank place its_line value was, later.all);
      count = omega (arith, later.count, was.line.count, length-append (pairs_of value) (flat_map pairs_of others));
      size = omega (arith, later.size, length-append (standing its_line) (flat_map standing lines), length-standing its_line);
    })

pub dump_was : (bytes : List ℕ) (values : List Line) → dump_in bytes ≡ Ok values → IsDump bytes values
unfolding dump_in
dump_was bytes values e =
    let were = lines_were 0 start (lines_of bytes) values (omega arith) (omega arith) e in
    let stands = lines_stand bytes in
    record {
      spelled = sym stands ∙ were.spelled;
      ordered = were.ordered;
      lines = were.all;
      count = omega (arith, were.count);
      size = omega (arith, ap length stands, were.size);
    }

-- ---- the lines of a dump are read

one_pair : (place : Place) (value : Line) → place.pairs + length (pairs_of value) ≤ pairs_limit → is_pair (content value) ≡ true
    → place.pairs < pairs_limit
one_pair place value few e =
    let one : length (pairs_of value) ≡ 1 = pairs_are value ∙ ap (λ (b : Bool). cond b 1 0) e in
    omega (arith, one)

line_again : (rank : ℕ) (place : Place) (value : Line) → IsDumpLine value → rank ≤ kind_of value
    → place.pairs + length (pairs_of value) ≤ pairs_limit → place.bytes + size_of (line_for value) ≤ input_limit
    → read_line rank place (line_for value) ≡ Ok value
unfolding read_line
line_again rank place value h ordered few size =
    let its_line = line_for value in
    let within : IsWithin place its_line = record {
      size = size;
      few = one_pair place value few;
      short = omega (arith, h.short, length-line value);
    } in
    let test : nat_lt (rank_of its_line.bytes) rank ≡ false = le-ltb (rank_of its_line.bytes) rank (omega (arith, rank_is value, ordered)) in
    let read : ranked rank its_line ≡ Ok value = rw test (value_again value h) in
    limits_pass place its_line (judged place.number (ranked rank its_line)) within ∙ ap (judged place.number) read

lines_again : (rank : ℕ) (place : Place) (values : List Line) → AreInOrder rank values → AllByRecursion IsDumpLine values
    → place.pairs + length (flat_map pairs_of values) ≤ pairs_limit → place.bytes + length (flat_map line_of values) ≤ input_limit
    → read_lines rank place (lines_of (flat_map line_of values)) ≡ Ok values
unfolding read_lines lines_of
lines_again rank place [] ordered all few size = refl
lines_again rank place (value ∷ values) ordered all few size =
    let rest = flat_map line_of values in
    let its_line = line_for value in
    let lens : length (line_of value ++ rest) ≡ size_of its_line + length rest =
    length-append (line_of value) rest ∙ ap (λ (n : ℕ). n + length rest) (length-line value) in
    let counted = length-append (pairs_of value) (flat_map pairs_of values) in
    let read = line_again rank place value all.0 ordered.0 (omega (arith, counted, few)) (omega (arith, lens, size)) in
    let in_order : AreInOrder (rank_of its_line.bytes) values = subst (λ (kind : ℕ). AreInOrder kind values) (sym (rank_is value)) ordered.1 in
    let later = lines_again (rank_of its_line.bytes) (next_place place its_line) values in_order all.1
    (omega (arith, counted, pairs_are value, few)) (omega (arith, lens, size)) in
    rw (first_again value rest all.0.lawful, read, later) refl

pub dump_again : (bytes : List ℕ) (values : List Line) → IsDump bytes values → dump_in bytes ≡ Ok values
unfolding dump_in
dump_again bytes values h =
    rw h.spelled (lines_again 0 start values h.ordered h.lines (omega (arith, h.count)) (omega (arith, h.size, ap length h.spelled)))
