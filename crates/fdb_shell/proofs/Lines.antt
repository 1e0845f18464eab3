-- The lines of what was read: those that were answered, and the front of the next one.
use Rattle.std.proofs.Common.{◌≡◌, ℕ, suc, ◌+◌, ◌-◌, ◌≤◌, true, false, ◌==◌, List, [], ◌∷◌, ◌++◌, length, map, take, Some, refl, sym, ap, subst, ◌∙◌, append_assoc, arith}
use Rattle.std.specs.Prelude.{slice_get}
use Rattle.std.specs.List.{AllByRecursion, filter}
use Rattle.std.proofs.lemmas.Bool.{eqb-true}
use Rattle.std.proofs.lemmas.List.{append-nil, take_at}
use Rattle.std.proofs.lemmas.Grind.{flat_map-append}
use Rattle.model_lines.specs.Reading.{Line, Fault, BadLine, TooLong, TooMany, with_first, lines_of}
use Rattle.model_lines.proofs.Lines.{IsFeedless, IsFeedless-append, whole_first}
use Rattle.fdb_shell.specs.Limits.{line_limit, input_limit}
use Rattle.fdb_shell.specs.Outcomes.{lines_in, whole_lines_in, lines_before, number_in, IsPast, IsWithin}
use Rattle.fdb_shell.specs.Endings.{joined}

abbrev pub whole : List ℕ → Line
whole bytes = record { bytes = bytes; is_whole = true }

-- the line that lacks its line feed, where there is one
abbrev pub last_line : List ℕ → List (List ℕ)
last_line [] = []
last_line (byte ∷ bytes) = (byte ∷ bytes) ∷ []

abbrev pub open_line : List ℕ → Line
open_line bytes = record { bytes = bytes; is_whole = false }

-- bytes without a line feed are one line that lacks it, or none
one_line : (bytes : List ℕ) → IsFeedless bytes → lines_of bytes ≡ map open_line (last_line bytes)
unfolding lines_of
one_line [] h = refl
one_line (byte ∷ []) h = rw h.0 refl
one_line (byte ∷ next ∷ bytes) h = rw (h.0, one_line (next ∷ bytes) h.1) refl

pub lines_are : (lines : List (List ℕ)) (line : List ℕ) → AllByRecursion IsFeedless lines → IsFeedless line
    → lines_of (joined lines ++ line) ≡ map whole lines ++ map open_line (last_line line)
lines_are [] line h k = one_line line k
lines_are (first ∷ lines) line h k =
    ap lines_of (append_assoc (first ++ 10 ∷ []) (joined lines) line)
    ∙ whole_first first (joined lines ++ line) h.0
    ∙ ap (λ (x : List Line). whole first ∷ x) (lines_are lines line h.1 k)

-- ---- in the words of the contracts

bytes_of_whole : (lines : List (List ℕ)) (rest : List Line)
    → map (λ (line : Line). line.bytes) (map whole lines ++ rest) ≡ lines ++ map (λ (line : Line). line.bytes) rest
bytes_of_whole [] rest = refl
bytes_of_whole (line ∷ lines) rest = ap (λ (x : List (List ℕ)). line ∷ x) (bytes_of_whole lines rest)

bytes_of_open : (line : List ℕ) → map (λ (line : Line). line.bytes) (map open_line (last_line line)) ≡ last_line line
bytes_of_open [] = refl
bytes_of_open (byte ∷ bytes) = refl

pub lines_in_are : (lines : List (List ℕ)) (line : List ℕ) → AllByRecursion IsFeedless lines → IsFeedless line
    → lines_in (joined lines ++ line) ≡ lines ++ last_line line
lines_in_are lines line h k = ap (map (λ (line : Line). line.bytes)) (lines_are lines line h k)
    ∙ bytes_of_whole lines (map open_line (last_line line))
    ∙ ap (λ (x : List (List ℕ)). lines ++ x) (bytes_of_open line)

only_whole : (lines : List (List ℕ)) (rest : List Line)
    → filter (λ (line : Line). line.is_whole) (map whole lines ++ rest) ≡ map whole lines ++ filter (λ (line : Line). line.is_whole) rest
only_whole [] rest = refl
only_whole (line ∷ lines) rest = ap (λ (x : List Line). whole line ∷ x) (only_whole lines rest)

none_whole : (line : List ℕ) → filter (λ (line : Line). line.is_whole) (map open_line (last_line line)) ≡ []
none_whole [] = refl
none_whole (byte ∷ bytes) = refl

pub whole_lines_are : (lines : List (List ℕ)) (line : List ℕ) → AllByRecursion IsFeedless lines → IsFeedless line
    → whole_lines_in (joined lines ++ line) ≡ lines
whole_lines_are lines line h k =
    ap (λ (x : List Line). map (λ (line : Line). line.bytes) (filter (λ (line : Line). line.is_whole) x)) (lines_are lines line h k)
    ∙ ap (map (λ (line : Line). line.bytes)) (only_whole lines (map open_line (last_line line)) ∙ ap (λ (x : List Line). map whole lines ++ x) (none_whole line))
    ∙ bytes_of_whole lines []
    ∙ append-nil lines

-- ---- limits

abbrev IsShort : Line → Type 0
IsShort line = length line.bytes ≤ line_limit

short_whole : (lines : List (List ℕ)) (rest : List Line) → AllByRecursion (λ (line : List ℕ). length line ≤ line_limit) lines
    → AllByRecursion IsShort rest → AllByRecursion IsShort (map whole lines ++ rest)
short_whole [] rest h k = k
short_whole (line ∷ lines) rest h k = (h.0, short_whole lines rest h.1 k)

short_open : (line : List ℕ) → length line ≤ line_limit → AllByRecursion IsShort (map open_line (last_line line))
short_open [] h = tt
short_open (byte ∷ bytes) h = (h, tt)

pub within_by : (bytes : List ℕ) (lines : List (List ℕ)) (line : List ℕ) → bytes ≡ joined lines ++ line → AllByRecursion IsFeedless lines
    → IsFeedless line → AllByRecursion (λ (line : List ℕ). length line ≤ line_limit) lines → length line ≤ line_limit → length bytes ≤ input_limit
    → IsWithin bytes
within_by bytes lines line is h k short last few = record {
  few = few;
  short = subst (AllByRecursion IsShort) (sym (ap lines_of is ∙ lines_are lines line h k))
      (short_whole lines (map open_line (last_line line)) short (short_open line last));
}

-- ---- one byte more

-- a line feed makes the last line whole
pub joined_more : (lines : List (List ℕ)) (line bytes : List ℕ) → bytes ≡ joined lines ++ line
    → bytes ++ 10 ∷ [] ≡ joined (lines ++ line ∷ [])
joined_more lines line bytes is = ap (λ (x : List ℕ). x ++ 10 ∷ []) is ∙ append_assoc (joined lines) line (10 ∷ [])
    ∙ ap (λ (x : List ℕ). joined lines ++ x) (sym (append-nil (line ++ 10 ∷ [])))
    ∙ sym (flat_map-append (λ (line : List ℕ). line ++ 10 ∷ []) lines (line ∷ []))

pub feedless_more : (lines : List (List ℕ)) (line : List ℕ) → AllByRecursion IsFeedless lines → IsFeedless line
    → AllByRecursion IsFeedless (lines ++ line ∷ [])
feedless_more [] line h k = (k, tt)
feedless_more (first ∷ lines) line h k = (h.0, feedless_more lines line h.1 k)

pub short_more : (lines : List (List ℕ)) (line : List ℕ) → AllByRecursion (λ (line : List ℕ). length line ≤ line_limit) lines
    → length line ≤ line_limit → AllByRecursion (λ (line : List ℕ). length line ≤ line_limit) (lines ++ line ∷ [])
short_more [] line h k = (k, tt)
short_more (first ∷ lines) line h k = (h.0, short_more lines line h.1 k)

-- another byte belongs to the last line
pub longer : (lines : List (List ℕ)) (line bytes : List ℕ) (byte : ℕ) → bytes ≡ joined lines ++ line
    → bytes ++ byte ∷ [] ≡ joined lines ++ (line ++ byte ∷ [])
longer lines line bytes byte is = ap (λ (x : List ℕ). x ++ byte ∷ []) is ∙ append_assoc (joined lines) line (byte ∷ [])

pub feedless_byte : (line : List ℕ) (byte : ℕ) → IsFeedless line → (byte == 10) ≡ false → IsFeedless (line ++ byte ∷ [])
feedless_byte line byte h e = IsFeedless-append line (byte ∷ []) h (e, tt)

last_of_more : (line : List ℕ) (byte : ℕ) → last_line (line ++ byte ∷ []) ≡ (line ++ byte ∷ []) ∷ []
last_of_more [] byte = refl
last_of_more (first ∷ line) byte = refl

-- the lines of bytes and one more: the one that the byte belongs to is the last
pub record OneMore (lines : List (List ℕ)) (bytes : List ℕ) : Type 0 where
  pub last : Line
  pub lines_are : lines_of bytes ≡ map whole lines ++ last ∷ []

pub one_more : (lines : List (List ℕ)) (line bytes : List ℕ) (byte : ℕ) → bytes ≡ joined lines ++ line → AllByRecursion IsFeedless lines
    → IsFeedless line → (byte == 10) ≡ false → lines_of (bytes ++ byte ∷ []) ≡ map whole lines ++ open_line (line ++ byte ∷ []) ∷ []
one_more lines line bytes byte is h k e =
    ap lines_of (longer lines line bytes byte is) ∙ lines_are lines (line ++ byte ∷ []) h (feedless_byte line byte k e)
    ∙ ap (λ (x : List (List ℕ)). map whole lines ++ map open_line x) (last_of_more line byte)

map_more : (lines : List (List ℕ)) (line : List ℕ) → map whole (lines ++ line ∷ []) ≡ map whole lines ++ whole line ∷ []
map_more [] line = refl
map_more (first ∷ lines) line = ap (λ (x : List Line). whole first ∷ x) (map_more lines line)

pub one_whole_more : (lines : List (List ℕ)) (line bytes : List ℕ) → bytes ≡ joined lines ++ line → AllByRecursion IsFeedless lines
    → IsFeedless line → lines_of (bytes ++ 10 ∷ []) ≡ map whole lines ++ whole line ∷ []
one_whole_more lines line bytes is h k =
    ap lines_of (joined_more lines line bytes is ∙ sym (append-nil (joined (lines ++ line ∷ []))))
    ∙ lines_are (lines ++ line ∷ []) [] (feedless_more lines line h k) tt
    ∙ append-nil (map whole (lines ++ line ∷ []))
    ∙ map_more lines line

pub either_more : (lines : List (List ℕ)) (line bytes : List ℕ) (byte : ℕ) → bytes ≡ joined lines ++ line → AllByRecursion IsFeedless lines
    → IsFeedless line → OneMore lines (bytes ++ byte ∷ [])
either_more lines line bytes byte is h k =
    elim (byte == 10) as (λ b. (byte == 10) ≡ b → OneMore lines (bytes ++ byte ∷ [])) [
      | true ↦ λ e. record {
        last = whole line;
        lines_are = rw (eqb-true byte 10 e) (one_whole_more lines line bytes is h k);
      }
      | false ↦ λ e. record { last = open_line (line ++ byte ∷ []); lines_are = one_more lines line bytes byte is h k e }
    ] refl

-- ---- the last of these lines, and those before it

pub count_of_more : (lines : List (List ℕ)) (last : Line) → length (map whole lines ++ last ∷ []) ≡ length lines + 1
count_of_more [] last = refl
count_of_more (line ∷ lines) last = let e : suc (length lines + 1) ≡ length (line ∷ lines) + 1 = omega arith in ap suc (count_of_more lines last) ∙ e

pub get_last : (lines : List (List ℕ)) (last : Line) → slice_get (map whole lines ++ last ∷ []) (length lines) ≡ Some last
get_last [] last = refl
get_last (line ∷ lines) last = get_last lines last

pub before_last : (lines : List (List ℕ)) (bytes : List ℕ) (more : OneMore lines bytes) → lines_before (length lines + 1) bytes ≡ lines
before_last lines bytes more =
    let e : length lines + 1 - 1 ≡ length lines = omega arith in
    ap (λ (n : ℕ). take n (lines_in bytes)) e
    ∙ ap (λ (x : List Line). take (length lines) (map (λ (line : Line). line.bytes) x)) more.lines_are
    ∙ ap (take (length lines)) (bytes_of_whole lines (more.last ∷ []))
    ∙ take_at lines (more.last.bytes ∷ []) (length lines) refl

-- ---- whole lines

-- the whole ones of some lines
abbrev pub whole_in : List Line → List (List ℕ)
whole_in lines = map (λ (line : Line). line.bytes) (filter (λ (line : Line). line.is_whole) lines)

pub whole_of_more : (lines : List (List ℕ)) (bytes : List ℕ) (more : OneMore lines bytes)
    → whole_lines_in bytes ≡ lines ++ whole_in (more.last ∷ [])
whole_of_more lines bytes more =
    ap whole_in more.lines_are
    ∙ ap (map (λ (line : Line). line.bytes)) (only_whole lines (more.last ∷ []))
    ∙ bytes_of_whole lines (filter (λ (line : Line). line.is_whole) (more.last ∷ []))

-- bytes that are there have a last line, and whole ones before it
first_more : (byte : ℕ) (lines : List (List ℕ)) (last : Line) (rest : List Line) → rest ≡ map whole lines ++ last ∷ []
    → (more : List (List ℕ)) × (its : Line) × (with_first byte rest ≡ map whole more ++ its ∷ [])
first_more byte [] last rest is = ([], record last { bytes = byte ∷ last.bytes }, ap (with_first byte) is)
first_more byte (line ∷ lines) last rest is = ((byte ∷ line) ∷ lines, last, ap (with_first byte) is)

some_lines : (byte : ℕ) (bytes : List ℕ) → (lines : List (List ℕ)) × OneMore lines (byte ∷ bytes)
unfolding lines_of
some_lines byte [] =
    elim (byte == 10) as (λ b. (byte == 10) ≡ b → (lines : List (List ℕ)) × OneMore lines (byte ∷ [])) [
      | true ↦ λ b. ([], record { last = whole []; lines_are = rw b refl })
      | false ↦ λ b. ([], record { last = open_line (byte ∷ []); lines_are = rw b refl })
    ] refl
some_lines byte (next ∷ bytes) =
    let rest = some_lines next bytes in
    elim (byte == 10) as (λ b. (byte == 10) ≡ b → (lines : List (List ℕ)) × OneMore lines (byte ∷ next ∷ bytes)) [
      | true ↦ λ b. (
        [] ∷ rest.0,
        record { last = rest.1.last; lines_are = rw b (ap (λ (x : List Line). whole [] ∷ x) rest.1.lines_are) },
      )
      | false ↦ λ b.
          let more = first_more byte rest.0 rest.1.last (lines_of (next ∷ bytes)) rest.1.lines_are in
          (more.0, record { last = more.1; lines_are = rw b more.2 })
    ] refl

behind_last : (byte : ℕ) (bytes : List ℕ) (number : ℕ) → number ≡ length (lines_of (byte ∷ bytes))
    → (rest : List (List ℕ)) × (whole_lines_in (byte ∷ bytes) ≡ lines_before number (byte ∷ bytes) ++ rest)
behind_last byte bytes number is =
    let some = some_lines byte bytes in
    let last_number : number ≡ length some.0 + 1 = is ∙ ap length some.1.lines_are ∙ count_of_more some.0 some.1.last in
    let before = ap (λ (n : ℕ). lines_before n (byte ∷ bytes)) last_number ∙ before_last some.0 (byte ∷ bytes) some.1 in (
      whole_in (some.1.last ∷ []),
      whole_of_more some.0 (byte ∷ bytes) some.1 ∙ ap (λ (x : List (List ℕ)). x ++ whole_in (some.1.last ∷ [])) (sym before),
    )

-- the lines before the one that passes a limit are whole ones, the first of them
pub whole_behind : (fault : Fault) (bytes : List ℕ) → IsPast fault bytes
    → (rest : List (List ℕ)) × (whole_lines_in bytes ≡ lines_before (number_in fault) bytes ++ rest)
unfolding lines_of
whole_behind (BadLine number place) bytes past = absurd past
whole_behind (TooMany number) [] past = absurd (omega (arith, past.1))
whole_behind (TooLong number) [] past = let impossible = past.3 in absurd cc
whole_behind (TooMany number) (byte ∷ bytes) past = behind_last byte bytes number past.0
whole_behind (TooLong number) (byte ∷ bytes) past = behind_last byte bytes number past.0
