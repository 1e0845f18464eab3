-- Strings, read run by run.
use Rattle.std.proofs.Common.{◌≡◌, ℕ, zero, suc, List, [], ◌∷◌, ◌++◌, Result, Ok, Err, refl, sym, ap, ◌∙◌, append_assoc}
use Rattle.std.proofs.lemmas.Bool.{ne_eqb}
use Rattle.std.proofs.lemmas.List.{append-nil}
use Rattle.fdb_tuple.specs.declared.fault.UnpackFault.{UnpackFault}
use Rattle.fdb_tuple.specs.declared.fault.UnpackFault.TheVariants as fault
use Rattle.fdb_tuple.specs.Zeros.{HasNoZero, IsNoEscape}
use Rattle.fdb_tuple.specs.Reading.{after_run, string_at}

after_run-twice : (xs ys : List ℕ) (read : Result (List ℕ × List ℕ) UnpackFault)
    → after_run xs (after_run ys read) ≡ after_run (xs ++ ys) read
after_run-twice xs ys (Ok r) = ap (λ (s : List ℕ). Ok (s, r.1)) (sym (append_assoc xs ys r.0))
after_run-twice xs ys (Err f) = refl

after_run-nothing : (read : Result (List ℕ × List ℕ) UnpackFault) → after_run [] read ≡ read
after_run-nothing (Ok r) = refl
after_run-nothing (Err f) = refl

string_run : (whole : ℕ) (run rest : List ℕ) → HasNoZero run → string_at whole (run ++ rest) ≡ after_run run (string_at whole rest)
unfolding string_at
string_run whole [] rest h = sym (after_run-nothing (string_at whole rest))
string_run whole (zero ∷ run) rest h = absurd (h.0 refl)
string_run whole (suc b ∷ run) rest h = ap (after_run (suc b ∷ [])) (string_run whole run rest h.1)
    ∙ after_run-twice (suc b ∷ []) run (string_at whole rest)

-- where the string ends
pub string_end : (whole : ℕ) (after : List ℕ) → IsNoEscape after → string_at whole (0 ∷ after) ≡ Ok ([], after)
unfolding string_at
string_end whole [] h = refl
string_end whole (b ∷ after) h = rw (ne_eqb b 0xFF h) refl

-- a 00 of the string
pub string_zero : (whole : ℕ) (rest : List ℕ) → string_at whole (0 ∷ 0xFF ∷ rest) ≡ after_run (0 ∷ []) (string_at whole rest)
unfolding string_at
string_zero whole rest = refl

-- no 00 at all
string_open : (whole : ℕ) (rest : List ℕ) → HasNoZero rest → string_at whole rest ≡ Err (fault.Truncated whole)
unfolding string_at
string_open whole [] h = refl
string_open whole (zero ∷ rest) h = absurd (h.0 refl)
string_open whole (suc b ∷ rest) h = ap (after_run (suc b ∷ [])) (string_open whole rest h.1)

-- a run up to a 00 that no FF follows
pub string_plain : (whole : ℕ) (bytes run after : List ℕ) → HasNoZero run → bytes ≡ run ++ 0 ∷ after → IsNoEscape after
    → string_at whole bytes ≡ Ok (run, after)
string_plain whole bytes run after h split end =
    ap (string_at whole) split ∙ string_run whole run (0 ∷ after) h ∙ ap (after_run run) (string_end whole after end)
    ∙ ap (λ (s : List ℕ). Ok (s, after)) (append-nil run)

-- The steps of a loop that has read `out` before `rest`, where a run up to a 00 comes next.
pub read_last : (whole : ℕ) (bytes out rest run after read : List ℕ) → after_run out (string_at whole rest) ≡ string_at whole bytes
    → HasNoZero run → rest ≡ run ++ 0 ∷ after → IsNoEscape after → read ≡ out ++ run → string_at whole bytes ≡ Ok (read, after)
read_last whole bytes out rest run after read so_far h split end e =
    sym so_far ∙ ap (after_run out) (string_plain whole rest run after h split end) ∙ ap (λ (s : List ℕ). Ok (s, after)) (sym e)

pub read_more : (whole : ℕ) (bytes out rest run after others read : List ℕ) → after_run out (string_at whole rest) ≡ string_at whole bytes
    → HasNoZero run → rest ≡ run ++ 0 ∷ after → after ≡ 0xFF ∷ others → read ≡ out ++ run ++ 0 ∷ []
    → after_run read (string_at whole others) ≡ string_at whole bytes
read_more whole bytes out rest run after others read so_far h split escape e =
    let there : rest ≡ run ++ 0 ∷ 0xFF ∷ others = split ∙ ap (λ (t : List ℕ). run ++ 0 ∷ t) escape in
    let one : string_at whole rest ≡ after_run (run ++ 0 ∷ []) (string_at whole others) = ap (string_at whole) there ∙ string_run whole run (0 ∷ 0xFF ∷ others) h ∙ ap (after_run run) (string_zero whole others) ∙ after_run-twice run (0 ∷ []) (string_at whole others) in
    let both : after_run read (string_at whole others) ≡ after_run out (string_at whole rest) = rw (e, one, append_assoc) (sym (after_run-twice out (run ++ 0 ∷ []) (string_at whole others))) in
    both ∙ so_far

-- no 00 comes any more
pub read_open : (whole : ℕ) (bytes out rest : List ℕ) → after_run out (string_at whole rest) ≡ string_at whole bytes → HasNoZero rest
    → string_at whole bytes ≡ Err (fault.Truncated whole)
read_open whole bytes out rest so_far h = sym so_far ∙ ap (after_run out) (string_open whole rest h)
