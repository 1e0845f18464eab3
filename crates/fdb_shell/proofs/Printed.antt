-- What is printed for one line more.
use Rattle.std.proofs.Common.{◌≡◌, ℕ, suc, ◌+◌, List, [], ◌∷◌, ◌++◌, length, take, Option, refl, sym, ap, subst, ◌∙◌, append_assoc, arith}
use Rattle.std.specs.Io.KnownBytes.{Appends}
use Rattle.std.proofs.KnownBytes.{Appends-trans}
use Rattle.std.proofs.lemmas.List.{append-nil, length-append, take_at}
use Rattle.outside.specs.Streams.{AppendsFront}
use Rattle.model_shell.specs.Sessions.{Session, printed_for, after_lines, answered}
use Rattle.fdb_shell.specs.Outcomes.{AppendsSome}

pub printed_more : (session : Session) (lines rest : List (List ℕ))
    → printed_for session (lines ++ rest) ≡ printed_for session lines ++ printed_for (after_lines session lines) rest
unfolding printed_for after_lines
printed_more session [] rest = refl
printed_more session (line ∷ lines) rest =
    let after = (answered session line).session in
    ap (λ (x : List ℕ). (answered session line).text ++ x) (printed_more after lines rest)
    ∙ sym (append_assoc (answered session line).text (printed_for after lines) (printed_for (after_lines after lines) rest))

pub printed_line_more : (session : Session) (lines : List (List ℕ)) (line : List ℕ)
    → printed_for session (lines ++ line ∷ []) ≡ printed_for session lines ++ (answered (after_lines session lines) line).text
unfolding printed_for
printed_line_more session lines line = printed_more session lines (line ∷ [])
    ∙ ap (λ (x : List ℕ). printed_for session lines ++ x) (append-nil (answered (after_lines session lines) line).text)

pub after_line_more : (session : Session) (lines : List (List ℕ)) (line : List ℕ)
    → after_lines session (lines ++ line ∷ []) ≡ (answered (after_lines session lines) line).session
unfolding after_lines
after_line_more session [] line = refl
after_line_more session (first ∷ lines) line = after_line_more (answered session first).session lines line

-- ---- what was written

-- one more text was written whole
pub written_more : (start before after : Option (List ℕ)) (session : Session) (lines : List (List ℕ)) (line : List ℕ)
    → Appends start before (printed_for session lines) → Appends before after (answered (after_lines session lines) line).text
    → Appends start after (printed_for session (lines ++ line ∷ []))
written_more start before after session lines line h k =
    subst (Appends start after) (sym (printed_line_more session lines line)) (Appends-trans start before after _ _ h k)

-- a front of one more text
pub front_more : (start before after : Option (List ℕ)) (front text : List ℕ) → Appends start before front
    → AppendsFront before after text → AppendsFront start after (front ++ text)
front_more start before after front text h k =
    let n = k.0 in
    let less = k.1 in (
      length front + n,
      omega (arith, length-append front text),
      subst (Appends start after) (taken front text n) (Appends-trans start before after front (take n text) h k.2),
    )
  where
    taken : (front text : List ℕ) (n : ℕ) → front ++ take n text ≡ take (length front + n) (front ++ text)
    taken [] text n = ap (λ (k : ℕ). take k text) (let e : n ≡ 0 + n = omega arith in e)
    taken (byte ∷ front) text n =
        let e : suc (length front + n) ≡ length (byte ∷ front) + n = omega arith in
        ap (λ (x : List ℕ). byte ∷ x) (taken front text n) ∙ ap (λ (k : ℕ). take k (byte ∷ (front ++ text))) e

pub written_front_more : (start before after : Option (List ℕ)) (session : Session) (lines : List (List ℕ)) (line : List ℕ)
    → Appends start before (printed_for session lines) → AppendsFront before after (answered (after_lines session lines) line).text
    → AppendsFront start after (printed_for session (lines ++ line ∷ []))
written_front_more start before after session lines line h k =
    subst (AppendsFront start after) (sym (printed_line_more session lines line)) (front_more start before after _ _ h k)

-- what was printed for lines is a front of what is printed for those and more
pub some_of_more : (start after : Option (List ℕ)) (session : Session) (lines rest : List (List ℕ))
    → Appends start after (printed_for session lines) → AppendsSome start after (printed_for session (lines ++ rest))
some_of_more start after session lines rest h =
    let front = printed_for session lines in
    let more = printed_for (after_lines session lines) rest in
    subst (AppendsSome start after) (sym (printed_more session lines rest)) (
      length front,
      omega (arith, length-append front more),
      subst (Appends start after) (sym (take_at front more (length front) refl)) h,
    )
