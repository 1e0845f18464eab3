-- What is moved piece by piece is moved as a whole.
use Rattle.std.proofs.Common.{◌≡◌, ℕ, ◌+◌, ◌-◌, ◌≤◌, List, ◌++◌, length, take, drop, sym, subst, ap, ◌∙◌, length-take-le, take-append-drop}
use Rattle.std.specs.Prelude.{Option}
use Rattle.std.proofs.Math.Seq.{take-add}
use Rattle.std.proofs.lemmas.List.{take_rest, take_at}
use Rattle.std.specs.Io.KnownBytes.{Appends, Consumes}
use Rattle.std.proofs.KnownBytes.{Appends-trans, Consumes-trans}

-- a front, and then n bytes of the rest, are a longer front
pub Appends-more : (a b c : Option (List ℕ)) (bytes : List ℕ) (done n : ℕ) → Appends a b (take done bytes)
    → Appends b c (take n (take (length bytes - done) (drop done bytes))) → Appends a c (take (done + n) bytes)
Appends-more a b c bytes done n front piece =
    let rest = subst (λ (l : List ℕ). Appends b c (take n l)) (take_rest bytes done) piece in
    subst (Appends a c) (sym (take-add done n bytes)) (Appends-trans a b c _ _ front rest)

-- n bytes that were copied into the front of a buffer, and what is left after them, are what was left before
pub copied_front : (left copied buf : List ℕ) (n : ℕ) → n ≤ length left → copied ≡ take n left
    → left ≡ take n (copied ++ buf) ++ drop n left
copied_front left copied buf n within is =
    let long : length copied ≡ n = ap length is ∙ length-take-le n left within in
    sym (ap (λ l. l ++ drop n left) (take_at copied buf n long ∙ is) ∙ take-append-drop n left)

-- what filled a front, and then n bytes behind it, fill a longer front
pub Consumes-more : (a b c : Option (List ℕ)) (xs ys : List ℕ) (filled n : ℕ) → Consumes a b (take filled xs)
    → take filled ys ≡ take filled xs
    → Consumes b c (take n (drop filled ys)) → Consumes a c (take (filled + n) ys)
Consumes-more a b c xs ys filled n before same read =
    subst (Consumes a c) (sym (take-add filled n ys)) (Consumes-trans a b c _ _ (subst (Consumes a b) (sym same) before) read)
