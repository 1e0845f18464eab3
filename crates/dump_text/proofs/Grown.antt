-- What stands in front stays in front.
use Rattle.std.proofs.Common.{◌≡◌, ℕ, ◌≤◌, List, ◌++◌, length, drop, sym, ap, subst, ◌∙◌, arith}
use Rattle.std.proofs.lemmas.List.{length-take, take-append-le, take-append-drop}
use Rattle.dump_text.specs.Growing.{Grew}

pub grew_more : (old new more : List ℕ) → Grew old new → Grew old (new ++ more)
grew_more old new more h =
    let long : length old ≤ length new = omega (arith, length-take (length old) new, ap length h.front) in
    record { front = take-append-le (length old) new more long ∙ h.front }

pub grew_on : (old mid new : List ℕ) → Grew old mid → Grew mid new → Grew old new
grew_on old mid new h more =
    let behind = drop (length mid) new in
    let parts : mid ++ behind ≡ new = ap (λ (x : List ℕ). x ++ behind) (sym more.front) ∙ take-append-drop (length mid) new in
    subst (Grew old) parts (grew_more old mid behind h)
