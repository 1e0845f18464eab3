use Rattle.std.proofs.Common.{◌≡◌, ◌≢◌, true, false, ◌++◌, [], ◌∷◌, MatchBool, refl, sym, ap, ◌∙◌, true≢false}
use Rattle.std.proofs.lemmas.List.{same_from_push}
use Rattle.std.specs.Cmp.Lexicographic.{bytes_decides}
use Rattle.key_bytes.specs.Keys.{after}
use Rattle.conflict_ranges.proofs.newest.is_after.Goals as goal

pub returns-then-last-eq0 : goal.returns-then-last-eq0
returns-then-last-eq0 c =
    let decides = bytes_decides c.in-Some.front.now c.as_slice-then-last-eq0.result.now in
    elim c.eq.result as (λ t. c.eq.result ≡ t → MatchBool t (c.args.next.now ≡ after c.args.key.now) (c.args.next.now ≢ after c.args.key.now)) [
      | true ↦ λ same. ends ∙ ap (λ front. front ++ 0 ∷ []) (decides.0 (sym c.eq.ensures ∙ same) ∙ c.as_slice-then-last-eq0.ensures)
      | false ↦ λ other is.
          let fronts = (same_from_push c.in-Some.front.now c.args.key.now 0 0 (sym ends ∙ is)).0 in
          true≢false (sym (decides.1 (fronts ∙ sym c.as_slice-then-last-eq0.ensures)) ∙ sym c.eq.ensures ∙ other)
    ] refl
  where
    ends : c.args.next.now ≡ c.in-Some.front.now ++ 0 ∷ []
    ends = sym c.as_slice.ensures ∙ c.in-Some.ensures.cases.0 ∙ ap (λ last. c.in-Some.front.now ++ last ∷ []) c.if-last-eq0.true
