use Rattle.std.proofs.Common.{◌≡◌, true, false, sym, subst, ◌∙◌}
use Rattle.ryw_view.specs.Walks.{is_inside}
use Rattle.ryw_view.proofs.Segments.{untouched_up}
use Rattle.ryw_view.proofs.near.NearView.remembers.Goals as goal

pub returns-then-is_inside : goal.returns-then-is_inside
returns-then-is_inside c = λ is.
    let near = c.args.self.now in let key = c.args.key.now in (
      untouched_up near.view.edits.now.mutations c.in-Some.low key near.high (near.untouched c.in-Some.low c.in-Some.is)
          (sym c.is_inside.ensures ∙ c.if-is_inside.true),
      subst (λ high. is_inside high false key ≡ true) c.as_ref.ensures.value (sym c.is_inside-then-is_inside.ensures ∙ is),
    )
