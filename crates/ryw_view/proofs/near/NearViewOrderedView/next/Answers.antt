use Rattle.std.proofs.Common.{false, Some, refl, ◌∙◌}
use Rattle.std.proofs.lemmas.Result.{IfOk-weaker}
use Rattle.std.specs.Map.Iter.{deref_pair}
use Rattle.ryw_view.specs.Views.{seen_of}
use Rattle.ryw_view.proofs.Firsts.{met_first}
use Rattle.ryw_view.proofs.near.NearViewOrderedView.next.Goals as goal

pub returns-in-Some : goal.returns-in-Some
returns-in-Some c =
    IfOk-weaker c.copied.result _ _
    (λ copy same. same
    ∙ met_first (seen_of c.args.self.now.view) c.args.key.now false (Some (deref_pair c.in-Some.pair))
    ((rw c.in-Some.is at c.next_near.ensures), refl))
    c.copied.ensures
