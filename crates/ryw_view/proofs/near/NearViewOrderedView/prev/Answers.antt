use Rattle.std.proofs.Common.{Some, refl, ◌∙◌}
use Rattle.std.proofs.lemmas.Result.{IfOk-weaker}
use Rattle.std.specs.Map.Iter.{deref_pair}
use Rattle.ryw_view.specs.Views.{seen_of}
use Rattle.ryw_view.proofs.Firsts.{met_last}
use Rattle.ryw_view.proofs.near.NearViewOrderedView.prev.Goals as goal

pub returns-in-Some : goal.returns-in-Some
returns-in-Some c =
    IfOk-weaker c.copied.result _ _
    (λ copy same. same
    ∙ met_last (seen_of c.args.self.now.view) c.args.key.now (Some (deref_pair c.in-Some.pair))
    ((rw c.in-Some.is at c.prev_near.ensures), refl))
    c.copied.ensures
