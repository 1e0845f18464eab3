use Rattle.std.proofs.Common.{List, ap, map, sym, ◌∙◌}
use Rattle.std.proofs.lemmas.Result.{IfOk-weaker}
use Rattle.watch_core.specs.declared.ending.Ending.{Ending}
use Rattle.watch_core.specs.Watches.{told_by}
use Rattle.text_commands.specs.declared.scene.Quiet.{Quiet}
use Rattle.text_commands.proofs.Endings.{cells_are, ends_are, ends_fire}
use Rattle.text_commands.proofs.scene.Scene.close.Goals as goal

pub settle_each-requires : goal.settle_each-requires
settle_each-requires c =
    cells_are c.into_vec.result.items c.args.self.watches
    (ap (λ (es : List (Ending Quiet)). map told_by es) c.into_vec.ensures ∙ c.close.ensures.endings) ∙ sym c.requires

pub returns : goal.returns
returns c = λ events stands.
    let told = ap (λ (es : List (Ending Quiet)). map told_by es) c.into_vec.ensures ∙ c.close.ensures.endings in
    IfOk-weaker c.settle_each.result _ _
    (λ ends same. ends_fire events c.args.self ends.items stands (same ∙ ends_are c.into_vec.result.items c.args.self.watches told))
    c.settle_each.ensures
