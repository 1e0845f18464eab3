use Rattle.std.proofs.Common.{true, Some, sym, subst, option_map}
use Rattle.std.proofs.lemmas.Result.{IfOk-weaker}
use Rattle.std.specs.Map.Iter.{deref_pair}
use Rattle.key_bytes.specs.Entries.{entry_of}
use Rattle.ryw_view.specs.Views.{stored_of, seen_of}
use Rattle.ryw_view.specs.Walks.{IsFirstMet}
use Rattle.ryw_view.proofs.Segments.{met_own, met_stored}
use Rattle.ryw_view.proofs.view.View.last_in.Goals as goal

pub returns-in-Unmodified : goal.returns-in-Unmodified
returns-in-Unmodified c =
    let view = c.args.self.now in let key = c.args.boundary.now in let from = c.args.until.now in let boundary = Some c.args.boundary.now in
    IfOk-weaker c.copied.result _ _
    (λ pair same. subst (IsFirstMet (seen_of view) from true boundary) (sym same)
    (met_stored view.edits.now.mutations (stored_of view) key from true boundary c.requires (c.in-Unmodified.ensures {u = tt})
    (option_map deref_pair c.last_stored.result) c.last_stored.ensures))
    c.copied.ensures

pub returns-in_default : goal.returns-in_default
returns-in_default c =
    let view = c.args.self.now in let key = c.args.boundary.now in let from = c.args.until.now in let boundary = Some c.args.boundary.now in
    IfOk-weaker c.pair_in.result _ _
    (λ pair same. met_own view.edits.now.mutations (stored_of view) key from true boundary c.requires c.at.result c.at.ensures
    c.in_default.not-Unmodified (option_map entry_of pair) same)
    c.pair_in.ensures
