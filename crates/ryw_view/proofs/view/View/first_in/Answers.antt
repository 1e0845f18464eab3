use Rattle.std.proofs.Common.{false, sym, subst, option_copied, option_map}
use Rattle.std.proofs.lemmas.Result.{IfOk-weaker}
use Rattle.std.specs.Map.Iter.{deref_pair}
use Rattle.key_bytes.specs.Entries.{entry_of}
use Rattle.ryw_view.specs.Views.{stored_of, seen_of}
use Rattle.ryw_view.specs.Walks.{IsFirstMet}
use Rattle.ryw_view.proofs.Segments.{met_own, met_stored}
use Rattle.ryw_view.proofs.view.View.first_in.Goals as goal

pub returns-in-Unmodified : goal.returns-in-Unmodified
returns-in-Unmodified c =
    let view = c.args.self.now in let key = c.args.from.now in let from = c.args.from.now in let boundary = option_copied c.args.boundary in
    IfOk-weaker c.copied.result _ _
    (λ pair same. subst (IsFirstMet (seen_of view) from false boundary) (sym same)
    (met_stored view.edits.now.mutations (stored_of view) key from false boundary c.requires.segment (rw c.in-Unmodified.is at c.requires.state)
    (option_map deref_pair c.first_stored.result) c.first_stored.ensures))
    c.copied.ensures

pub returns-in_default : goal.returns-in_default
returns-in_default c =
    let view = c.args.self.now in let key = c.args.from.now in let from = c.args.from.now in let boundary = option_copied c.args.boundary in
    IfOk-weaker c.pair_in.result _ _
    (λ pair same. met_own view.edits.now.mutations (stored_of view) key from false boundary c.requires.segment c.args.state c.requires.state
    c.in_default.not-Unmodified (option_map entry_of pair) same)
    c.pair_in.ensures
