use Rattle.std.proofs.Common.{option_copied, option_map, sym, ap, ◌∙◌}
use Rattle.std.specs.Map.Iter.{deref_pair}
use Rattle.key_map.specs.Ends.{first}
use Rattle.key_map.proofs.Spans.{option_map-TakesFirst}
use Rattle.ryw_view.specs.Views.{stored_of}
use Rattle.ryw_view.proofs.Runs.{between_met}
use Rattle.ryw_view.proofs.view.View.first_stored.Goals as goal

pub returns : goal.returns
returns c =
    between_met (stored_of c.args.self.now) c.args.from.now (option_copied c.args.boundary) (option_map deref_pair c.next.result)
    (ap first (sym c.stored_from.ensures) ∙ sym (option_map-TakesFirst deref_pair _ _ _ c.next.ensures.steps))
