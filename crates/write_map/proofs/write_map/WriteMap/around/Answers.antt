use Rattle.std.proofs.Common.{ap, subst, ◌∙◌}
use Rattle.model_database.specs.States.{state_under}
use Rattle.range_map.specs.Boundaries.{IsBelowBoundary}
use Rattle.range_map.proofs.Neighbours.{held-up_to}
use Rattle.write_map.specs.Mutations.{mutations_of}
use Rattle.write_map.specs.Pending.{AreAlike, is_single_state}
use Rattle.write_map.proofs.Alike.{alike_held, next_single}
use Rattle.write_map.proofs.write_map.WriteMap.around.Goals as goal

pub returns-clause-alike : goal.returns-clause-alike
returns-clause-alike c asked from below =
    let levels = c.self.inside.levels in let key = c.args.key.now in
    subst (λ pending. AreAlike pending.mutations key asked) c.self.view_is
    (alike_held (mutations_of c.self.inside.log.items) levels c.self.invariant.levels key asked
    (held-up_to levels key asked from (subst (IsBelowBoundary asked) c.around.ensures.next below)))

pub returns-clause-single : goal.returns-clause-single
returns-clause-single c single =
    let key = c.args.key.now in
    c.around.ensures.next
    ∙ next_single (mutations_of c.self.inside.log.items) c.self.inside.levels c.self.invariant.levels key c.shows_rising.ensures
    (ap (λ pending. is_single_state (state_under pending.mutations key)) c.self.view_is ∙ single)
