use Rattle.std.proofs.Common.{◌++◌, ◌∷◌, [], refl, sym, ap, subst, ◌∙◌}
use Rattle.key_bytes.specs.Keys.{after}
use Rattle.model_database.specs.States.{state_after, state_under}
use Rattle.range_map.specs.Boundaries.{split_both}
use Rattle.write_map.specs.Levels.{spread, IsKept}
use Rattle.write_map.specs.Mutations.{mutation_of, mutations_of}
use Rattle.write_map.proofs.Edited.{rising_before}
use Rattle.write_map.proofs.Kept.{kept_plain, on_plain}
use Rattle.write_map.proofs.Logs.{log_added}
use Rattle.write_map.proofs.Splits.{IsSplit, is_split}
use Rattle.write_map.proofs.Steps.{step_put}
use Rattle.write_map.proofs.write_map.WriteMap.put.Goals as goal

pub invariant_of-self-2 : goal.invariant_of-self-2
invariant_of-self-2 c =
    let key = c.args.key.now in
    let old = c.self.inside.levels in
    let split = split_both spread key c.in_ok-end.end old in
    let put = c.in_ok-put_state.ensures in
    let mutation = mutation_of c.args.mutation in
    let log = mutations_of c.self.inside.log.items in
    let is : IsSplit key (after key) old split =
    subst (λ end. IsSplit key end old split) c.in_ok-end.ensures
    (is_split key c.in_ok-end.end old split c.self.invariant.levels.single refl) in
    let gives = c.requires.state
    ∙ ap (λ pending. state_after mutation key (state_under pending.mutations key)) (sym c.self.view_is)
    ∙ ap (state_after mutation key) (c.self.invariant.levels.agree key).state in
    subst (λ mutations. IsKept mutations c.put_state.new.levels c.self.inside.is_stamped)
    (sym (log_added c.self.inside.log.items c.reserve.new.self.items c.push.new.self.items c.args.mutation c.push.result c.unwrap.result
    c.push.ensures.items c.unwrap.ensures c.reserve.ensures.items))
    (subst (λ levels. IsKept (log ++ mutation ∷ []) levels c.self.inside.is_stamped) (sym put.ok)
    (kept_plain log mutation old _ c.self.inside.is_stamped c.self.invariant
    (step_put key mutation c.args.state old split c.requires.one gives c.self.invariant.levels.single is
    (rising_before key _ split c.put_state.new.levels put.ok put.rising))
    (on_plain key mutation c.requires.one)))
