use Rattle.std.proofs.Common.{◌≡◌, ◌++◌, ◌∷◌, [], true, refl, sym, ap, subst, ◌∙◌}
use Rattle.model_database.specs.Databases.{Atomic}
use Rattle.model_database.specs.States.{state_under}
use Rattle.range_map.specs.Boundaries.{held}
use Rattle.write_map.specs.Levels.{state_of, IsKept}
use Rattle.write_map.specs.Mutations.{mutations_of}
use Rattle.write_map.specs.Pending.{IsDepends, is_single_state}
use Rattle.write_map.proofs.Edited.{is_split_already}
use Rattle.write_map.proofs.Alike.{depends_single}
use Rattle.write_map.proofs.Kept.{kept_plain, on_plain}
use Rattle.write_map.proofs.Logs.{log_added}
use Rattle.write_map.proofs.Steps.{atomic_here, step_put}
use Rattle.write_map.proofs.write_map.WriteMap.put_edit.Goals as goal

pub invariant_of-self-2 : goal.invariant_of-self-2
invariant_of-self-2 c =
    let key = c.args.key.now in
    let op = c.args.edit.op in
    let operand = c.args.edit.operand in
    let old = c.self.inside.levels in
    let edited = c.in_ok-push_edit.ensures.ok in
    let log = mutations_of c.self.inside.log.items in
    let single = c.self.invariant.levels.single in
    let alone : is_single_state (state_of (held old key).state) ≡ true =
    ap is_single_state (sym (c.self.invariant.levels.agree key).state)
    ∙ depends_single (state_under log key)
    (subst (λ pending. IsDepends (state_under pending.mutations key)) (sym c.self.view_is) c.requires.list) in
    subst (λ mutations. IsKept mutations c.push_edit.new.levels c.self.inside.is_stamped)
    (sym (log_added c.self.inside.log.items c.reserve.new.self.items c.push.new.self.items c.args.mutation c.push.result c.unwrap.result
    c.push.ensures.items c.unwrap.ensures c.reserve.ensures.items
    ∙ ap (λ mutation. log ++ mutation ∷ []) c.requires.atomic))
    (subst (λ levels. IsKept (log ++ Atomic op key operand ∷ []) levels c.self.inside.is_stamped) (sym edited.levels)
    (kept_plain log (Atomic op key operand) old _ c.self.inside.is_stamped c.self.invariant
    (step_put key (Atomic op key operand) edited.state old old (refl, c.requires.plain)
    (edited.made ∙ atomic_here op key operand (state_of (held old key).state) c.requires.plain)
    single (is_split_already key old single alone) c.in_ok-push_edit.ensures.rising)
    (on_plain key (Atomic op key operand) (refl, c.requires.plain))))
