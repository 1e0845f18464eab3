use Rattle.std.proofs.Common.{true, ◌++◌, ◌∷◌, [], sym, subst}
use Rattle.key_bytes.specs.Keys.{within}
use Rattle.range_map.specs.Boundaries.{changed}
use Rattle.write_map.specs.Levels.{hidden, IsKept}
use Rattle.write_map.specs.Mutations.{mutation_of, mutations_of}
use Rattle.write_map.proofs.Kept.{hidden_stamped, kept_stamped}
use Rattle.write_map.proofs.Logs.{log_added}
use Rattle.write_map.proofs.Splits.{is_split}
use Rattle.write_map.proofs.Steps.{step_range, follows_hide}
use Rattle.write_map.proofs.write_map.WriteMap.hide.Goals as goal

pub invariant_of-self-2 : goal.invariant_of-self-2
invariant_of-self-2 c =
    let begin = c.args.keys.now.begin in
    let end = c.args.keys.now.end in
    let old = c.self.inside.levels in
    let split = c.split_both.new.self in
    let mutation = mutation_of c.args.mutation in
    let log = mutations_of c.self.inside.log.items in
    subst (λ mutations. IsKept mutations c.change.new.self true)
    (sym (log_added c.self.inside.log.items c.reserve.new.self.items c.push.new.self.items c.args.mutation c.push.result c.unwrap.result
    c.push.ensures.items c.unwrap.ensures c.reserve.ensures.items))
    (subst (λ levels. IsKept (log ++ mutation ∷ []) levels true) (sym c.change.ensures)
    (kept_stamped log mutation old (changed (within begin end) hidden split) c.self.inside.is_stamped c.self.invariant
    (step_range begin end mutation hidden old split (follows_hide c.args.keys.now mutation c.requires.hidden) c.self.invariant.levels.single
    (is_split begin end old split c.self.invariant.levels.single c.in_ok-split_both.ensures.ok) c.in_ok-split_both.ensures.rising)
    (hidden_stamped mutation c.args.keys.now c.requires.hidden) c.requires.room))
