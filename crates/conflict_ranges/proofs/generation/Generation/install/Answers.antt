use Rattle.std.proofs.Common.{cond, sym, ap, subst, ◌∙◌}
use Rattle.model_database.specs.States.{covers}
use Rattle.conflict_ranges.specs.Segments.{range_between}
use Rattle.conflict_ranges.specs.Generations.{version_at, LastWrites, IsReadyFor}
use Rattle.conflict_ranges.proofs.Rooms.{given_first, ready_kept, ready_raised}
use Rattle.conflict_ranges.proofs.generation.Generation.install.Goals as goal

pub loop-begin-init : goal.loop-begin-init
loop-begin-init c =
    let version = c.args.version in let ranges = c.args.ranges.now in let raised = c.raise_newest.ensures.newest in
    let now = c.raise_newest.new.self in
    let items = c.into_iter-begin-iterator.ensures.into_iter_gives ∙ c.ranges-begin-items.ensures in
    record {
      newest = ap (λ (made : LastWrites). made.newest) raised;
      ready = subst (IsReadyFor now version) (sym items)
          (subst (λ (generation : LastWrites). IsReadyFor generation version ranges) (sym raised) (ready_raised version ranges c.args.self.now c.requires));
      given = λ key.
          ap (λ items. cond (covers items key) version (version_at now key)) items
          ∙ ap (λ (generation : LastWrites). cond (covers ranges key) version (version_at generation key)) raised;
    }

pub loop-begin-preserved : goal.loop-begin-preserved
loop-begin-preserved c =
    let range = range_between (c.in-Some.begin, c.in-Some.end) in let left = c.next.new.self in let version = c.args.version in
    let now = c.loop-begin.self in let new = c.give.new.self in
    let steps = (c.in-Some.ensures {u = tt}).steps in
    let ready = subst (IsReadyFor now version) steps c.loop-begin.invariant.ready in
    record {
      newest = c.give.ensures.newest ∙ c.loop-begin.invariant.newest;
      ready = ready_kept version left now new c.give.ensures.kept ready.1;
      given = λ key.
          given_first range left version now new c.give.ensures.given key
          ∙ ap (λ left. cond (covers left key) version (version_at now key)) (sym steps)
          ∙ c.loop-begin.invariant.given key;
    }
