-- The watches so far have looked at the version.
use Rattle.std.proofs.Common.{◌≡◌, ◌+◌, ◌<◌, ◌≤◌, arith, length, get_or, ap, subst}
use Rattle.std.proofs.lemmas.List.{get_or_default}
use Rattle.version_store.specs.Versions.{at, last_of}
use Rattle.watch_core.proofs.Numbers.{one_if}
use Rattle.watch_core.proofs.Commits.{LooksTo, looks_to_none, looks_to_next, looks_to_all}
use Rattle.watch_core.proofs.watches.commit_all.Goals as goal
use Rattle.watch_core.proofs.watches.commit_all.Goals.{then-commit, else-commit}

pub loop-number-init : goal.loop-number-init
loop-number-init g c = looks_to_none (last_of c.args.store.now) (at c.args.store.now (last_of c.args.store.now)) c.args.watches.now c.requires.whole

pub loop-number-preserved : goal.loop-number-preserved
loop-number-preserved g c =
    let store = c.args.store.now in
    let olds = c.args.watches.now in
    let news = c.loop-number.watches in
    let i = c.loop-number.number in
    let fired = c.loop-number.fired in
    let within : i < length news = omega (arith, c.loop-number-test.true, c.loop-number.invariant.long) in
    let read = c.index-watches-number.result in
    let watch = get_or news i read in
    let e : fired + one_if c.commit.result ≡ c.if-commit.fired =
    elim c.if-commit.branch [
      | then-commit w ↦ omega (arith, ap one_if w.if-commit.true, w.fired-is)
      | else-commit w ↦ omega (arith, ap one_if w.if-commit.false, w.fired-is)
    ] in
    subst (LooksTo (last_of store) (at store (last_of store)) olds _ (i + 1)) e
    (looks_to_next (last_of store) (at store (last_of store)) olds news i fired c.loop-number.invariant within watch c.commit.new.self
    (get_or_default news i read watch within) c.commit.ensures.whole c.commit.ensures.after c.commit.result c.commit.ensures.fired)

pub returns-clause-after : goal.returns-clause-after
returns-clause-after g c =
    let store = c.args.store.now in
    looks_to_all (last_of store) (at store (last_of store)) c.args.watches.now c.loop-number.watches c.loop-number.number
    c.loop-number.fired c.loop-number.invariant (omega arith)
