-- Each watch of the numbers so far has looked at the version.
use Rattle.std.proofs.Common.{◌≡◌, ◌+◌, ◌<◌, ◌≤◌, arith, length, get_or, refl, ap, subst}
use Rattle.std.proofs.lemmas.List.{get_or_default}
use Rattle.version_store.specs.Versions.{at, last_of}
use Rattle.watch_core.proofs.Numbers.{one_if}
use Rattle.watch_core.proofs.Commits.{Passes, passes_next, passes_all}
use Rattle.watch_core.proofs.watches.commit_each.Goals as goal
use Rattle.watch_core.proofs.watches.commit_each.Goals.{then-commit, else-commit}

pub loop-number-preserved : goal.loop-number-preserved
loop-number-preserved g c =
    let store = c.args.store.now in
    let olds = c.args.watches.now in
    let news = c.loop-number.watches in
    let numbers = c.args.numbers.now in
    let i = c.loop-number.number-index in
    let fired = c.loop-number.fired in
    let low : i < length numbers = omega arith in
    let within : get_or numbers i 0 < length news = omega (arith, c.requires.within i 0 low, c.loop-number.invariant.long) in
    let read = c.index-watches-number.result in
    let watch = get_or news (get_or numbers i 0) read in
    let e : fired + one_if c.commit.result ≡ c.if-commit.fired =
    elim c.if-commit.branch [
      | then-commit w ↦ omega (arith, ap one_if w.if-commit.true, w.fired-is)
      | else-commit w ↦ omega (arith, ap one_if w.if-commit.false, w.fired-is)
    ] in
    subst (Passes (last_of store) (at store (last_of store)) olds _ numbers (i + 1)) e
    (passes_next (last_of store) (at store (last_of store)) olds news numbers i fired c.loop-number.invariant
    (get_or numbers i 0) refl within watch c.commit.new.self (get_or_default news (get_or numbers i 0) read watch within)
    c.commit.ensures.whole c.commit.ensures.after c.commit.result c.commit.ensures.fired)

pub returns-clause-looked : goal.returns-clause-looked
returns-clause-looked g c =
    let store = c.args.store.now in
    let ended : length c.args.numbers.now ≤ c.loop-number.number-index = omega arith in
    passes_all (last_of store) (at store (last_of store)) c.args.watches.now c.loop-number.watches c.args.numbers.now
    c.loop-number.number-index c.loop-number.fired c.loop-number.invariant ended
