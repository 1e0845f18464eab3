use Rattle.std.proofs.Common.{◌≤◌, cond, sym, ap, subst, ◌∙◌}
use Rattle.std.specs.FinMap.{insert}
use Rattle.key_bytes.specs.Keys.{within}
use Rattle.conflict_ranges.specs.Generations.{version_at, LastWrites, GoesAlone, KeepsRoom}
use Rattle.conflict_ranges.proofs.Versions.{alone_bounded, alone_given, alone_keeps}
use Rattle.conflict_ranges.proofs.generation.Generation.give_key.Goals as goal

pub invariant_of-self : goal.invariant_of-self
invariant_of-self c =
    alone_bounded c.args.begin.now c.args.end.now c.args.version _ c.self.invariant
    (subst (λ (old : LastWrites). c.args.version ≤ old.newest) (sym c.self.view_is) c.requires.bounded)

pub returns-clause-given : goal.returns-clause-given
returns-clause-given c q =
    let begin = c.args.begin.now in let end = c.args.end.now in let version = c.args.version in
    let low = subst (λ (old : LastWrites). version ≤ old.newest) (sym c.self.view_is) c.requires.bounded in
    let goes = subst (λ (old : LastWrites). GoesAlone old version begin end) (sym c.self.view_is) c.requires.alone in
    alone_given begin end version _ c.self.invariant low goes q
    ∙ ap (λ (old : LastWrites). cond (within begin end q) version (version_at old q)) c.self.view_is

pub returns-clause-kept : goal.returns-clause-kept
returns-clause-kept c =
    let begin = c.args.begin.now in let end = c.args.end.now in let version = c.args.version in
    let low = subst (λ (old : LastWrites). version ≤ old.newest) (sym c.self.view_is) c.requires.bounded in
    subst (λ (old : LastWrites). KeepsRoom version old (record {
      keys = insert c.self.inside.keys begin version;
      ranges = c.self.inside.ranges;
      newest = c.self.inside.newest;
    })) c.self.view_is (alone_keeps begin end version _ c.self.invariant low)
