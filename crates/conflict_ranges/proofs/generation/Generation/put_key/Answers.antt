use Rattle.std.proofs.Common.{◌≤◌, cond, sym, ap, subst, ◌∙◌}
use Rattle.std.specs.FinMap.{insert}
use Rattle.key_bytes.specs.Keys.{after, within}
use Rattle.conflict_ranges.specs.Generations.{version_at, LastWrites}
use Rattle.conflict_ranges.proofs.Versions.{newest_alone_bounded, newest_alone_given}
use Rattle.conflict_ranges.proofs.generation.Generation.put_key.Goals as goal

pub invariant_of-self-2 : goal.invariant_of-self-2
invariant_of-self-2 c =
    let version = c.args.version in
    let above = subst (λ (old : LastWrites). old.newest ≤ version) (sym c.self.view_is) c.requires in
    let is = c.in_ok-insert.ensures.ok ∙ ap (λ key. insert c.self.inside.keys key version) c.in_ok-copy.ensures in
    newest_alone_bounded c.args.key.now version _ c.self.invariant above c.insert.new.self is

pub returns-clause-given : goal.returns-clause-given
returns-clause-given c other =
    let key = c.args.key.now in let version = c.args.version in
    let above = subst (λ (old : LastWrites). old.newest ≤ version) (sym c.self.view_is) c.requires in
    let is = c.in_ok-insert.ensures.ok ∙ ap (λ key. insert c.self.inside.keys key version) c.in_ok-copy.ensures in
    newest_alone_given key version _ c.self.invariant above c.insert.new.self is other
    ∙ ap (λ (old : LastWrites). cond (within key (after key) other) version (version_at old other)) c.self.view_is
