use Rattle.std.proofs.Common.{sym, ◌∙◌}
use Rattle.std.proofs.lemmas.Bool.{and_from, and_parts}
use Rattle.key_bytes.specs.Ranges.{has}
use Rattle.model_database.specs.States.{covers}
use Rattle.conflict_ranges.proofs.Changed.{covers_held}
use Rattle.conflict_ranges.proofs.Meeting.{same_test, list_any-common, common-list_any}
use Rattle.conflict_ranges.proofs.boundary_ranges.BoundaryRanges.meets.Goals as goal

pub returns-then-not-is_unused-clause-value : goal.returns-then-not-is_unused-clause-value
returns-then-not-is_unused-clause-value c =
    let own = c.args.self.now in let range = c.args.range.now in
    let is_held = covers_held c.self.inside.members own c.self.view_is c.self.invariant.sound in
    same_test c.any_in.result _
    (λ found. let (key, is_in, member) = c.any_in.ensures.0 found in common-list_any own range key (is_held key ∙ member) is_in)
    (λ meet. let (key, covered, is_in) = list_any-common own range meet in c.any_in.ensures.1 (key, is_in, sym (is_held key) ∙ covered))

pub returns-then-not-is_unused-clause-common : goal.returns-then-not-is_unused-clause-common
returns-then-not-is_unused-clause-common c =
    let own = c.args.self.now in let range = c.args.range.now in
    let is_held = covers_held c.self.inside.members own c.self.view_is c.self.invariant.sound in (
      λ found.
          let (key, is_in, member) = c.any_in.ensures.0 found in
          (key, and_from (covers own key) (has range key) (is_held key ∙ member) is_in),
      λ (key, both).
          let parts = and_parts (covers own key) (has range key) both in
          c.any_in.ensures.1 (key, parts.1, sym (is_held key) ∙ parts.0),
    )
