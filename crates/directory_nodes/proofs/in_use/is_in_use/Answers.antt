use Rattle.std.proofs.Common.{◌≡◌, ◌∙◌, true, length, Ok, ap, sym}
use Rattle.std.specs.Prelude.{◌||◌, ◌==◌}
use Rattle.key_bytes.specs.Keys.{begins_with}
use Rattle.model_directory.specs.Courses.{Gives}
use Rattle.model_directory.specs.Steps.{is_in_use, is_node_inside}
use Rattle.directory_nodes.proofs.Deciding.{where_true, where_false, one_holds, other_holds, neither_holds}
use Rattle.directory_nodes.proofs.Following.{gave}
use Rattle.directory_nodes.proofs.in_use.is_in_use.Goals.{then-is_empty-via-then-is_empty, then-is_empty-via-else-is_empty+then-starts_with}
use Rattle.directory_nodes.proofs.in_use.is_in_use.Goals as goal

pub returns-then-is_empty-clause-follows : goal.returns-then-is_empty-clause-follows
unfolding is_in_use
returns-then-is_empty-clause-follows g c words =
    let stands = g.T.Tr.stands c.args.tr.now in
    let layer = c.args.layer.now in
    let prefix = c.args.prefix.now in
    let empty = length prefix == 0 in
    let begins = begins_with prefix layer.node in
    let is : (empty || begins) ≡ true = elim c.then-is_empty.branch [
      | then-is_empty-via-then-is_empty w ↦ one_holds empty begins (sym c.is_empty.ensures ∙ w.if-is_empty.true)
      | then-is_empty-via-else-is_empty+then-starts_with w ↦ other_holds empty begins
          (ap (begins_with prefix) (sym w.as_slice.ensures) ∙ sym w.starts_with.ensures ∙ w.if-starts_with.true)
    ] in
    where_true (empty || begins) (Ok true) stands stands words words (Gives true) (is_node_inside c.args.snapshot layer prefix) is
    (gave true stands words)

pub returns-clause-follows : goal.returns-clause-follows
unfolding is_in_use
returns-clause-follows g c words =
    let before = g.T.Tr.stands c.args.tr.now in
    let after = g.T.Tr.stands c.is_node_inside.new.tr in
    let layer = c.args.layer.now in
    let prefix = c.args.prefix.now in
    let empty = length prefix == 0 in
    let begins = begins_with prefix layer.node in
    where_false (empty || begins) c.is_node_inside.result before after words words (Gives true)
    (is_node_inside c.args.snapshot layer prefix)
    (neither_holds empty begins (sym c.is_empty.ensures ∙ c.if-is_empty.false)
    (ap (begins_with prefix) (sym c.as_slice.ensures) ∙ sym c.starts_with.ensures ∙ c.if-starts_with.false))
    (c.is_node_inside.ensures.follows words)
