use Rattle.std.proofs.Common.{◌≡◌, ap, ◌∙◌}
use Rattle.model_database.specs.Databases.{Set}
use Rattle.model_directory.specs.Nodes.{node_of, entry_of}
use Rattle.model_directory.specs.Steps.{sets_entry}
use Rattle.directory_nodes.proofs.Passing.{ran_out}
use Rattle.directory_nodes.proofs.Values.{did_so}
use Rattle.directory_nodes.proofs.entries.set_entry.Goals as goal

pub returns-in_err-of-clause-follows : goal.returns-in_err-of-clause-follows
returns-in_err-of-clause-follows g c words =
    ran_out c.from_residual.result (g.T.Tr.stands c.args.tr.now) words words
    (sets_entry c.args.layer.now c.args.parent.now.prefix c.args.name.now c.args.prefix.now) c.from_residual.ensures.1

pub returns-in_err-key-clause-follows : goal.returns-in_err-key-clause-follows
returns-in_err-key-clause-follows g c words =
    ran_out c.from_residual-in_err-key.result (g.T.Tr.stands c.args.tr.now) words words
    (sets_entry c.args.layer.now c.args.parent.now.prefix c.args.name.now c.args.prefix.now) c.from_residual-in_err-key.ensures.1

pub returns-clause-follows : goal.returns-clause-follows
unfolding sets_entry
returns-clause-follows g c words =
    let name = c.args.name.now in
    let node = node_of c.args.layer.now c.args.parent.now.prefix in
    let key : c.in_ok-key.key ≡ entry_of node name = c.in_ok-key.ensures ∙ ap (λ node. entry_of node name) c.in_ok-of.ensures in
    did_so c.set.result (g.T.Tr.stands c.args.tr.now) (g.T.Tr.stands c.set.new.tr) words (Set c.in_ok-key.key c.as_slice.result.now)
    (Set (entry_of node name) c.args.prefix.now) (λ i. Set (key i) (c.as_slice.ensures i)) (c.set.ensures.follows words)
