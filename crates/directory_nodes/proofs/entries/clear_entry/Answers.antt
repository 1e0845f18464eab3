use Rattle.std.proofs.Common.{[], Some, ap, ◌∙◌}
use Rattle.model_database.specs.Databases.{Clear}
use Rattle.model_directory.specs.Nodes.{node_of, entry_of}
use Rattle.model_directory.specs.Steps.{found_at, clears_entry}
use Rattle.directory_nodes.proofs.Passing.{ran_out}
use Rattle.directory_nodes.proofs.Values.{did_so}
use Rattle.directory_nodes.proofs.entries.clear_entry.Goals as goal

pub returns-in_err-of-clause-follows : goal.returns-in_err-of-clause-follows
returns-in_err-of-clause-follows g c words =
    ran_out c.from_residual.result (g.T.Tr.stands c.args.tr.now) words words
    (clears_entry c.args.layer.now (Some (found_at c.args.parent.now [])) c.args.name.now)
    c.from_residual.ensures.1

pub returns-in_err-key-clause-follows : goal.returns-in_err-key-clause-follows
returns-in_err-key-clause-follows g c words =
    ran_out c.from_residual-in_err-key.result (g.T.Tr.stands c.args.tr.now) words words
    (clears_entry c.args.layer.now (Some (found_at c.args.parent.now [])) c.args.name.now) c.from_residual-in_err-key.ensures.1

pub returns-clause-follows : goal.returns-clause-follows
unfolding clears_entry
returns-clause-follows g c words =
    let name = c.args.name.now in
    let node = node_of c.args.layer.now c.args.parent.now.prefix in
    did_so c.clear.result (g.T.Tr.stands c.args.tr.now) (g.T.Tr.stands c.clear.new.tr) words (Clear c.in_ok-key.key) (Clear (entry_of node name))
    (ap (λ key. Clear key) (c.in_ok-key.ensures ∙ ap (λ node. entry_of node name) c.in_ok-of.ensures)) (c.clear.ensures.follows words)
