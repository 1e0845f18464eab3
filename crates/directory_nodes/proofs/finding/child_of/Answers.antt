use Rattle.std.proofs.Common.{◌≡◌, ℕ, Bool, List, Option, None, Result, Ok, sym, ap, subst, ◌∙◌}
use Rattle.model_database.specs.Histories.{Setting}
use Rattle.model_database.specs.Transactions.{Transaction}
use Rattle.directory_types.specs.declared.Layer.{Layer}
use Rattle.directory_types.specs.declared.fault.DirFault.{DirFault}
use Rattle.model_directory.specs.declared.Directory.{Directory}
use Rattle.model_directory.specs.Courses.{value_of}
use Rattle.model_directory.specs.Nodes.{node_of, entry_of}
use Rattle.model_directory.specs.Steps.{below, directory_at, child_of}
use Rattle.directory_nodes.specs.Runs.{Draws}
use Rattle.directory_nodes.proofs.Following.{gave}
use Rattle.directory_nodes.proofs.Passing.{ran_out}
use Rattle.directory_nodes.proofs.Values.{read_failed, read_then}
use Rattle.directory_nodes.proofs.finding.child_of.Goals as goal

pub returns-in_err-of-clause-follows : goal.returns-in_err-of-clause-follows
returns-in_err-of-clause-follows g c words =
    ran_out c.from_residual.result (g.T.Tr.stands c.args.tr.now) words words
    (child_of c.args.snapshot c.args.layer.now c.args.parent.now c.args.name.now) c.from_residual.ensures.1

pub returns-in_err-key-clause-follows : goal.returns-in_err-key-clause-follows
returns-in_err-key-clause-follows g c words =
    ran_out c.from_residual-in_err-key.result (g.T.Tr.stands c.args.tr.now) words words
    (child_of c.args.snapshot c.args.layer.now c.args.parent.now c.args.name.now) c.from_residual-in_err-key.ensures.1

pub returns-in_err-prefix-clause-follows : goal.returns-in_err-prefix-clause-follows
unfolding child_of
returns-in_err-prefix-clause-follows g c words =
    let layer = c.args.layer.now in
    let name = c.args.name.now in
    let node = node_of layer c.args.parent.now.prefix in
    read_failed c.in_err-prefix.field-0.0 c.from_residual-in_err-prefix.result (g.T.Tr.stands c.args.tr.now) (g.T.Tr.stands c.value_of.new.tr) words
    c.args.snapshot c.in_ok-key.key (entry_of node name) (λ entry. below entry (directory_at c.args.snapshot layer))
    c.from_residual-in_err-prefix.ensures.1 (c.in_ok-key.ensures ∙ ap (λ node. entry_of node name) c.in_ok-of.ensures)
    (c.in_err-prefix.ensures.follows words)

-- the entry was read
entry_found : (snapshot : Bool) (layer : Layer) (parent : Directory) (name key node : List ℕ) (entry : Option (List ℕ))
    (result : Result (Option Directory) DirFault) (before middle after : Setting → Transaction → Type 0) (words : ℕ → ℕ) → key ≡ entry_of node name
    → node ≡ node_of layer parent.prefix → Draws (Ok entry) before middle words words (value_of snapshot key)
    → Draws result middle after words words (below entry (directory_at snapshot layer))
    → Draws result before after words words (child_of snapshot layer parent name)
unfolding child_of
entry_found snapshot layer parent name key node entry result before middle after words is of drew later =
    read_then entry result before middle after words snapshot key (entry_of (node_of layer parent.prefix) name)
    (λ entry. below entry (directory_at snapshot layer)) (is ∙ ap (λ node. entry_of node name) of) drew later

pub returns-in-Some-clause-follows : goal.returns-in-Some-clause-follows
returns-in-Some-clause-follows g c words =
    let middle = g.T.Tr.stands c.value_of.new.tr in
    let after = g.T.Tr.stands c.directory_at.new.tr in
    let layer = c.args.layer.now in
    let result = c.directory_at.result in
    entry_found c.args.snapshot layer c.args.parent.now c.args.name.now c.in_ok-key.key c.in_ok-of.field-0.key c.in_ok-prefix.field-0 result
    (g.T.Tr.stands c.args.tr.now) middle after words c.in_ok-key.ensures c.in_ok-of.ensures (c.in_ok-prefix.ensures.follows words)
    (subst (λ entry. Draws result middle after words words (below entry (directory_at c.args.snapshot layer))) (sym c.in-Some.is)
    (c.directory_at.ensures.follows words))

pub returns-clause-follows : goal.returns-clause-follows
returns-clause-follows g c words =
    let after = g.T.Tr.stands c.value_of.new.tr in
    let layer = c.args.layer.now in
    let none : Option Directory = None in
    entry_found c.args.snapshot layer c.args.parent.now c.args.name.now c.in_ok-key.key c.in_ok-of.field-0.key c.in_ok-prefix.field-0 (Ok none)
    (g.T.Tr.stands c.args.tr.now) after after words c.in_ok-key.ensures c.in_ok-of.ensures (c.in_ok-prefix.ensures.follows words)
    (subst (λ entry. Draws (Ok none) after after words words (below entry (directory_at c.args.snapshot layer))) (sym c.in-None.is)
    (gave none after words))
