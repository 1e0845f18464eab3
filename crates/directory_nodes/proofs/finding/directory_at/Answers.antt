use Rattle.std.proofs.Common.{◌≡◌, ℕ, [], List, Option, Some, Ok, sym, ap, ◌∙◌}
use Rattle.std.specs.Prelude.{unwrap_or}
use Rattle.model_directory.specs.declared.Directory.{Directory}
use Rattle.model_directory.specs.Courses.{Course, Gives}
use Rattle.model_directory.specs.Nodes.{node_of, layer_key}
use Rattle.model_directory.specs.Steps.{directory, directory_at}
use Rattle.directory_nodes.proofs.Passing.{ran_out, gave_so}
use Rattle.directory_nodes.proofs.Values.{read_failed, read_then}
use Rattle.directory_nodes.proofs.finding.directory_at.Goals as goal

-- what is found out by its layer name
abbrev named_so : (prefix : List ℕ) → Option (List ℕ) → Course (Option Directory)
named_so prefix layer_name = Gives (Some (directory prefix (unwrap_or layer_name [])))

pub returns-in_err-of-clause-follows : goal.returns-in_err-of-clause-follows
returns-in_err-of-clause-follows g c words =
    ran_out c.from_residual.result (g.T.Tr.stands c.args.tr.now) words words (directory_at c.args.snapshot c.args.layer.now c.args.prefix)
    c.from_residual.ensures.1

pub returns-in_err-key-clause-follows : goal.returns-in_err-key-clause-follows
returns-in_err-key-clause-follows g c words =
    ran_out c.from_residual-in_err-key.result (g.T.Tr.stands c.args.tr.now) words words
    (directory_at c.args.snapshot c.args.layer.now c.args.prefix)
    c.from_residual-in_err-key.ensures.1

pub returns-in_err-value_of-clause-follows : goal.returns-in_err-value_of-clause-follows
unfolding directory_at
returns-in_err-value_of-clause-follows g c words =
    read_failed c.in_err-value_of.field-0.0 c.from_residual-in_err-value_of.result (g.T.Tr.stands c.args.tr.now) (g.T.Tr.stands c.value_of.new.tr)
    words c.args.snapshot c.in_ok-key.key (layer_key (node_of c.args.layer.now c.args.prefix)) (named_so c.args.prefix)
    c.from_residual-in_err-value_of.ensures.1 (c.in_ok-key.ensures ∙ ap layer_key c.in_ok-of.ensures) (c.in_err-value_of.ensures.follows words)

pub returns-clause-follows : goal.returns-clause-follows
unfolding directory_at
returns-clause-follows g c words =
    let after = g.T.Tr.stands c.value_of.new.tr in
    let value = c.in_ok-value_of.field-0 in
    let name : c.unwrap_or-name.result ≡ unwrap_or value [] = c.unwrap_or-name.ensures ∙ ap (unwrap_or value) c.new.ensures in
    let found = Some (directory c.args.prefix c.unwrap_or-name.result) in
    read_then value (Ok found) (g.T.Tr.stands c.args.tr.now) after after words c.args.snapshot c.in_ok-key.key
    (layer_key (node_of c.args.layer.now c.args.prefix)) (named_so c.args.prefix) (c.in_ok-key.ensures ∙ ap layer_key c.in_ok-of.ensures)
    (c.in_ok-value_of.ensures.follows words)
    (gave_so (Some (directory c.args.prefix (unwrap_or value []))) found after words
    (ap (λ name. Some (directory c.args.prefix name)) (sym name)))
