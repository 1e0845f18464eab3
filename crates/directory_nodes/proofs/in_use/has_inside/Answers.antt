use Rattle.std.proofs.Common.{◌∙◌, ℕ, Bool, false, not, List, Ok, refl, sym}
use Rattle.key_bytes.specs.Successors.{strinc}
use Rattle.directory_types.specs.declared.Layer.{Layer}
use Rattle.directory_types.specs.declared.fault.DirFault.TheVariants as fault
use Rattle.model_directory.specs.Courses.{Course, ◌>>=◌, pairs_of}
use Rattle.model_directory.specs.Nodes.{node_of}
use Rattle.model_directory.specs.Steps.{has_inside}
use Rattle.directory_nodes.proofs.Passing.{ran_out}
use Rattle.directory_nodes.proofs.Ranges.{pairs_failed, found_some, some_found}
use Rattle.directory_nodes.proofs.Refusing.{there_is, not_there}
use Rattle.directory_nodes.proofs.in_use.has_inside.Goals as goal

abbrev looks_up_to : (snapshot : Bool) → Layer → (prefix next : List ℕ) → Course Bool
looks_up_to snapshot layer prefix next = pairs_of snapshot (node_of layer prefix) (node_of layer next) 1 false >>= found_some

pub returns-in_err-next-clause-follows : goal.returns-in_err-next-clause-follows
returns-in_err-next-clause-follows g c words =
    ran_out c.from_residual.result (g.T.Tr.stands c.args.tr.now) words words (has_inside c.args.snapshot c.args.layer.now c.args.prefix.now)
    c.from_residual.ensures.1

pub returns-in_default-clause-follows : goal.returns-in_default-clause-follows
unfolding has_inside
returns-in_default-clause-follows g c words =
    let prefix = c.args.prefix.now in
    not_there fault.NoSuccessor (strinc prefix) (g.T.Tr.stands c.args.tr.now) words (looks_up_to c.args.snapshot c.args.layer.now prefix)
    (sym c.in_ok-next.ensures.value ∙ c.in_default.is) refl

pub returns-in_err-nodes_between-clause-follows : goal.returns-in_err-nodes_between-clause-follows
returns-in_err-nodes_between-clause-follows g c words =
    let ended = c.from_residual-in_err-nodes_between in
    ran_out ended.result (g.T.Tr.stands c.args.tr.now) words words (has_inside c.args.snapshot c.args.layer.now c.args.prefix.now)
    ended.ensures.1

pub returns-in_err-pairs-clause-follows : goal.returns-in_err-pairs-clause-follows
unfolding has_inside
returns-in_err-pairs-clause-follows g c words =
    let ended = c.from_residual-in_err-pairs in
    let before = g.T.Tr.stands c.args.tr.now in
    let after = g.T.Tr.stands c.pairs_of.new.tr in
    let layer = c.args.layer.now in
    let prefix = c.args.prefix.now in
    let range = c.in_ok-nodes_between in
    there_is fault.NoSuccessor (strinc prefix) c.in-Some.next ended.result before after words words (looks_up_to c.args.snapshot layer prefix)
    (sym c.in_ok-next.ensures.value ∙ c.in-Some.is)
    (pairs_failed c.in_err-pairs.field-0.0 ended.result before after words c.args.snapshot false range.field-0.begin range.field-0.end
    (node_of layer prefix) (node_of layer c.in-Some.next) 1 found_some ended.ensures.1 range.ensures.begin range.ensures.end
    (c.in_err-pairs.ensures.follows words))

pub returns-clause-follows : goal.returns-clause-follows
unfolding has_inside
returns-clause-follows g c words =
    let before = g.T.Tr.stands c.args.tr.now in
    let after = g.T.Tr.stands c.pairs_of.new.tr in
    let layer = c.args.layer.now in
    let prefix = c.args.prefix.now in
    let range = c.in_ok-nodes_between in
    let empty = c.is_empty.result in
    there_is fault.NoSuccessor (strinc prefix) c.in-Some.next (Ok (not empty)) before after words words (looks_up_to c.args.snapshot layer prefix)
    (sym c.in_ok-next.ensures.value ∙ c.in-Some.is)
    (some_found c.in_ok-pairs.pairs empty before after words c.args.snapshot range.field-0.begin range.field-0.end (node_of layer prefix)
    (node_of layer c.in-Some.next) c.is_empty.ensures range.ensures.begin range.ensures.end (c.in_ok-pairs.ensures.follows words))
