use Rattle.std.proofs.Common.{◌∙◌, ℕ, Bool, false, not, List, Ok, refl, sym}
use Rattle.key_bytes.specs.Successors.{strinc}
use Rattle.directory_types.specs.declared.fault.DirFault.TheVariants as fault
use Rattle.model_directory.specs.Courses.{Course, ◌>>=◌, pairs_of}
use Rattle.model_directory.specs.Calls.{has_keys}
use Rattle.directory_nodes.proofs.Passing.{ran_out}
use Rattle.directory_nodes.proofs.Ranges.{pairs_failed, found_some, some_found}
use Rattle.directory_nodes.proofs.Refusing.{there_is, not_there}
use Rattle.directory_nodes.proofs.prefixes.has_keys.Goals as goal

abbrev looks_up_to : (prefix end : List ℕ) → Course Bool
looks_up_to prefix end = pairs_of false prefix end 1 false >>= found_some

pub returns-in_err-end-clause-follows : goal.returns-in_err-end-clause-follows
returns-in_err-end-clause-follows g c words =
    ran_out c.from_residual.result (g.T.Tr.stands c.args.tr.now) words words (has_keys c.args.prefix.now) c.from_residual.ensures.1

pub returns-in_default-clause-follows : goal.returns-in_default-clause-follows
unfolding has_keys
returns-in_default-clause-follows g c words =
    let prefix = c.args.prefix.now in
    not_there fault.NoSuccessor (strinc prefix) (g.T.Tr.stands c.args.tr.now) words (looks_up_to prefix)
    (sym c.in_ok-end.ensures.value ∙ c.in_default.is) refl

pub returns-in_err-copy-clause-follows : goal.returns-in_err-copy-clause-follows
returns-in_err-copy-clause-follows g c words =
    let result = c.from_residual-in_err-copy.result in
    ran_out result (g.T.Tr.stands c.args.tr.now) words words (has_keys c.args.prefix.now) c.from_residual-in_err-copy.ensures.1

pub returns-in_err-pairs-clause-follows : goal.returns-in_err-pairs-clause-follows
unfolding has_keys
returns-in_err-pairs-clause-follows g c words =
    let ended = c.from_residual-in_err-pairs in
    let before = g.T.Tr.stands c.args.tr.now in
    let after = g.T.Tr.stands c.pairs_of.new.tr in
    let prefix = c.args.prefix.now in
    let end = c.in-Some.end in
    there_is fault.NoSuccessor (strinc prefix) end ended.result before after words words (looks_up_to prefix)
    (sym c.in_ok-end.ensures.value ∙ c.in-Some.is)
    (pairs_failed c.in_err-pairs.field-0.0 ended.result before after words false false c.in_ok-copy.field-0 end prefix end 1 found_some
    ended.ensures.1 c.in_ok-copy.ensures refl (c.in_err-pairs.ensures.follows words))

pub returns-clause-follows : goal.returns-clause-follows
unfolding has_keys
returns-clause-follows g c words =
    let before = g.T.Tr.stands c.args.tr.now in
    let after = g.T.Tr.stands c.pairs_of.new.tr in
    let prefix = c.args.prefix.now in
    let end = c.in-Some.end in
    there_is fault.NoSuccessor (strinc prefix) end (Ok (not c.is_empty.result)) before after words words (looks_up_to prefix)
    (sym c.in_ok-end.ensures.value ∙ c.in-Some.is)
    (some_found c.in_ok-pairs.pairs c.is_empty.result before after words false c.in_ok-copy.field-0 end prefix end c.is_empty.ensures
    c.in_ok-copy.ensures refl (c.in_ok-pairs.ensures.follows words))
