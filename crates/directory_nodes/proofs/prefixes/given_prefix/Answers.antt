use Rattle.std.proofs.Common.{false, Ok, Err, refl, sym}
use Rattle.directory_types.specs.declared.fault.DirFault.TheVariants as fault
use Rattle.model_directory.specs.Courses.{Gives, Done}
use Rattle.model_directory.specs.Steps.{is_in_use}
use Rattle.model_directory.specs.Calls.{given_prefix}
use Rattle.directory_nodes.proofs.Following.{then_drew}
use Rattle.directory_nodes.proofs.Passing.{ended_so, ran_out, gave_so}
use Rattle.directory_nodes.proofs.Refusing.{passed_where, refused_where}
use Rattle.directory_nodes.proofs.Taking.{where_free}
use Rattle.directory_nodes.proofs.prefixes.given_prefix.Goals as goal

pub returns-in_err-is_in_use-clause-follows : goal.returns-in_err-is_in_use-clause-follows
unfolding given_prefix
returns-in_err-is_in_use-clause-follows g c words =
    let prefix = c.args.prefix.now in
    ended_so c.in_err-is_in_use.field-0.0 c.from_residual.result (g.T.Tr.stands c.args.tr.now)
    (g.T.Tr.stands c.is_in_use.new.tr) words words
    (is_in_use false c.args.layer.now prefix) (where_free prefix) c.from_residual.ensures.1 (c.in_err-is_in_use.ensures.follows words)

pub returns-then-branch-clause-follows : goal.returns-then-branch-clause-follows
unfolding given_prefix
returns-then-branch-clause-follows g c words =
    let after = g.T.Tr.stands c.is_in_use.new.tr in
    let prefix = c.args.prefix.now in
    let used = c.in_ok-is_in_use.field-0 in
    then_drew used (Err fault.PrefixInUse) (g.T.Tr.stands c.args.tr.now) after after words words words
    (is_in_use false c.args.layer.now prefix)
    (where_free prefix) (c.in_ok-is_in_use.ensures.follows words)
    (refused_where used fault.PrefixInUse after words (λ (free : Done). Gives prefix) c.if-branch.true refl)

pub returns-in_err-copy-clause-follows : goal.returns-in_err-copy-clause-follows
unfolding given_prefix
returns-in_err-copy-clause-follows g c words =
    let result = c.from_residual-in_err-copy.result in
    let after = g.T.Tr.stands c.is_in_use.new.tr in
    let prefix = c.args.prefix.now in
    let used = c.in_ok-is_in_use.field-0 in
    then_drew used result (g.T.Tr.stands c.args.tr.now) after after words words words (is_in_use false c.args.layer.now prefix)
    (where_free prefix)
    (c.in_ok-is_in_use.ensures.follows words)
    (passed_where used fault.PrefixInUse result after after words words (λ (free : Done). Gives prefix) c.if-branch.false
    (ran_out result after words words (Gives prefix) c.from_residual-in_err-copy.ensures.1))

pub returns-clause-follows : goal.returns-clause-follows
unfolding given_prefix
returns-clause-follows g c words =
    let after = g.T.Tr.stands c.is_in_use.new.tr in
    let prefix = c.args.prefix.now in
    let used = c.in_ok-is_in_use.field-0 in
    let copy = c.in_ok-copy.field-0 in
    then_drew used (Ok copy) (g.T.Tr.stands c.args.tr.now) after after words words words (is_in_use false c.args.layer.now prefix)
    (where_free prefix)
    (c.in_ok-is_in_use.ensures.follows words)
    (passed_where used fault.PrefixInUse (Ok copy) after after words words (λ (free : Done). Gives prefix) c.if-branch.false
    (gave_so prefix copy after words (sym c.in_ok-copy.ensures)))
