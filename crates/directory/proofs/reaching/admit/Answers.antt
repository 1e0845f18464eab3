use Rattle.std.proofs.Common.{ℕ, List, Ok, Err, refl, sym, ◌∙◌, length}
use Rattle.std.specs.Prelude.{not, ◌&&◌, ◌==◌}
use Rattle.directory_types.specs.declared.Layer.{Layer}
use Rattle.directory_types.specs.declared.fault.DirFault.TheVariants as fault
use Rattle.model_directory.specs.declared.Lookup.{Lookup}
use Rattle.model_directory.specs.Courses.{Course, ◌>>=◌, Done, done}
use Rattle.model_directory.specs.Steps.{refuse_where, check, admits}
use Rattle.directory_nodes.proofs.Following.{then_drew}
use Rattle.directory_nodes.proofs.Passing.{ended_so}
use Rattle.directory_nodes.proofs.Refusing.{passed_where, refused_where, refused_last, passed_last}
use Rattle.directory.proofs.reaching.admit.Goals as goal

-- what is behind each step
abbrev root_admitted : Lookup → (path : List (List ℕ)) → Done → Course Done
root_admitted lookup path allowed = refuse_where (not lookup.may_be_root && length path == 0) fault.EmptyPath

abbrev prefix_admitted : Lookup → Layer → (path : List (List ℕ)) → Done → Course Done
prefix_admitted lookup layer path checked = refuse_where (lookup.has_prefix && not layer.manual) fault.ManualNotAllowed >>= root_admitted lookup path

pub returns-in_err-check-clause-follows : goal.returns-in_err-check-clause-follows
unfolding admits
returns-in_err-check-clause-follows g c words =
    ended_so c.in_err-check.field-0.0 c.from_residual.result (g.T.Tr.stands c.args.tr.now) (g.T.Tr.stands c.check.new.tr) words words
    (check c.args.lookup.writes c.args.lookup.snapshot c.args.layer.now) (prefix_admitted c.args.lookup c.args.layer.now c.args.path.now) c.from_residual.ensures.1
    (c.in_err-check.ensures.follows words)

pub returns-then-is_barred-clause-follows : goal.returns-then-is_barred-clause-follows
unfolding admits
returns-then-is_barred-clause-follows g c words =
    let after = g.T.Tr.stands c.check.new.tr in
    then_drew done (Err fault.ManualNotAllowed) (g.T.Tr.stands c.args.tr.now) after after words words words
    (check c.args.lookup.writes c.args.lookup.snapshot c.args.layer.now) (prefix_admitted c.args.lookup c.args.layer.now c.args.path.now)
    (c.in_ok-check.ensures.follows words)
    (refused_where (c.args.lookup.has_prefix && not c.args.layer.now.manual) fault.ManualNotAllowed after words (root_admitted c.args.lookup c.args.path.now)
    (sym c.is_barred.ensures ∙ c.if-is_barred.true) refl)

pub returns-then-is_root-clause-follows : goal.returns-then-is_root-clause-follows
unfolding admits
returns-then-is_root-clause-follows g c words =
    let after = g.T.Tr.stands c.check.new.tr in
    then_drew done (Err fault.EmptyPath) (g.T.Tr.stands c.args.tr.now) after after words words words
    (check c.args.lookup.writes c.args.lookup.snapshot c.args.layer.now) (prefix_admitted c.args.lookup c.args.layer.now c.args.path.now)
    (c.in_ok-check.ensures.follows words)
    (passed_where (c.args.lookup.has_prefix && not c.args.layer.now.manual) fault.ManualNotAllowed (Err fault.EmptyPath) after after words words
    (root_admitted c.args.lookup c.args.path.now) (sym c.is_barred.ensures ∙ c.if-is_barred.false)
    (refused_last (not c.args.lookup.may_be_root && length c.args.path.now == 0) fault.EmptyPath after words
    (sym c.is_root.ensures ∙ c.if-is_root.true) refl))

pub returns-clause-follows : goal.returns-clause-follows
unfolding admits
returns-clause-follows g c words =
    let after = g.T.Tr.stands c.check.new.tr in
    then_drew done (Ok done) (g.T.Tr.stands c.args.tr.now) after after words words words
    (check c.args.lookup.writes c.args.lookup.snapshot c.args.layer.now) (prefix_admitted c.args.lookup c.args.layer.now c.args.path.now)
    (c.in_ok-check.ensures.follows words)
    (passed_where (c.args.lookup.has_prefix && not c.args.layer.now.manual) fault.ManualNotAllowed (Ok done) after after words words
    (root_admitted c.args.lookup c.args.path.now) (sym c.is_barred.ensures ∙ c.if-is_barred.false)
    (passed_last (not c.args.lookup.may_be_root && length c.args.path.now == 0) fault.EmptyPath after words
    (sym c.is_root.ensures ∙ c.if-is_root.false)))
