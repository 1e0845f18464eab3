use Rattle.std.proofs.Common.{ℕ, Bool, false, List, Ok, Err, sym, subst, ◌∙◌}
use Rattle.model_directory.specs.declared.Child.{Child}
use Rattle.model_directory.specs.Courses.{Course, Done, done, ◌>>=◌}
use Rattle.model_directory.specs.Nodes.{is_partition}
use Rattle.model_directory.specs.Steps.{check, inside, children}
use Rattle.model_directory.specs.Calls.{lists}
use Rattle.directory_nodes.specs.Runs.{Draws}
use Rattle.directory_nodes.proofs.Following.{then_drew}
use Rattle.directory_nodes.proofs.Passing.{ended_so, ran_out}
use Rattle.directory_nodes.proofs.Deciding.{where_true, where_false}
use Rattle.directory.proofs.listing.list_found.Goals as goal

-- those of the root of a partition's layer, once that was checked
abbrev of_root : (snapshot : Bool) → (prefix : List ℕ) → Done → Course (List Child)
of_root snapshot prefix read = children snapshot (inside prefix) (inside prefix).node

abbrev in_partition : (snapshot : Bool) → (prefix : List ℕ) → Course (List Child)
in_partition snapshot prefix = check false snapshot (inside prefix) >>= of_root snapshot prefix

pub returns-in_err-inner-clause-follows : goal.returns-in_err-inner-clause-follows
returns-in_err-inner-clause-follows g c words =
    ran_out c.from_residual.result (g.T.Tr.stands c.args.tr.now) words words (lists c.args.snapshot c.args.layer.now c.args.found.now)
    c.from_residual.ensures.1

pub returns-then-not-is_partition-clause-follows : goal.returns-then-not-is_partition-clause-follows
unfolding lists
returns-then-not-is_partition-clause-follows g c words =
    let found = c.args.found.now in
    let snapshot = c.args.snapshot in
    let layer = c.args.layer.now in
    where_false (is_partition found.layer) c.children.result (g.T.Tr.stands c.args.tr.now) (g.T.Tr.stands c.children.new.tr) words words
    (in_partition snapshot found.prefix) (children snapshot layer found.prefix)
    (sym c.is_partition.ensures ∙ c.if-not-is_partition.true) (c.children.ensures.follows words)

pub returns-in_err-check-clause-follows : goal.returns-in_err-check-clause-follows
unfolding lists
returns-in_err-check-clause-follows g c words =
    let result = c.from_residual-in_err-check.result in
    let found = c.args.found.now in
    let snapshot = c.args.snapshot in
    let before = g.T.Tr.stands c.args.tr.now in
    let after = g.T.Tr.stands c.check.new.tr in
    let fault = c.in_err-check.field-0.0 in
    where_true (is_partition found.layer) result before after words words (in_partition snapshot found.prefix)
    (children snapshot c.args.layer.now found.prefix)
    (sym c.is_partition.ensures ∙ c.if-not-is_partition.false)
    (ended_so fault result before after words words (check false snapshot (inside found.prefix)) (of_root snapshot found.prefix) c.from_residual-in_err-check.ensures.1
    (subst (λ layer. Draws {X = Done} (Err fault) before after words words (check false snapshot layer)) c.in_ok-inner.ensures
    (c.in_err-check.ensures.follows words)))

pub returns-clause-follows : goal.returns-clause-follows
unfolding lists
returns-clause-follows g c words =
    let found = c.args.found.now in
    let snapshot = c.args.snapshot in
    let before = g.T.Tr.stands c.args.tr.now in
    let middle = g.T.Tr.stands c.check.new.tr in
    let after = g.T.Tr.stands c.children-2.new.tr in
    let result = c.children-2.result in
    where_true (is_partition found.layer) result before after words words (in_partition snapshot found.prefix)
    (children snapshot c.args.layer.now found.prefix)
    (sym c.is_partition.ensures ∙ c.if-not-is_partition.false)
    (then_drew done result before middle after words words words (check false snapshot (inside found.prefix)) (of_root snapshot found.prefix)
    (subst (λ layer. Draws (Ok done) before middle words words (check false snapshot layer)) c.in_ok-inner.ensures
    (c.in_ok-check.ensures.follows words))
    (subst (λ layer. Draws result middle after words words (children snapshot layer layer.node)) c.in_ok-inner.ensures
    (c.children-2.ensures.follows words)))
