use Rattle.std.proofs.Common.{◌≡◌, ℕ, Bool, List, Option, Result, Ok, sym, subst}
use Rattle.model_database.specs.Databases.{Set}
use Rattle.model_database.specs.Histories.{Setting}
use Rattle.model_database.specs.Transactions.{Transaction}
use Rattle.directory_types.specs.declared.Layer.{Layer}
use Rattle.directory_types.specs.declared.fault.DirFault.{DirFault}
use Rattle.model_directory.specs.Courses.{Done, done, does, value_of}
use Rattle.model_directory.specs.Nodes.{version_key, version_now}
use Rattle.model_directory.specs.Steps.{check, version_read, version_checked}
use Rattle.directory_nodes.specs.Runs.{Draws, Tells}
use Rattle.directory_nodes.proofs.Passing.{ran_out}
use Rattle.directory_nodes.proofs.Values.{read_failed, read_then}
use Rattle.directory_nodes.proofs.Versions.{version_bytes, version_judged, version_noted, no_version}
use Rattle.directory_nodes.proofs.checking.check.Goals as goal

pub returns-in_err-key-clause-follows : goal.returns-in_err-key-clause-follows
returns-in_err-key-clause-follows g c words =
    ran_out c.from_residual.result (g.T.Tr.stands c.args.tr.now) words words (check c.args.writes c.args.snapshot c.args.layer.now)
    c.from_residual.ensures.1

pub returns-in_err-value-clause-follows : goal.returns-in_err-value-clause-follows
unfolding check
returns-in_err-value-clause-follows g c words =
    read_failed c.in_err-value.field-0.0 c.from_residual-in_err-value.result (g.T.Tr.stands c.args.tr.now) (g.T.Tr.stands c.value_of.new.tr) words
    c.args.snapshot c.in_ok-key.key (version_key c.args.layer.now) (version_checked c.args.layer.now c.args.writes)
    c.from_residual-in_err-value.ensures.1 c.in_ok-key.ensures (c.in_err-value.ensures.follows words)

-- the version was read
version_found : (writes snapshot : Bool) (layer : Layer) (key : List ℕ) (read : Option (List ℕ)) (result : Result Done DirFault)
    (before middle after : Setting → Transaction → Type 0) (words : ℕ → ℕ) → key ≡ version_key layer
    → Draws (Ok read) before middle words words (value_of snapshot key) → Draws result middle after words words (version_checked layer writes read)
    → Draws result before after words words (check writes snapshot layer)
unfolding check
version_found writes snapshot layer key read result before middle after words is drew later =
    read_then read result before middle after words snapshot key (version_key layer) (version_checked layer writes) is drew later

pub returns-in-Some-clause-follows : goal.returns-in-Some-clause-follows
returns-in-Some-clause-follows g c words =
    let after = g.T.Tr.stands c.value_of.new.tr in
    let writes = c.args.writes in
    let layer = c.args.layer.now in
    let value = c.in-Some.value in
    let result = c.check_version.result in
    version_found writes c.args.snapshot layer c.in_ok-key.key c.in_ok-value.field-0 result (g.T.Tr.stands c.args.tr.now) after after words
    c.in_ok-key.ensures (c.in_ok-value.ensures.follows words)
    (subst (λ read. Draws result after after words words (version_checked layer writes read)) (sym c.in-Some.is)
    (version_judged layer writes value result after words
    (subst (λ key. Tells result (version_read key writes value)) c.in_ok-key.ensures c.check_version.ensures)))

pub returns-in-None-clause-follows : goal.returns-in-None-clause-follows
returns-in-None-clause-follows g c words =
    let middle = g.T.Tr.stands c.value_of.new.tr in
    let after = g.T.Tr.stands c.set.new.tr in
    let writes = c.args.writes in
    let layer = c.args.layer.now in
    let key = c.in_ok-key.key in
    let result = c.set.result in
    version_found writes c.args.snapshot layer key c.in_ok-value.field-0 result (g.T.Tr.stands c.args.tr.now) middle after words
    c.in_ok-key.ensures (c.in_ok-value.ensures.follows words)
    (subst (λ read. Draws result middle after words words (version_checked layer writes read)) (sym c.in-None.is)
    (version_noted layer writes result middle after words c.if-writes.true
    (subst (λ key. Draws result middle after words words (does (Set key version_now))) c.in_ok-key.ensures
    (subst (λ value. Draws result middle after words words (does (Set key value))) (sym version_bytes) (c.set.ensures.follows words)))))

pub returns-clause-follows : goal.returns-clause-follows
returns-clause-follows g c words =
    let after = g.T.Tr.stands c.value_of.new.tr in
    version_found c.args.writes c.args.snapshot c.args.layer.now c.in_ok-key.key c.in_ok-value.field-0 (Ok done) (g.T.Tr.stands c.args.tr.now) after
    after words c.in_ok-key.ensures (c.in_ok-value.ensures.follows words)
    (subst (λ read. Draws (Ok done) after after words words (version_checked c.args.layer.now c.args.writes read)) (sym c.in-None.is)
    (no_version c.args.layer.now c.args.writes after words c.if-writes.false))
