use Rattle.std.proofs.Common.{◌≡◌, ℕ, Bool, true, false, List, Result, Ok, Err, refl}
use Rattle.model_database.specs.Histories.{Setting}
use Rattle.model_database.specs.Transactions.{Transaction}
use Rattle.directory_types.specs.declared.Layer.{Layer}
use Rattle.directory_types.specs.declared.fault.DirFault.{DirFault}
use Rattle.directory_types.specs.declared.fault.DirFault.TheVariants as fault
use Rattle.model_directory.specs.Courses.{Gives, ◌>>=◌, Done}
use Rattle.model_directory.specs.Steps.{is_in_use}
use Rattle.model_directory.specs.Calls.{has_keys, free_prefix}
use Rattle.directory_nodes.specs.Runs.{Draws}
use Rattle.directory_nodes.proofs.Following.{then_drew, gave}
use Rattle.directory_nodes.proofs.Passing.{ended_so}
use Rattle.directory_nodes.proofs.Refusing.{passed_where, refused_where}
use Rattle.directory_nodes.proofs.Taking.{where_free, where_empty}
use Rattle.directory_nodes.proofs.prefixes.free_prefix.Goals as goal

pub returns-in_err-has_keys-clause-follows : goal.returns-in_err-has_keys-clause-follows
unfolding free_prefix
returns-in_err-has_keys-clause-follows g c words =
    let prefix = c.args.prefix in
    ended_so c.in_err-has_keys.field-0.0 c.from_residual.result (g.T.Tr.stands c.args.tr.now) (g.T.Tr.stands c.has_keys.new.tr) words words
    (has_keys prefix) (where_empty c.args.layer.now prefix) c.from_residual.ensures.1 (c.in_err-has_keys.ensures.follows words)

pub returns-then-branch-clause-follows : goal.returns-then-branch-clause-follows
unfolding free_prefix
returns-then-branch-clause-follows g c words =
    let after = g.T.Tr.stands c.has_keys.new.tr in
    let layer = c.args.layer.now in
    let prefix = c.args.prefix in
    let keys = c.in_ok-has_keys.field-0 in
    then_drew keys (Err fault.KeysAtPrefix) (g.T.Tr.stands c.args.tr.now) after after words words words (has_keys prefix)
    (where_empty layer prefix)
    (c.in_ok-has_keys.ensures.follows words)
    (refused_where keys fault.KeysAtPrefix after words (λ (empty : Done). is_in_use true layer prefix >>= where_free prefix)
    c.if-branch.true refl)

-- no key begins with it, and what follows
none_begins : (layer : Layer) (prefix : List ℕ) (keys : Bool) (result : Result (List ℕ) DirFault) (before middle after : Setting → Transaction → Type 0)
    (words : ℕ → ℕ) → keys ≡ false → Draws (Ok keys) before middle words words (has_keys prefix)
    → Draws result middle after words words (is_in_use true layer prefix >>= where_free prefix)
    → Draws result before after words words (free_prefix layer prefix)
unfolding free_prefix
none_begins layer prefix keys result before middle after words none drew later =
    then_drew keys result before middle after words words words (has_keys prefix) (where_empty layer prefix) drew
    (passed_where keys fault.KeysAtPrefix result middle after words words (λ (empty : Done). is_in_use true layer prefix >>= where_free prefix)
    none later)

pub returns-in_err-is_in_use-clause-follows : goal.returns-in_err-is_in_use-clause-follows
returns-in_err-is_in_use-clause-follows g c words =
    let ended = c.from_residual-in_err-is_in_use in
    let middle = g.T.Tr.stands c.has_keys.new.tr in
    let after = g.T.Tr.stands c.is_in_use.new.tr in
    none_begins c.args.layer.now c.args.prefix c.in_ok-has_keys.field-0 ended.result (g.T.Tr.stands c.args.tr.now) middle after words
    c.if-branch.false (c.in_ok-has_keys.ensures.follows words)
    (ended_so c.in_err-is_in_use.field-0.0 ended.result middle after words words (is_in_use true c.args.layer.now c.args.prefix)
    (where_free c.args.prefix) ended.ensures.1 (c.in_err-is_in_use.ensures.follows words))

pub returns-then-branch-2-clause-follows : goal.returns-then-branch-2-clause-follows
returns-then-branch-2-clause-follows g c words =
    let middle = g.T.Tr.stands c.has_keys.new.tr in
    let after = g.T.Tr.stands c.is_in_use.new.tr in
    let used = c.in_ok-is_in_use.field-0 in
    none_begins c.args.layer.now c.args.prefix c.in_ok-has_keys.field-0 (Err fault.PrefixInUse) (g.T.Tr.stands c.args.tr.now) middle after words
    c.if-branch.false (c.in_ok-has_keys.ensures.follows words)
    (then_drew used (Err fault.PrefixInUse) middle after after words words words (is_in_use true c.args.layer.now c.args.prefix)
    (where_free c.args.prefix) (c.in_ok-is_in_use.ensures.follows words)
    (refused_where used fault.PrefixInUse after words (λ (free : Done). Gives c.args.prefix) c.if-branch-2.true refl))

pub returns-clause-follows : goal.returns-clause-follows
returns-clause-follows g c words =
    let middle = g.T.Tr.stands c.has_keys.new.tr in
    let after = g.T.Tr.stands c.is_in_use.new.tr in
    let prefix = c.args.prefix in
    none_begins c.args.layer.now prefix c.in_ok-has_keys.field-0 (Ok prefix) (g.T.Tr.stands c.args.tr.now) middle after words c.if-branch.false
    (c.in_ok-has_keys.ensures.follows words)
    (then_drew c.in_ok-is_in_use.field-0 (Ok prefix) middle after after words words words (is_in_use true c.args.layer.now prefix) (where_free prefix)
    (c.in_ok-is_in_use.ensures.follows words)
    (passed_where c.in_ok-is_in_use.field-0 fault.PrefixInUse (Ok prefix) after after words words (λ (free : Done). Gives prefix)
    c.if-branch-2.false (gave prefix after words)))
