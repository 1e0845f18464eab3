use Rattle.std.proofs.Common.{rules, ◌≡◌, ◌∷◌, [], List, ℕ, false, refl, ap, ◌∙◌}
use Rattle.key_bytes.specs.declared.range.KeyRange.{KeyRange}
use Rattle.model_database.specs.declared.selector.Selector.{Selector}
use Rattle.model_database.specs.Intervals as intervals
use Rattle.model_database.specs.Selecting.{select}
use Rattle.model_database.specs.Reads as read
use Rattle.model_database.specs.Reads.{answer}
use Rattle.fdb_calls.specs.declared.Reply.TheVariants as reply
use Rattle.version_store.specs.Versions.{Versions}
use Rattle.txn_calls.specs.Stands.{Kept}
use Rattle.txn_calls.specs.Accesses.{seen_by}
use Rattle.txn_calls.proofs.Views.{admit_answered, admitted_so, rest_refused, rest_answered, answered_on_return}
use Rattle.txn_calls.proofs.txn.Txn.get_key.Goals as goal

pub returns-in_err-admit : goal.returns-in_err-admit
returns-in_err-admit c index setting keeps t stands =
    answered_on_return _ c.from_residual.result c.in_err-admit.field-0.0 _ t _ (search rules)
    (admit_answered (Unit {0}) (λ key. reply.KeyIs key) c.in_err-admit.field-0.0 c.args.self.now c.admit.new.self c.args.store.now index setting t false
    c.args.snapshot (read.GetKey c.args.selector.now) c.is_end_outside.result (search rules) stands keeps (c.in_err-admit.ensures {u = tt}))

-- the key that was found is that of what is seen, and so is the range
key_read : (old mid : Kept) (store : Versions) (selector : Selector) (key : List ℕ) (range : KeyRange) → mid ≡ old
    → key ≡ select (seen_by mid store) selector → range ≡ intervals.selector_interval selector key
    → (key ≡ select (seen_by old store) selector) × (range ∷ [] ≡ intervals.interval (read.GetKey selector) (seen_by old store))
key_read old mid store selector key range same found is =
    let seen : key ≡ select (seen_by old store) selector = found ∙ ap (λ kept. select (seen_by kept store) selector) same in
    (seen, ap (λ range. range ∷ []) (is ∙ ap (intervals.selector_interval selector) seen))

pub returns-in_err-rest_on : goal.returns-in_err-rest_on
returns-in_err-rest_on c index setting keeps t stands =
    let old = c.args.self.now in let store = c.args.store.now in
    let range = c.in_ok-interval.interval in
    answered_on_return _ c.from_residual-in_err-rest_on.result c.in_err-rest_on.field-0.0 _ t _ (search rules)
    (rest_refused (λ key. reply.KeyIs key) old c.admit.new.self c.rest_on.new.self store index setting t false c.args.snapshot
    (read.GetKey c.args.selector.now) c.is_end_outside.result (range ∷ []) stands keeps
    (admitted_so old c.admit.new.self store c.is_end_outside.result false (range ∷ []) (read.GetKey c.args.selector.now) (search rules)
    (c.in_ok-admit.ensures {u = tt})
    (λ same. (key_read old c.admit.new.self store c.args.selector.now c.in_ok-key.key range same (c.in_ok-key.ensures {u = tt}) (c.in_ok-interval.ensures {u = tt})).1))
    (Unit {0}) c.in_err-rest_on.field-0.0 (c.in_err-rest_on.ensures {u = tt}))

pub returns : goal.returns
unfolding answer
returns c index setting keeps t stands =
    let old = c.args.self.now in let store = c.args.store.now in
    let range = c.in_ok-interval.interval in
    let admits = c.in_ok-admit.ensures {u = tt} in
    let read_so = key_read old c.admit.new.self store c.args.selector.now c.in_ok-key.key range admits.2 (c.in_ok-key.ensures {u = tt})
    (c.in_ok-interval.ensures {u = tt}) in
    rest_answered (λ key. reply.KeyIs key) old c.admit.new.self c.rest_on.new.self store index setting t false c.args.snapshot
    (read.GetKey c.args.selector.now) c.is_end_outside.result (range ∷ []) stands keeps
    (admitted_so old c.admit.new.self store c.is_end_outside.result false (range ∷ []) (read.GetKey c.args.selector.now) (search rules) admits
    (λ same. read_so.1))
    c.in_ok-key.key (read.KeyIs c.in_ok-key.key) c.in_ok-rest_on.field-0 refl (ap (λ key. read.KeyIs key) read_so.0) (c.in_ok-rest_on.ensures {u = tt})
