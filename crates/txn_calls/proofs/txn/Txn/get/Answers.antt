use Rattle.std.proofs.Common.{rules, ◌∷◌, [], false, refl, ap, ◌∙◌}
use Rattle.std.specs.FinMap as finite
use Rattle.model_database.specs.Reads as read
use Rattle.model_database.specs.Reads.{answer}
use Rattle.fdb_calls.specs.declared.Reply.TheVariants as reply
use Rattle.txn_calls.specs.Accesses.{seen_by}
use Rattle.txn_calls.proofs.Views.{admit_answered, admitted_so, rest_refused, rest_answered, answered_on_return}
use Rattle.txn_calls.proofs.txn.Txn.get.Goals as goal

pub returns-in_err-admit : goal.returns-in_err-admit
returns-in_err-admit c index setting keeps t stands =
    answered_on_return _ c.from_residual.result c.in_err-admit.field-0.0 _ t _ (search rules)
    (admit_answered (Unit {0}) (λ value. reply.Value value) c.in_err-admit.field-0.0 c.args.self.now c.admit.new.self c.args.store.now index setting t false
    c.args.snapshot (read.Get c.args.key.now) _ (search rules) stands keeps (c.in_err-admit.ensures {u = tt}))

pub returns-in_err-rest_on : goal.returns-in_err-rest_on
unfolding answer
returns-in_err-rest_on c index setting keeps t stands =
    let old = c.args.self.now in let store = c.args.store.now in
    answered_on_return _ c.from_residual-in_err-rest_on.result c.in_err-rest_on.field-0.0 _ t _ (search rules)
    (rest_refused (λ value. reply.Value value) old c.admit.new.self c.rest_on.new.self store index setting t false c.args.snapshot
    (read.Get c.args.key.now) _ (c.in_ok-interval.interval ∷ []) stands keeps
    (admitted_so old c.admit.new.self store _ false (c.in_ok-interval.interval ∷ []) (read.Get c.args.key.now) (search rules)
    (c.in_ok-admit.ensures {u = tt}) (λ same. search rules))
    (Unit {0}) c.in_err-rest_on.field-0.0 (c.in_err-rest_on.ensures {u = tt}))

pub returns : goal.returns
unfolding answer
returns c index setting keeps t stands =
    let old = c.args.self.now in let store = c.args.store.now in
    let admits = c.in_ok-admit.ensures {u = tt} in
    rest_answered (λ value. reply.Value value) old c.admit.new.self c.rest_on.new.self store index setting t false c.args.snapshot
    (read.Get c.args.key.now) _ (c.in_ok-interval.interval ∷ []) stands keeps
    (admitted_so old c.admit.new.self store _ false (c.in_ok-interval.interval ∷ []) (read.Get c.args.key.now) (search rules) admits
    (λ same. search rules))
    c.in_ok-value.value (read.ValueIs c.in_ok-value.value) c.in_ok-rest_on.field-0 refl
    (ap (λ value. read.ValueIs value) ((c.in_ok-value.ensures {u = tt}) ∙ ap (λ kept. finite.get (seen_by kept store) c.args.key.now) admits.2)) (c.in_ok-rest_on.ensures {u = tt})
