use Rattle.std.proofs.Common.{rules, ◌≡◌, ◌∷◌, [], Bool, List, ℕ, refl, ap, ◌∙◌}
use Rattle.key_bytes.specs.declared.range.KeyRange.{KeyRange}
use Rattle.model_database.specs.Intervals as intervals
use Rattle.model_database.specs.Modes.{lacks_limit}
use Rattle.model_database.specs.Slices.{Entries, slice}
use Rattle.model_database.specs.Reads as read
use Rattle.model_database.specs.Reads.{answer}
use Rattle.fdb_calls.specs.declared.Reply.TheVariants as reply
use Rattle.version_store.specs.Versions.{Versions}
use Rattle.txn_calls.specs.Stands.{Kept}
use Rattle.txn_calls.specs.Accesses.{seen_by}
use Rattle.txn_calls.proofs.Views.{admit_answered, admitted_so, rest_refused, rest_answered, answered_on_return}
use Rattle.txn_calls.proofs.txn.Txn.get_key_range.Goals as goal

pub returns-in_err-admit : goal.returns-in_err-admit
returns-in_err-admit c index setting keeps t stands =
    answered_on_return _ c.from_residual.result c.in_err-admit.field-0.0 _ t _ (search rules)
    (admit_answered (Unit {0}) (λ pairs. reply.PairsAre pairs) c.in_err-admit.field-0.0 c.args.self.now c.admit.new.self c.args.store.now index setting t (lacks_limit c.args.options.mode c.args.options.limit)
    c.args.snapshot (read.GetKeyRange c.args.range.now.begin c.args.range.now.end c.args.options.limit c.args.options.reverse) _ (search rules) stands keeps (rw c.lacks_limit.ensures at (c.in_err-admit.ensures {u = tt})))

-- the pairs that were found are those of what is seen, and so is the range
pairs_read : (old mid : Kept) (store : Versions) (begin end : List ℕ) (limit : ℕ) (backward : Bool) (pairs : Entries) (range : KeyRange) → mid ≡ old
    → pairs ≡ slice (seen_by mid store) begin end limit backward → range ≡ intervals.slice_interval begin end limit backward pairs
    → (pairs ≡ slice (seen_by old store) begin end limit backward)
    × (range ∷ [] ≡ intervals.interval (read.GetKeyRange begin end limit backward) (seen_by old store))
pairs_read old mid store begin end limit backward pairs range same found is =
    let seen : pairs ≡ slice (seen_by old store) begin end limit backward =
    found ∙ ap (λ kept. slice (seen_by kept store) begin end limit backward) same in
    (seen, ap (λ range. range ∷ []) (is ∙ ap (intervals.slice_interval begin end limit backward) seen))

pub returns-in_err-rest_on : goal.returns-in_err-rest_on
returns-in_err-rest_on c index setting keeps t stands =
    let old = c.args.self.now in let store = c.args.store.now in let options = c.args.options in
    let begin = c.args.range.now.begin in let end = c.args.range.now.end in
    let asked = read.GetKeyRange begin end options.limit options.reverse in
    let range = c.in_ok-span.span in
    answered_on_return _ c.from_residual-in_err-rest_on.result c.in_err-rest_on.field-0.0 _ t _ (search rules)
    (rest_refused (λ pairs. reply.PairsAre pairs) old c.admit.new.self c.rest_on.new.self store index setting t (lacks_limit options.mode options.limit)
    c.args.snapshot asked _ (range ∷ []) stands keeps
    (admitted_so old c.admit.new.self store _ (lacks_limit options.mode options.limit) (range ∷ []) asked (search rules)
    (rw c.lacks_limit.ensures at (c.in_ok-admit.ensures {u = tt}))
    (λ same. (pairs_read old c.admit.new.self store begin end options.limit options.reverse c.in_ok-pairs.pairs range same (c.in_ok-pairs.ensures {u = tt})
    (c.in_ok-span.ensures {u = tt})).1))
    (Unit {0}) c.in_err-rest_on.field-0.0 (c.in_err-rest_on.ensures {u = tt}))

pub returns : goal.returns
unfolding answer
returns c index setting keeps t stands =
    let old = c.args.self.now in let store = c.args.store.now in let options = c.args.options in
    let begin = c.args.range.now.begin in let end = c.args.range.now.end in
    let range = c.in_ok-span.span in
    let admits = rw c.lacks_limit.ensures at (c.in_ok-admit.ensures {u = tt}) in
    let read_so = pairs_read old c.admit.new.self store begin end options.limit options.reverse c.in_ok-pairs.pairs range admits.2
    (c.in_ok-pairs.ensures {u = tt}) (c.in_ok-span.ensures {u = tt}) in
    rest_answered (λ pairs. reply.PairsAre pairs) old c.admit.new.self c.rest_on.new.self store index setting t (lacks_limit options.mode options.limit)
    c.args.snapshot (read.GetKeyRange begin end options.limit options.reverse) _ (range ∷ []) stands keeps
    (admitted_so old c.admit.new.self store _ (lacks_limit options.mode options.limit) (range ∷ [])
    (read.GetKeyRange begin end options.limit options.reverse) (search rules) admits (λ same. read_so.1))
    c.in_ok-pairs.pairs (read.PairsAre c.in_ok-pairs.pairs) c.in_ok-rest_on.field-0 refl (ap (λ pairs. read.PairsAre pairs) read_so.0)
    (c.in_ok-rest_on.ensures {u = tt})
