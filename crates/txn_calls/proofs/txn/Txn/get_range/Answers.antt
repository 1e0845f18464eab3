use Rattle.std.proofs.Common.{rules, ◌≡◌, ◌∷◌, [], Bool, List, ℕ, refl, ap, ◌∙◌}
use Rattle.key_bytes.specs.declared.range.KeyRange.{KeyRange}
use Rattle.model_database.specs.declared.selector.Selector.{Selector}
use Rattle.model_database.specs.Intervals as intervals
use Rattle.model_database.specs.Modes.{lacks_limit}
use Rattle.model_database.specs.Selecting.{select}
use Rattle.model_database.specs.Slices.{Entries, slice}
use Rattle.model_database.specs.Reads as read
use Rattle.model_database.specs.Reads.{answer}
use Rattle.fdb_calls.specs.declared.Reply.TheVariants as reply
use Rattle.version_store.specs.Versions.{Versions}
use Rattle.txn_calls.specs.Stands.{Kept}
use Rattle.txn_calls.specs.Accesses.{seen_by}
use Rattle.txn_calls.proofs.Views.{admit_answered, admitted_so, rest_refused, rest_answered, answered_on_return}
use Rattle.txn_calls.proofs.txn.Txn.get_range.Goals as goal

pub returns-in_err-admit : goal.returns-in_err-admit
returns-in_err-admit c index setting keeps t stands =
    let options = c.args.options in
    answered_on_return _ c.from_residual.result c.in_err-admit.field-0.0 _ t _ (search rules)
    (admit_answered (Unit {0}) (λ pairs. reply.PairsAre pairs) c.in_err-admit.field-0.0 c.args.self.now c.admit.new.self c.args.store.now index setting
    t (lacks_limit options.mode options.limit) c.args.snapshot (read.GetRange c.args.begin.now c.args.end.now options.limit options.reverse) _ (search rules)
    stands keeps (rw c.lacks_limit.ensures at (c.in_err-admit.ensures {u = tt})))

-- the keys and the pairs that were found are those of what is seen, and so are the ranges
range_read : (old mid : Kept) (store : Versions) (begin end : Selector) (limit : ℕ) (backward : Bool) (first last : List ℕ) (pairs : Entries)
    (one other between : KeyRange) → mid ≡ old → first ≡ select (seen_by mid store) begin → last ≡ select (seen_by mid store) end
    → pairs ≡ slice (seen_by mid store) first last limit backward → one ≡ intervals.selector_interval begin first
    → other ≡ intervals.selector_interval end last → between ≡ intervals.slice_interval first last limit backward pairs
    → (pairs ≡ slice (seen_by old store) (select (seen_by old store) begin) (select (seen_by old store) end) limit backward)
    × (one ∷ other ∷ between ∷ [] ≡ intervals.interval (read.GetRange begin end limit backward) (seen_by old store))
range_read old mid store begin end limit backward first last pairs one other between same begins ends found one_is other_is between_is =
    let from : first ≡ select (seen_by old store) begin = begins ∙ ap (λ kept. select (seen_by kept store) begin) same in
    let to : last ≡ select (seen_by old store) end = ends ∙ ap (λ kept. select (seen_by kept store) end) same in
    let got : pairs ≡ slice (seen_by old store) (select (seen_by old store) begin) (select (seen_by old store) end) limit backward =
    found ∙ (λ i. slice (seen_by (same i) store) (from i) (to i) limit backward) in (
      got,
      λ i.
          (one_is ∙ ap (intervals.selector_interval begin) from) i
          ∷ (other_is ∙ ap (intervals.selector_interval end) to) i
          ∷ (between_is ∙ (λ j. intervals.slice_interval (from j) (to j) limit backward (got j))) i
          ∷ [],
    )

pub returns-in_err-rest_on : goal.returns-in_err-rest_on
returns-in_err-rest_on c index setting keeps t stands =
    let old = c.args.self.now in let store = c.args.store.now in let options = c.args.options in
    let begin = c.args.begin.now in let end = c.args.end.now in
    let asked = read.GetRange begin end options.limit options.reverse in
    let ranges = c.in_ok-selector_interval.field-0 ∷ c.in_ok-selector_interval-2.field-0 ∷ c.in_ok-slice_interval.field-0 ∷ [] in
    answered_on_return _ c.from_residual-in_err-rest_on.result c.in_err-rest_on.field-0.0 _ t _ (search rules)
    (rest_refused (λ pairs. reply.PairsAre pairs) old c.admit.new.self c.rest_on.new.self store index setting t (lacks_limit options.mode options.limit)
    c.args.snapshot asked _ ranges stands keeps
    (admitted_so old c.admit.new.self store _ (lacks_limit options.mode options.limit) ranges asked (search rules)
    (rw c.lacks_limit.ensures at (c.in_ok-admit.ensures {u = tt}))
    (λ same. (range_read old c.admit.new.self store begin end options.limit options.reverse c.in_ok-key.field-0 c.in_ok-key-2.field-0
    c.in_ok-pairs.pairs c.in_ok-selector_interval.field-0 c.in_ok-selector_interval-2.field-0 c.in_ok-slice_interval.field-0 same
    (c.in_ok-key.ensures {u = tt}) (c.in_ok-key-2.ensures {u = tt}) (c.in_ok-pairs.ensures {u = tt}) (c.in_ok-selector_interval.ensures {u = tt})
    (c.in_ok-selector_interval-2.ensures {u = tt}) (c.in_ok-slice_interval.ensures {u = tt})).1))
    (Unit {0}) c.in_err-rest_on.field-0.0 (c.in_err-rest_on.ensures {u = tt}))

pub returns : goal.returns
unfolding answer
returns c index setting keeps t stands =
    let old = c.args.self.now in let store = c.args.store.now in let options = c.args.options in
    let admits = rw c.lacks_limit.ensures at (c.in_ok-admit.ensures {u = tt}) in
    let read_so = range_read old c.admit.new.self store c.args.begin.now c.args.end.now options.limit options.reverse c.in_ok-key.field-0
    c.in_ok-key-2.field-0 c.in_ok-pairs.pairs c.in_ok-selector_interval.field-0 c.in_ok-selector_interval-2.field-0 c.in_ok-slice_interval.field-0
    admits.2 (c.in_ok-key.ensures {u = tt}) (c.in_ok-key-2.ensures {u = tt}) (c.in_ok-pairs.ensures {u = tt})
    (c.in_ok-selector_interval.ensures {u = tt}) (c.in_ok-selector_interval-2.ensures {u = tt}) (c.in_ok-slice_interval.ensures {u = tt}) in
    rest_answered (λ pairs. reply.PairsAre pairs) old c.admit.new.self c.rest_on.new.self store index setting t (lacks_limit options.mode options.limit)
    c.args.snapshot (read.GetRange c.args.begin.now c.args.end.now options.limit options.reverse) _ _ stands keeps
    (admitted_so old c.admit.new.self store _ (lacks_limit options.mode options.limit) _
    (read.GetRange c.args.begin.now c.args.end.now options.limit options.reverse) (search rules) admits (λ same. read_so.1))
    c.in_ok-pairs.pairs (read.PairsAre c.in_ok-pairs.pairs) c.in_ok-rest_on.field-0 refl (ap (λ pairs. read.PairsAre pairs) read_so.0)
    (c.in_ok-rest_on.ensures {u = tt})
