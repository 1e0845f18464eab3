use Rattle.std.proofs.Common.{◌≡◌, ◌+◌, length, length-append, ◌∷◌, [], arith, refl, ap, sym, subst, ◌∙◌}
use Rattle.std.specs.Prelude.{if◌then◌else◌}
use Rattle.model_database.specs.declared.Phase.TheVariants as phase
use Rattle.model_database.specs.declared.Tried.TheVariants as tried
use Rattle.model_database.specs.Databases.{do_all}
use Rattle.model_database.specs.Histories.{stamp_of, grown_by, low, lowest}
use Rattle.model_database.specs.States.{all_filled, covers}
use Rattle.model_database.specs.Transactions.{writes_of, with_phase}
use Rattle.model_database.proofs.Stamps.{stamp_length}
use Rattle.conflict_ranges.specs.Writes.{newest_at, above}
use Rattle.fdb_calls.specs.Calling.{commit_of, next_version}
use Rattle.version_store.specs.Changed.{changed}
use Rattle.version_store.specs.Versions.{at, last_of, oldest_of}
use Rattle.txn_calls.specs.Stands.{StandsFor, write_conflicts_in}
use Rattle.txn_calls.proofs.States.{same_filled_maps}
use Rattle.txn_calls.proofs.Stored.{above_given, keeps_same, keeps_next, low_grows, low_inside}
use Rattle.txn_calls.proofs.txn.Txn.make_version.Goals as goal

pub returns-clause-ok : goal.returns-clause-ok
returns-clause-ok c setting t stands keeps within =
    let kept = c.args.self.now in let store = c.args.store.now in let index = c.args.index.now in
    let reserved = c.in_ok-reserve.ensures {u = tt} in
    let same = keeps_same store c.reserve.new.self index index setting keeps reserved.last reserved.oldest refl reserved.reads (λ key. refl) in
    let stamp = c.stamp_of-stamp.ensures ∙ ap (λ n. stamp_of (n + 1)) (c.last-version.ensures.value ∙ keeps.last_is) in
    let ten : length (stamp_of (next_version setting)) ≡ 10 = stamp_length (next_version setting) in
    let version = ap (λ n. n + 1) (c.last-version.ensures.value ∙ keeps.last_is) in
    let made = ap (λ n. n + 1) (c.last-version.ensures.value ∙ sym reserved.last) in
    let commit = commit_of (stamp_of (next_version setting)) setting t in
    let grows = low_grows setting commit in
    let inside = low_inside (grown_by setting (commit ∷ [])) in
    let next = length-append setting.history (commit ∷ []) in
    let low_is : c.lowest-lowest.result ≡ low (grown_by setting (commit ∷ [])) =
    c.lowest-lowest.ensures.value ∙ (λ i. lowest (sym within i) ((version ∙ sym next) i)) in
    let oldest : oldest_of c.prune.new.self ≡ low (grown_by setting (commit ∷ [])) =
    omega (arith, c.prune.ensures.oldest, c.install.ensures.oldest, same.oldest_is, grows, low_is) in
    let base = reserved.reads (last_of c.reserve.new.self) ∙ ap (at store) reserved.last in (
      subst (λ v. StandsFor c.tried.new.self (with_phase t (phase.Tried (tried.Version v)))) version (c.tried.ensures t stands),
      keeps_next c.reserve.new.self c.prune.new.self index c.forget.new.self setting commit same
          (c.prune.ensures.last ∙ c.install.ensures.last) oldest
          (λ v from le. c.prune.ensures.reads v from ∙ c.install.ensures.before v le)
          (c.prune.ensures.reads (last_of c.reserve.new.self + 1) (omega (arith, oldest, next, inside)) ∙ c.install.ensures.after ∙ ap (changed c.in_ok-changes.changes) base ∙ (c.in_ok-changes.ensures {u = tt}).leads
          ∙ ap (λ s. do_all (all_filled s kept.mutations) (at store (last_of store))) stamp
          ∙ same_filled_maps kept.mutations (writes_of t) (stamp_of (next_version setting)) stands.mutations ten (at store (last_of store))
          ∙ sym (ap (do_all (all_filled (stamp_of (next_version setting)) (writes_of t))) base))
          (omega (arith, c.forget.ensures.forgotten, c.add_write_conflicts.ensures.forgotten, keeps.forgotten_is, grows, low_is))
          (λ key.
          let write_conflicts = ap (λ s. covers (write_conflicts_in s kept) key) stamp ∙ stands.write_conflicts (stamp_of (next_version setting)) key ten in
          above_given (low (grown_by setting (commit ∷ []))) index.forgotten c.forget.new.self.forgotten _ _ (newest_at index key) _ _
          (omega (arith, keeps.forgotten_is, grows))
          (omega (arith, c.forget.ensures.forgotten, c.add_write_conflicts.ensures.forgotten, keeps.forgotten_is, grows, low_is))
          ((c.in_ok-add_write_conflicts.ensures {u = tt}).given key
          ∙ (λ i. if write_conflicts i then above index.forgotten (made i) else newest_at index key))
          (c.forget.ensures.kept key)),
    )
