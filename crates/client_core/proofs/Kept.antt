-- What a refusal for want of memory leaves of the history.
use Rattle.std.proofs.Common.{◌≡◌, ℕ, ◌≤◌, true, cond, List, [], ◌++◌, Some, sym, ap, subst, ◌∙◌}
use Rattle.std.proofs.lemmas.List.{append-nil}
use Rattle.std.specs.FinMap as finite
use Rattle.model_database.specs.Histories.{Commit, History, Setting, grown_by, last, low}
use Rattle.model_database.specs.Transactions.{fresh}
use Rattle.fdb_calls.specs.Calling.{Called}
use Rattle.conflict_ranges.specs.Writes.{above, newest_at, Index}
use Rattle.version_store.specs.Versions.{Versions}
use Rattle.model_machine.specs.Worlds.{World, next_life, transaction_of}
use Rattle.txn_core.specs.declared.answer.Answer.{Answer}
use Rattle.txn_core.specs.Stands as txn
use Rattle.client_core.specs.Sound.{IsSound, StillKeeps, StillKeepsOf}
use Rattle.client_core.specs.Stands.{ContentsModel, KeepsWorld}
use Rattle.client_core.proofs.Named.{found_stands}

-- two histories that one store and one index keep are kept by the same others
keeps_shared : (store store_left : Versions) (index index_left : Index) (one other : Setting) → txn.Keeps store index one
    → txn.Keeps store index other → txn.Keeps store_left index_left one → txn.Keeps store_left index_left other
keeps_shared store store_left index index_left one other mine its left =
    let same : last one.history ≡ last other.history = sym mine.last_is ∙ its.last_is in
    let low_same : low one ≡ low other = sym mine.oldest_is ∙ its.oldest_is in
    record {
      last_is = left.last_is ∙ same;
      oldest_is = left.oldest_is ∙ low_same;
      at_is = λ version from within.
          let below : version ≤ last one.history = subst (λ n. version ≤ n) (sym same) within in
          let its_from : low one ≤ version = subst (λ n. n ≤ version) (sym low_same) from in
          left.at_is version its_from below ∙ sym (mine.at_is version its_from below) ∙ its.at_is version from within;
      forgotten_is = subst (λ n. index_left.forgotten ≤ n) low_same left.forgotten_is;
      newest_is = λ key.
          subst (λ n. above n (newest_at index_left key) ≡ above n (newest_at index key)) low_same
          (left.newest_is key ∙ sym (mine.newest_is key))
          ∙ its.newest_is key;
    }

-- what is kept of the world of a sound core is kept of each history
pub history_kept : (old new : ContentsModel) (commits : ℕ) → IsSound old commits → StillKeeps old new → (setting : Setting)
    → txn.Keeps old.store old.index setting → txn.Keeps new.store new.index setting
history_kept old new commits sound still setting keeps =
    keeps_shared old.store new.store old.index new.index sound.world.setting setting sound.stands.keeps keeps (still sound.world sound.stands)

-- a store and an index that are the same keep the same
pub same_keeps : (store store_left : Versions) (index index_left : Index) (setting : Setting) → store_left ≡ store → index_left ≡ index
    → txn.Keeps store index setting → txn.Keeps store_left index_left setting
same_keeps store store_left index index_left setting same same_index keeps =
    subst (λ (both : Versions × Index). txn.Keeps both.0 both.1 setting) (λ i. (sym same i, sym same_index i)) keeps

pub same_still : (core after : ContentsModel) → after.store ≡ core.store → after.index ≡ core.index → StillKeeps core after
same_still core after same same_index world stands =
    same_keeps core.store after.store core.index after.index world.setting same same_index stands.keeps

-- no commit was added
pub keeps_ungrown : (store : Versions) (index : Index) (setting : Setting) (commits : List Commit) → commits ≡ []
    → txn.Keeps store index (grown_by setting commits) → txn.Keeps store index setting
keeps_ungrown store index setting commits none keeps =
    subst (λ (h : History). txn.Keeps store index (record setting { history = h }))
    (ap (λ cs. setting.history ++ cs) none ∙ append-nil setting.history) keeps

-- a call that drew a life added none
pub drawing_keeps : (answer : Answer) (left : txn.Kept) (store : Versions) (index : Index) (setting : Setting) (made : Called)
    → (made.lives ≡ 1 → made.commits ≡ []) → answer.drew_life ≡ true → txn.Answers answer left store index setting made
    → txn.Keeps store index setting
drawing_keeps answer left store index setting made quiet drew answers =
    keeps_ungrown store index setting made.commits (quiet (sym answers.lives ∙ ap (λ b. cond b 1 0) drew)) answers.keeps

-- a call on the transaction of a name
pub named_still : (core : ContentsModel) (store_left : Versions) (index_left : Index) (name : List ℕ) (before : txn.Kept)
    → finite.get core.transactions name ≡ Some before → StillKeepsOf core.options before core.store store_left core.index index_left
    → (world : World) → KeepsWorld core world → txn.Keeps store_left index_left world.setting
named_still core store_left index_left name before found still world stands =
    still (transaction_of world name) world.setting
    (found_stands before (fresh (next_life world)) (finite.get core.transactions name) (finite.get world.transactions name) found
    (stands.transactions name))
    stands.keeps (sym stands.options)
