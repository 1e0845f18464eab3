-- Calls on a transaction of its own, which is then committed.
use Rattle.std.proofs.Common.{◌≡◌, ℕ, ◌+◌, ◌^◌, ◌<◌, ◌≤◌, true, false, cond, [], ◌++◌, length, refl, sym, ap, subst, ◌∙◌, length-append, arith}
use Rattle.std.proofs.lemmas.List.{append-nil}
use Rattle.std.specs.Prelude.{Option}
use Rattle.fdb_calls.specs.declared.Outcome.{Outcome}
use Rattle.fdb_calls.specs.declared.Reply.{Reply}
use Rattle.fdb_calls.specs.declared.TxnCall.{TxnCall}
use Rattle.fdb_calls.specs.declared.TxnCall.TheVariants as call
use Rattle.model_database.specs.Histories.{History, Setting, grown_by, last}
use Rattle.model_database.specs.Transactions.{Transaction, fresh, with_version}
use Rattle.fdb_calls.specs.Calling.{Called, called, is_fault}
use Rattle.conflict_ranges.specs.Writes.{Index}
use Rattle.model_machine.specs.Worlds.{World, next_life, decide, with_lives, called_apart, commit_made, database_by, fresh_at_last}
use Rattle.version_store.specs.Versions.{Versions, last_of}
use Rattle.txn_core.specs.Stands as txn
use Rattle.client_core.specs.Lives.{drawn_in, outcome_by}
use Rattle.client_core.specs.Stands.{ContentsModel, KeptTransactions, KeepsWorld}
use Rattle.client_core.specs.Sound.{MadeOn, Took, TookApart, IsSound}
use Rattle.client_core.proofs.Calls.{few_commits}
use Rattle.client_core.proofs.Outcomes.{lives_agree}
use Rattle.client_core.proofs.Named.{AllAlike}

-- a fresh transaction at the last version stands under no name
pub drawn_apart : (core after : ContentsModel) (world : World) (next : ℕ) (begun : txn.Kept) → next ≡ length core.lives
    → ((setting : Setting) → txn.Keeps core.store core.index setting → txn.StandsFor begun (with_version setting (fresh next)))
    → after.options ≡ core.options → after.store ≡ core.store → after.index ≡ core.index → after.transactions ≡ core.transactions
    → after.lives ≡ with_lives core.lives 1
    → KeepsWorld core world → txn.StandsFor begun (fresh_at_last world) × KeepsWorld after (drawn_in world)
drawn_apart core after world next begun counted fresh_one options store index transactions lives stands = (
  subst (λ n. txn.StandsFor begun (with_version world.setting (fresh n))) (counted ∙ ap length stands.lives) (fresh_one world.setting stands.keeps),
  record {
    options = options ∙ stands.options;
    keeps = subst (λ (both : Versions × Index). txn.Keeps both.0 both.1 world.setting) (λ i. (sym store i, sym index i)) stands.keeps;
    transactions = subst (λ (m : KeptTransactions). AllAlike m world.transactions) (sym transactions) stands.transactions;
    lives = lives ∙ ap (λ kept. with_lives kept 1) stands.lives;
  },
)

-- a core that keeps what a call on such a transaction leaves
pub apart_stands : (core after : ContentsModel) (world : World) (life drew : ℕ) (outcome : Option Outcome) (left : txn.Kept)
    (before : Transaction) (made : Called)
    → KeepsWorld core world → txn.Keeps after.store after.index (grown_by world.setting made.commits) → after.options ≡ core.options
    → after.transactions ≡ core.transactions
    → after.lives ≡ decide life outcome (with_lives core.lives drew) → outcome ≡ outcome_by life left.life left.phase
    → life ≡ before.life → drew ≡ made.lives → txn.StandsFor left made.transaction → KeepsWorld after (called_apart world before made)
apart_stands core after world life drew outcome left before made stands keeps options transactions lives becomes is counted left_stands = record {
  options = options ∙ stands.options;
  keeps = keeps;
  transactions = subst (λ (m : KeptTransactions). AllAlike m world.transactions) (sym transactions) stands.transactions;
  lives = lives ∙ lives_agree core.lives world.lives life drew made.lives outcome left before made.transaction stands.lives counted is becomes left_stands;
}

-- a call on it
pub apart_took : (core after : ContentsModel) (world : World) (its_call : TxnCall) (before left : txn.Kept) (given : Reply) (t : Transaction)
    → MadeOn core.options its_call given before left core.store after.store core.index after.index core.lives after.lives
    → after.options ≡ core.options → after.transactions ≡ core.transactions → txn.StandsFor before t → KeepsWorld core world
    → TookApart given left after world t (called world.setting (next_life world) t its_call)
apart_took core after world its_call before left given t made options transactions stood stands =
    let leaves = called world.setting (next_life world) t its_call in
    let told : txn.Answers made.answer left after.store after.index world.setting leaves =
    subst (λ n. txn.Answers made.answer left after.store after.index world.setting (called world.setting n t its_call)) (ap length stands.lives)
    (made.answers t world.setting stood stands.keeps (sym stands.options)) in
    record {
      reply_is = made.reply_is ∙ told.reply;
      stands = told.stands;
      world_stands = apart_stands core after world before.life (cond made.answer.drew_life 1 0) (outcome_by before.life left.life left.phase)
          left t leaves stands told.keeps options transactions made.lives_are refl stood.life told.lives told.stands;
    }

-- writes of entries on it change nothing of the core
pub logged_apart : (core after : ContentsModel) (world : World) (life : ℕ) (outcome : Option Outcome) (left : txn.Kept)
    (before : Transaction) (made : Called)
    → KeepsWorld core world → made.commits ≡ [] → made.lives ≡ 0 → after.options ≡ core.options → after.store ≡ core.store
    → after.index ≡ core.index → after.transactions ≡ core.transactions
    → after.lives ≡ decide life outcome (with_lives core.lives 0) → outcome ≡ outcome_by life left.life left.phase
    → life ≡ before.life → txn.StandsFor left made.transaction → KeepsWorld after (called_apart world before made)
logged_apart core after world life outcome left before made stands none no_life options store index transactions lives becomes is left_stands =
    apart_stands core after world life 0 outcome left before made stands
    (subst (λ (h : History). txn.Keeps after.store after.index (record world.setting { history = h }))
    (sym (ap (λ commits. world.setting.history ++ commits) none ∙ append-nil world.setting.history))
    (subst (λ (both : Versions × Index). txn.Keeps both.0 both.1 world.setting) (λ i. (sym store i, sym index i)) stands.keeps))
    options transactions lives becomes is (sym no_life) left_stands

-- a core that is sound has a version to spare
pub few_at : (core : ContentsModel) (last_version : ℕ) → IsSound core (2 ^ 62) → last_version ≡ last_of core.store → last_version + 1 < 2 ^ 63
few_at core last_version sound same = bounded _ _ _ same sound.stands.keeps.last_is sound.few_commits
  where
    bounded : (a b c : ℕ) → a ≡ b → b ≡ c → c ≤ 2 ^ 62 → a + 1 < 2 ^ 63
    bounded a b c one other h = omega arith

-- where the calls were refused, nothing is committed
pub refused_took : (core : ContentsModel) (world : World) (made : Called) (reply : Reply) → reply ≡ made.reply → KeepsWorld core world
    → is_fault reply ≡ true → Took reply core (commit_made world made)
refused_took core world made reply same stands fault =
    subst (λ b. Took reply core (database_by b world made (called world.setting (next_life world) made.transaction call.Commit)))
    (sym (ap is_fault (sym same) ∙ fault)) (record { reply_is = same; stands = stands })

-- otherwise the commit follows
pub committed_took : (after : ContentsModel) (world : World) (made : Called) (left : txn.Kept) (reply committed : Reply)
    → reply ≡ made.reply → is_fault reply ≡ false
    → TookApart committed left after world made.transaction (called world.setting (next_life world) made.transaction call.Commit)
    → Took (cond (is_fault committed) committed reply) after (commit_made world made)
committed_took after world made left reply committed same fine told =
    subst
    (λ b. Took (cond (is_fault committed) committed reply) after
    (database_by b world made (called world.setting (next_life world) made.transaction call.Commit)))
    (sym (ap is_fault (sym same) ∙ fine))
    (record { reply_is = λ i. cond (is_fault (told.reply_is i)) (told.reply_is i) (same i); stands = told.world_stands })

-- after a first call the store has a version to spare
pub few_between : (core after : ContentsModel) (left : txn.Kept) (reply : Reply) (its_call : TxnCall) (before : World → Transaction)
    (between : World → World)
    → ((world : World) → KeepsWorld core world → TookApart reply left after (between world) (before world)
    (called (between world).setting (next_life (between world)) (before world) its_call))
    → ((world : World) → last (between world).setting.history ≡ last world.setting.history)
    → IsSound core (2 ^ 62) → last_of after.store + 1 < 2 ^ 63
few_between core after left reply its_call before between took same sound =
    let world = between sound.world in
    let told = took sound.world sound.stands in
    let made = called world.setting (next_life world) (before sound.world) its_call in
    bounded _ _ _ _ (told.world_stands.keeps.last_is ∙ length-append world.setting.history made.commits)
    (few_commits world.setting (next_life world) (before sound.world) its_call) (same sound.world) sound.few_commits
  where
    bounded : (a b n c : ℕ) → a ≡ b + n → n ≤ 1 → b ≡ c → c ≤ 2 ^ 62 → a + 1 < 2 ^ 63
    bounded a b n c e few same h = omega arith
