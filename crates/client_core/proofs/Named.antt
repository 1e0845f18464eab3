-- Transactions by their names.
use Rattle.std.proofs.Common.{◌≡◌, ℕ, Bool, true, false, cond, List, length, Option, Some, None, IsSome, refl, sym, ap, subst, ◌∙◌}
use Rattle.std.specs.Prelude.{unwrap_or, is_some}
use Rattle.std.specs.FinMap as finite
use Rattle.std.specs.Ordering.{eq_by_cmp}
use Rattle.std.specs.Cmp.{eq_by_cmp_equiv}
use Rattle.std.specs.Cmp.Lexicographic.{nat_list_cmp_total}
use Rattle.fdb_calls.specs.declared.Reply.{Reply}
use Rattle.fdb_calls.specs.declared.TxnCall.{TxnCall}
use Rattle.key_bytes.specs.Keys.{key_cmp}
use Rattle.model_database.specs.Transactions.{Transaction, fresh}
use Rattle.fdb_calls.specs.declared.Outcome.{Outcome}
use Rattle.fdb_calls.specs.Calling.{called}
use Rattle.model_machine.specs.Worlds.{World, Transactions, next_life, decide, with_lives, transaction_of, call_named, with_new, with_named}
use Rattle.conflict_ranges.specs.Writes.{Index}
use Rattle.version_store.specs.Versions.{Versions}
use Rattle.txn_core.specs.Stands as txn
use Rattle.client_core.specs.Stands.{ContentsModel, KeptTransactions, KeepsWorld, AreAlike}
use Rattle.client_core.specs.Lives.{life_of, outcome_by}
use Rattle.client_core.specs.Sound.{MadeOn, Took}
use Rattle.client_core.proofs.Outcomes.{life_found, lives_agree}

same_key : (name : List ℕ) → eq_by_cmp key_cmp name name ≡ true
same_key name = (eq_by_cmp_equiv nat_list_cmp_total).refl name

-- each name has transactions that are alike
abbrev pub AllAlike : KeptTransactions → Transactions → Type 0
AllAlike kept transactions = (name : List ℕ) → AreAlike (finite.get kept name) (finite.get transactions name)

pub there_inserted : (transactions : KeptTransactions) (name : List ℕ) (transaction : txn.Kept)
    → IsSome (finite.get (finite.insert transactions name transaction) name)
there_inserted transactions name transaction =
    ap is_some (finite.get-insert nat_list_cmp_total transactions name transaction name)
    ∙ ap (λ b. is_some (cond b (Some transaction) (finite.get transactions name))) (same_key name)

alike_cond : (b : Bool) (kept : txn.Kept) (transaction : Transaction) (x : Option txn.Kept) (y : Option Transaction) → txn.StandsFor kept transaction → AreAlike x y
    → AreAlike (cond b (Some kept) x) (cond b (Some transaction) y)
alike_cond true kept transaction x y stands alike = stands
alike_cond false kept transaction x y stands alike = alike

pub alike_inserted : (m : KeptTransactions) (w : Transactions) (name : List ℕ) (kept : txn.Kept) (transaction : Transaction) → txn.StandsFor kept transaction → AllAlike m w
    → AllAlike (finite.insert m name kept) (finite.insert w name transaction)
alike_inserted m w name kept transaction stands alike = λ q.
    let both = alike_cond (eq_by_cmp key_cmp q name) kept transaction (finite.get m q) (finite.get w q) stands (alike q) in
    subst (λ x. AreAlike x (finite.get (finite.insert w name transaction) q)) (sym (finite.get-insert nat_list_cmp_total m name kept q))
    (subst (λ y. AreAlike (cond (eq_by_cmp key_cmp q name) (Some kept) (finite.get m q)) y)
    (sym (finite.get-insert nat_list_cmp_total w name transaction q)) both)

-- a transaction of a new life under a name
pub new_stands : (core after : ContentsModel) (world : World) (name : List ℕ) (next life : ℕ) (outcome : Option Outcome) (kept : txn.Kept)
    → KeepsWorld core world → next ≡ length core.lives → txn.StandsFor kept (fresh next)
    → after.options ≡ core.options → after.store ≡ core.store → after.index ≡ core.index
    → after.transactions ≡ finite.insert core.transactions name kept
    → life ≡ life_of core.transactions name (length core.lives) → outcome ≡ outcome_by life kept.life kept.phase
    → after.lives ≡ decide life outcome (with_lives core.lives 1)
    → KeepsWorld after (with_new world name)
new_stands core after world name next life outcome kept stands counted fresh_one options store index transactions is becomes lives =
    let fresh_there : txn.StandsFor kept (fresh (next_life world)) =
    subst (λ n. txn.StandsFor kept (fresh n)) (counted ∙ ap length stands.lives) fresh_one in
    record {
      options = options ∙ stands.options;
      keeps = subst (λ (both : Versions × Index). txn.Keeps both.0 both.1 world.setting) (λ i. (sym store i, sym index i)) stands.keeps;
      transactions = subst (λ (m : KeptTransactions). AllAlike m (finite.insert world.transactions name (fresh (next_life world)))) (sym transactions)
          (alike_inserted core.transactions world.transactions name kept (fresh (next_life world)) fresh_there stands.transactions);
      lives = lives
          ∙ lives_agree core.lives world.lives life 1 1 outcome kept (transaction_of world name) (fresh (next_life world)) stands.lives refl
          (is ∙ life_found (finite.get core.transactions name) (finite.get world.transactions name) (length core.lives) (next_life world)
          (stands.transactions name) (ap length stands.lives))
          becomes fresh_there;
    }

-- alike transactions are there in both or in none
pub alike_there : (x : Option txn.Kept) (y : Option Transaction) → AreAlike x y → is_some x ≡ is_some y
alike_there None None alike = refl
alike_there None (Some y) alike = absurd alike
alike_there (Some x) None alike = absurd alike
alike_there (Some x) (Some y) alike = refl

-- a name that has a transaction needs none
pub named_had : (core : ContentsModel) (world : World) (name : List ℕ) → KeepsWorld core world
    → is_some (finite.get core.transactions name) ≡ true → with_named world name ≡ world
named_had core world name stands there =
    ap (λ b. cond b world (with_new world name))
    (sym (alike_there (finite.get core.transactions name) (finite.get world.transactions name) (stands.transactions name)) ∙ there)

pub named_none : (core : ContentsModel) (world : World) (name : List ℕ) → KeepsWorld core world
    → is_some (finite.get core.transactions name) ≡ false → with_named world name ≡ with_new world name
named_none core world name stands there =
    ap (λ b. cond b world (with_new world name))
    (sym (alike_there (finite.get core.transactions name) (finite.get world.transactions name) (stands.transactions name)) ∙ there)

-- the transaction of a name is one that the kept one stands for
pub found_stands : (kept : txn.Kept) (fresh_one : Transaction) (x : Option txn.Kept) (y : Option Transaction) → x ≡ Some kept → AreAlike x y
    → txn.StandsFor kept (unwrap_or y fresh_one)
found_stands kept fresh_one None y e alike = absurd cc
found_stands kept fresh_one (Some x) None e alike = absurd alike
found_stands kept fresh_one (Some x) (Some y) e alike = subst (λ k. txn.StandsFor k y) (let same : x ≡ kept = cc in same) alike

-- a call on the transaction of a name, which is there, is the call of the step
pub named_took : (core after : ContentsModel) (world : World) (name : List ℕ) (call : TxnCall) (before left : txn.Kept) (given : Reply)
    → finite.get core.transactions name ≡ Some before
    → MadeOn core.options call given before left core.store after.store core.index after.index core.lives after.lives
    → after.options ≡ core.options → after.transactions ≡ finite.insert core.transactions name left
    → KeepsWorld core world → Took given after (call_named world name call)
named_took core after world name call before left given found made options transactions stands =
    let its = transaction_of world name in
    let stood = found_stands before (fresh (next_life world)) (finite.get core.transactions name) (finite.get world.transactions name) found (stands.transactions name) in
    let told = subst (λ n. txn.Answers made.answer left after.store after.index world.setting (called world.setting n its call))
    (ap length stands.lives) (made.answers its world.setting stood stands.keeps (sym stands.options)) in
    let leaves = called world.setting (next_life world) its call in
    record {
      reply_is = made.reply_is ∙ told.reply;
      stands = record {
        options = options ∙ stands.options;
        keeps = told.keeps;
        transactions = subst (λ (m : KeptTransactions). AllAlike m (finite.insert world.transactions name leaves.transaction)) (sym transactions)
            (alike_inserted core.transactions world.transactions name left leaves.transaction told.stands stands.transactions);
        lives = made.lives_are
            ∙ lives_agree core.lives world.lives before.life (cond made.answer.drew_life 1 0) leaves.lives
            (outcome_by before.life left.life left.phase) left its leaves.transaction stands.lives told.lives stood.life refl told.stands;
      };
    }

-- and where it is there, that of the step of any name
pub made_took : (core after : ContentsModel) (world : World) (name : List ℕ) (call : TxnCall) (before left : txn.Kept) (given : Reply)
    → finite.get core.transactions name ≡ Some before
    → MadeOn core.options call given before left core.store after.store core.index after.index core.lives after.lives
    → after.options ≡ core.options → after.transactions ≡ finite.insert core.transactions name left
    → KeepsWorld core world → Took given after (call_named (with_named world name) name call)
made_took core after world name call before left given found made options transactions stands =
    subst (λ (named : World). Took given after (call_named named name call))
    (sym (named_had core world name stands (ap is_some found)))
    (named_took core after world name call before left given found made options transactions stands)
