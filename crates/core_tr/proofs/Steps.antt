-- What a request of a layer's call leaves of a world.
use Rattle.std.proofs.Common.{◌≡◌, ℕ, ◌==◌, Bool, true, false, cond, List, Option, Some, None, refl, sym, ap, ◌∙◌}
use Rattle.std.specs.Prelude.{unwrap_or, is_some}
use Rattle.std.specs.Cmp.{nat_eq_equiv}
use Rattle.std.proofs.lemmas.List.{append-nil}
use Rattle.std.specs.FinMap as finite
use Rattle.model_database.specs.Histories.{History, grown_by}
use Rattle.model_database.specs.Transactions.{Transaction, fresh}
use Rattle.fdb_calls.specs.declared.Outcome.{Outcome}
use Rattle.fdb_calls.specs.declared.Outcome.TheVariants as outcome
use Rattle.fdb_calls.specs.declared.Request.TheVariants as request
use Rattle.fdb_calls.specs.declared.TxnCall.{TxnCall}
use Rattle.fdb_calls.specs.Calling.{Called, called, code_of}
use Rattle.fdb_calls.specs.Outcomes.{outcome_of}
use Rattle.model_database.specs.declared.TheConstants.{TRANSACTION_CANCELLED}
use Rattle.model_machine.specs.Worlds.{World, decide, lives_after, next_life, transaction_of, with_named, with_new, call_named, stepped, step}
use Rattle.core_tr.specs.Standing.{IsSettled, settled, AreAlikeElse}
use Rattle.core_tr.specs.StandLaws.{there_inserted, other_inserted, decide_again}
use Rattle.core_tr.proofs.Calls.{IsPlain}

-- a request that calls the transaction of a name which has one is that call
pub step_is : (world : World) (name : List ℕ) (t : Transaction) (call : TxnCall) → finite.get world.transactions name ≡ Some t
    → step world (request.On name call) ≡ stepped world name (called world.setting (next_life world) t call)
unfolding step
step_is world name t call there =
    ap (λ (named : World). call_named named name call) (ap (λ b. cond b world (with_new world name)) (ap is_some there))
    ∙ ap (λ (x : Option Transaction). stepped world name (called world.setting (next_life world) (unwrap_or x (fresh (next_life world))) call)) there

same_number : (n : ℕ) → (n == n) ≡ true
same_number n = nat_eq_equiv.refl n

abbrev if_same : Bool → Option Outcome → Option Outcome
if_same b its = cond b its (Some (outcome.Lacks (code_of TRANSACTION_CANCELLED)))

-- ---- a call that is plain

module _ (world : World) (name : List ℕ) (t : Transaction) (made : Called) (there : finite.get world.transactions name ≡ Some t)
    (plain : IsPlain t made) where
  pub setting_kept : grown_by world.setting made.commits ≡ world.setting
  setting_kept = ap (grown_by world.setting) plain.commits
      ∙ ap (λ (history : History). record world.setting { history = history }) (append-nil world.setting.history)

  lives_left : lives_after world.lives made.lives (transaction_of world name) made.transaction ≡ settled t world.lives
  lives_left =
      ap (λ (x : Option Transaction). lives_after world.lives made.lives (unwrap_or x (fresh (next_life world))) made.transaction) there
      ∙ ap (λ (count : ℕ). lives_after world.lives count t made.transaction) plain.lives
      ∙ ap (λ (lives : List (Option Outcome)). decide t.life
      (if_same (t.life == made.transaction.life) (outcome_of made.transaction.phase)) lives) (append-nil world.lives)
      ∙ (λ i. decide t.life (if_same (same_life i) (outcome_of (plain.phase i))) world.lives)
    where
      same_life : (t.life == made.transaction.life) ≡ true
      same_life = ap (λ (n : ℕ). t.life == n) plain.life ∙ same_number t.life

  pub left_there : finite.get (stepped world name made).world.transactions name ≡ Some made.transaction
  left_there = there_inserted world.transactions name made.transaction

  pub alike_left : IsSettled t world.lives → AreAlikeElse name world (stepped world name made).world
  alike_left still = record {
    setting = setting_kept;
    lives = lives_left ∙ still;
    started = refl;
    others = λ other differs. other_inserted world.transactions name other made.transaction differs;
  }

  -- a plain call settles what is known of the life
  pub settled_left : IsSettled made.transaction (stepped world name made).world.lives
  settled_left =
      (λ i. decide (plain.life i) (outcome_of (plain.phase i)) (lives_left i)) ∙ decide_again t.life (outcome_of t.phase) world.lives ∙ sym lives_left

  -- and leaves all else as another one does
  pub either_left : (other : Called) → IsPlain t other
      → finite.get (stepped world name other).world.transactions name ≡ Some other.transaction
      → grown_by world.setting other.commits ≡ world.setting
      → lives_after world.lives other.lives (transaction_of world name) other.transaction ≡ settled t world.lives
      → AreAlikeElse name (stepped world name other).world (stepped world name made).world
  either_left other its there_too setting lives = record {
    setting = setting_kept ∙ sym setting;
    lives = lives_left ∙ sym lives;
    started = refl;
    others = λ asked differs. other_inserted world.transactions name asked made.transaction differs
        ∙ sym (other_inserted world.transactions name asked other.transaction differs);
  }

-- two plain calls on one transaction leave all else alike
pub both_left : (world : World) (name : List ℕ) (t : Transaction) (one two : Called) → finite.get world.transactions name ≡ Some t
    → IsPlain t one → IsPlain t two → AreAlikeElse name (stepped world name one).world (stepped world name two).world
both_left world name t one two there first second =
    either_left world name t two there second one first (left_there world name t one there first) (setting_kept world name t one there first)
    (lives_left world name t one there first)

-- ---- a name that may have no transaction

-- the world in which it has one
pub named_there : (world : World) (name : List ℕ)
    → finite.get (with_named world name).transactions name ≡ Some (transaction_of world name)
named_there world name = by (finite.get world.transactions name) refl
  where
    by : (x : Option Transaction) → finite.get world.transactions name ≡ x
        → finite.get (cond (is_some x) world (with_new world name)).transactions name ≡ Some (unwrap_or x (fresh (next_life world)))
    by None is = there_inserted world.transactions name (fresh (next_life world))
    by (Some t) is = is

pub named_setting : (world : World) (name : List ℕ) → (with_named world name).setting ≡ world.setting
named_setting world name = by (is_some (finite.get world.transactions name))
  where
    by : (b : Bool) → (cond b world (with_new world name)).setting ≡ world.setting
    by true = refl
    by false = refl

pub named_words : (world : World) (name : List ℕ) → (with_named world name).words ≡ world.words
named_words world name = by (is_some (finite.get world.transactions name))
  where
    by : (b : Bool) → (cond b world (with_new world name)).words ≡ world.words
    by true = refl
    by false = refl

-- a request on its transaction
pub step_named : (world : World) (name : List ℕ) (call : TxnCall)
    → step world (request.On name call) ≡ step (with_named world name) (request.On name call)
unfolding step
step_named world name call = ap (λ (b : Bool). call_named (cond b (with_named world name) (with_new (with_named world name) name)) name call)
    (sym (ap is_some (named_there world name)))

-- ---- random words

-- no call of a transaction draws one
abbrev pub with_words : World → (words : ℕ → ℕ) → World
with_words world words = record world { words = words }

named_apart : (b : Bool) (world : World) (name : List ℕ) (call : TxnCall) (words : ℕ → ℕ)
    → call_named (cond b (with_words world words) (with_new (with_words world words) name)) name call
    ≡ record (call_named (cond b world (with_new world name)) name call) { world = with_words (call_named (cond b world (with_new world name)) name call).world words }
named_apart true world name call words = refl
named_apart false world name call words = refl

pub step_apart : (world : World) (name : List ℕ) (call : TxnCall) (words : ℕ → ℕ)
    → step (with_words world words) (request.On name call)
    ≡ record (step world (request.On name call)) { world = with_words (step world (request.On name call)).world words }
unfolding step
step_apart world name call words = named_apart (is_some (finite.get world.transactions name)) world name call words
