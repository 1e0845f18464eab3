-- What a named transaction of a core stands for, and what its calls leave of all else.
use Rattle.std.specs.Prelude.{◌≡◌, ◌⊎◌, ℕ, Bool, true, false, List, Option, Some, None, Result, Ok, Err}
use Rattle.std.specs.Ordering.{eq_by_cmp}
use Rattle.std.specs.FinMap as finite
use Rattle.key_bytes.specs.Keys.{key_cmp}
use Rattle.model_database.specs.Histories.{Setting}
use Rattle.model_database.specs.Transactions.{Transaction}
use Rattle.fdb_calls.specs.declared.Outcome.{Outcome}
use Rattle.fdb_calls.specs.declared.Reply.{Reply}
use Rattle.fdb_calls.specs.declared.Reply.TheVariants as reply
use Rattle.fdb_calls.specs.declared.TxnCall.{TxnCall}
use Rattle.fdb_calls.specs.declared.TxnCall.TheVariants as call
use Rattle.fdb_calls.specs.declared.fault.TrFault.{TrFault}
use Rattle.fdb_calls.specs.declared.fault.TrFault.TheVariants as fault
use Rattle.model_allocator.specs.Acts.{refusal}
use Rattle.fdb_calls.specs.Outcomes.{outcome_of}
use Rattle.model_machine.specs.Worlds.{World, Stepped, decide}
use Rattle.client_core.specs.Stands.{CoreModel, StandsFor, is_no_memory}

-- ---- a call

-- a reply by what it is: a refusal, want of memory, or any other
abbrev pub Splits : Result Reply TrFault → Reply → Type 0
Splits (Ok given) its = (its ≡ given) × (refusal given ≡ None) × (is_no_memory given ≡ false)
Splits (Err (fault.Code code)) its = its ≡ reply.Fault code
Splits (Err fault.NoMemory) its = its ≡ reply.NoMemory

-- a value, and pairs
abbrev pub is_value : Reply → Bool
is_value (reply.Value value) = true
is_value _ = false

abbrev pub are_pairs : Reply → Bool
are_pairs (reply.PairsAre pairs) = true
are_pairs _ = false

-- a read of a key is told a value, one of a range pairs, unless it is refused; the committed version isn't refused
abbrev pub is_of_kind : TxnCall → Result Reply TrFault → Bool
is_of_kind (call.Get key snapshot) (Ok given) = is_value given
is_of_kind (call.GetKeyRange range options snapshot) (Ok given) = are_pairs given
is_of_kind call.CommittedVersion (Err (fault.Code code)) = false
is_of_kind _ _ = true

-- a request was answered so; or memory ran out, and it is spent then, or the core stands as before
abbrev pub Makes : Result Reply TrFault → (is_spent : Bool) → CoreModel → (before : World) → Stepped → Type 0
Makes (Ok given) is_spent core before stepped = (given ≡ stepped.reply) × (refusal given ≡ None) × StandsFor core stepped.world
Makes (Err (fault.Code code)) is_spent core before stepped = (reply.Fault code ≡ stepped.reply) × StandsFor core stepped.world
Makes (Err fault.NoMemory) is_spent core before stepped = (is_spent ≡ true) ⊎ StandsFor core before

-- the same of one whose reply says nothing
abbrev pub MakesSilently : Result (Unit {0}) TrFault → (is_spent : Bool) → CoreModel → (before : World) → Stepped → Type 0
MakesSilently (Ok done) is_spent core before stepped = (refusal stepped.reply ≡ None) × StandsFor core stepped.world
MakesSilently (Err (fault.Code code)) is_spent core before stepped = (reply.Fault code ≡ stepped.reply) × StandsFor core stepped.world
MakesSilently (Err fault.NoMemory) is_spent core before stepped = (is_spent ≡ true) ⊎ StandsFor core before

-- such a request settled a transaction; or memory ran out, and it is spent then, or the core stands as before
abbrev pub Settles : {E : Type 0} → Result (Unit {0}) E → (is_spent : Bool) → CoreModel → (before : World) → Stepped → Type 0
Settles (Ok done) is_spent core before stepped = StandsFor core stepped.world
Settles (Err refused) is_spent core before stepped = (is_spent ≡ true) ⊎ StandsFor core before

-- ---- what it stands for

-- what is known of lives by a call on a transaction of this life and phase
abbrev pub settled : Transaction → List (Option Outcome) → List (Option Outcome)
settled t lives = decide t.life (outcome_of t.phase) lives

-- the lives tell what the transaction's phase tells of its life
abbrev pub IsSettled : Transaction → List (Option Outcome) → Type 0
IsSettled t lives = settled t lives ≡ lives

-- the core stands for a world with this setting, in which the name has this transaction
pub record StandsIn (core : CoreModel) (name : List ℕ) (setting : Setting) (t : Transaction) : Type 0 where
  pub world : World
  pub stands : StandsFor core world
  pub setting_is : world.setting ≡ setting
  pub there : finite.get world.transactions name ≡ Some t
  pub settled : IsSettled t world.lives

-- the same until it is spent
abbrev pub Stands : (is_spent : Bool) → CoreModel → (name : List ℕ) → Setting → Transaction → Type 0
Stands is_spent core name setting t = (is_spent ≡ true) ⊎ StandsIn core name setting t

-- ---- all else

-- two worlds are alike but for the transaction of a name
pub record AreAlikeElse (name : List ℕ) (one two : World) : Type 0 where
  pub setting : two.setting ≡ one.setting
  pub lives : two.lives ≡ one.lives
  pub started : two.started ≡ one.started
  pub others : (other : List ℕ) → eq_by_cmp key_cmp other name ≡ false
      → finite.get two.transactions other ≡ finite.get one.transactions other

-- after calls on the transaction that a name has in a world the core stands for one in which another has that name, of the same life
-- and phase, and in which all else is as it was
pub record Stays (world : World) (name : List ℕ) (t : Transaction) (core : CoreModel) : Type 0 where
  pub after : World
  pub left : Transaction
  pub stands : StandsFor core after
  pub there : finite.get after.transactions name ≡ Some left
  pub life : left.life ≡ t.life
  pub phase : left.phase ≡ t.phase
  pub alike : AreAlikeElse name world after

-- one core is left by calls on the transaction of a name in the other, unless it is spent; what is spent stays so
pub record KeepsRest (was_spent is_spent : Bool) (before after : CoreModel) (name_before name : List ℕ) : Type 0 where
  pub same_name : name ≡ name_before
  pub spent : was_spent ≡ true → is_spent ≡ true
  pub stays : (world : World) (t : Transaction) → StandsFor before world → finite.get world.transactions name_before ≡ Some t
      → IsSettled t world.lives → (is_spent ≡ true) ⊎ Stays world name_before t after
