-- What the code keeps, as contracts see it.
use Rattle.std.specs.Prelude.{◌≡◌, ℕ, nat_lt, Bool, true, false, List, [], ◌∷◌, ◌++◌, length, Option, Some, None, ⊤}
use Rattle.key_bytes.specs.Keys.{begins_with}
use Rattle.fdb_calls.specs.declared.Request.{Request}
use Rattle.fdb_calls.specs.declared.Request.TheVariants as request
use Rattle.fdb_calls.specs.declared.Reply.{Reply}
use Rattle.model_machine.specs.declared.TheConstants.{MACHINES}
use Rattle.model_machine.specs.Worlds.{Stepped}
use Rattle.client_core.specs.declared.contents.Contents.{Contents}
use Rattle.client_core.specs.Stands.{ContentsModel, CoreModel}

abbrev pub model_of : Contents → ContentsModel
model_of contents = record {
  options = contents.options;
  store = contents.store;
  index = contents.index;
  transactions = contents.transactions;
  lives = contents.lives;
  applied = contents.applied;
}

-- with the machines that were started, and whether memory ran out
abbrev pub core_of : Contents → List (List ℕ) → Bool → CoreModel
core_of contents started is_spent = record {
  options = contents.options;
  store = contents.store;
  index = contents.index;
  transactions = contents.transactions;
  lives = contents.lives;
  applied = contents.applied;
  started = started;
  is_spent = is_spent;
}

-- a request in which neither the machines nor a layer has a part
abbrev pub IsOnDatabase : Request → Type 0
IsOnDatabase (request.Directory name layer kind args) = ⊥
IsOnDatabase (request.Start prefix) = ⊥
IsOnDatabase _ = ⊤

-- a machine was started under a prefix, which is its number; or there are as many as may be
abbrev pub Starts : Option ℕ → (prefix : List ℕ) → (old new : List (List ℕ)) → Type 0
Starts (Some number) prefix old new = (nat_lt (length old) MACHINES ≡ true) × (number ≡ length old) × (new ≡ old ++ prefix ∷ [])
Starts None prefix old new = (nat_lt (length old) MACHINES ≡ false) × (new ≡ old)

-- what was answered to the start of a machine
pub record TookStart (reply : Reply) (started : List (List ℕ)) (stepped : Stepped) : Type 0 where
  pub reply_is : reply ≡ stepped.reply
  pub started_is : started ≡ stepped.world.started

-- a pair is there, and its key begins with a prefix
abbrev pub first_begins : (prefix : List ℕ) → Option (List ℕ × List ℕ) → Bool
first_begins prefix None = false
first_begins prefix (Some entry) = begins_with entry.0 prefix
