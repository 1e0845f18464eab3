-- The numbers that an allocator granted in transactions that committed are apart.
use Rattle.std.specs.Prelude.{◌≡◌, ℕ, ◌+◌, ◌<◌, ◌≤◌, ⊤, Bool, true, false, if◌then◌else◌, List, [], ◌∷◌, drop, flat_map, Some, slice_get, bytes_eq}
use Rattle.key_bytes.specs.Keys.{begins_with}
use Rattle.model_database.specs.Databases.{Mutation}
use Rattle.model_database.specs.Histories.{Script, Entry, Wrote, HasRead, Granted, Commit, History, stamp_of}
use Rattle.model_database.specs.States.{filled, touches}
use Rattle.model_commands.specs.declared.args.RunArgs.{RunArgs}
use Rattle.model_allocator.specs.Counters.{packed}
use Rattle.fdb_calls.specs.declared.Request.{Request}
use Rattle.model_machine.specs.Runs.{Run, run_from, start}
use Rattle.laws_prefixes.specs.Worlds.{world_after}

-- ---- the premise

-- the entry at a place of a script was made by a call of the allocator on this subspace that granted a number
pub record IsOfGrant (space : List ℕ) (script : Script) (place : ℕ) : Type 0 where
  pub number : ℕ
  pub from : ℕ
  pub end : ℕ
  pub granted : slice_get script end ≡ Some (Granted space number from)
  pub not_before : from ≤ place
  pub before_end : place < end

-- a mutation touches a key that begins with the prefix of the subspace
pub record TouchesSpace (space : List ℕ) (mutation : Mutation) : Type 0 where
  pub key : List ℕ
  pub inside : begins_with key space ≡ true
  pub touched : touches mutation key ≡ true

-- each write of a script that touches such a key, where this is the versionstamp of its commit, was made by such a call
abbrev pub IsGranting : (stamp space : List ℕ) → Script → Type 0
IsGranting stamp space script = (place : ℕ) (mutation : Mutation) (adds_conflict : Bool) → slice_get script place ≡ Some (Wrote mutation adds_conflict)
    → TouchesSpace space (filled stamp mutation) → IsOfGrant space script place

-- so it is with each of these commits, the first of which made the version behind this one
abbrev pub AreGranting : (space : List ℕ) → (before : ℕ) → List Commit → Type 0
AreGranting space before [] = ⊤
AreGranting space before (commit ∷ commits) = IsGranting (stamp_of (before + 1)) space commit.script × AreGranting space (before + 1) commits

-- ---- the law

-- the number that was granted on a subspace where an entry ends the call
abbrev pub granted_by : (space : List ℕ) → Entry → List ℕ
granted_by space (Granted other number from) = if bytes_eq other space then number ∷ [] else []
granted_by space (Wrote mutation adds_conflict) = []
granted_by space (HasRead read answer) = []

-- the numbers that were granted on a subspace in a script, and in commits, in their order
abbrev pub grants_in : (space : List ℕ) → Script → List ℕ
grants_in space script = flat_map (granted_by space) script

abbrev pub all_grants : (space : List ℕ) → List Commit → List ℕ
all_grants space commits = flat_map (λ commit. grants_in space commit.script) commits

-- two numbers are not the same, and neither packed one begins with the other
pub record IsApart (one other : ℕ) : Type 0 where
  pub distinct : one ≡ other → ⊥
  pub no_prefix : begins_with (packed other) (packed one) ≡ false
  pub nor_behind : begins_with (packed one) (packed other) ≡ false

-- two of a list at different places
abbrev pub AreApart : List ℕ → Type 0
AreApart numbers = (place later one other : ℕ) → place < later → slice_get numbers place ≡ Some one → slice_get numbers later ≡ Some other
    → IsApart one other

-- in a history past its first commit, where the allocator of a subspace alone wrote there
abbrev pub GrantsAreApart : History → Type 0
GrantsAreApart history = (space : List ℕ) → AreGranting space 1 (drop 1 history) → AreApart (all_grants space (drop 1 history))

-- whatever pairs were loaded, whatever the random words are and whatever is asked
abbrev pub ArePrefixesApart : Type 0
ArePrefixesApart = (pairs : List (List ℕ × List ℕ)) (arguments : RunArgs) (words : ℕ → ℕ) (requests : List Request)
    → GrantsAreApart (world_after pairs arguments words requests).setting.history

-- and in each run of machines
abbrev pub RunsArePrefixesApart : Type 0
RunsArePrefixesApart = (pairs : List (List ℕ × List ℕ)) (arguments : RunArgs) (order : List ℕ) (run : Run)
    → run_from order (start pairs arguments) ≡ Some run → GrantsAreApart run.world.setting.history
