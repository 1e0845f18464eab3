-- What each change leaves of a transaction that is neither committed nor begun anew: it has more entries, none of which notes a
-- number that an allocator granted; its version stays once it is taken; and so do its read and write conflict ranges.
use Rattle.std.proofs.Common.{◌≡◌, ℕ, Bool, true, false, List, [], ◌∷◌, ◌++◌, Some, None, refl, sym, ap, ◌∙◌, append_assoc}
use Rattle.std.specs.Prelude.{not, unwrap_or}
use Rattle.std.proofs.lemmas.Bool.{or_left}
use Rattle.std.proofs.lemmas.List.{append-nil}
use Rattle.std.proofs.lemmas.List.Concat.{flat_map-append}
use Rattle.key_bytes.specs.declared.range.KeyRange.{KeyRange}
use Rattle.key_bytes.specs.Ranges.{has}
use Rattle.model_database.specs.declared.Phase.{Phase}
use Rattle.model_database.specs.Databases.{Mutation}
use Rattle.model_database.specs.Histories.{Script, Wrote, HasRead, Setting, last}
use Rattle.model_database.specs.Reads.{Answer, Read, answer}
use Rattle.model_database.specs.States.{covers}
use Rattle.model_database.specs.Transactions.{Transaction, with_write_conflict_disabled, with_mutation, with_phase, with_range, with_read, with_read_range, with_version, with_write_range}
use Rattle.model_database.proofs.Ranges.{covers_with_range}
use Rattle.model_database.proofs.States.{covers-append}
use Rattle.model_allocator.specs.Acts.{Act, act_called}
use Rattle.model_machine.proofs.Keeping.{AreActsKept}
use Rattle.model_machine.proofs.Calls.{act_quiet}
use Rattle.laws_prefixes.specs.Prefixes.{grants_in, granted_by}
use Rattle.laws_prefixes.specs.Held.{HasGrown}

-- ---- parts

-- a list of ranges has the keys that it had before some more
pub covers_more : (ranges more : List KeyRange) (key : List ℕ) → covers ranges key ≡ true → covers (ranges ++ more) key ≡ true
covers_more ranges more key is_in = covers-append ranges more key ∙ or_left (covers ranges key) (covers more key) is_in

-- and before one more
pub covers_one_more : (ranges : List KeyRange) (range : KeyRange) (key : List ℕ) → covers ranges key ≡ true
    → covers (with_range ranges range) key ≡ true
covers_one_more ranges range key is_in =
    covers_with_range ranges range key ∙ or_left (covers ranges key) (has range key) is_in

-- the numbers that two scripts grant, one after the other
pub grants-append : (space : List ℕ) (first second : Script)
    → grants_in space (first ++ second) ≡ grants_in space first ++ grants_in space second
grants-append space first second = flat_map-append (granted_by space) first second

-- entries, and entries behind them, that note no number
pub none_noted_twice : (first second : Script) → ((space : List ℕ) → grants_in space first ≡ [])
    → ((space : List ℕ) → grants_in space second ≡ []) → (space : List ℕ) → grants_in space (first ++ second) ≡ []
none_noted_twice first second none none_behind space =
    grants-append space first second ∙ ap (λ list. list ++ grants_in space second) (none space) ∙ none_behind space

-- ---- transactions

-- its script has these entries more
grown_by : (before after : Transaction) (entries : Script) → after.script ≡ before.script ++ entries → ((space : List ℕ) → grants_in space entries ≡ [])
    → ((version : ℕ) → before.version ≡ Some version → after.version ≡ Some version)
    → ((key : List ℕ) → covers before.read_ranges key ≡ true → covers after.read_ranges key ≡ true)
    → ((key : List ℕ) → covers before.write_ranges key ≡ true → covers after.write_ranges key ≡ true) → HasGrown before after
grown_by before after entries more none taken reads writes = record {
  entries = entries;
  more = more;
  none_noted = none;
  taken = taken;
  read_conflict_still = reads;
  adds_conflict_still = writes;
}

-- it has the script that it had
grown_in_place : (before after : Transaction) → after.script ≡ before.script
    → ((version : ℕ) → before.version ≡ Some version → after.version ≡ Some version)
    → ((key : List ℕ) → covers before.read_ranges key ≡ true → covers after.read_ranges key ≡ true)
    → ((key : List ℕ) → covers before.write_ranges key ≡ true → covers after.write_ranges key ≡ true) → HasGrown before after
grown_in_place before after same taken reads writes =
    grown_by before after [] (same ∙ sym (append-nil before.script)) (λ space. refl) taken reads writes

-- nothing was done
pub same_grown : (transaction : Transaction) → HasGrown transaction transaction
same_grown transaction = grown_in_place transaction transaction refl (λ version is. is) (λ key is_in. is_in) (λ key is_in. is_in)

-- one was done after the other
pub grown_twice : (before between after : Transaction) → HasGrown before between → HasGrown between after → HasGrown before after
grown_twice before between after first second = record {
  entries = first.entries ++ second.entries;
  more = second.more ∙ ap (λ list. list ++ second.entries) first.more ∙ append_assoc before.script first.entries second.entries;
  none_noted = none_noted_twice first.entries second.entries first.none_noted second.none_noted;
  taken = λ version is. second.taken version (first.taken version is);
  read_conflict_still = λ key read_conflict. second.read_conflict_still key (first.read_conflict_still key read_conflict);
  adds_conflict_still = λ key adds_conflict. second.adds_conflict_still key (first.adds_conflict_still key adds_conflict);
}

-- a version is taken
pub version_grown : (setting : Setting) (transaction : Transaction) → HasGrown transaction (with_version setting transaction)
version_grown setting transaction =
    grown_in_place transaction (with_version setting transaction) refl
    (λ version is. ap (λ taken. Some (unwrap_or taken (last setting.history))) is) (λ key is_in. is_in) (λ key is_in. is_in)

-- a read is answered
pub answered_grown : (snapshot : Bool) (read : Read) (answer : Answer) (ranges : List KeyRange) (transaction : Transaction)
    → HasGrown transaction (with_read snapshot read answer ranges transaction)
answered_grown true read answer ranges transaction = same_grown transaction
answered_grown false read answer ranges transaction =
    grown_by transaction (with_read false read answer ranges transaction) (HasRead read answer ∷ []) refl (λ space. refl) (λ version is. is)
    (covers_more transaction.read_ranges ranges) (λ key is_in. is_in)

-- a mutation is written
pub mutation_grown : (transaction : Transaction) (mutation : Mutation) → HasGrown transaction (with_mutation transaction mutation)
mutation_grown transaction mutation =
    grown_by transaction (with_mutation transaction mutation) (Wrote mutation (not transaction.skips_write_conflict) ∷ []) refl (λ space. refl)
    (λ version is. is) (λ key is_in. is_in) (λ key is_in. is_in)

-- a read or write conflict range is added to it, or its next write is to add none
pub read_range_grown : (transaction : Transaction) (range : KeyRange) → HasGrown transaction (with_read_range transaction range)
read_range_grown transaction range =
    grown_in_place transaction (with_read_range transaction range) refl (λ version is. is) (covers_one_more transaction.read_ranges range)
    (λ key is_in. is_in)

pub write_range_grown : (transaction : Transaction) (range : KeyRange) → HasGrown transaction (with_write_range transaction range)
write_range_grown transaction range =
    grown_in_place transaction (with_write_range transaction range) refl (λ version is. is) (λ key is_in. is_in)
    (covers_one_more transaction.write_ranges range)

pub write_conflict_disabled_grown : (transaction : Transaction) → HasGrown transaction (with_write_conflict_disabled transaction)
write_conflict_disabled_grown transaction =
    grown_in_place transaction (with_write_conflict_disabled transaction) refl (λ version is. is) (λ key is_in. is_in) (λ key is_in. is_in)

-- a version is set where none was taken
pub set_version_grown : (transaction : Transaction) (version : ℕ) → transaction.version ≡ None
    → HasGrown transaction (record transaction { version = Some version })
set_version_grown transaction version none =
    grown_in_place transaction (record transaction { version = Some version }) refl (λ other is. absurd cc) (λ key is_in. is_in) (λ key is_in. is_in)

-- it has another phase
pub phase_grown : (transaction : Transaction) (phase : Phase) → HasGrown transaction (with_phase transaction phase)
phase_grown transaction phase =
    grown_in_place transaction (with_phase transaction phase) refl (λ version is. is) (λ key is_in. is_in) (λ key is_in. is_in)

-- ---- acts

-- an act, refused or not
pub act_grown : (setting : Setting) (transaction : Transaction) (act : Act)
    → HasGrown transaction (act_called setting transaction act).transaction
act_grown setting transaction act = (act_quiet setting (HasGrown transaction) changes transaction act (same_grown transaction)).kept
  where
    changes : AreActsKept setting (HasGrown transaction)
    changes = record {
      taken = λ t grown. grown_twice transaction t _ grown (version_grown setting t);
      read = λ t snapshot read reached grown. grown_twice transaction (with_version setting t) _ grown (answered_grown snapshot read _ _ (with_version setting t));
      write = λ t mutation none grown. grown_twice transaction t _ grown (mutation_grown t mutation);
      write_conflict = λ t range grown. grown_twice transaction t _ grown (write_range_grown t range);
      disabling = λ t grown. grown_twice transaction t _ grown (write_conflict_disabled_grown t);
    }
