-- The names of instruction text are those that a machine takes.
use Rattle.std.proofs.Common.{◌≡◌, ℕ, Bool, true, false, cond, List, [], ◌∷◌, ◌++◌, Option, Some, None, is_some, refl, ap, ◌∙◌}
use Rattle.std.specs.Prelude.{⊤, codes, bytes_eq, option_map}
use Rattle.std.specs.List.{list_all}
use Rattle.std.proofs.lemmas.Slice.Eq.{bytes_eq-Decides}
use Rattle.model_machine.specs.declared.StackOperation.{StackOperation}
use Rattle.model_machine.specs.declared.TransactionOperation.{TransactionOperation}
use Rattle.model_machine.specs.declared.DatabaseOperation.{DatabaseOperation}
use Rattle.model_machine.specs.declared.directories.DirectoryOperation.{DirectoryOperation}
use Rattle.model_machine.specs.declared.Scope.{Scope}
use Rattle.model_machine.specs.declared.Instruction.{Instruction}
use Rattle.model_machine.specs.declared.Instruction.TheVariants as instruction
use Rattle.model_machine.specs.Instructions.{Scopes, Alone, Writes, Reads, Names, scope_in, or_others, operation_in, database_names, creation_names, removal_names, listing_names, subspace_names, stack_operation, transaction_operation, directory_operation, or_else, bare_instruction}
use Rattle.instr_grammar.specs.Names.{names, is_among}
use Rattle.instr_text.proofs.Feedless.{among_passes}

-- each name is one that a machine takes
abbrev takes : List ℕ → Bool
takes name = is_some (bare_instruction name)

all_taken : list_all takes names ≡ true
unfolding names
all_taken = refl

taken : (name : List ℕ) → is_among name names ≡ true → is_some (bare_instruction name) ≡ true
taken name e = among_passes takes names name all_taken e

-- ---- and each that it takes is a name

module _ {A : Type 0} where
  -- one of a chain of tests
  pick : (name other : List ℕ) (x : A) (rest : Option A) → is_among other names ≡ true → (is_some rest ≡ true → is_among name names ≡ true)
      → is_some (cond (bytes_eq name other) (Some x) rest) ≡ true → is_among name names ≡ true
  pick name other x rest here later e = by (bytes_eq name other) refl e
    where
      by : (same : Bool) → bytes_eq name other ≡ same → is_some (cond same (Some x) rest) ≡ true → is_among name names ≡ true
      by true h k = ap (λ (n : List ℕ). is_among n names) ((bytes_eq-Decides name other).0 h) ∙ here
      by false h k = later k

stack_named : (name : List ℕ) → is_some (stack_operation name) ≡ true → is_among name names ≡ true
unfolding names
stack_named name =
    (pick name (codes "DUP") _ _ refl
    (pick name (codes "EMPTY_STACK") _ _ refl
    (pick name (codes "SWAP") _ _ refl
    (pick name (codes "POP") _ _ refl
    (pick name (codes "SUB") _ _ refl
    (pick name (codes "CONCAT") _ _ refl
    (pick name (codes "WAIT_FUTURE") _ _ refl
    (pick name (codes "TUPLE_PACK") _ _ refl
    (pick name (codes "TUPLE_PACK_WITH_VERSIONSTAMP") _ _ refl
    (pick name (codes "TUPLE_UNPACK") _ _ refl
    (pick name (codes "TUPLE_RANGE") _ _ refl
    (pick name (codes "TUPLE_SORT") _ _ refl
    (pick name (codes "GET_APPROXIMATE_SIZE") _ _ refl
    (pick name (codes "GET_ESTIMATED_RANGE_SIZE") _ _ refl
    (pick name (codes "UNIT_TESTS") _ _ refl (λ h. absurd cc))))))))))))))))

transaction_named : (name : List ℕ) → is_some (transaction_operation name) ≡ true → is_among name names ≡ true
unfolding names
transaction_named name =
    (pick name (codes "NEW_TRANSACTION") _ _ refl
    (pick name (codes "ON_ERROR") _ _ refl
    (pick name (codes "RESET") _ _ refl
    (pick name (codes "CANCEL") _ _ refl
    (pick name (codes "COMMIT") _ _ refl
    (pick name (codes "GET_READ_VERSION") _ _ refl
    (pick name (codes "GET_READ_VERSION_SNAPSHOT") _ _ refl
    (pick name (codes "SET_READ_VERSION") _ _ refl
    (pick name (codes "GET_COMMITTED_VERSION") _ _ refl
    (pick name (codes "READ_CONFLICT_RANGE") _ _ refl
    (pick name (codes "WRITE_CONFLICT_RANGE") _ _ refl
    (pick name (codes "READ_CONFLICT_KEY") _ _ refl
    (pick name (codes "WRITE_CONFLICT_KEY") _ _ refl
    (pick name (codes "DISABLE_WRITE_CONFLICT") _ _ refl
    (pick name (codes "GET_VERSIONSTAMP") _ _ refl (λ h. absurd cc))))))))))))))))

-- each form of an operation's name in these scopes is a name
abbrev AreNamed : Scopes → List ℕ → Type 0
AreNamed Alone operation = is_among operation names ≡ true
AreNamed Writes operation = (is_among operation names ≡ true) × (is_among (operation ++ codes "_DATABASE") names ≡ true)
AreNamed Reads operation = (is_among operation names ≡ true) × (is_among (operation ++ codes "_SNAPSHOT") names ≡ true)
    × (is_among (operation ++ codes "_DATABASE") names ≡ true)

scope_named : (scopes : Scopes) (name operation : List ℕ) → AreNamed scopes operation → is_some (scope_in scopes name operation) ≡ true
    → is_among name names ≡ true
scope_named Alone name operation here = pick name operation _ None here (λ h. absurd cc)
scope_named Writes name operation here = pick name operation _ _ here.0 (pick name (operation ++ codes "_DATABASE") _ None here.1 (λ h. absurd cc))
scope_named Reads name operation here = pick name operation _ _ here.0 (pick name (operation ++ codes "_SNAPSHOT") _ _ here.1
    (pick name (operation ++ codes "_DATABASE") _ None here.2 (λ h. absurd cc)))

module _ {A : Type 0} where
  -- so is each form of each name of a table
  abbrev AreAllNamed : Names A → Type 0
  AreAllNamed [] = ⊤
  AreAllNamed (row ∷ rows) = AreNamed row.1 row.0 × AreAllNamed rows

  rows_named : (rows : Names A) (name : List ℕ) → AreAllNamed rows → is_some (operation_in rows name) ≡ true → is_among name names ≡ true
  rows_named [] name all e = absurd cc
  rows_named (row ∷ rows) name all e = by (λ k. rows_named rows name all.1 k) (scope_in row.1 name row.0) refl e
    where
      by : (is_some (operation_in rows name) ≡ true → is_among name names ≡ true) → (found : Option Scope) → scope_in row.1 name row.0 ≡ found
          → is_some (or_others row.2 found (operation_in rows name)) ≡ true → is_among name names ≡ true
      by later (Some scope) h k = scope_named row.1 name row.0 all.0 (ap is_some h)
      by later None h k = later k

  either_named : (x y : Option A) (name : List ℕ) → (is_some x ≡ true → is_among name names ≡ true) → (is_some y ≡ true → is_among name names ≡ true)
      → is_some (or_else x y) ≡ true → is_among name names ≡ true
  either_named (Some found) y name f g e = f refl
  either_named None y name f g e = g e

database_named : (name : List ℕ) → is_some (operation_in database_names name) ≡ true → is_among name names ≡ true
unfolding names
database_named name = rows_named database_names name
    ((refl, refl, refl), ((refl, refl, refl), ((refl, refl, refl), ((refl, refl, refl), ((refl, refl, refl), ((refl, refl), ((refl, refl), ((refl, refl), ((refl, refl), ((refl, refl), tt))))))))))

directory_named : (name : List ℕ) → is_some (directory_operation name) ≡ true → is_among name names ≡ true
unfolding names
directory_named name =
    either_named (operation_in creation_names name) _ name
    (rows_named creation_names name (refl, (refl, ((refl, refl), ((refl, refl), ((refl, refl, refl), (refl, (refl, tt))))))))
    (either_named (operation_in removal_names name) _ name
    (rows_named removal_names name ((refl, refl), ((refl, refl), ((refl, refl), ((refl, refl), tt)))))
    (either_named (operation_in listing_names name) _ name (rows_named listing_names name ((refl, refl, refl), ((refl, refl, refl), tt)))
    (rows_named subspace_names name (refl, (refl, (refl, (refl, (refl, (refl, (refl, (refl, tt)))))))))))

abbrev others : Option TransactionOperation → Option (DatabaseOperation × Scope) → Option (DirectoryOperation × Scope) → Option StackOperation
    → Option Instruction
others t d r s = or_else (option_map (λ found. instruction.OnTransaction found) t)
    (or_else (option_map (λ found. instruction.OnDatabase found.0 found.1) d)
    (or_else (option_map (λ found. instruction.OnDirectories found.0 found.1) r)
    (option_map (λ found. instruction.OnStack found) s)))

others_by : (P : Type 0) (t : Option TransactionOperation) (d : Option (DatabaseOperation × Scope)) (r : Option (DirectoryOperation × Scope)) (s : Option StackOperation)
    → (is_some t ≡ true → P) → (is_some d ≡ true → P) → (is_some r ≡ true → P) → (is_some s ≡ true → P) → is_some (others t d r s) ≡ true → P
others_by P (Some x) d r s f g h k e = f refl
others_by P None (Some x) r s f g h k e = g refl
others_by P None None (Some x) s f g h k e = h refl
others_by P None None None (Some x) f g h k e = k refl
others_by P None None None None f g h k e = absurd cc

others_named : (name : List ℕ)
    → is_some (others (transaction_operation name) (operation_in database_names name) (directory_operation name) (stack_operation name)) ≡ true
    → is_among name names ≡ true
others_named name = others_by (is_among name names ≡ true) (transaction_operation name) (operation_in database_names name) (directory_operation name)
    (stack_operation name) (transaction_named name) (database_named name) (directory_named name) (stack_named name)

named : (name : List ℕ) → is_some (bare_instruction name) ≡ true → is_among name names ≡ true
unfolding names
named name =
    pick name (codes "USE_TRANSACTION") _ _ refl
    (pick name (codes "LOG_STACK") _ _ refl
    (pick name (codes "START_THREAD") _ _ refl
    (pick name (codes "WAIT_EMPTY") _ _ refl (others_named name))))

pub names_are : (name : List ℕ) → is_among name names ≡ is_some (bare_instruction name)
names_are name = by (is_among name names) refl (is_some (bare_instruction name)) refl
  where
    by : (a : Bool) → is_among name names ≡ a → (b : Bool) → is_some (bare_instruction name) ≡ b → a ≡ b
    by true e true f = refl
    by false e false f = refl
    by true e false f = let t = taken name e in absurd cc
    by false e true f = let t = named name f in absurd cc
