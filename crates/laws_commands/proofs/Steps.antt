-- What one word does to the walk of `clap` over the words of `run` or `replay`.
use Rattle.std.proofs.Common.{◌≡◌, ◌&&◌, ℕ, Bool, true, false, List, [], ◌∷◌, Option, Some, None, bytes_eq, refl}
use Rattle.clap.specs.Lexer.{long_of, short_of}
use Rattle.clap.specs.Walk.{Held, Row, Waiting, Walk, arg_by_long, idle, has_row, settled_rows, used, walked}
use Rattle.clap.specs.Walk.{option as waits_for, positional as several}
use Rattle.clap.specs.Kinds.{Kinds, or_else}
use Rattle.clap.specs.declared.error.kind.ErrorKind.TheVariants.{ArgumentConflict, InvalidValue, UnknownArgument}
use Rattle.clap.specs.Faults.{flags_fault, settle_fault, turn_fault, use_fault}
use Rattle.model_commands.specs.Grammar.{OptionName, seed, polls, window, name_text}
use Rattle.laws_commands.proofs.WordKinds.{IsUnknown, by_name, by_character, is_separator}
use Rattle.laws_commands.proofs.Leaves.{ArgumentId, api, by_id, by_long, id_text, leaf, option, prefix, rule_for, rule_of_option, run_rules}

-- ---- where the walk stands

-- the next positional argument, or that there is none
pub data Place : Type 0 where
  first : Place
  second : Place
  past : Place

abbrev pub position_of : Place → ℕ
position_of first = 1
position_of second = 2
position_of past = 3

abbrev pub Pending : Type 0
Pending = Option (List ℕ × List (List ℕ))

abbrev pub held : List Row → Pending → Held
held rows pending = record { rows = rows; pending = pending; skip = 0 }

abbrev pub at : List Row → Pending → Waiting → Place → Bool → Walk
at rows pending waiting place is_trailing = record {
  held = held rows pending;
  waiting = waiting;
  position = position_of place;
  is_trailing = is_trailing;
  stopped = None;
}

abbrev pub settling : List Row → Pending → Kinds
settling rows pending = settle_fault run_rules false (held rows pending)

abbrev pub all_rows : List Row → Pending → List Row
all_rows rows pending = settled_rows run_rules pending rows

abbrev pub turn_at : List ℕ → Walk → List ℕ → Kinds
turn_at name = turn_fault (leaf name) []

and_false : (b : Bool) → (b && false) ≡ false
and_false true = refl
and_false false = refl

-- ---- `--`

pub separator_passes : (name : List ℕ) (rows : List Row) (pending : Pending) (waiting : Waiting) (place : Place) (word : List ℕ) → is_separator word ≡ true
    → turn_at name (at rows pending waiting place false) word ≡ []
separator_passes name rows pending idle place word e = rw e refl
separator_passes name rows pending (waits_for id) place word e = rw e refl
separator_passes name rows pending several place word e = rw e refl

pub separator_walks : (rows : List Row) (pending : Pending) (waiting : Waiting) (place : Place) (word : List ℕ) → is_separator word ≡ true
    → walked run_rules [] (at rows pending waiting place false) word ≡ at rows pending waiting place true
unfolding walked
separator_walks rows pending idle place word e = rw e refl
separator_walks rows pending (waits_for id) place word e = rw e refl
separator_walks rows pending several place word e = rw e refl

-- ---- options

pub joined_fault : (name : List ℕ) (rows : List Row) (pending : Pending) (waiting : Waiting) (place : Place) (word : List ℕ) (option_name : OptionName) (value : List ℕ)
    → is_separator word ≡ false → long_of word ≡ Some (name_text option_name, Some value)
    → turn_at name (at rows pending waiting place false) word
    ≡ or_else (or_else (settling rows pending) (use_fault false (rule_of_option option_name) (value ∷ []) (all_rows rows pending))) []
joined_fault name rows pending idle place word option_name value e long = rw (e, long, by_long option_name) refl
joined_fault name rows pending (waits_for id) place word option_name value e long = rw (e, long, by_long option_name) refl
joined_fault name rows pending several place word option_name value e long = rw (e, long, by_long option_name) refl

pub apart_fault : (name : List ℕ) (rows : List Row) (pending : Pending) (waiting : Waiting) (place : Place) (word : List ℕ) (option_name : OptionName)
    → is_separator word ≡ false → long_of word ≡ Some (name_text option_name, None)
    → turn_at name (at rows pending waiting place false) word ≡ or_else (settling rows pending) []
apart_fault name rows pending idle place word option_name e long = rw (e, long, by_long option_name) refl
apart_fault name rows pending (waits_for id) place word option_name e long = rw (e, long, by_long option_name) refl
apart_fault name rows pending several place word option_name e long = rw (e, long, by_long option_name) refl

pub joined_walks : (rows : List Row) (pending : Pending) (place : Place) (word : List ℕ) (option_name : OptionName) (value : List ℕ)
    → is_separator word ≡ false → long_of word ≡ Some (name_text option_name, Some value)
    → walked run_rules [] (at rows pending idle place false) word
    ≡ at (used (rule_of_option option_name) (value ∷ []) (all_rows rows pending)) None idle place false
unfolding walked
joined_walks rows pending place word option_name value e long = rw (e, long, by_long option_name) refl

pub apart_walks : (rows : List Row) (pending : Pending) (place : Place) (word : List ℕ) (option_name : OptionName)
    → is_separator word ≡ false → long_of word ≡ Some (name_text option_name, None)
    → walked run_rules [] (at rows pending idle place false) word
    ≡ at (all_rows rows pending) (Some (name_text option_name, [])) (waits_for (name_text option_name)) place false
unfolding walked
apart_walks rows pending place word option_name e long = rw (e, long, by_long option_name) refl

-- ---- options that the command doesn't have

no_long : (name : List ℕ) → ((option_name : OptionName) → bytes_eq (name_text option_name) name ≡ false) → arg_by_long run_rules name ≡ None
no_long name differs = rw (differs seed, differs polls, differs window) refl

pub unknown_fault : (name : List ℕ) (rows : List Row) (pending : Pending) (waiting : Waiting) (place : Place) (word : List ℕ)
    → is_separator word ≡ false → IsUnknown word → turn_at name (at rows pending waiting place false) word ≡ UnknownArgument ∷ []
unfolding flags_fault
unknown_fault name rows pending idle place word e (by_name n value long differs) = rw (e, long, no_long n differs) refl
unknown_fault name rows pending (waits_for id) place word e (by_name n value long differs) = rw (e, long, no_long n differs) refl
unknown_fault name rows pending several place word e (by_name n value long differs) = rw (e, long, no_long n differs) refl
unknown_fault name rows pending idle place word e (by_character x xs c long short is) = rw (e, long, short, is) refl
unknown_fault name rows pending (waits_for id) place word e (by_character x xs c long short is) = rw (e, long, short, is) refl
unknown_fault name rows pending several place word e (by_character x xs c long short is) = rw (e, long, short, is) refl

-- ---- positional arguments

abbrev pub IsPlain : List ℕ → Type 0
IsPlain word = (is_separator word ≡ false) × (long_of word ≡ None) × (short_of word ≡ None)

pub first_fault : (name : List ℕ) (rows : List Row) (pending : Pending) (word : List ℕ) → IsPlain word
    → turn_at name (at rows pending idle first false) word ≡ settling rows pending
first_fault name rows pending word plain = rw (plain.0, plain.1, plain.2, and_false) refl

pub second_fault : (name : List ℕ) (rows : List Row) (pending : Pending) (word : List ℕ) → IsPlain word
    → turn_at name (at rows pending idle second false) word ≡ settling rows pending
second_fault name rows pending word plain = rw (plain.0, plain.1, plain.2, and_false) refl

pub past_fault : (name : List ℕ) (rows : List Row) (pending : Pending) (word : List ℕ) → IsPlain word
    → turn_at name (at rows pending idle past false) word ≡ UnknownArgument ∷ []
past_fault name rows pending word plain = rw (plain.0, plain.1, plain.2) refl

pub first_walks : (rows : List Row) (pending : Pending) (word : List ℕ) → IsPlain word
    → walked run_rules [] (at rows pending idle first false) word
    ≡ at (all_rows rows pending) (Some (id_text prefix, word ∷ [])) idle second false
unfolding walked
first_walks rows pending word plain = rw (plain.0, plain.1, plain.2, and_false) refl

pub second_walks : (rows : List Row) (pending : Pending) (word : List ℕ) → IsPlain word
    → walked run_rules [] (at rows pending idle second false) word
    ≡ at (all_rows rows pending) (Some (id_text api, word ∷ [])) idle past false
unfolding walked
second_walks rows pending word plain = rw (plain.0, plain.1, plain.2, and_false) refl

-- ---- behind `--`

module _ (name : List ℕ) (rows : List Row) (pending : Pending) (waiting : Waiting) (word : List ℕ) where
  pub first_fault_behind : turn_at name (at rows pending waiting first true) word ≡ settling rows pending
  first_fault_behind = rw and_false refl

  pub second_fault_behind : turn_at name (at rows pending waiting second true) word ≡ settling rows pending
  second_fault_behind = rw and_false refl

  pub past_fault_behind : turn_at name (at rows pending waiting past true) word ≡ UnknownArgument ∷ []
  past_fault_behind = refl

module _ (rows : List Row) (pending : Pending) (waiting : Waiting) (word : List ℕ) where
  pub first_walks_behind : walked run_rules [] (at rows pending waiting first true) word ≡ at (all_rows rows pending) (Some (id_text prefix, word ∷ [])) idle second true
  unfolding walked
  first_walks_behind = rw and_false refl

  pub second_walks_behind : walked run_rules [] (at rows pending waiting second true) word ≡ at (all_rows rows pending) (Some (id_text api, word ∷ [])) idle past true
  unfolding walked
  second_walks_behind = rw and_false refl

-- ---- the value of an option, as the next word

same_name : (option_name : OptionName) → bytes_eq (name_text option_name) (name_text option_name) ≡ true
same_name seed = refl
same_name polls = refl
same_name window = refl

pub value_fault : (name : List ℕ) (rows : List Row) (place : Place) (word : List ℕ) (option_name : OptionName) → IsPlain word
    → turn_at name (at rows (Some (name_text option_name, [])) (waits_for (name_text option_name)) place false) word ≡ []
value_fault name rows place word option_name plain = rw (plain.0, plain.1, plain.2) refl

pub value_walks : (rows : List Row) (place : Place) (word : List ℕ) (option_name : OptionName) → IsPlain word
    → walked run_rules [] (at rows (Some (name_text option_name, [])) (waits_for (name_text option_name)) place false) word
    ≡ at rows (Some (name_text option_name, word ∷ [])) idle place false
unfolding walked
value_walks rows place word option_name plain = rw (plain.0, plain.1, plain.2, by_id (option option_name), same_name option_name) refl

-- ---- settling what is pending

-- an option without its value
pub lacks_value : (rows : List Row) (option_name : OptionName) → settling rows (Some (name_text option_name, [])) ≡ InvalidValue ∷ []
lacks_value rows option_name = rw (by_id (option option_name)) refl

-- a use of an argument is a fault exactly where it has a value already
pub use_passes : (id : ArgumentId) (value : List ℕ) (rows : List Row) → has_row (id_text id) rows ≡ false → use_fault false (rule_for id) (value ∷ []) rows ≡ []
use_passes prefix value rows none = rw none refl
use_passes api value rows none = rw none refl
use_passes (option option_name) value rows none = rw none refl

pub use_repeats : (id : ArgumentId) (value : List ℕ) (rows : List Row) → has_row (id_text id) rows ≡ true → use_fault false (rule_for id) (value ∷ []) rows ≡ ArgumentConflict ∷ []
use_repeats prefix value rows found = rw found refl
use_repeats api value rows found = rw found refl
use_repeats (option option_name) value rows found = rw found refl

pub settles_as : (id : ArgumentId) (value : List ℕ) (rows : List Row) → settling rows (Some (id_text id, value ∷ [])) ≡ use_fault false (rule_for id) (value ∷ []) rows
settles_as id value rows = rw (by_id id) refl

pub rows_as : (id : ArgumentId) (value : List ℕ) (rows : List Row) → all_rows rows (Some (id_text id, value ∷ [])) ≡ used (rule_for id) (value ∷ []) rows
rows_as id value rows = rw (by_id id) refl
