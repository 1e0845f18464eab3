-- `clap` refuses exactly the words that the grammar doesn't have, but for the values of arguments; else what it finds asks for
-- what the grammar says.
use Rattle.std.proofs.Common.{◌≡◌, ◌∙◌, ◌⊎◌, ⊎_elim, ◌||◌, ◌++◌, ℕ, Bool, cond, true, false, true≢false, inl, inr, List, [], ◌∷◌, Option, Some, None, option_map, option_and_then, is_some, fold, codes, bytes_eq, slice_get, refl, sym, ap, subst}
use Rattle.std.specs.Option.{option_map_or}
use Rattle.std.proofs.lemmas.Slice.Eq.{bytes_eq-Decides}
use Rattle.clap.specs.Lexer.{long_of, short_of}
use Rattle.clap.specs.Facts.{explicit_source}
use Rattle.clap.specs.Walk.{Names, Row, Rule, Walk, finished, first_of, has_row, idle, nothing_held, rows_after, settled, walk, walk_from, walked, with_default}
use Rattle.clap.specs.Simple.{Shape, built, entered, names_of, subcommand_of}
use Rattle.clap.specs.Takes.{is_given}
use Rattle.clap.specs.Kinds.{Kinds, or_else}
use Rattle.clap.specs.Faults.{check_fault, default_fault, defaults_fault, entered_fault, fault_of, flags_fault, level_fault, settle_fault, turn_fault, walk_fault}
use Rattle.clap.specs.declared.error.kind.ErrorKind.{ErrorKind}
use Rattle.clap.specs.declared.error.kind.ErrorKind.TheVariants.{InvalidSubcommand, MissingRequiredArgument, MissingSubcommand, UnknownArgument}
use Rattle.clap.proofs.WalkLemmas.{walk_stopped}
use Rattle.clap.proofs.FaultLemmas.{past as past_first, stopped_fault}
use Rattle.model_commands.specs.declared.args.Args.{Args}
use Rattle.model_commands.specs.declared.args.Args.TheVariants.{Run, Replay, Gen, Watch, Asm, Disasm}
use Rattle.model_commands.specs.Grammar.{CommandName, WordKind, apart, args_of, asked_of, asm, command_in, command_names, command_text, disasm, gen, gen_in, joined, kind_in, polls, polls_given, positional, prefix_and_api_in, replay, run, run_in, run_with, seed, seed_given, separator, unknown, watch, window, window_given}
use Rattle.laws_commands.specs.Found.{EachUtf8, asked_by, asked_in, asked_with, listed, workers_asked_in}
use Rattle.laws_commands.specs.Program.{program}
use Rattle.laws_commands.proofs.WordKinds.{IsIn, IsUnknown, Meets, by_character, by_name, is_separator, meets}
use Rattle.laws_commands.proofs.Leaves.{ArgumentId, Holds, Tally, api, holds_nothing, id_text, leaf, nothing, option, prefix, row_for, run_rules}
use Rattle.laws_commands.proofs.Steps.{at, first}
use Rattle.laws_commands.proofs.Readings.{Agrees, end_rows, fault_from, read_words, reads}
use Rattle.laws_commands.proofs.Asking.{asked, asks_run}
use Rattle.laws_commands.proofs.Faults.{first_clear, none_behind, second_clear}
use Rattle.laws_commands.proofs.Bare.{bare_decided, bare_fault, bare_rows}
use Rattle.laws_commands.proofs.Workers.{gen_decided, gen_fault, gen_rows}

-- ---- what the matches hold

first_is : (id : ArgumentId) (rows : List Row) (tally : Tally) → Holds rows tally → first_of (id_text id) rows ≡ tally id
first_is id rows tally holds = ap (option_and_then (λ (r : Row). slice_get r.values 0)) (holds id) ∙ go (tally id)
  where
    go : (o : Option (List ℕ)) → option_and_then (λ (r : Row). slice_get r.values 0) (option_map (row_for id) o) ≡ o
    go None = refl
    go (Some value) = refl

asked_is : (rows : List Row) (tally : Tally) → Holds rows tally → asked_in rows ≡ asked tally
asked_is rows tally holds =
    λ i. run_with (prefix_and_api_in (listed (first_is prefix rows tally holds i) ++ listed (first_is api rows tally holds i)))
    (seed_given (listed (first_is (option seed) rows tally holds i))) (polls_given (listed (first_is (option polls) rows tally holds i)))
    (window_given (listed (first_is (option window) rows tally holds i)))

-- ---- after the walk

given_is : (id : ArgumentId) (rows : List Row) (tally : Tally) → Holds rows tally → is_given (id_text id) rows ≡ is_some (tally id)
given_is id rows tally holds = ap (λ o. option_map_or (λ (r : Row). explicit_source r.source) o false) (holds id) ∙ go (tally id)
  where
    go : (o : Option (List ℕ)) → option_map_or (λ (r : Row). explicit_source r.source) (option_map (row_for id) o) false ≡ is_some o
    go None = refl
    go (Some value) = refl

same_rows : (b : Bool) (rows : List Row) → cond b rows rows ≡ rows
same_rows true rows = refl
same_rows false rows = refl

abbrev HasNoDefaults : List Rule → Type 0
HasNoDefaults [] = Unit {0}
HasNoDefaults (rule ∷ rules) = (rule.defaults ≡ []) × HasNoDefaults rules

no_default : (rule : Rule) → rule.defaults ≡ [] → (rows : List Row) → with_default rows rule ≡ rows
no_default rule none rows = rw none (same_rows (has_row rule.id rows) rows)

no_defaults : (rules : List Rule) → HasNoDefaults rules → (rows : List Row) → fold with_default rows rules ≡ rows
no_defaults [] none rows = refl
no_defaults (rule ∷ rules) none rows = ap (λ xs. fold with_default xs rules) (no_default rule none.0 rows) ∙ no_defaults rules none.1 rows

or_true : (b : Bool) → (b || true) ≡ true
or_true true = refl
or_true false = refl

no_default_fault : (rules : List Rule) → HasNoDefaults rules → (rows : List Row) → defaults_fault rows rules ≡ []
unfolding defaults_fault
no_default_fault [] none rows = refl
no_default_fault (rule ∷ rules) none rows =
    let here : default_fault rows rule ≡ [] = rw (none.0, or_true) refl in
    past_first (default_fault rows rule) (defaults_fault (with_default rows rule) rules) here ∙ no_default_fault rules none.1 (with_default rows rule)

-- ---- `run` and `replay`

run_defaults : HasNoDefaults run_rules
run_defaults = (refl, (refl, (refl, (refl, (refl, tt)))))

abbrev pub leaf_fault : List ℕ → List (List ℕ) → Kinds
leaf_fault name words = level_fault (leaf name) [] nothing_held words false []

abbrev pub leaf_rows : List (List ℕ) → List Row
leaf_rows words = rows_after run_rules [] words

abbrev start : Walk
start = at [] None idle first false

abbrev leaf_check : List ℕ → List Row → Kinds
leaf_check name rows = check_fault (leaf name) rows false

rows_are : (words : List (List ℕ)) → leaf_rows words ≡ end_rows start words
rows_are words = no_defaults run_rules run_defaults (end_rows start words)

all_given : (name : List ℕ) (rows : List Row) → is_given (codes "prefix") rows ≡ true → is_given (codes "api") rows ≡ true → leaf_check name rows ≡ []
all_given name rows prefix_given api_given = rw (prefix_given, api_given) refl

prefix_missing : (name : List ℕ) (rows : List Row) → is_given (codes "prefix") rows ≡ false → leaf_check name rows ≡ MissingRequiredArgument ∷ []
prefix_missing name rows missing = rw missing refl

api_missing : (name : List ℕ) (rows : List Row) → is_given (codes "prefix") rows ≡ true → is_given (codes "api") rows ≡ false
    → leaf_check name rows ≡ MissingRequiredArgument ∷ []
api_missing name rows given missing = rw (given, missing) refl

-- a fault of the walk, or at its end, or of the checks behind it
leaf_parts : (name : List ℕ) (words : List (List ℕ)) → leaf_fault name words ≡ []
    → (fault_from name start words ≡ []) × (leaf_check name (leaf_rows words) ≡ [])
leaf_parts name words none =
    let walking : walk_fault (leaf name) [] start words ≡ [] = first_clear _ _ none in
    let later = second_clear (walk_fault (leaf name) [] start words) _ none in
    let settling : settle_fault run_rules false (fold (walked run_rules []) start words).held ≡ [] = first_clear _ _ later in
    (past_first _ _ walking ∙ settling, second_clear (defaults_fault (end_rows start words) run_rules) _ (second_clear (settle_fault run_rules false (fold (walked run_rules []) start words).held) _ later))

leaf_passes : (name : List ℕ) (words : List (List ℕ)) → fault_from name start words ≡ [] → leaf_check name (leaf_rows words) ≡ [] → leaf_fault name words ≡ []
leaf_passes name words none checked =
    let walking : walk_fault (leaf name) [] start words ≡ [] = first_clear _ _ none in
    let settling : settle_fault run_rules false (fold (walked run_rules []) start words).held ≡ [] = second_clear (walk_fault (leaf name) [] start words) _ none in
    past_first _ _ walking ∙ past_first _ _ settling ∙ past_first _ _ (no_default_fault run_rules run_defaults (end_rows start words)) ∙ checked

-- `clap` refuses the words, and the grammar doesn't have them; or what is found asks for what the grammar says, which may be that
-- a value is refused
abbrev pub LeafDecided : List ℕ → List (List ℕ) → Type 0
LeafDecided name words =
    ((leaf_fault name words ≡ []) × (asked_in (leaf_rows words) ≡ run_in words)) ⊎ ((leaf_fault name words ≡ [] → ⊥) × (run_in words ≡ None))

check_fails : (name : List ℕ) (words : List (List ℕ)) → leaf_check name (leaf_rows words) ≡ MissingRequiredArgument ∷ [] → leaf_fault name words ≡ [] → ⊥
check_fails name words fails none = let passes = (leaf_parts name words none).1 in cc

leaf_given : (name : List ℕ) (words : List (List ℕ)) (tally : Tally) → fault_from name start words ≡ [] → Holds (leaf_rows words) tally
    → asked tally ≡ run_in words → (o p : Option (List ℕ)) → tally prefix ≡ o → tally api ≡ p → LeafDecided name words
leaf_given name words tally none holds asks (Some word) (Some version) has_prefix has_api =
    let prefix_given : is_given (codes "prefix") (leaf_rows words) ≡ true = given_is prefix (leaf_rows words) tally holds ∙ ap is_some has_prefix in
    let api_given : is_given (codes "api") (leaf_rows words) ≡ true = given_is api (leaf_rows words) tally holds ∙ ap is_some has_api in
    inl (leaf_passes name words none (all_given name (leaf_rows words) prefix_given api_given), asked_is (leaf_rows words) tally holds ∙ asks)
leaf_given name words tally none holds asks (Some word) None has_prefix has_api =
    let prefix_given : is_given (codes "prefix") (leaf_rows words) ≡ true = given_is prefix (leaf_rows words) tally holds ∙ ap is_some has_prefix in
    let api_given : is_given (codes "api") (leaf_rows words) ≡ false = given_is api (leaf_rows words) tally holds ∙ ap is_some has_api in
    let refused : asked tally ≡ None = rw (has_prefix, has_api) refl in
    inr (check_fails name words (api_missing name (leaf_rows words) prefix_given api_given), sym asks ∙ refused)
leaf_given name words tally none holds asks None version has_prefix has_api =
    let prefix_given : is_given (codes "prefix") (leaf_rows words) ≡ false = given_is prefix (leaf_rows words) tally holds ∙ ap is_some has_prefix in
    inr (check_fails name words (prefix_missing name (leaf_rows words) prefix_given), sym asks ∙ refused version has_api)
  where
    refused : (o : Option (List ℕ)) → tally api ≡ o → asked tally ≡ None
    refused None e = rw (has_prefix, e) refl
    refused (Some other) e = rw (has_prefix, e) refl

pub leaf_decided : (name : List ℕ) (words : List (List ℕ)) → EachUtf8 words → LeafDecided name words
leaf_decided name words each = go (read_words None first nothing words) (asks_run words) (reads name words each None first nothing [] None (refl, holds_nothing) (refl, refl))
  where
    go : (o : Option Tally) → option_and_then asked o ≡ run_in words → Agrees name o start words → LeafDecided name words
    go None asks refuses = inr (λ none. refuses (leaf_parts name words none).0, sym asks)
    go (Some tally) asks facts =
        leaf_given name words tally facts.0 (subst (λ rows. Holds rows tally) (sym (rows_are words)) facts.1) asks (tally prefix) (tally api) refl refl

-- ---- the first word

abbrev top : Shape
top = (built program).top

abbrev names : Names
names = names_of (built program)

-- what is found behind the walk over the first words
abbrev behind_walk : Walk → Kinds
behind_walk end =
    or_else (entered_fault (built program) end.stopped)
    (or_else (settle_fault top.rules top.args_override_self end.held)
    (or_else (defaults_fault (settled top.rules end.held).rows top.rules)
    (check_fault top (finished top.rules end.held) (is_some (entered (built program) end.stopped)))))

abbrev top_start : Walk
top_start = walk_from nothing_held

abbrev top_end : List (List ℕ) → Walk
top_end words = walk top.rules names nothing_held words

fault_parts : (words : List (List ℕ)) → fault_of program words ≡ or_else (walk_fault top names top_start words) (behind_walk (top_end words))
fault_parts words = refl

abbrev stopped_at : CommandName → List (List ℕ) → Walk
stopped_at command words = record top_start { stopped = Some (command_text command, words) }

command_stops : (command : CommandName) (words : List (List ℕ)) → top_end (command_text command ∷ words) ≡ stopped_at command words
unfolding walked
command_stops run words = sym (walk_stopped top.rules names top_start (codes "run") [] words)
command_stops replay words = sym (walk_stopped top.rules names top_start (codes "replay") [] words)
command_stops gen words = sym (walk_stopped top.rules names top_start (codes "gen") [] words)
command_stops watch words = sym (walk_stopped top.rules names top_start (codes "watch") [] words)
command_stops asm words = sym (walk_stopped top.rules names top_start (codes "asm") [] words)
command_stops disasm words = sym (walk_stopped top.rules names top_start (codes "disasm") [] words)

command_passes : (command : CommandName) (words : List (List ℕ)) → walk_fault top names top_start (command_text command ∷ words) ≡ []
unfolding walk_fault walked
command_passes run words = stopped_fault top names top_start (codes "run", []) words
command_passes replay words = stopped_fault top names top_start (codes "replay", []) words
command_passes gen words = stopped_fault top names top_start (codes "gen", []) words
command_passes watch words = stopped_fault top names top_start (codes "watch", []) words
command_passes asm words = stopped_fault top names top_start (codes "asm", []) words
command_passes disasm words = stopped_fault top names top_start (codes "disasm", []) words

-- what `clap` finds amiss in the words behind a command, and what it finds
abbrev command_fault : CommandName → List (List ℕ) → Kinds
command_fault run words = leaf_fault (codes "run") words
command_fault replay words = leaf_fault (codes "replay") words
command_fault gen words = gen_fault words
command_fault watch words = bare_fault (codes "watch") words
command_fault asm words = bare_fault (codes "asm") words
command_fault disasm words = bare_fault (codes "disasm") words

abbrev command_rows : CommandName → List (List ℕ) → List Row
command_rows run words = leaf_rows words
command_rows replay words = leaf_rows words
command_rows gen words = gen_rows words
command_rows watch words = bare_rows words
command_rows asm words = bare_rows words
command_rows disasm words = bare_rows words

behind_command : (command : CommandName) (words : List (List ℕ)) → behind_walk (stopped_at command words) ≡ command_fault command words
unfolding defaults_fault
behind_command run words = none_behind (leaf_fault (codes "run") words)
behind_command replay words = none_behind (leaf_fault (codes "replay") words)
behind_command gen words = none_behind (gen_fault words)
behind_command watch words = none_behind (bare_fault (codes "watch") words)
behind_command asm words = none_behind (bare_fault (codes "asm") words)
behind_command disasm words = none_behind (bare_fault (codes "disasm") words)

fault_is : (command : CommandName) (words : List (List ℕ)) → fault_of program (command_text command ∷ words) ≡ command_fault command words
fault_is command words =
    fault_parts (command_text command ∷ words) ∙ past_first _ _ (command_passes command words) ∙ ap behind_walk (command_stops command words) ∙ behind_command command words

entered_is : (command : CommandName) (words : List (List ℕ)) → entered (built program) (Some (command_text command, words)) ≡ Some (command_text command, command_rows command words)
entered_is run words = refl
entered_is replay words = refl
entered_is gen words = refl
entered_is watch words = refl
entered_is asm words = refl
entered_is disasm words = refl

found_is : (command : CommandName) (words : List (List ℕ)) → subcommand_of program (command_text command ∷ words) ≡ Some (command_text command, command_rows command words)
found_is command words = ap (λ (end : Walk). entered (built program) end.stopped) (command_stops command words) ∙ entered_is command words

-- ---- words that begin with no command

no_words : fault_of program [] ≡ MissingSubcommand ∷ []
unfolding walk_fault defaults_fault
no_words = refl

abbrev IsNone : List ℕ → Type 0
IsNone word = (command : CommandName) → bytes_eq (command_text command) word ≡ false

module _ (word : List ℕ) (other : IsNone word) where
  abbrev first_fault : Kinds
  first_fault = turn_fault top names top_start word

  long_fails : (name : List ℕ) (value : Option (List ℕ)) → is_separator word ≡ false → long_of word ≡ Some (name, value) → first_fault ≡ UnknownArgument ∷ []
  long_fails name value e long = rw (other run, other replay, other gen, other watch, other asm, other disasm, e, long) refl

  unknown_fails : is_separator word ≡ false → IsUnknown word → first_fault ≡ UnknownArgument ∷ []
  unfolding flags_fault
  unknown_fails e (by_name name value long differs) = rw (other run, other replay, other gen, other watch, other asm, other disasm, e, long) refl
  unknown_fails e (by_character x xs c long short is) = rw (other run, other replay, other gen, other watch, other asm, other disasm, e, long, short, is) refl

  plain_fails : is_separator word ≡ false → long_of word ≡ None → short_of word ≡ None → first_fault ≡ UnknownArgument ∷ InvalidSubcommand ∷ []
  plain_fails e long short = rw (other run, other replay, other gen, other watch, other asm, other disasm, e, long, short) refl

  separator_passes : is_separator word ≡ true → first_fault ≡ []
  separator_passes e = rw (other run, other replay, other gen, other watch, other asm, other disasm, e) refl

  separator_walks : is_separator word ≡ true → walked top.rules names top_start word ≡ record top_start { is_trailing = true }
  unfolding walked
  separator_walks e = rw (other run, other replay, other gen, other watch, other asm, other disasm, e) refl

abbrev behind_separator : Walk
behind_separator = record top_start { is_trailing = true }

nothing_behind : behind_walk behind_separator ≡ MissingSubcommand ∷ []
unfolding defaults_fault
nothing_behind = refl

something_behind : (word : List ℕ) → turn_fault top names behind_separator word ≡ UnknownArgument ∷ InvalidSubcommand ∷ []
something_behind word = refl

refused_at : (word : List ℕ) (words : List (List ℕ)) (kind : ErrorKind) (kinds : Kinds) → turn_fault top names top_start word ≡ kind ∷ kinds
    → fault_of program (word ∷ words) ≡ [] → ⊥
unfolding walk_fault
refused_at word words kind kinds fault none =
    let walking : walk_fault top names top_start (word ∷ words) ≡ [] = first_clear _ _ (sym (fault_parts (word ∷ words)) ∙ none) in
    let turning : turn_fault top names top_start word ≡ [] = first_clear _ _ walking in
    cc

refused_behind : (word : List ℕ) (words : List (List ℕ)) → walked top.rules names top_start word ≡ behind_separator → fault_of program (word ∷ words) ≡ [] → ⊥
unfolding walk_fault
refused_behind word [] walks none =
    let later : behind_walk (walked top.rules names top_start word) ≡ [] = second_clear (walk_fault top names top_start (word ∷ [])) _ (sym (fault_parts (word ∷ [])) ∙ none) in
    let missing : behind_walk (walked top.rules names top_start word) ≡ MissingSubcommand ∷ [] = ap behind_walk walks ∙ nothing_behind in
    cc
refused_behind word (other ∷ words) walks none =
    let walking : walk_fault top names top_start (word ∷ other ∷ words) ≡ [] = first_clear _ _ (sym (fault_parts (word ∷ other ∷ words)) ∙ none) in
    let next : walk_fault top names (walked top.rules names top_start word) (other ∷ words) ≡ [] = second_clear (turn_fault top names top_start word) _ walking in
    let turning : turn_fault top names (walked top.rules names top_start word) other ≡ [] = first_clear _ _ next in
    let stray : turn_fault top names (walked top.rules names top_start word) other ≡ UnknownArgument ∷ InvalidSubcommand ∷ [] =
    ap (λ (w : Walk). turn_fault top names w other) walks ∙ something_behind other in
    cc

no_command : (word : List ℕ) (words : List (List ℕ)) → IsNone word → (of_word : WordKind) → Meets of_word word → fault_of program (word ∷ words) ≡ [] → ⊥
no_command word words other separator met = refused_behind word words (separator_walks word other met)
no_command word words other (joined name value) met = refused_at word words _ _ (long_fails word other _ _ met.0 met.1)
no_command word words other (apart name) met = refused_at word words _ _ (long_fails word other _ _ met.0 met.1)
no_command word words other unknown met = refused_at word words _ _ (unknown_fails word other met.0 met.1)
no_command word words other positional met = refused_at word words _ _ (plain_fails word other met.0 met.1 met.2)

-- ---- every list of words

-- `clap` refuses the words, and the grammar doesn't have them; or it finds a command, and what that asks for is what the grammar
-- says, which may be that a value is refused
abbrev pub Decided : List (List ℕ) → Type 0
Decided words =
    ((fault_of program words ≡ []) × (asked_by (subcommand_of program words) ≡ args_of words))
    ⊎ ((fault_of program words ≡ [] → ⊥) × (args_of words ≡ None))

abbrev CommandDecided : CommandName → List (List ℕ) → Type 0
CommandDecided command words =
    ((command_fault command words ≡ []) × (asked_with command (command_rows command words) ≡ asked_of command words))
    ⊎ ((command_fault command words ≡ [] → ⊥) × (asked_of command words ≡ None))

-- so it is of what is asked for, as a command
as_command : {X : Type 0} (command : X → Args) (fault : Kinds) (found asks : Option X) → ((fault ≡ []) × (found ≡ asks)) ⊎ ((fault ≡ [] → ⊥) × (asks ≡ None))
    → ((fault ≡ []) × (option_map command found ≡ option_map command asks)) ⊎ ((fault ≡ [] → ⊥) × (option_map command asks ≡ None))
as_command command fault found asks (inl passes) = inl (passes.0, ap (option_map command) passes.1)
as_command command fault found asks (inr refuses) = inr (refuses.0, ap (option_map command) refuses.1)

command_decided : (command : CommandName) (words : List (List ℕ)) → EachUtf8 words → CommandDecided command words
command_decided run words each = as_command Run (leaf_fault (codes "run") words) (asked_in (leaf_rows words)) (run_in words) (leaf_decided (codes "run") words each)
command_decided replay words each = as_command Replay (leaf_fault (codes "replay") words) (asked_in (leaf_rows words)) (run_in words) (leaf_decided (codes "replay") words each)
command_decided gen words each = as_command Gen (gen_fault words) (workers_asked_in (gen_rows words)) (gen_in words) (gen_decided words each)
command_decided watch words each = bare_decided (codes "watch") Watch words each
command_decided asm words each = bare_decided (codes "asm") Asm words each
command_decided disasm words each = bare_decided (codes "disasm") Disasm words each

named_by_text : (command : CommandName) → command_in command_names (command_text command) ≡ Some command
named_by_text run = refl
named_by_text replay = refl
named_by_text gen = refl
named_by_text watch = refl
named_by_text asm = refl
named_by_text disasm = refl

by_command : (command : CommandName) (words : List (List ℕ)) → CommandDecided command words → Decided (command_text command ∷ words)
by_command command words = ⊎_elim passes refuses
  where
    asks : args_of (command_text command ∷ words) ≡ asked_of command words
    asks = ap (option_and_then (λ name. asked_of name words)) (named_by_text command)

    found : asked_by (Some (command_text command, command_rows command words)) ≡ asked_with command (command_rows command words)
    found = ap (option_and_then (λ name. asked_with name (command_rows command words))) (named_by_text command)

    passes : (command_fault command words ≡ []) × (asked_with command (command_rows command words) ≡ asked_of command words) → Decided (command_text command ∷ words)
    passes facts = inl (fault_is command words ∙ facts.0, ap asked_by (found_is command words) ∙ found ∙ facts.1 ∙ sym asks)

    refuses : (command_fault command words ≡ [] → ⊥) × (asked_of command words ≡ None) → Decided (command_text command ∷ words)
    refuses facts = inr (λ none. facts.0 (sym (fault_is command words) ∙ none), asks ∙ facts.1)

turned : (a b : List ℕ) → bytes_eq a b ≡ false → bytes_eq b a ≡ false
turned a b e = go (bytes_eq b a) refl
  where
    go : (c : Bool) → bytes_eq b a ≡ c → c ≡ false
    go false same = refl
    go true same = absurd (true≢false (sym ((bytes_eq-Decides a b).1 (sym ((bytes_eq-Decides b a).0 same))) ∙ e))

each_command : (command : CommandName) → IsIn command command_names
each_command run = inl refl
each_command replay = inr (inl refl)
each_command gen = inr (inr (inl refl))
each_command watch = inr (inr (inr (inl refl)))
each_command asm = inr (inr (inr (inr (inl refl))))
each_command disasm = inr (inr (inr (inr (inr (inl refl)))))

-- a word is the text of a command, or names none, where each command is among these or has another text
named_or_none : (commands : List CommandName) (word : List ℕ) → ((command : CommandName) → IsIn command commands ⊎ (bytes_eq (command_text command) word ≡ false))
    → ((command : CommandName) × (word ≡ command_text command)) ⊎ (IsNone word × (command_in commands word ≡ None))
named_or_none [] word each = inr (λ command. ⊎_elim (λ none. absurd none) (λ other. other) (each command), refl)
named_or_none (first_command ∷ rest) word each = go (bytes_eq word (command_text first_command)) refl (named_or_none rest word)
  where
    go : (b : Bool) → bytes_eq word (command_text first_command) ≡ b
        → (((command : CommandName) → IsIn command rest ⊎ (bytes_eq (command_text command) word ≡ false))
        → ((command : CommandName) × (word ≡ command_text command)) ⊎ (IsNone word × (command_in rest word ≡ None)))
        → ((command : CommandName) × (word ≡ command_text command)) ⊎ (IsNone word × (cond b (Some first_command) (command_in rest word) ≡ None))
    go true same next = inl (first_command, (bytes_eq-Decides word (command_text first_command)).0 same)
    go false other next =
        next (λ command. ⊎_elim (⊎_elim (λ is. inr (subst (λ c. bytes_eq (command_text c) word ≡ false) (sym is) (turned word (command_text first_command) other))) (λ in_rest. inl in_rest)) (λ differs. inr differs) (each command))

pub decided : (words : List (List ℕ)) → EachUtf8 words → Decided words
decided [] each = inr (λ none. nothing_missing (sym no_words ∙ none), refl)
  where
    nothing_missing : ◌≡◌ {A = Kinds} (MissingSubcommand ∷ []) [] → ⊥
    nothing_missing e = cc
decided (word ∷ words) each = ⊎_elim named none (named_or_none command_names word (λ command. inl (each_command command)))
  where
    named : (command : CommandName) × (word ≡ command_text command) → Decided (word ∷ words)
    named is = subst (λ w. Decided (w ∷ words)) (sym is.1) (by_command is.0 words (command_decided is.0 words each.1))

    none : IsNone word × (command_in command_names word ≡ None) → Decided (word ∷ words)
    none facts =
        inr (no_command word words facts.0 (kind_in word) (meets word each.0), ap (option_and_then (λ command. asked_of command words)) facts.1)
