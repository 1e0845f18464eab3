-- The words of the command line: which of them are a command, and what it asks for.
use Rattle.std.specs.Prelude.{ℕ, ◌+◌, Bool, not, ◌&&◌, ◌||◌, ◌==◌, nat_le, if◌then◌else◌, List, [], ◌∷◌, ◌++◌, map, length, drop, Option, Some, None, option_map, option_and_then, codes}
use Rattle.std.specs.Str.{bytes_eq, all_ascii_digits}
use Rattle.std.specs.Str.Parse.{digits_value}
use Rattle.key_bytes.specs.Keys.{begins_with}
use Rattle.model_database.specs.declared.Api.{Api}
use Rattle.model_database.specs.declared.Api.TheVariants.{V630, V500}
use Rattle.model_commands.specs.declared.args.RunArgs.{RunArgs}
use Rattle.model_commands.specs.declared.args.Args.{Args}
use Rattle.model_commands.specs.declared.args.Args.TheVariants.{Run, Replay, Gen, Watch, Asm, Disasm}

-- ---- one word

-- the options
pub data OptionName : Type 0 where
  seed : OptionName
  polls : OptionName
  window : OptionName

abbrev pub option_names : List OptionName
option_names = seed ∷ polls ∷ window ∷ []

abbrev pub name_text : OptionName → List ℕ
name_text seed = codes "seed"
name_text polls = codes "polls"
name_text window = codes "window"

abbrev pub same_option : OptionName → OptionName → Bool
same_option a b = bytes_eq (name_text a) (name_text b)

-- an option as it is written: `--` and its name
abbrev pub option_text : OptionName → List ℕ
option_text name = codes "--" ++ name_text name

-- what a word is, where no `--` stands before it and no option waits for its value
pub data WordKind : Type 0 where
  -- `--`, behind which each word is positional
  separator : WordKind
  -- an option and its value, as `--seed=1`
  joined : OptionName → List ℕ → WordKind
  -- an option whose value is the next word
  apart : OptionName → WordKind
  -- any other word that begins with `-` and is longer
  unknown : WordKind
  -- any other word
  positional : WordKind

abbrev pub option_in : List OptionName → List ℕ → WordKind
option_in [] word = unknown
option_in (name ∷ names) word =
    if bytes_eq word (option_text name) then apart name
    else (if begins_with word (option_text name ++ codes "=") then joined name (drop (length (option_text name) + 1) word)
    else option_in names word)

abbrev pub kind_in : List ℕ → WordKind
kind_in word =
    if bytes_eq word (codes "--") then separator
    else (if begins_with word (codes "-") && not (bytes_eq word (codes "-")) then option_in option_names word
    else positional)

-- ---- the arguments of a command

pub data Argument : Type 0 where
  -- an option with its value
  given : OptionName → List ℕ → Argument
  -- a positional argument
  placed : List ℕ → Argument

abbrev pub with_argument : Argument → Option (List Argument) → Option (List Argument)
with_argument argument = option_map (λ rest. argument ∷ rest)

-- a word of this kind, and behind it `words`, which `after` reads where this option waits for its value, or none
abbrev pub argument_by : WordKind → List ℕ → List (List ℕ) → (Option OptionName → Option (List Argument)) → Option (List Argument)
argument_by separator word words after = Some (map placed words)
argument_by (joined name value) word words after = with_argument (given name value) (after None)
argument_by (apart name) word words after = after (Some name)
argument_by unknown word words after = None
argument_by positional word words after = with_argument (placed word) (after None)

-- the arguments that the words are, where `waits` is the option whose value is the next word: that word must be there, and
-- must not begin with `-`
abbrev pub arguments_in : Option OptionName → List (List ℕ) → Option (List Argument)
arguments_in None [] = Some []
arguments_in (Some name) [] = None
arguments_in None (word ∷ words) = argument_by (kind_in word) word words (λ waits. arguments_in waits words)
arguments_in (Some name) (word ∷ words) =
    if begins_with word (codes "-") then None else with_argument (given name word) (arguments_in None words)

-- the values that an option is given, and the positional arguments, each in their order
abbrev pub values_of : OptionName → List Argument → List (List ℕ)
values_of name [] = []
values_of name (given other value ∷ rest) =
    if same_option other name then value ∷ values_of name rest else values_of name rest
values_of name (placed word ∷ rest) = values_of name rest

abbrev pub positionals_of : List Argument → List (List ℕ)
positionals_of [] = []
positionals_of (given name value ∷ rest) = positionals_of rest
positionals_of (placed word ∷ rest) = word ∷ positionals_of rest

-- ---- numbers

-- decimal digits, without a sign and without a leading zero
abbrev pub is_numeral : List ℕ → Bool
is_numeral word = not (length word == 0) && (all_ascii_digits word && (not (begins_with word (codes "0")) || length word == 1))

abbrev pub number_in : ℕ → ℕ → List ℕ → Option ℕ
number_in least most word =
    if is_numeral word && (nat_le least (digits_value 10 word) && nat_le (digits_value 10 word) most)
    then Some (digits_value 10 word) else None

-- the number of an option that comes at most once
abbrev pub number_given : ℕ → ℕ → ℕ → List (List ℕ) → Option ℕ
number_given default least most [] = Some default
number_given default least most (value ∷ []) = number_in least most value
number_given default least most (value ∷ other ∷ more) = None

abbrev pub seed_given : List (List ℕ) → Option ℕ
seed_given = number_given 0 0 18446744073709551615

abbrev pub polls_given : List (List ℕ) → Option ℕ
polls_given = number_given 10000 1 100000

-- the window of an option that comes at most once: there is none without it
abbrev pub window_given : List (List ℕ) → Option (Option ℕ)
window_given [] = Some None
window_given (value ∷ []) = option_map Some (number_in 1 1000000 value)
window_given (value ∷ other ∷ more) = None

-- ---- commands

-- the API version that a word names
abbrev pub api_in : List ℕ → Option Api
api_in word =
    if bytes_eq word (codes "630") then Some V630
    else (if bytes_eq word (codes "500") then Some V500
    else None)

-- the two positional arguments of a run: a prefix of at most 1,000 bytes, and the API version
abbrev pub prefix_and_api_in : List (List ℕ) → Option (List ℕ × Api)
prefix_and_api_in [] = None
prefix_and_api_in (prefix ∷ []) = None
prefix_and_api_in (prefix ∷ word ∷ []) =
    if nat_le (length prefix) 1000 then option_map (λ api. (prefix, api)) (api_in word) else None
prefix_and_api_in (prefix ∷ word ∷ other ∷ more) = None

abbrev pub run_with : Option (List ℕ × Api) → Option ℕ → Option ℕ → Option (Option ℕ) → Option RunArgs
run_with (Some places) (Some first) (Some most) (Some width) =
    Some (record { prefix = places.0; api = places.1; seed = first; polls = most; window = width })
run_with (Some places) (Some first) (Some most) None = None
run_with (Some places) (Some first) None width = None
run_with (Some places) None most width = None
run_with None first most width = None

abbrev pub run_of : List Argument → Option RunArgs
run_of arguments =
    run_with (prefix_and_api_in (positionals_of arguments)) (seed_given (values_of seed arguments)) (polls_given (values_of polls arguments))
    (window_given (values_of window arguments))

-- what the words after `run` or `replay` ask for
abbrev pub run_in : List (List ℕ) → Option RunArgs
run_in words = option_and_then run_of (arguments_in None words)

-- `gen` has one argument, how many workers there are to be, and no option
abbrev pub workers_in : List (List ℕ) → Option ℕ
workers_in [] = None
workers_in (word ∷ []) = number_in 1 30 word
workers_in (word ∷ other ∷ more) = None

abbrev pub workers_of : List Argument → Option ℕ
workers_of [] = None
workers_of (given name value ∷ rest) = None
workers_of (placed word ∷ []) = number_in 1 30 word
workers_of (placed word ∷ other ∷ more) = None

-- what the words after `gen` ask for
abbrev pub gen_in : List (List ℕ) → Option ℕ
gen_in words = option_and_then workers_of (arguments_in None words)

-- `watch`, `asm` and `disasm` have neither an argument nor an option
abbrev pub bare_of : Args → List Argument → Option Args
bare_of command [] = Some command
bare_of command (argument ∷ more) = None

abbrev pub bare_in : Args → List (List ℕ) → Option Args
bare_in command words = option_and_then (bare_of command) (arguments_in None words)

pub data CommandName : Type 0 where
  run : CommandName
  replay : CommandName
  gen : CommandName
  watch : CommandName
  asm : CommandName
  disasm : CommandName

abbrev pub command_names : List CommandName
command_names = run ∷ replay ∷ gen ∷ watch ∷ asm ∷ disasm ∷ []

abbrev pub command_text : CommandName → List ℕ
command_text run = codes "run"
command_text replay = codes "replay"
command_text gen = codes "gen"
command_text watch = codes "watch"
command_text asm = codes "asm"
command_text disasm = codes "disasm"

-- the command that a word names
abbrev pub command_in : List CommandName → List ℕ → Option CommandName
command_in [] word = None
command_in (name ∷ names) word = if bytes_eq word (command_text name) then Some name else command_in names word

-- what the words after a command ask for
abbrev pub asked_of : CommandName → List (List ℕ) → Option Args
asked_of run words = option_map Run (run_in words)
asked_of replay words = option_map Replay (run_in words)
asked_of gen words = option_map Gen (gen_in words)
asked_of watch words = bare_in Watch words
asked_of asm words = bare_in Asm words
asked_of disasm words = bare_in Disasm words

-- what the words after the program's name ask for
abbrev pub args_of : List (List ℕ) → Option Args
args_of [] = None
args_of (word ∷ words) = option_and_then (λ command. asked_of command words) (command_in command_names word)
