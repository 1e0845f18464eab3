-- What the matches of `clap` ask for: the first value of each argument, read as the grammar reads it.
use Rattle.std.specs.Prelude.{ℕ, Bool, not, ◌&&◌, ◌||◌, ◌==◌, length, List, [], ◌∷◌, ◌++◌, Option, Some, None, option_map, option_and_then, codes, IsUtf8}
use Rattle.clap.specs.Words.{Row, first_of}
use Rattle.key_bytes.specs.Keys.{begins_with}
use Rattle.model_commands.specs.declared.args.RunArgs.{RunArgs}
use Rattle.model_commands.specs.declared.args.Args.{Args}
use Rattle.model_commands.specs.declared.args.Args.TheVariants.{Run, Replay, Gen, Watch, Asm, Disasm}
use Rattle.model_commands.specs.Grammar.{CommandName, run, replay, gen, watch, asm, disasm, command_in, command_names, polls_given, prefix_and_api_in, run_with, seed_given, window_given, workers_in}

-- a value as the list of an argument's values, which has one or none
abbrev pub listed : Option (List ℕ) → List (List ℕ)
listed None = []
listed (Some value) = value ∷ []

-- of `run` or `replay`, with the rows of its arguments
abbrev pub asked_in : List Row → Option RunArgs
asked_in rows =
    run_with (prefix_and_api_in (listed (first_of (codes "prefix") rows) ++ listed (first_of (codes "api") rows)))
    (seed_given (listed (first_of (codes "seed") rows))) (polls_given (listed (first_of (codes "polls") rows)))
    (window_given (listed (first_of (codes "window") rows)))

-- of `gen`
abbrev pub workers_asked_in : List Row → Option ℕ
workers_asked_in rows = workers_in (listed (first_of (codes "workers") rows))

-- of a command, with the rows of its arguments
abbrev pub asked_with : CommandName → List Row → Option Args
asked_with run rows = option_map Run (asked_in rows)
asked_with replay rows = option_map Replay (asked_in rows)
asked_with gen rows = option_map Gen (workers_asked_in rows)
asked_with watch rows = Some Watch
asked_with asm rows = Some Asm
asked_with disasm rows = Some Disasm

-- of the subcommand that was met, with its matches
abbrev pub asked_by : Option (List ℕ × List Row) → Option Args
asked_by None = None
asked_by (Some found) = option_and_then (λ command. asked_with command found.1) (command_in command_names found.0)

-- each word is a text
abbrev pub EachUtf8 : List (List ℕ) → Type 0
EachUtf8 [] = Unit {0}
EachUtf8 (word ∷ words) = IsUtf8 word × EachUtf8 words

-- a sign that std's `parse` takes, or a leading zero
abbrev pub is_marked : List ℕ → Bool
is_marked word = begins_with word (codes "+") || (begins_with word (codes "0") && not (length word == 1))
