-- The command of `clap`, as a value: what its builders are asked for, in the words of `clap`.
use Rattle.std.specs.Prelude.{ℕ, true, List, [], Some, codes}
use Rattle.clap.specs.Words.{App, Rule, Shape, new_app, new_rule, with_rule, with_subcommand}
use Rattle.clap.specs.Simple.{new_shape}
use Rattle.model_commands.specs.Grammar.{OptionName, name_text, seed, polls, window}

-- an option that takes one value, and a positional argument that must be there
abbrev pub option_rule : OptionName → Rule
option_rule name = record (new_rule (name_text name)) { long = Some (name_text name) }

abbrev pub positional_rule : List ℕ → Rule
positional_rule id = record (new_rule id) { required = true }

-- `run` and `replay`, without their options
abbrev pub positional_app : List ℕ → App
positional_app name = with_rule (with_rule (new_app name) (positional_rule (codes "prefix"))) (positional_rule (codes "api"))

-- `run` and `replay`
abbrev pub run_app : List ℕ → App
run_app name = with_rule (with_rule (with_rule (positional_app name) (option_rule seed)) (option_rule polls)) (option_rule window)

-- `gen`
abbrev pub gen_app : App
gen_app = with_rule (new_app (codes "gen")) (positional_rule (codes "workers"))

-- `watch`, `asm` and `disasm`, which have no argument
abbrev pub bare_app : List ℕ → App
bare_app name = new_app name

-- no program's name comes first, there are no words for help, and a command must be named
abbrev pub top_shape : Shape
top_shape = record (new_shape (codes "fdbtester")) {
  no_binary_name = true;
  disable_help_flag = true;
  disable_help_subcommand = true;
  subcommand_required = true;
}

abbrev pub run_program : App
run_program =
    with_subcommand (with_subcommand (record { top = top_shape; subs = [] }) (run_app (codes "run")).top)
    (run_app (codes "replay")).top

-- with `gen` and `watch`
abbrev pub watch_program : App
watch_program = with_subcommand (with_subcommand run_program gen_app.top) (bare_app (codes "watch")).top

-- with `asm` and `disasm`
abbrev pub program : App
program = with_subcommand (with_subcommand watch_program (bare_app (codes "asm")).top) (bare_app (codes "disasm")).top
