-- The arguments of the run of `gen`.
use Rattle.std.specs.Prelude.{None}
use Rattle.model_database.specs.declared.Api.TheVariants.{V630}
use Rattle.model_commands.specs.declared.args.RunArgs.{RunArgs}
use Rattle.generator.specs.Generated.{main_prefix}

-- what `gen` makes is run under the prefix of main and API version 630, with seed 0
abbrev pub gen_arguments : RunArgs
gen_arguments = record { prefix = main_prefix; api = V630; seed = 0; polls = 10000; window = None }
