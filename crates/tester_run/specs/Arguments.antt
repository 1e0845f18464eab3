-- What a command asks for.
use Rattle.std.specs.Prelude.{Bool, true, false, Option, Some, None}
use Rattle.model_commands.specs.declared.args.RunArgs.{RunArgs}
use Rattle.model_commands.specs.declared.args.Args.{Args}
use Rattle.model_commands.specs.declared.args.Args.TheVariants.{Run, Replay, Gen, Watch, Asm, Disasm}
use Rattle.machine_runs.specs.Arguments.{gen_arguments}

-- the arguments of its run; the commands on text run no machine
abbrev pub arguments_of : Args → Option RunArgs
arguments_of (Run arguments) = Some arguments
arguments_of (Replay arguments) = Some arguments
arguments_of (Gen workers) = Some gen_arguments
arguments_of Watch = None
arguments_of Asm = None
arguments_of Disasm = None

-- whether it reads an input; `gen` reads nothing
abbrev pub reads_input : Args → Bool
reads_input (Run arguments) = true
reads_input (Replay arguments) = true
reads_input (Gen workers) = false
reads_input Watch = true
reads_input Asm = true
reads_input Disasm = true
