-- What each command answers over the bytes that the source had, where it tells them: its order, what it writes, and the status where that
-- was written whole.
use Rattle.std.specs.Prelude.{◌≡◌, ℕ, List, [], Option, IfSome, Ok}
use Rattle.std.specs.List.{AllByRecursion}
use Rattle.model_lines.specs.Inputs.{IsSmall}
use Rattle.model_commands.specs.declared.args.RunArgs.{RunArgs}
use Rattle.model_commands.specs.declared.args.Args.{Args}
use Rattle.model_commands.specs.declared.args.Args.TheVariants as args
use Rattle.generator.specs.Generated.{gen_pairs}
use Rattle.model_input.specs.declared.input.Form.{Form}
use Rattle.model_input.specs.declared.input.Form.TheVariants as form
use Rattle.model_input.specs.declared.input.Input.{Input}
use Rattle.model_input.specs.Forms.{input_of}
use Rattle.model_machine.specs.Runs.{AreByTurns}
use Rattle.text_commands.specs.Firings.{IsWatched}
use Rattle.text_commands.specs.Texts.{IsAssembled, IsDisassembled}
use Rattle.machine_runs.specs.Arguments.{gen_arguments}
use Rattle.machine_runs.specs.Outputs.{Dumps, Sums}

-- they say this input by a form, and an input may have these pairs
pub record IsRead (its_form : Form) (left : Option (List ℕ)) (input : Input) : Type 0 where
  pub is : IfSome left (λ bytes. input_of its_form bytes ≡ Ok input)
  pub small : AllByRecursion IsSmall input.pairs

-- of `run`: its order is the one in which requests were taken, whichever it was
pub record IsOfRun (left : Option (List ℕ)) (arguments : RunArgs) (order output : List ℕ) (status : ℕ) : Type 0 where
  pub input : Input
  pub read : IsRead form.Run left input
  pub dumps : Dumps input.pairs arguments order output status

-- of `replay`: its order is the one that it was given
pub record IsOfReplay (left : Option (List ℕ)) (arguments : RunArgs) (order output : List ℕ) (status : ℕ) : Type 0 where
  pub input : Input
  pub read : IsRead form.Replay left input
  pub dumps : Dumps input.pairs arguments order output status
  pub given : order ≡ input.order

-- of `gen`: its pairs are made for so many workers, and its order is by turns
pub record IsOfGen (workers : ℕ) (order output : List ℕ) (status : ℕ) : Type 0 where
  pub small : AllByRecursion IsSmall (gen_pairs workers)
  pub sums : Sums (gen_pairs workers) gen_arguments order output status
  pub turns : AreByTurns (gen_pairs workers) gen_arguments order

-- of a command on text: what the bytes become; it has no order
pub record IsOfText (left : Option (List ℕ)) (Becomes : List ℕ → List ℕ → Type 0) (order output : List ℕ) (status : ℕ) : Type 0 where
  pub bytes : List ℕ
  pub are_all : IfSome left (λ all. all ≡ bytes)
  pub becomes : Becomes bytes output
  pub no_order : order ≡ []
  pub status_is : status ≡ 0

abbrev pub Answers : (left : Option (List ℕ)) → (asked : Args) → (order output : List ℕ) → (status : ℕ) → Type 0
Answers left (args.Run arguments) order output status = IsOfRun left arguments order output status
Answers left (args.Replay arguments) order output status = IsOfReplay left arguments order output status
Answers left (args.Gen workers) order output status = IsOfGen workers order output status
Answers left args.Watch order output status = IsOfText left IsWatched order output status
Answers left args.Asm order output status = IsOfText left IsAssembled order output status
Answers left args.Disasm order output status = IsOfText left IsDisassembled order output status
