-- What `asm` and `disasm` make of their input.
use Rattle.std.specs.Prelude.{◌≡◌, ℕ, List, []}
use Rattle.model_lines.specs.Inputs.{pair_lines}
use Rattle.model_lines.specs.Reading.{Entry}
use Rattle.dump_text.specs.Reading.{Fails}
use Rattle.model_input.specs.declared.input.Form.TheVariants as form
use Rattle.model_input.specs.declared.input.Input.{Input}
use Rattle.model_input.specs.Forms.{input_of, IsInputOf}
use Rattle.instr_grammar.specs.Texts.{Section, AreSections, IsTextOf, asm, text_of}
use Rattle.instr_text.specs.declared.fault.DisFault.TheVariants as faults
use Rattle.instr_text.specs.Taken.{IsFirstBad}
use Rattle.text_commands.specs.declared.fault.TextFault.{TextFault}
use Rattle.text_commands.specs.declared.fault.TextFault.TheVariants as text

-- the lines are those of the pairs that an instruction text stands for, in the order of the text
pub record IsAssembled (bytes lines : List ℕ) : Type 0 where
  pub sections : List Section
  pub is_text : IsTextOf bytes sections
  pub lines_are : lines ≡ pair_lines (asm sections)

-- an input that has pairs and no order
abbrev pub of_pairs : List Entry → Input
of_pairs pairs = record { order = []; pairs = pairs }

-- the text is that of sections, and the bytes are the lines of the pairs that they stand for
pub record IsDisassembled (bytes lines : List ℕ) : Type 0 where
  pub sections : List Section
  pub are_sections : AreSections sections
  pub is_input : IsInputOf form.Run bytes (of_pairs (asm sections))
  pub text_is : lines ≡ text_of sections

-- the bytes are lines of pairs, of which this line has the first that can't follow in what any text stands for
pub record HasBadPair (bytes : List ℕ) (line : ℕ) : Type 0 where
  pub pairs : List Entry
  pub is_input : IsInputOf form.Run bytes (of_pairs pairs)
  pub is_bad : IsFirstBad pairs line

-- why lines are not taken apart: the first fault of a line, or the first pair that can't follow; want of memory has no cause
abbrev pub IsDisasmFault : List ℕ → TextFault → Type 0
IsDisasmFault bytes (text.Line fault) = Fails fault (input_of form.Run bytes)
IsDisasmFault bytes (text.Pair (faults.NotInstruction line)) = HasBadPair bytes line
IsDisasmFault bytes (text.Pair faults.NoMemory) = Unit {0}
