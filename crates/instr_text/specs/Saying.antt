-- What the program answers of a line.
use Rattle.std.specs.Prelude.{◌≡◌, ℕ, ◌-◌, Result, Ok, Err}
use Rattle.model_lines.specs.Reading.{Fault}
use Rattle.dump_text.specs.declared.fault.LineFault.{LineFault}
use Rattle.dump_text.specs.declared.fault.LineFault.TheVariants as errors
use Rattle.dump_text.specs.Reading.{Fails}
use Rattle.dump_reading.specs.declared.field.FieldFault.{FieldFault}
use Rattle.dump_reading.specs.declared.field.FieldFault.TheVariants as faults
use Rattle.instr_grammar.specs.Texts.{Instruction, packed}
use Rattle.instr_grammar.specs.Lines as lines
use Rattle.instr_text.specs.declared.line.Said.{Said}
use Rattle.instr_text.specs.declared.line.Said.TheVariants as said

-- the fault of a line of this number and length
abbrev pub fault_at : ℕ → ℕ → FieldFault → LineFault
fault_at number len (faults.Bad left) = errors.BadLine number (len - left)
fault_at number len faults.NoMemory = errors.NoMemory

-- a prefix, or an instruction by its packed tuple
abbrev pub IsSaid : Said → lines.Said → Type 0
IsSaid (said.Begins prefix) told = told ≡ lines.Begins prefix
IsSaid (said.Packs value) told = (one : Instruction) × ((told ≡ lines.Does one) × (value ≡ packed one))

-- what a function returned is what reading gives, unless memory ran out
abbrev pub Says : Result Said LineFault → Result lines.Said Fault → Type 0
Says (Ok its_said) read = (told : lines.Said) × ((read ≡ Ok told) × IsSaid its_said told)
Says (Err fault) read = Fails fault read
