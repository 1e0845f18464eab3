-- The premise of `complete`, met by worked words and bytes.
use Rattle.std.proofs.Common.{◌≡◌, ◌∷◌, ℕ, List, [], Some, None, Ok, Err, codes, refl, sym, ◌∙◌}
use Rattle.model_database.specs.declared.Api.TheVariants.{V630}
use Rattle.model_commands.specs.declared.args.RunArgs.{RunArgs}
use Rattle.model_commands.specs.declared.args.Args.TheVariants as args
use Rattle.model_commands.specs.Grammar.{args_of}
use Rattle.model_input.specs.declared.input.Form.TheVariants as form
use Rattle.model_input.specs.declared.input.Input.{Input}
use Rattle.model_input.specs.Forms.{input_of}
use Rattle.model_lines.specs.Reading.{Fault, lines_of, read_line, read_lines, pair_at, text_of, pieces, piece_at}
use Rattle.model_lines.specs.Printing.{printable}
use Rattle.tester_run.specs.Faults.{InputFault, InLine, NoRequest, EndsEarly, NotInstruction, HasFault}
use Rattle.tester_run.specs.Outcomes.{IsLawful}
use Rattle.tester_run.proofs.Tops.{no_rise}

abbrev asked : RunArgs
asked = record { prefix = codes "p"; api = V630; seed = 0; polls = 10000; window = None }

not_both : (bytes : List ℕ) (input : Input) (fault : Fault) → input_of form.Run bytes ≡ Ok input → input_of form.Run bytes ≡ Err fault → ⊥
not_both bytes input fault read failed = let both : Ok input ≡ Err fault = sym read ∙ failed in cc

-- run p 630 is lawful over all bytes that are an input
lawful_run : (bytes : List ℕ) (input : Input) → input_of form.Run bytes ≡ Ok input
    → IsLawful (args_of (codes "run" ∷ codes "p" ∷ codes "630" ∷ [])) (Some bytes) 0 0 0 0
lawful_run bytes input read = record {
  its_args = args.Run asked;
  words = refl;
  input = λ reads. record { bytes = bytes; told = refl; faultless = faultless; read = no_rise };
  written = no_rise;
}
  where
    faultless : (fault : InputFault) → HasFault (args.Run asked) bytes fault → ⊥
    faultless (InLine fault) failed = not_both bytes input fault read failed
    faultless (NoRequest place machine) failed = elim failed [ ]
    faultless EndsEarly failed = elim failed [ ]
    faultless (NotInstruction number) failed = elim failed [ ]

no_line : IsLawful (args_of (codes "run" ∷ codes "p" ∷ codes "630" ∷ [])) (Some []) 0 0 0 0
unfolding input_of read_lines lines_of
no_line = lawful_run [] (record { order = []; pairs = [] }) refl

one_pair : IsLawful (args_of (codes "run" ∷ codes "p" ∷ codes "630" ∷ [])) (Some (codes "K a\\=b\n")) 0 0 0 0
unfolding input_of lines_of read_lines read_line pair_at text_of pieces piece_at printable
one_pair = lawful_run (codes "K a\\=b\n") (record { order = []; pairs = (codes "a", codes "b") ∷ [] }) refl
