-- A line on err, and how it comes to stand there.
use Rattle.std.specs.Prelude.{ℕ, List, [], ◌∷◌, ◌++◌, Option, ◌⊎◌, codes}
use Rattle.std.specs.Io.KnownBytes.{Appends}
use Rattle.outside.specs.Counts.{Rose}
use Rattle.outside.specs.Streams.{AppendsFront}
use Rattle.model_lines.specs.Printing.{line_feed}

-- the name of the program, a text and a line feed
abbrev pub told : List ℕ → List ℕ
told text = codes "fdbtester: " ++ text ++ line_feed ∷ []

-- bytes stand behind those that were written before; or a front of them, where a write failed
abbrev pub IsWritten : List ℕ → Option (List ℕ) → Option (List ℕ) → ℕ → ℕ → Type 0
IsWritten bytes before after faults faults_after =
    Appends before after bytes ⊎ (AppendsFront before after bytes × Rose faults faults_after)

abbrev pub IsTold : List ℕ → Option (List ℕ) → Option (List ℕ) → ℕ → ℕ → Type 0
IsTold text before after faults faults_after = IsWritten (told text) before after faults faults_after
