-- Where the program stands in a text.
use Rattle.std.specs.Prelude.{◌≡◌, ℕ, ◌==◌, not, true, false, List, ◌++◌, length}
use Rattle.std.specs.FinMap.{contains_key}
use Rattle.fdb_tuple.specs.Tuples.{Bytes, Empty, Single}
use Rattle.fdb_tuple.specs.Spelling.{spelling}
use Rattle.instr_grammar.specs.Names.{is_among}
use Rattle.model_lines.specs.Reading.{Line, Entry}
use Rattle.instr_grammar.specs.Lines.{Place, Said, Begins, Does, first_of, next_place, pairs_of}
use Rattle.instr_text.specs.declared.sections.Sections.{Sections}

-- the program's sections are those of a place
pub record IsAt (sections : Sections) (place : Place) : Type 0 where
  pub came : (prefix : List ℕ) → contains_key sections.came prefix ≡ is_among prefix place.prefixes
  pub open_is : sections.is_open ≡ not (length place.prefixes == 0)
  pub head : sections.is_open ≡ true → sections.head ≡ spelling (Single (Bytes (first_of place.prefixes)) Empty)
  pub index : sections.index ≡ place.index
  pub instructions : sections.instructions ≡ place.instructions

-- an instruction stands in a section
abbrev pub IsInside : Place → Said → Type 0
IsInside place (Begins prefix) = Unit {0}
IsInside place (Does one) = (length place.prefixes == 0) ≡ false

-- what a line says was taken: its pairs stand behind those that were there
pub record HasTaken (sections : Sections) (before after : List Entry) (place : Place) (line : Line) (said : Said) : Type 0 where
  pub stands : IsAt sections (next_place place line said)
  pub pairs : after ≡ before ++ pairs_of place said
