-- Pairs, and what the definitions compute for them: the text that they are taken apart as, or the first that can't follow.
use Rattle.std.proofs.Common.{◌≡◌, ℕ, List, ◌++◌, ◌∷◌, [], Ok, Err, pos, refl}
use Rattle.std.specs.Prelude.{codes}
use Rattle.std.specs.Str.{is_utf8, chars}
use Rattle.std.specs.Char.{encode_utf8}
use Rattle.model_lines.specs.Printing.{printable}
use Rattle.model_lines.specs.Reading.{Entry}
use Rattle.key_bytes.specs.Numbers.{number_low}
use Rattle.fdb_tuple.specs.Tuples.{Bytes, Text, Int, Empty, Single}
use Rattle.fdb_tuple.specs.Reading as tuples
use Rattle.fdb_tuple.specs.Reading.{read_tuple, elements_at, piece_at, coded_at, string_at, short_at}
use Rattle.fdb_tuple.specs.Kinds.{kind_of}
use Rattle.fdb_tuple.specs.Spelling.{spelling, signed_spelled, least_bytes, low_first}
use Rattle.instr_grammar.specs.Names.{names}
use Rattle.instr_grammar.specs.Texts.{instruction_key}
use Rattle.instr_grammar.specs.Taking.{step, take_pairs, disassembled}

-- the pair of an instruction without element
abbrev pair : List ℕ → ℕ → List ℕ → Entry
pair prefix i name = (instruction_key prefix i, spelling (Single (Text name) Empty))

no_instruction : disassembled ((codes "a", codes "b") ∷ []) ≡ Err 1
unfolding disassembled take_pairs step read_tuple elements_at piece_at coded_at kind_of
no_instruction = refl

text_again : disassembled (pair (codes "p") 0 (codes "SET") ∷ pair (codes "p") 1 (codes "COMMIT") ∷ [])
    ≡ Ok (codes "@ p" ++ 10 ∷ codes "SET" ++ 10 ∷ codes "COMMIT" ++ 10 ∷ [])
unfolding disassembled take_pairs step read_tuple elements_at piece_at coded_at kind_of tuples.bytes_at tuples.text_at string_at short_at number_low is_utf8 chars encode_utf8 signed_spelled least_bytes low_first names printable
text_again = refl

index_left_out : disassembled (pair (codes "p") 0 (codes "SET") ∷ pair (codes "p") 2 (codes "COMMIT") ∷ []) ≡ Err 2
unfolding disassembled take_pairs step read_tuple elements_at piece_at coded_at kind_of tuples.bytes_at tuples.text_at string_at short_at number_low is_utf8 chars encode_utf8 signed_spelled least_bytes low_first names printable
index_left_out = refl

prefix_comes_back : disassembled (pair (codes "p") 0 (codes "SET") ∷ pair (codes "q") 0 (codes "SET") ∷ pair (codes "p") 0 (codes "SET") ∷ []) ≡ Err 3
unfolding disassembled take_pairs step read_tuple elements_at piece_at coded_at kind_of tuples.bytes_at tuples.text_at string_at short_at number_low is_utf8 chars encode_utf8 signed_spelled least_bytes low_first names printable
prefix_comes_back = refl

further_element : disassembled ((spelling (Single (Bytes (codes "p")) (Single (Int (pos 0)) (Single (Int (pos 0)) Empty))), spelling (Single (Text (codes "SET")) Empty)) ∷ []) ≡ Err 1
unfolding disassembled take_pairs step read_tuple elements_at piece_at coded_at kind_of tuples.bytes_at tuples.text_at string_at short_at number_low is_utf8 chars encode_utf8 signed_spelled least_bytes low_first names printable
further_element = refl

name_as_a_byte_string : disassembled ((instruction_key (codes "p") 0, spelling (Single (Bytes (codes "SET")) Empty)) ∷ []) ≡ Err 1
unfolding disassembled take_pairs step read_tuple elements_at piece_at coded_at kind_of tuples.bytes_at tuples.text_at string_at short_at number_low is_utf8 chars encode_utf8 signed_spelled least_bytes low_first names printable
name_as_a_byte_string = refl
