-- Worked rows of the places of faults.
use Rattle.std.proofs.Common.{◌≡◌, ◌++◌, ◌∷◌, [], Ok, Err, refl}
use Rattle.std.specs.Prelude.{codes}
use Rattle.model_lines.specs.Reading.{BadLine, lines_of}
use Rattle.dump_text.specs.declared.line.Line.TheVariants as line
use Rattle.dump_reading.specs.Fields.{behind, value_after, number_at, number_field, end_at, end_field, word_at, word_field}
use Rattle.dump_reading.specs.Dumps.{machine_fields, item_fields, error_fields, order_fields, value_at, read_line, read_lines, dump_in}

cut_behind_the_end : dump_in (codes "M 0 ended") ≡ Err (BadLine 1 9)
unfolding dump_in read_lines read_line value_at machine_fields number_field number_at value_after end_field end_at behind lines_of
cut_behind_the_end = refl

leading_zero : dump_in (codes "O 07") ≡ Err (BadLine 1 3)
unfolding dump_in read_lines read_line value_at order_fields number_field number_at value_after behind lines_of
leading_zero = refl

machine_too_great : dump_in (codes "S 65536x") ≡ Err (BadLine 1 2)
unfolding dump_in read_lines read_line value_at item_fields number_field number_at value_after behind lines_of
machine_too_great = refl

no_word : dump_in (codes "E 1 2 ") ≡ Err (BadLine 1 6)
unfolding dump_in read_lines read_line value_at error_fields number_field number_at value_after word_field word_at behind lines_of
no_word = refl

kinds_out_of_order : dump_in (codes "O 1" ++ 10 ∷ codes "E 1 2 1020" ++ 10 ∷ []) ≡ Err (BadLine 2 0)
unfolding dump_in read_lines read_line value_at order_fields number_field number_at value_after behind lines_of
kinds_out_of_order = refl

one_place : dump_in (codes "O 63" ++ 10 ∷ []) ≡ Ok (line.O 63 ∷ [])
unfolding dump_in read_lines read_line value_at order_fields number_field number_at value_after behind lines_of
one_place = refl

place_too_great : dump_in (codes "O 64" ++ 10 ∷ []) ≡ Err (BadLine 1 2)
unfolding dump_in read_lines read_line value_at order_fields number_field number_at value_after behind lines_of
place_too_great = refl
