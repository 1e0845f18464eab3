-- Texts, and what the definitions compute for them: the place of each fault, and the pairs of a text.
use Rattle.std.proofs.Common.{◌≡◌, ℕ, List, ◌++◌, ◌∷◌, [], Ok, Err, refl}
use Rattle.std.specs.Prelude.{codes, flat_map, replicate}
use Rattle.std.specs.Str.{is_utf8, chars}
use Rattle.std.specs.Char.{encode_utf8}
use Rattle.std.specs.Str.Lossy.{utf8_valid_len, utf8_error_len}
use Rattle.model_lines.specs.Printing.{printable}
use Rattle.model_lines.specs.Reading.{BadLine, lines_of}
use Rattle.dump_reading.specs.Fields.{behind, value_after, number_at}
use Rattle.dump_reading.specs.Spellings.{byte_at}
use Rattle.fdb_tuple.specs.Spelling.{signed_spelled, least_bytes, low_first}
use Rattle.instr_grammar.specs.Names.{names}
use Rattle.instr_grammar.specs.Reading.{run_up_to, run_of, digits_at, hexadecimal_at, bytes_at, text_at, uuid_at, stamp_at, positive_at, negative_at, scalar_at, element_part, next_part, elements_at, operand_at, instruction_at, prefix_at}
use Rattle.instr_grammar.specs.Lines.{said_at, read_line, read_lines, assembled}

-- each text with a line feed behind it
abbrev lines : List (List ℕ) → List ℕ
lines texts = flat_map (λ text. text ++ 10 ∷ []) texts

-- ---- faults, by their line and their place

minus_zero : assembled (lines (codes "@ p" ∷ codes "PUSH -0" ∷ [])) ≡ Err (BadLine 2 6)
unfolding assembled read_lines read_line said_at lines_of prefix_at instruction_at behind operand_at element_part next_part elements_at scalar_at bytes_at text_at uuid_at stamp_at positive_at negative_at hexadecimal_at digits_at number_at value_after run_of run_up_to byte_at names printable is_utf8 chars encode_utf8 utf8_valid_len utf8_error_len signed_spelled least_bytes low_first
minus_zero = refl

two_leading_zeros : assembled (lines (codes "@ p" ∷ codes "PUSH 007" ∷ [])) ≡ Err (BadLine 2 6)
unfolding assembled read_lines read_line said_at lines_of prefix_at instruction_at behind operand_at element_part next_part elements_at scalar_at bytes_at text_at uuid_at stamp_at positive_at negative_at hexadecimal_at digits_at number_at value_after run_of run_up_to byte_at names printable is_utf8 chars encode_utf8 utf8_valid_len utf8_error_len signed_spelled least_bytes low_first
two_leading_zeros = refl

leading_zero : assembled (lines (codes "@ p" ∷ codes "PUSH 07" ∷ [])) ≡ Err (BadLine 2 6)
unfolding assembled read_lines read_line said_at lines_of prefix_at instruction_at behind operand_at element_part next_part elements_at scalar_at bytes_at text_at uuid_at stamp_at positive_at negative_at hexadecimal_at digits_at number_at value_after run_of run_up_to byte_at names printable is_utf8 chars encode_utf8 utf8_valid_len utf8_error_len signed_spelled least_bytes low_first
leading_zero = refl

minus_alone : assembled (lines (codes "@ p" ∷ codes "PUSH -" ∷ [])) ≡ Err (BadLine 2 6)
unfolding assembled read_lines read_line said_at lines_of prefix_at instruction_at behind operand_at element_part next_part elements_at scalar_at bytes_at text_at uuid_at stamp_at positive_at negative_at hexadecimal_at digits_at number_at value_after run_of run_up_to byte_at names printable is_utf8 chars encode_utf8 utf8_valid_len utf8_error_len signed_spelled least_bytes low_first
minus_alone = refl

plus_sign : assembled (lines (codes "@ p" ∷ codes "PUSH +1" ∷ [])) ≡ Err (BadLine 2 5)
unfolding assembled read_lines read_line said_at lines_of prefix_at instruction_at behind operand_at element_part next_part elements_at scalar_at bytes_at text_at uuid_at stamp_at positive_at negative_at hexadecimal_at digits_at number_at value_after run_of run_up_to byte_at names printable is_utf8 chars encode_utf8 utf8_valid_len utf8_error_len signed_spelled least_bytes low_first
plus_sign = refl

past_the_greatest : assembled (lines (codes "@ p" ∷ codes "PUSH 170141183460469231731687303715884105728x" ∷ [])) ≡ Err (BadLine 2 5)
unfolding assembled read_lines read_line said_at lines_of prefix_at instruction_at behind operand_at element_part next_part elements_at scalar_at bytes_at text_at uuid_at stamp_at positive_at negative_at hexadecimal_at digits_at number_at value_after run_of run_up_to byte_at names printable is_utf8 chars encode_utf8 utf8_valid_len utf8_error_len signed_spelled least_bytes low_first
past_the_greatest = refl

past_the_least : assembled (lines (codes "@ p" ∷ codes "PUSH -170141183460469231731687303715884105729x" ∷ [])) ≡ Err (BadLine 2 5)
unfolding assembled read_lines read_line said_at lines_of prefix_at instruction_at behind operand_at element_part next_part elements_at scalar_at bytes_at text_at uuid_at stamp_at positive_at negative_at hexadecimal_at digits_at number_at value_after run_of run_up_to byte_at names printable is_utf8 chars encode_utf8 utf8_valid_len utf8_error_len signed_spelled least_bytes low_first
past_the_least = refl

forty_digits_and_no_line_feed : assembled (lines (codes "@ p" ∷ []) ++ codes "PUSH 1234567890123456789012345678901234567890") ≡ Err (BadLine 2 5)
unfolding assembled read_lines read_line said_at lines_of prefix_at instruction_at behind operand_at element_part next_part elements_at scalar_at bytes_at text_at uuid_at stamp_at positive_at negative_at hexadecimal_at digits_at number_at value_after run_of run_up_to byte_at names printable is_utf8 chars encode_utf8 utf8_valid_len utf8_error_len signed_spelled least_bytes low_first
forty_digits_and_no_line_feed = refl

never_becomes_utf8 : assembled (lines (codes "@ p" ∷ codes "PUSH u'\\xff\\q'" ∷ [])) ≡ Err (BadLine 2 5)
unfolding assembled read_lines read_line said_at lines_of prefix_at instruction_at behind operand_at element_part next_part elements_at scalar_at bytes_at text_at uuid_at stamp_at positive_at negative_at hexadecimal_at digits_at number_at value_after run_of run_up_to byte_at names printable is_utf8 chars encode_utf8 utf8_valid_len utf8_error_len signed_spelled least_bytes low_first
never_becomes_utf8 = refl

may_become_utf8 : assembled (lines (codes "@ p" ∷ codes "PUSH u'\\xc3\\q'" ∷ [])) ≡ Err (BadLine 2 11)
unfolding assembled read_lines read_line said_at lines_of prefix_at instruction_at behind operand_at element_part next_part elements_at scalar_at bytes_at text_at uuid_at stamp_at positive_at negative_at hexadecimal_at digits_at number_at value_after run_of run_up_to byte_at names printable is_utf8 chars encode_utf8 utf8_valid_len utf8_error_len signed_spelled least_bytes low_first
may_become_utf8 = refl

surrogate : assembled (lines (codes "@ p" ∷ codes "PUSH u'\\xed\\xa0\\q'" ∷ [])) ≡ Err (BadLine 2 5)
unfolding assembled read_lines read_line said_at lines_of prefix_at instruction_at behind operand_at element_part next_part elements_at scalar_at bytes_at text_at uuid_at stamp_at positive_at negative_at hexadecimal_at digits_at number_at value_after run_of run_up_to byte_at names printable is_utf8 chars encode_utf8 utf8_valid_len utf8_error_len signed_spelled least_bytes low_first
surrogate = refl

not_utf8_as_a_whole : assembled (lines (codes "@ p" ∷ codes "PUSH u'\\xc3'" ∷ [])) ≡ Err (BadLine 2 5)
unfolding assembled read_lines read_line said_at lines_of prefix_at instruction_at behind operand_at element_part next_part elements_at scalar_at bytes_at text_at uuid_at stamp_at positive_at negative_at hexadecimal_at digits_at number_at value_after run_of run_up_to byte_at names printable is_utf8 chars encode_utf8 utf8_valid_len utf8_error_len signed_spelled least_bytes low_first
not_utf8_as_a_whole = refl

not_utf8_and_cut : assembled (lines (codes "@ p" ∷ codes "PUSH u'\\xff" ∷ [])) ≡ Err (BadLine 2 5)
unfolding assembled read_lines read_line said_at lines_of prefix_at instruction_at behind operand_at element_part next_part elements_at scalar_at bytes_at text_at uuid_at stamp_at positive_at negative_at hexadecimal_at digits_at number_at value_after run_of run_up_to byte_at names printable is_utf8 chars encode_utf8 utf8_valid_len utf8_error_len signed_spelled least_bytes low_first
not_utf8_and_cut = refl

upper_case_escape : assembled (lines (codes "@ p" ∷ codes "PUSH b'\\xFF'" ∷ [])) ≡ Err (BadLine 2 7)
unfolding assembled read_lines read_line said_at lines_of prefix_at instruction_at behind operand_at element_part next_part elements_at scalar_at bytes_at text_at uuid_at stamp_at positive_at negative_at hexadecimal_at digits_at number_at value_after run_of run_up_to byte_at names printable is_utf8 chars encode_utf8 utf8_valid_len utf8_error_len signed_spelled least_bytes low_first
upper_case_escape = refl

needless_escape : assembled (lines (codes "@ p" ∷ codes "PUSH b'\\x41'" ∷ [])) ≡ Err (BadLine 2 7)
unfolding assembled read_lines read_line said_at lines_of prefix_at instruction_at behind operand_at element_part next_part elements_at scalar_at bytes_at text_at uuid_at stamp_at positive_at negative_at hexadecimal_at digits_at number_at value_after run_of run_up_to byte_at names printable is_utf8 chars encode_utf8 utf8_valid_len utf8_error_len signed_spelled least_bytes low_first
needless_escape = refl

half_an_escape : assembled (lines (codes "@ p" ∷ codes "PUSH b'\\x4" ∷ [])) ≡ Err (BadLine 2 7)
unfolding assembled read_lines read_line said_at lines_of prefix_at instruction_at behind operand_at element_part next_part elements_at scalar_at bytes_at text_at uuid_at stamp_at positive_at negative_at hexadecimal_at digits_at number_at value_after run_of run_up_to byte_at names printable is_utf8 chars encode_utf8 utf8_valid_len utf8_error_len signed_spelled least_bytes low_first
half_an_escape = refl

separator_in_a_prefix : assembled (lines (codes "@ a\\=b" ∷ [])) ≡ Err (BadLine 1 3)
unfolding assembled read_lines read_line said_at lines_of prefix_at instruction_at behind operand_at element_part next_part elements_at scalar_at bytes_at text_at uuid_at stamp_at positive_at negative_at hexadecimal_at digits_at number_at value_after run_of run_up_to byte_at names printable is_utf8 chars encode_utf8 utf8_valid_len utf8_error_len signed_spelled least_bytes low_first
separator_in_a_prefix = refl

quote_left_open : assembled (lines (codes "@ p" ∷ codes "PUSH b'v" ∷ [])) ≡ Err (BadLine 2 8)
unfolding assembled read_lines read_line said_at lines_of prefix_at instruction_at behind operand_at element_part next_part elements_at scalar_at bytes_at text_at uuid_at stamp_at positive_at negative_at hexadecimal_at digits_at number_at value_after run_of run_up_to byte_at names printable is_utf8 chars encode_utf8 utf8_valid_len utf8_error_len signed_spelled least_bytes low_first
quote_left_open = refl

upper_case_uuid : assembled (lines (codes "@ p" ∷ codes "PUSH uuid:0123456789ABCDEF0123456789abcdef" ∷ [])) ≡ Err (BadLine 2 20)
unfolding assembled read_lines read_line said_at lines_of prefix_at instruction_at behind operand_at element_part next_part elements_at scalar_at bytes_at text_at uuid_at stamp_at positive_at negative_at hexadecimal_at digits_at number_at value_after run_of run_up_to byte_at names printable is_utf8 chars encode_utf8 utf8_valid_len utf8_error_len signed_spelled least_bytes low_first
upper_case_uuid = refl

short_uuid : assembled (lines (codes "@ p" ∷ codes "PUSH uuid:01234567 " ∷ [])) ≡ Err (BadLine 2 18)
unfolding assembled read_lines read_line said_at lines_of prefix_at instruction_at behind operand_at element_part next_part elements_at scalar_at bytes_at text_at uuid_at stamp_at positive_at negative_at hexadecimal_at digits_at number_at value_after run_of run_up_to byte_at names printable is_utf8 chars encode_utf8 utf8_valid_len utf8_error_len signed_spelled least_bytes low_first
short_uuid = refl

user_order_past_16_bits : assembled (lines (codes "@ p" ∷ codes "PUSH stamp:00000000000000000000.65536" ∷ [])) ≡ Err (BadLine 2 32)
unfolding assembled read_lines read_line said_at lines_of prefix_at instruction_at behind operand_at element_part next_part elements_at scalar_at bytes_at text_at uuid_at stamp_at positive_at negative_at hexadecimal_at digits_at number_at value_after run_of run_up_to byte_at names printable is_utf8 chars encode_utf8 utf8_valid_len utf8_error_len signed_spelled least_bytes low_first
user_order_past_16_bits = refl

user_order_with_a_zero_in_front : assembled (lines (codes "@ p" ∷ codes "PUSH stamp:00000000000000000000.07" ∷ [])) ≡ Err (BadLine 2 33)
unfolding assembled read_lines read_line said_at lines_of prefix_at instruction_at behind operand_at element_part next_part elements_at scalar_at bytes_at text_at uuid_at stamp_at positive_at negative_at hexadecimal_at digits_at number_at value_after run_of run_up_to byte_at names printable is_utf8 chars encode_utf8 utf8_valid_len utf8_error_len signed_spelled least_bytes low_first
user_order_with_a_zero_in_front = refl

wrong_word : assembled (lines (codes "@ p" ∷ codes "PUSH nul" ∷ [])) ≡ Err (BadLine 2 8)
unfolding assembled read_lines read_line said_at lines_of prefix_at instruction_at behind operand_at element_part next_part elements_at scalar_at bytes_at text_at uuid_at stamp_at positive_at negative_at hexadecimal_at digits_at number_at value_after run_of run_up_to byte_at names printable is_utf8 chars encode_utf8 utf8_valid_len utf8_error_len signed_spelled least_bytes low_first
wrong_word = refl

no_element : assembled (lines (codes "@ p" ∷ codes "PUSH " ∷ [])) ≡ Err (BadLine 2 5)
unfolding assembled read_lines read_line said_at lines_of prefix_at instruction_at behind operand_at element_part next_part elements_at scalar_at bytes_at text_at uuid_at stamp_at positive_at negative_at hexadecimal_at digits_at number_at value_after run_of run_up_to byte_at names printable is_utf8 chars encode_utf8 utf8_valid_len utf8_error_len signed_spelled least_bytes low_first
no_element = refl

two_elements : assembled (lines (codes "@ p" ∷ codes "PUSH 1 2" ∷ [])) ≡ Err (BadLine 2 6)
unfolding assembled read_lines read_line said_at lines_of prefix_at instruction_at behind operand_at element_part next_part elements_at scalar_at bytes_at text_at uuid_at stamp_at positive_at negative_at hexadecimal_at digits_at number_at value_after run_of run_up_to byte_at names printable is_utf8 chars encode_utf8 utf8_valid_len utf8_error_len signed_spelled least_bytes low_first
two_elements = refl

space_before_the_end : assembled (lines (codes "@ p" ∷ codes "PUSH (1 )" ∷ [])) ≡ Err (BadLine 2 8)
unfolding assembled read_lines read_line said_at lines_of prefix_at instruction_at behind operand_at element_part next_part elements_at scalar_at bytes_at text_at uuid_at stamp_at positive_at negative_at hexadecimal_at digits_at number_at value_after run_of run_up_to byte_at names printable is_utf8 chars encode_utf8 utf8_valid_len utf8_error_len signed_spelled least_bytes low_first
space_before_the_end = refl

two_spaces : assembled (lines (codes "@ p" ∷ codes "PUSH (1  2)" ∷ [])) ≡ Err (BadLine 2 8)
unfolding assembled read_lines read_line said_at lines_of prefix_at instruction_at behind operand_at element_part next_part elements_at scalar_at bytes_at text_at uuid_at stamp_at positive_at negative_at hexadecimal_at digits_at number_at value_after run_of run_up_to byte_at names printable is_utf8 chars encode_utf8 utf8_valid_len utf8_error_len signed_spelled least_bytes low_first
two_spaces = refl

space_behind_the_parenthesis : assembled (lines (codes "@ p" ∷ codes "PUSH ( 1)" ∷ [])) ≡ Err (BadLine 2 6)
unfolding assembled read_lines read_line said_at lines_of prefix_at instruction_at behind operand_at element_part next_part elements_at scalar_at bytes_at text_at uuid_at stamp_at positive_at negative_at hexadecimal_at digits_at number_at value_after run_of run_up_to byte_at names printable is_utf8 chars encode_utf8 utf8_valid_len utf8_error_len signed_spelled least_bytes low_first
space_behind_the_parenthesis = refl

tuple_left_open : assembled (lines (codes "@ p" ∷ codes "PUSH (1" ∷ [])) ≡ Err (BadLine 2 7)
unfolding assembled read_lines read_line said_at lines_of prefix_at instruction_at behind operand_at element_part next_part elements_at scalar_at bytes_at text_at uuid_at stamp_at positive_at negative_at hexadecimal_at digits_at number_at value_after run_of run_up_to byte_at names printable is_utf8 chars encode_utf8 utf8_valid_len utf8_error_len signed_spelled least_bytes low_first
tuple_left_open = refl

name_goes_on : assembled (lines (codes "@ p" ∷ codes "GETX" ∷ [])) ≡ Err (BadLine 2 3)
unfolding assembled read_lines read_line said_at lines_of prefix_at instruction_at behind operand_at element_part next_part elements_at scalar_at bytes_at text_at uuid_at stamp_at positive_at negative_at hexadecimal_at digits_at number_at value_after run_of run_up_to byte_at names printable is_utf8 chars encode_utf8 utf8_valid_len utf8_error_len signed_spelled least_bytes low_first
name_goes_on = refl

name_ends_early : assembled (lines (codes "@ p" ∷ codes "GET_" ∷ [])) ≡ Err (BadLine 2 4)
unfolding assembled read_lines read_line said_at lines_of prefix_at instruction_at behind operand_at element_part next_part elements_at scalar_at bytes_at text_at uuid_at stamp_at positive_at negative_at hexadecimal_at digits_at number_at value_after run_of run_up_to byte_at names printable is_utf8 chars encode_utf8 utf8_valid_len utf8_error_len signed_spelled least_bytes low_first
name_ends_early = refl

push_without_space : assembled (lines (codes "@ p" ∷ codes "PUSH" ∷ [])) ≡ Err (BadLine 2 4)
unfolding assembled read_lines read_line said_at lines_of prefix_at instruction_at behind operand_at element_part next_part elements_at scalar_at bytes_at text_at uuid_at stamp_at positive_at negative_at hexadecimal_at digits_at number_at value_after run_of run_up_to byte_at names printable is_utf8 chars encode_utf8 utf8_valid_len utf8_error_len signed_spelled least_bytes low_first
push_without_space = refl

element_where_none_is : assembled (lines (codes "@ p" ∷ codes "SET x" ∷ [])) ≡ Err (BadLine 2 3)
unfolding assembled read_lines read_line said_at lines_of prefix_at instruction_at behind operand_at element_part next_part elements_at scalar_at bytes_at text_at uuid_at stamp_at positive_at negative_at hexadecimal_at digits_at number_at value_after run_of run_up_to byte_at names printable is_utf8 chars encode_utf8 utf8_valid_len utf8_error_len signed_spelled least_bytes low_first
element_where_none_is = refl

two_endings : assembled (lines (codes "@ p" ∷ codes "GET_SNAPSHOT_DATABASE" ∷ [])) ≡ Err (BadLine 2 12)
unfolding assembled read_lines read_line said_at lines_of prefix_at instruction_at behind operand_at element_part next_part elements_at scalar_at bytes_at text_at uuid_at stamp_at positive_at negative_at hexadecimal_at digits_at number_at value_after run_of run_up_to byte_at names printable is_utf8 chars encode_utf8 utf8_valid_len utf8_error_len signed_spelled least_bytes low_first
two_endings = refl

lower_case_name : assembled (lines (codes "@ p" ∷ codes "set" ∷ [])) ≡ Err (BadLine 2 0)
unfolding assembled read_lines read_line said_at lines_of prefix_at instruction_at behind operand_at element_part next_part elements_at scalar_at bytes_at text_at uuid_at stamp_at positive_at negative_at hexadecimal_at digits_at number_at value_after run_of run_up_to byte_at names printable is_utf8 chars encode_utf8 utf8_valid_len utf8_error_len signed_spelled least_bytes low_first
lower_case_name = refl

empty_line : assembled (lines (codes "@ p" ∷ codes "" ∷ [])) ≡ Err (BadLine 2 0)
unfolding assembled read_lines read_line said_at lines_of prefix_at instruction_at behind operand_at element_part next_part elements_at scalar_at bytes_at text_at uuid_at stamp_at positive_at negative_at hexadecimal_at digits_at number_at value_after run_of run_up_to byte_at names printable is_utf8 chars encode_utf8 utf8_valid_len utf8_error_len signed_spelled least_bytes low_first
empty_line = refl

prefix_again : assembled (lines (codes "@ p" ∷ codes "SET" ∷ []) ++ codes "@ p") ≡ Err (BadLine 3 2)
unfolding assembled read_lines read_line said_at lines_of prefix_at instruction_at behind operand_at element_part next_part elements_at scalar_at bytes_at text_at uuid_at stamp_at positive_at negative_at hexadecimal_at digits_at number_at value_after run_of run_up_to byte_at names printable is_utf8 chars encode_utf8 utf8_valid_len utf8_error_len signed_spelled least_bytes low_first
prefix_again = refl

section_without_instruction : assembled (lines (codes "@ p" ∷ codes "@ q" ∷ [])) ≡ Err (BadLine 2 0)
unfolding assembled read_lines read_line said_at lines_of prefix_at instruction_at behind operand_at element_part next_part elements_at scalar_at bytes_at text_at uuid_at stamp_at positive_at negative_at hexadecimal_at digits_at number_at value_after run_of run_up_to byte_at names printable is_utf8 chars encode_utf8 utf8_valid_len utf8_error_len signed_spelled least_bytes low_first
section_without_instruction = refl

section_without_instruction_at_the_end : assembled (lines (codes "@ p" ∷ [])) ≡ Err (BadLine 2 0)
unfolding assembled read_lines read_line said_at lines_of prefix_at instruction_at behind operand_at element_part next_part elements_at scalar_at bytes_at text_at uuid_at stamp_at positive_at negative_at hexadecimal_at digits_at number_at value_after run_of run_up_to byte_at names printable is_utf8 chars encode_utf8 utf8_valid_len utf8_error_len signed_spelled least_bytes low_first
section_without_instruction_at_the_end = refl

no_instruction_in_the_line_behind : assembled (lines (codes "@ p" ∷ codes "frob" ∷ [])) ≡ Err (BadLine 2 0)
unfolding assembled read_lines read_line said_at lines_of prefix_at instruction_at behind operand_at element_part next_part elements_at scalar_at bytes_at text_at uuid_at stamp_at positive_at negative_at hexadecimal_at digits_at number_at value_after run_of run_up_to byte_at names printable is_utf8 chars encode_utf8 utf8_valid_len utf8_error_len signed_spelled least_bytes low_first
no_instruction_in_the_line_behind = refl

head_without_line_feed : assembled (codes "@ p") ≡ Err (BadLine 1 3)
unfolding assembled read_lines read_line said_at lines_of prefix_at instruction_at behind operand_at element_part next_part elements_at scalar_at bytes_at text_at uuid_at stamp_at positive_at negative_at hexadecimal_at digits_at number_at value_after run_of run_up_to byte_at names printable is_utf8 chars encode_utf8 utf8_valid_len utf8_error_len signed_spelled least_bytes low_first
head_without_line_feed = refl

no_head : assembled (lines (codes "SET" ∷ [])) ≡ Err (BadLine 1 0)
unfolding assembled read_lines read_line said_at lines_of prefix_at instruction_at behind operand_at element_part next_part elements_at scalar_at bytes_at text_at uuid_at stamp_at positive_at negative_at hexadecimal_at digits_at number_at value_after run_of run_up_to byte_at names printable is_utf8 chars encode_utf8 utf8_valid_len utf8_error_len signed_spelled least_bytes low_first
no_head = refl

no_space_behind_the_sign : assembled (lines (codes "@p" ∷ [])) ≡ Err (BadLine 1 1)
unfolding assembled read_lines read_line said_at lines_of prefix_at instruction_at behind operand_at element_part next_part elements_at scalar_at bytes_at text_at uuid_at stamp_at positive_at negative_at hexadecimal_at digits_at number_at value_after run_of run_up_to byte_at names printable is_utf8 chars encode_utf8 utf8_valid_len utf8_error_len signed_spelled least_bytes low_first
no_space_behind_the_sign = refl

too_deep : assembled (lines (codes "@ p" ∷ (codes "PUSH " ++ replicate 101 40) ∷ [])) ≡ Err (BadLine 2 105)
unfolding assembled read_lines read_line said_at lines_of prefix_at instruction_at behind operand_at element_part next_part elements_at scalar_at bytes_at text_at uuid_at stamp_at positive_at negative_at hexadecimal_at digits_at number_at value_after run_of run_up_to byte_at names printable is_utf8 chars encode_utf8 utf8_valid_len utf8_error_len signed_spelled least_bytes low_first
too_deep = refl

prefix_too_long : assembled (lines ((codes "@ " ++ replicate 1001 120) ∷ [])) ≡ Err (BadLine 1 1002)
unfolding assembled read_lines read_line said_at lines_of prefix_at instruction_at behind operand_at element_part next_part elements_at scalar_at bytes_at text_at uuid_at stamp_at positive_at negative_at hexadecimal_at digits_at number_at value_after run_of run_up_to byte_at names printable is_utf8 chars encode_utf8 utf8_valid_len utf8_error_len signed_spelled least_bytes low_first
prefix_too_long = refl

nothing : assembled [] ≡ Ok []
unfolding assembled read_lines lines_of
nothing = refl

-- ---- pairs

four_instructions : assembled (lines (codes "@ p" ∷ codes "PUSH b'v'" ∷ codes "PUSH b'k'" ∷ codes "SET" ∷ codes "COMMIT" ∷ []))
    ≡ Ok ((1 ∷ codes "p" ++ 0 ∷ 20 ∷ [], 2 ∷ codes "PUSH" ++ 0 ∷ 1 ∷ codes "v" ++ 0 ∷ [])
    ∷ (1 ∷ codes "p" ++ 0 ∷ 21 ∷ 1 ∷ [], 2 ∷ codes "PUSH" ++ 0 ∷ 1 ∷ codes "k" ++ 0 ∷ [])
    ∷ (1 ∷ codes "p" ++ 0 ∷ 21 ∷ 2 ∷ [], 2 ∷ codes "SET" ++ 0 ∷ [])
    ∷ (1 ∷ codes "p" ++ 0 ∷ 21 ∷ 3 ∷ [], 2 ∷ codes "COMMIT" ++ 0 ∷ []) ∷ [])
unfolding assembled read_lines read_line said_at lines_of prefix_at instruction_at behind operand_at element_part next_part elements_at scalar_at bytes_at text_at uuid_at stamp_at positive_at negative_at hexadecimal_at digits_at number_at value_after run_of run_up_to byte_at names printable is_utf8 chars encode_utf8 utf8_valid_len utf8_error_len signed_spelled least_bytes low_first
four_instructions = refl

nested_tuples : assembled (lines (codes "@ p" ∷ codes "PUSH (null u'x' ())" ∷ []))
    ≡ Ok ((1 ∷ codes "p" ++ 0 ∷ 20 ∷ [], 2 ∷ codes "PUSH" ++ 0 ∷ 5 ∷ 0 ∷ 255 ∷ 2 ∷ codes "x" ++ 0 ∷ 5 ∷ 0 ∷ 0 ∷ []) ∷ [])
unfolding assembled read_lines read_line said_at lines_of prefix_at instruction_at behind operand_at element_part next_part elements_at scalar_at bytes_at text_at uuid_at stamp_at positive_at negative_at hexadecimal_at digits_at number_at value_after run_of run_up_to byte_at names printable is_utf8 chars encode_utf8 utf8_valid_len utf8_error_len signed_spelled least_bytes low_first
nested_tuples = refl

two_sections : assembled (lines (codes "@ \\x00" ∷ codes "POP" ∷ codes "@ " ∷ codes "PUSH -1" ∷ []))
    ≡ Ok ((1 ∷ 0 ∷ 255 ∷ 0 ∷ 20 ∷ [], 2 ∷ codes "POP" ++ 0 ∷ []) ∷ (1 ∷ 0 ∷ 20 ∷ [], 2 ∷ codes "PUSH" ++ 0 ∷ 19 ∷ 254 ∷ []) ∷ [])
unfolding assembled read_lines read_line said_at lines_of prefix_at instruction_at behind operand_at element_part next_part elements_at scalar_at bytes_at text_at uuid_at stamp_at positive_at negative_at hexadecimal_at digits_at number_at value_after run_of run_up_to byte_at names printable is_utf8 chars encode_utf8 utf8_valid_len utf8_error_len signed_spelled least_bytes low_first
two_sections = refl
