-- Words that were worked out by hand: how each is read, and what it is the spelling of.
use Rattle.std.proofs.Common.{◌≡◌, ◌<◌, [], ◌∷◌, Some, None, refl, sym, arith}
use Rattle.std.specs.Prelude.{codes}
use Rattle.std.proofs.lemmas.Fmt.{decimal_digit}
use Rattle.std.proofs.lemmas.List.Elements.{All-from_recursion}
use Rattle.model_lines.specs.Printing.{printable_but}
use Rattle.dump_reading.specs.Spellings.{byte_at}
use Rattle.dump_reading.specs.Fields.{number_at, value_after}
use Rattle.model_shell.specs.Tokens.{words_of, token, spelled_up_to, bytes_in, number_in}
use Rattle.laws_shell.specs.Words.{AreBetweenSpaces, IsTokenOf, IsNumberOf}

-- get a
two_words : (words_of (codes "get a") ≡ codes "get" ∷ codes "a" ∷ []) × AreBetweenSpaces (codes "get a") (codes "get" ∷ codes "a" ∷ [])
two_words = (refl, record { some = omega arith; joined = refl; apart = ((refl, (refl, (refl, tt))), ((refl, tt), tt)) })

-- a space in a token is \x20
space_in_a_token : (bytes_in (codes "a\\x20") ≡ Some (97 ∷ 32 ∷ [])) × IsTokenOf (codes "a\\x20") (97 ∷ 32 ∷ [])
unfolding bytes_in spelled_up_to byte_at token printable_but
space_in_a_token = (refl, record { is = refl; are_bytes = All-from_recursion (λ b. b < 256) (97 ∷ 32 ∷ []) (omega arith, (omega arith, tt)) })

-- no byte at all is \e
no_byte : (bytes_in (codes "\\e") ≡ Some []) × IsTokenOf (codes "\\e") []
unfolding bytes_in token
no_byte = (refl, record { is = refl; are_bytes = All-from_recursion (λ b. b < 256) [] tt })

-- a byte that stands for itself isn't read by its digits, and no word at all is no token
second_spelling : bytes_in (codes "\\x61") ≡ None
unfolding bytes_in spelled_up_to byte_at
second_spelling = refl

no_word : bytes_in [] ≡ None
unfolding bytes_in
no_word = refl

-- 7 from 1 to 9; not 07, and not 0
seven : (number_in 1 9 (codes "7") ≡ Some 7) × IsNumberOf 1 9 (codes "7") 7
unfolding number_in number_at value_after
seven = (refl, record { is = sym (decimal_digit 7 (omega arith)); from = omega arith; to = omega arith })

leading_zero : number_in 1 9 (codes "07") ≡ None
unfolding number_in number_at value_after
leading_zero = refl

too_small : number_in 1 9 (codes "0") ≡ None
unfolding number_in number_at value_after
too_small = refl
