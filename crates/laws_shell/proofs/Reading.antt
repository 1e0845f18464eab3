-- What is read of a word is what it spells, both ways.
use Rattle.std.proofs.Common.{◌≡◌, ◌<◌, ◌^◌, ℕ, Bool, true, false, cond, ◌&&◌, ◌==◌, nat_le, List, [], ◌∷◌, ◌++◌, length, Option, Some, None, Result, Ok, Err, refl, sym, ap, subst, ◌∙◌, arith}
use Rattle.std.specs.Fmt.{decimal}
use Rattle.std.specs.Str.{bytes_eq}
use Rattle.std.specs.List.{AllByRecursion, onto_first, join_with_byte}
use Rattle.std.proofs.lemmas.Bool.{and_parts, eqb-true, leb-true, le-leb, ne_eqb}
use Rattle.std.proofs.lemmas.List.{append-nil, nil_from_length, length-append}
use Rattle.std.proofs.lemmas.List.Elements.{All-from_recursion, recursion_from_All}
use Rattle.std.proofs.lemmas.List.Splits.{slice_split_none, slice_split_at, join_with_byte-slice_split}
use Rattle.std.proofs.lemmas.Slice.Eq.{bytes_eq-Decides}
use Rattle.key_bytes.specs.Keys.{IsByteString}
use Rattle.model_lines.specs.Printing.{space, printed_but, printable_but}
use Rattle.dump_reading.specs.Fields.{number_at}
use Rattle.dump_reading.proofs.Numbers.{number_was, number_again}
use Rattle.dump_reading.specs.Spellings.{byte_at, spelled}
use Rattle.dump_reading.proofs.Spellings.{byte_again, length-spelling}
use Rattle.model_shell.specs.Tokens.{words_of, empty_token, token, spelled_up_to, bytes_in, bounded, number_in}
use Rattle.shell_text.proofs.Tokens.{WasSpelled, spelled_was, whole_read}
use Rattle.laws_shell.specs.Words.{AreBetweenSpaces, IsTokenOf, IsNumberOf, AreWordsTold, AreTokensTold, AreSpelledOnce, AreNumbersTold}

-- ---- the words of a line

abbrev HasNoSpace : List ℕ → Type 0
HasNoSpace word = AllByRecursion (λ byte. (byte == space) ≡ false) word

onto_apart : (byte : ℕ) (words : List (List ℕ)) → (byte == space) ≡ false → AllByRecursion HasNoSpace words
    → AllByRecursion HasNoSpace (onto_first byte words)
onto_apart byte [] other apart = ((other, tt), tt)
onto_apart byte (word ∷ words) other apart = ((other, apart.0), apart.1)

onto_some : (byte : ℕ) (words : List (List ℕ)) → 0 < length (onto_first byte words)
onto_some byte [] = omega arith
onto_some byte (word ∷ words) = omega arith

-- no space stands in a word, and a line has a word at least
record AreApart (words : List (List ℕ)) : Type 0 where
  pub some : 0 < length words
  pub apart : AllByRecursion HasNoSpace words

words_apart : (line : List ℕ) → AreApart (words_of line)
words_apart [] = record { some = omega arith; apart = (tt, tt) }
words_apart (byte ∷ line) =
    elim (byte == space) as (λ b. (byte == space) ≡ b → AreApart (cond b ([] ∷ words_of line) (onto_first byte (words_of line)))) [
      | true ↦ λ is. record { some = omega arith; apart = (tt, (words_apart line).apart) }
      | false ↦ λ is. record { some = onto_some byte (words_of line); apart = onto_apart byte (words_of line) is (words_apart line).apart }
    ] refl

were_words : (line : List ℕ) (words : List (List ℕ)) → words_of line ≡ words → AreBetweenSpaces line words
were_words line words is =
    let apart = words_apart line in
    subst (AreBetweenSpaces line) is
    (record { some = apart.some; joined = sym (join_with_byte-slice_split space line); apart = apart.apart })

words_again : (words : List (List ℕ)) → 0 < length words → AllByRecursion HasNoSpace words → words_of (join_with_byte space words) ≡ words
words_again [] some apart = absurd (omega arith)
words_again (word ∷ []) some apart =
    slice_split_none (λ byte. byte == space) word (All-from_recursion (λ byte. (byte == space) ≡ false) word apart.0)
words_again (word ∷ next ∷ words) some apart =
    slice_split_at (λ byte. byte == space) word space (join_with_byte space (next ∷ words))
    (All-from_recursion (λ byte. (byte == space) ≡ false) word apart.0) refl
    ∙ ap (λ others. word ∷ others) (words_again (next ∷ words) (omega arith) apart.1)

pub words_told : AreWordsTold
words_told line words = (were_words line words, λ h. ap words_of h.joined ∙ words_again words h.some h.apart)

-- ---- tokens

bytes_is : (one other : List ℕ) → ◌≡◌ {A = Option (List ℕ)} (Some one) (Some other) → one ≡ other
bytes_is one other e = cc

-- what is spelled up to the end of a word that isn't empty is no empty list of bytes
some_spelled : (word bytes : List ℕ) → (length word == 0) ≡ false → word ≡ printable_but (Some space) bytes
    → printable_but (Some space) bytes ≡ token bytes
unfolding token printable_but
some_spelled word [] some is = absurd (let none : (length word == 0) ≡ true = ap (λ (w : List ℕ). length w == 0) is in cc)
some_spelled word (byte ∷ bytes) some is = refl

token_was : (word bytes : List ℕ) → bytes_in word ≡ Some bytes → IsTokenOf word bytes
unfolding bytes_in token
token_was word bytes =
    elim (length word == 0) as (λ b. (length word == 0) ≡ b
    → cond b None (cond (bytes_eq word empty_token) (Some []) (spelled_up_to (length word) word)) ≡ Some bytes → IsTokenOf word bytes) [
      | true ↦ λ none e. absurd cc
      | false ↦ λ some. elim (bytes_eq word empty_token) as (λ b. bytes_eq word empty_token ≡ b
          → cond b (Some []) (spelled_up_to (length word) word) ≡ Some bytes → IsTokenOf word bytes) [
            | true ↦ λ same e. subst (IsTokenOf word) (bytes_is [] bytes e)
                (record { is = (bytes_eq-Decides word empty_token).0 same; are_bytes = All-from_recursion (λ b. b < 256) [] tt })
            | false ↦ λ other e. was_spelled some (spelled_was (length word) word bytes e)
          ] refl
    ] refl
  where
    was_spelled : (length word == 0) ≡ false → WasSpelled word bytes → IsTokenOf word bytes
    was_spelled some was = record {
      is = was.is ∙ some_spelled word bytes some was.is;
      are_bytes = All-from_recursion (λ b. b < 256) bytes was.are_bytes;
    }

-- ---- no token of bytes is \e but that of none

no_byte_at_e : (byte : ℕ) (rest : List ℕ) → byte < 256 → printed_but (Some space) byte ++ rest ≡ empty_token → ⊥
unfolding byte_at
no_byte_at_e byte rest small is =
    let none : None ≡ spelled byte rest = sym (ap (byte_at (Some space)) is) ∙ byte_again (Some space) byte rest small in
    cc

is_no_e : (byte : ℕ) (rest : List ℕ) → byte < 256 → bytes_eq (printed_but (Some space) byte ++ rest) empty_token ≡ false
is_no_e byte rest small = by (bytes_eq (printed_but (Some space) byte ++ rest) empty_token) refl
  where
    by : (same : Bool) → bytes_eq (printed_but (Some space) byte ++ rest) empty_token ≡ same → same ≡ false
    by true is = absurd (no_byte_at_e byte rest small ((bytes_eq-Decides (printed_but (Some space) byte ++ rest) empty_token).0 is))
    by false is = refl

is_some : (byte : ℕ) (rest : List ℕ) → (length (printed_but (Some space) byte ++ rest) == 0) ≡ false
is_some byte rest =
    ne_eqb (length (printed_but (Some space) byte ++ rest)) 0
    (λ none. omega (arith, none, length-append (printed_but (Some space) byte) rest, length-spelling (Some space) byte))

bytes_again : (bytes : List ℕ) → IsByteString bytes → bytes_in (token bytes) ≡ Some bytes
unfolding bytes_in token printable_but
bytes_again [] are = refl
bytes_again (byte ∷ bytes) are =
    let small : byte < 256 = (recursion_from_All (λ b. b < 256) (byte ∷ bytes) are).0 in
    let rest = printable_but (Some space) bytes in
    let read : spelled_up_to (length (printed_but (Some space) byte ++ rest)) (printed_but (Some space) byte ++ rest) ≡ Some (byte ∷ bytes) =
    whole_read (printed_but (Some space) byte ++ rest) (byte ∷ bytes) (refl, are) in
    rw (is_some byte rest, is_no_e byte rest small) read

token_again : (word bytes : List ℕ) → IsTokenOf word bytes → bytes_in word ≡ Some bytes
token_again word bytes h = ap bytes_in h.is ∙ bytes_again bytes h.are_bytes

pub tokens_told : AreTokensTold
tokens_told word bytes = (token_was word bytes, token_again word bytes)

pub spelled_once : AreSpelledOnce
spelled_once one other bytes is same = (token_was one bytes is).is ∙ sym (token_was other bytes same).is

-- ---- numbers

number_is : (one other : ℕ) → ◌≡◌ {A = Option ℕ} (Some one) (Some other) → one ≡ other
number_is one other e = cc

bounded_was : (least most : ℕ) (word : List ℕ) (number : ℕ) (read : Result (ℕ × List ℕ) ℕ) → most < 2 ^ 64 → number_at most word ≡ read
    → bounded least read ≡ Some number → IsNumberOf least most word number
bounded_was least most word number (Err left) small is e = absurd cc
bounded_was least most word number (Ok read) small is e =
    by (length read.1 == 0 && nat_le least read.0) refl e
  where
    by : (b : Bool) → (length read.1 == 0 && nat_le least read.0) ≡ b → cond b (Some read.0) None ≡ Some number
        → IsNumberOf least most word number
    by false test e = absurd cc
    by true test e =
        let both = and_parts (length read.1 == 0) (nat_le least read.0) test in
        let was = number_was most word read (omega (arith, small)) is in
        let nothing : read.1 ≡ [] = nil_from_length read.1 (eqb-true (length read.1) 0 both.0) in
        subst (IsNumberOf least most word) (number_is read.0 number e) (record {
          is = was.spelled ∙ ap (λ (x : List ℕ). decimal read.0 ++ x) nothing ∙ append-nil (decimal read.0);
          from = leb-true least read.0 both.1;
          to = was.small;
        })

number_read : (least most : ℕ) (word : List ℕ) (number : ℕ) → most < 2 ^ 64 → IsNumberOf least most word number
    → number_in least most word ≡ Some number
unfolding number_in
number_read least most word number small h =
    let read : number_at most word ≡ Ok (number, []) =
    ap (number_at most) (h.is ∙ sym (append-nil (decimal number))) ∙ number_again most number [] (omega (arith, small)) h.to refl in
    ap (bounded least) read ∙ ap (λ b. cond b (Some number) None) (le-leb least number h.from)

number_was_in : (least most : ℕ) (word : List ℕ) (number : ℕ) → most < 2 ^ 64 → number_in least most word ≡ Some number
    → IsNumberOf least most word number
unfolding number_in
number_was_in least most word number small e = bounded_was least most word number (number_at most word) small refl e

pub numbers_told : AreNumbersTold
numbers_told least most word number small =
    (number_was_in least most word number small, number_read least most word number small)
