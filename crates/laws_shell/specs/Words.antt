-- What the words of a line are, and which bytes or which number one spells, by relations alone.
use Rattle.std.specs.Prelude.{◌≡◌, ◌≤◌, ◌<◌, ◌^◌, ℕ, false, List, length, Some, ◌==◌, decimal}
use Rattle.std.specs.List.{AllByRecursion, join_with_byte}
use Rattle.key_bytes.specs.Keys.{IsByteString}
use Rattle.model_lines.specs.Printing.{space}
use Rattle.model_shell.specs.Tokens.{words_of, token, bytes_in, number_in}

-- the words with single spaces between them are the line, and no space stands in a word
pub record AreBetweenSpaces (line : List ℕ) (words : List (List ℕ)) : Type 0 where
  pub some : 0 < length words
  pub joined : line ≡ join_with_byte space words
  pub apart : AllByRecursion (λ word. AllByRecursion (λ byte. (byte == space) ≡ false) word) words

-- the word is the token of these bytes
pub record IsTokenOf (word bytes : List ℕ) : Type 0 where
  pub is : word ≡ token bytes
  pub are_bytes : IsByteString bytes

-- the word is a number in decimal digits, which lies within these bounds
pub record IsNumberOf (least most : ℕ) (word : List ℕ) (number : ℕ) : Type 0 where
  pub is : word ≡ decimal number
  pub from : least ≤ number
  pub to : number ≤ most

-- ---- the laws

-- the words of a line are what stands between its spaces, and only they are
abbrev pub AreWordsTold : Type 0
AreWordsTold = (line : List ℕ) (words : List (List ℕ)) → (words_of line ≡ words → AreBetweenSpaces line words)
    × (AreBetweenSpaces line words → words_of line ≡ words)

-- a word is read as bytes exactly where it is their token
abbrev pub AreTokensTold : Type 0
AreTokensTold = (word bytes : List ℕ) → (bytes_in word ≡ Some bytes → IsTokenOf word bytes) × (IsTokenOf word bytes → bytes_in word ≡ Some bytes)

-- words that are read as the same bytes are the same
abbrev pub AreSpelledOnce : Type 0
AreSpelledOnce = (one other bytes : List ℕ) → bytes_in one ≡ Some bytes → bytes_in other ≡ Some bytes → one ≡ other

-- a word is read as a number within bounds below 2^64 exactly where it is the number's decimal digits
abbrev pub AreNumbersTold : Type 0
AreNumbersTold = (least most : ℕ) (word : List ℕ) (number : ℕ) → most < 2 ^ 64 → (number_in least most word ≡ Some number
    → IsNumberOf least most word number) × (IsNumberOf least most word number → number_in least most word ≡ Some number)
