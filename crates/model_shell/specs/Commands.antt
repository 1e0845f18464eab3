-- The command that a line is.
use Rattle.std.specs.Prelude.{ℕ, ◌-◌, ◌^◌, if◌then◌else◌, List, [], ◌∷◌, Option, Some, None, option_map, option_and_then, codes}
use Rattle.std.specs.Str.{bytes_eq}
use Rattle.model_shell.specs.declared.command.Command.{Command}
use Rattle.model_shell.specs.declared.command.Command.TheVariants.{Begin, Commit, Reset, Get, GetRange, Set, Clear, ClearRange, Recipe}
use Rattle.model_shell.specs.declared.recipe.Recipe.TheVariants.{Push, Pop, Add, Subtract, Values, Write, Read as ReadBytes, Size}
use Rattle.model_shell.specs.Tokens.{words_of, bytes_in, number_in}

infixl 10 ◌>>=◌
abbrev pub ◌>>=◌ : {A B : Type 0} → Option A → (A → Option B) → Option B
read >>= next = option_and_then next read

-- what was read, and the words that are left
abbrev pub Read : Type 0 → Type 0
Read A = Option (A × List (List ℕ))

-- the bytes of the next word, which is to be a token
abbrev pub next_token : (words : List (List ℕ)) → Read (List ℕ)
next_token [] = None
next_token (word ∷ words) = option_map (λ bytes. (bytes, words)) (bytes_in word)

-- a command behind which no word is left
abbrev pub lone : (words : List (List ℕ)) → Command → Option Command
lone [] command = Some command
lone (word ∷ words) command = None

-- ---- what stands behind each name

-- how many pairs `getrange` reads at most where no number says it, and the greatest number that may
abbrev pub usual_limit : ℕ
usual_limit = 25

abbrev pub greatest_limit : ℕ
greatest_limit = 2147483647

abbrev pub limit_of : (words : List (List ℕ)) → Option ℕ
limit_of [] = Some usual_limit
limit_of (word ∷ []) = number_in 1 greatest_limit word
limit_of (word ∷ other ∷ words) = None

unfoldable pub get_of : (words : List (List ℕ)) → Option Command
get_of words = do
  key ← next_token words
  lone key.1 (Get key.0)

unfoldable pub get_range_of : (words : List (List ℕ)) → Option Command
get_range_of words = do
  begin ← next_token words
  end ← next_token begin.1
  limit ← limit_of end.1
  Some (GetRange (record { begin = begin.0; end = end.0 }) limit)

unfoldable pub set_of : (words : List (List ℕ)) → Option Command
set_of words = do
  key ← next_token words
  value ← next_token key.1
  lone value.1 (Set key.0 value.0)

unfoldable pub clear_of : (words : List (List ℕ)) → Option Command
clear_of words = do
  key ← next_token words
  lone key.1 (Clear key.0)

unfoldable pub clear_range_of : (words : List (List ℕ)) → Option Command
clear_range_of words = do
  begin ← next_token words
  end ← next_token begin.1
  lone end.1 (ClearRange (record { begin = begin.0; end = end.0 }))

-- ---- calls of layers

-- the next word, which is to be a number up to this one
abbrev pub next_number : (most : ℕ) → (words : List (List ℕ)) → Read ℕ
next_number most [] = None
next_number most (word ∷ words) = option_map (λ number. (number, words)) (number_in 0 most word)

abbrev pub greatest_place : ℕ
greatest_place = 2 ^ 64 - 1

abbrev pub greatest_count : ℕ
greatest_count = 2 ^ 32 - 1

unfoldable pub push_of : (words : List (List ℕ)) → Option Command
push_of words = do
  queue ← next_token words
  value ← next_token queue.1
  lone value.1 (Recipe (Push queue.0 value.0))

unfoldable pub pop_of : (words : List (List ℕ)) → Option Command
pop_of words = do
  queue ← next_token words
  lone queue.1 (Recipe (Pop queue.0))

unfoldable pub add_of : (words : List (List ℕ)) → Option Command
add_of words = do
  multi ← next_token words
  key ← next_token multi.1
  value ← next_token key.1
  lone value.1 (Recipe (Add multi.0 key.0 value.0))

unfoldable pub subtract_of : (words : List (List ℕ)) → Option Command
subtract_of words = do
  multi ← next_token words
  key ← next_token multi.1
  value ← next_token key.1
  lone value.1 (Recipe (Subtract multi.0 key.0 value.0))

unfoldable pub values_of : (words : List (List ℕ)) → Option Command
values_of words = do
  multi ← next_token words
  key ← next_token multi.1
  lone key.1 (Recipe (Values multi.0 key.0))

unfoldable pub write_of : (words : List (List ℕ)) → Option Command
write_of words = do
  blob ← next_token words
  at ← next_number greatest_place blob.1
  piece ← next_token at.1
  lone piece.1 (Recipe (Write blob.0 at.0 piece.0))

unfoldable pub read_of : (words : List (List ℕ)) → Option Command
read_of words = do
  blob ← next_token words
  from ← next_number greatest_place blob.1
  most ← next_number greatest_count from.1
  lone most.1 (Recipe (ReadBytes blob.0 from.0 most.0))

unfoldable pub size_of : (words : List (List ℕ)) → Option Command
size_of words = do
  blob ← next_token words
  lone blob.1 (Recipe (Size blob.0))

unfoldable pub recipe_named : (name : List ℕ) → (words : List (List ℕ)) → Option Command
recipe_named name words =
    if bytes_eq name (codes "qpush") then push_of words
    else if bytes_eq name (codes "qpop") then pop_of words
    else if bytes_eq name (codes "madd") then add_of words
    else if bytes_eq name (codes "msub") then subtract_of words
    else if bytes_eq name (codes "mget") then values_of words
    else if bytes_eq name (codes "bwrite") then write_of words
    else if bytes_eq name (codes "bread") then read_of words
    else if bytes_eq name (codes "bsize") then size_of words
    else None

-- ---- a line

unfoldable pub command_named : (name : List ℕ) → (words : List (List ℕ)) → Option Command
command_named name words =
    if bytes_eq name (codes "begin") then lone words Begin
    else if bytes_eq name (codes "commit") then lone words Commit
    else if bytes_eq name (codes "reset") then lone words Reset
    else if bytes_eq name (codes "get") then get_of words
    else if bytes_eq name (codes "getrange") then get_range_of words
    else if bytes_eq name (codes "set") then set_of words
    else if bytes_eq name (codes "clear") then clear_of words
    else if bytes_eq name (codes "clearrange") then clear_range_of words
    else recipe_named name words

abbrev pub command_in : (words : List (List ℕ)) → Option Command
command_in [] = None
command_in (name ∷ words) = command_named name words

-- a line is its first word, which names the command, and the tokens behind it
unfoldable pub command_of : (line : List ℕ) → Option Command
command_of line = command_in (words_of line)
