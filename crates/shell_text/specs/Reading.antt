-- What the program's words stand for, and what reading of them answers.
use Rattle.std.specs.Prelude.{◌≡◌, ⊤, ℕ, List, [], Option, Some, None, Result, Ok, Err}
use Rattle.dump_reading.specs.declared.fault.PrintableFault.{PrintableFault}
use Rattle.dump_reading.specs.declared.fault.PrintableFault.TheVariants as printable
use Rattle.model_shell.specs.Tokens.{words_of}
use Rattle.shell_text.specs.declared.words.Words.{Words}
use Rattle.shell_text.specs.declared.words.Words.TheVariants as words
use Rattle.shell_text.specs.declared.words.Unread.{Unread}
use Rattle.shell_text.specs.declared.words.Unread.TheVariants as unread

-- the words that are left
abbrev pub words_left : Words → List (List ℕ)
words_left words.None = []
words_left (words.Of bytes) = words_of bytes.now

-- a fault of a printable form, as one of words
abbrev pub unread_is : PrintableFault → Unread
unread_is (printable.Bad place) = unread.Bad
unread_is printable.NoMemory = unread.NoMemory

-- it is Bad exactly where nothing is read
abbrev pub Fails : {B : Type 0} → Unread → Option B → Type 0
Fails unread.Bad read = read ≡ None
Fails unread.NoMemory read = ⊤

-- what was returned, seen by view, is what is read, unless memory ran out
abbrev pub Gives : {A B : Type 0} → (A → B) → Result A Unread → Option B → Type 0
Gives view (Ok value) read = read ≡ Some (view value)
Gives view (Err fault) read = Fails fault read
