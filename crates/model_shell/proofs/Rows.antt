-- Lines that were worked out by hand: the command that each is, and what is printed for those that ask nothing of the database.
use Rattle.std.proofs.Common.{◌≡◌, ℕ, List, [], ◌∷◌, ◌++◌, Some, None, refl}
use Rattle.std.specs.Prelude.{codes}
use Rattle.model_lines.specs.Printing.{printable_but}
use Rattle.dump_reading.specs.Spellings.{byte_at}
use Rattle.dump_reading.specs.Fields.{number_at, value_after}
use Rattle.model_shell.specs.declared.command.Command.TheVariants as command
use Rattle.model_shell.specs.Commands.{command_of, command_named, recipe_named, get_of, get_range_of, set_of, clear_of}
use Rattle.model_shell.specs.Tokens.{token, spelled_up_to, bytes_in, number_in}
use Rattle.model_shell.specs.Sessions.{shell, printed_for, answered, done}

-- ---- commands

begins : command_of (codes "begin") ≡ Some command.Begin
unfolding command_of command_named
begins = refl

sets : command_of (codes "set a 1") ≡ Some (command.Set (97 ∷ []) (49 ∷ []))
unfolding command_of command_named set_of bytes_in spelled_up_to byte_at
sets = refl

sets_the_empty_key : command_of (codes "set \\e \\x20") ≡ Some (command.Set [] (32 ∷ []))
unfolding command_of command_named set_of bytes_in spelled_up_to byte_at
sets_the_empty_key = refl

reads_25 : command_of (codes "getrange a z") ≡ Some (command.GetRange (record { begin = 97 ∷ []; end = 122 ∷ [] }) 25)
unfolding command_of command_named get_range_of bytes_in spelled_up_to byte_at
reads_25 = refl

reads_7 : command_of (codes "getrange a z 7") ≡ Some (command.GetRange (record { begin = 97 ∷ []; end = 122 ∷ [] }) 7)
unfolding command_of command_named get_range_of bytes_in spelled_up_to byte_at number_in number_at value_after
reads_7 = refl

-- ---- no commands: an empty line, another name, two spaces, a space at the end, a token too many, a spelling that is none

empty : command_of [] ≡ None
unfolding command_of command_named recipe_named
empty = refl

frob : command_of (codes "frob") ≡ None
unfolding command_of command_named recipe_named
frob = refl

two_spaces : command_of (codes "get  a") ≡ None
unfolding command_of command_named get_of bytes_in spelled_up_to byte_at
two_spaces = refl

space_at_the_end : command_of (codes "begin ") ≡ None
unfolding command_of command_named
space_at_the_end = refl

token_too_many : command_of (codes "clear a b") ≡ None
unfolding command_of command_named clear_of bytes_in spelled_up_to byte_at
token_too_many = refl

needless_digits : command_of (codes "get \\x61") ≡ None
unfolding command_of command_named get_of bytes_in spelled_up_to byte_at
needless_digits = refl

empty_and_more : command_of (codes "get \\ea") ≡ None
unfolding command_of command_named get_of bytes_in spelled_up_to byte_at
empty_and_more = refl

no_limit : command_of (codes "getrange a z 0") ≡ None
unfolding command_of command_named get_range_of bytes_in spelled_up_to byte_at number_in number_at value_after
no_limit = refl

leading_zero : command_of (codes "getrange a z 07") ≡ None
unfolding command_of command_named get_range_of bytes_in spelled_up_to byte_at number_in number_at value_after
leading_zero = refl

-- ---- what is printed

abbrev line : List ℕ → List ℕ
line text = text ++ 10 ∷ []

asks_nothing : shell (codes "commit" ∷ codes "frob" ∷ codes "reset" ∷ [])
    ≡ line (codes "ERROR: No active transaction") ++ line (codes "ERROR: bad command") ++ line (codes "ERROR: No active transaction")
unfolding printed_for answered done command_of command_named recipe_named
asks_nothing = refl

-- ---- tokens

a_space : token (codes "a b") ≡ codes "a\\x20b"
unfolding token printable_but
a_space = refl

no_byte : token [] ≡ codes "\\e"
unfolding token
no_byte = refl
