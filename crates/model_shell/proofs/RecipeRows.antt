-- Lines of layers that were worked out by hand: the call that each is, and the texts of faults and replies.
use Rattle.std.proofs.Common.{◌≡◌, ℕ, List, [], ◌∷◌, ◌++◌, Some, None, refl}
use Rattle.std.specs.Prelude.{codes}
use Rattle.std.specs.Fmt.{digits}
use Rattle.model_lines.specs.Printing.{printable_but}
use Rattle.dump_reading.specs.Spellings.{byte_at}
use Rattle.dump_reading.specs.Fields.{number_at, value_after}
use Rattle.model_shell.specs.declared.command.Command.TheVariants as command
use Rattle.model_shell.specs.declared.recipe.Recipe.TheVariants as recipe
use Rattle.model_shell.specs.Commands.{command_of, command_named, recipe_named, push_of, pop_of, write_of, read_of}
use Rattle.model_shell.specs.Recipes.{space_of, item_said, count_text, counts_said}
use Rattle.model_shell.specs.Tokens.{token, spelled_up_to, bytes_in, number_in}

-- ---- calls

pushes : command_of (codes "qpush j a") ≡ Some (command.Recipe (recipe.Push (codes "j") (codes "a")))
unfolding command_of command_named recipe_named push_of bytes_in spelled_up_to byte_at
pushes = refl

pops_an_empty_name : command_of (codes "qpop \\e") ≡ Some (command.Recipe (recipe.Pop []))
unfolding command_of command_named recipe_named pop_of bytes_in spelled_up_to byte_at
pops_an_empty_name = refl

writes : command_of (codes "bwrite f 12 abc") ≡ Some (command.Recipe (recipe.Write (codes "f") 12 (codes "abc")))
unfolding command_of command_named recipe_named write_of bytes_in spelled_up_to byte_at number_in number_at value_after
writes = refl

reads : command_of (codes "bread f 0 4294967295") ≡ Some (command.Recipe (recipe.Read (codes "f") 0 4294967295))
unfolding command_of command_named recipe_named read_of bytes_in spelled_up_to byte_at number_in number_at value_after
reads = refl

-- ---- no calls: a number that is too great, one with a leading zero, and a token too few

too_great : command_of (codes "bread f 0 4294967296") ≡ None
unfolding command_of command_named recipe_named read_of bytes_in spelled_up_to byte_at number_in number_at value_after
too_great = refl

leading_zero : command_of (codes "bwrite f 00 abc") ≡ None
unfolding command_of command_named recipe_named write_of bytes_in spelled_up_to byte_at number_in number_at value_after
leading_zero = refl

too_few : command_of (codes "qpush j") ≡ None
unfolding command_of command_named recipe_named push_of bytes_in spelled_up_to byte_at
too_few = refl

-- ---- texts

no_item : item_said None ≡ codes "empty" ++ 10 ∷ []
unfolding item_said
no_item = refl

one_value : counts_said (record { value = codes "v"; count = 1 } ∷ []) ≡ codes "v 1" ++ 10 ∷ []
unfolding counts_said count_text token printable_but digits
one_value = refl
