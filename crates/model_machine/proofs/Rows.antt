-- Small cases of the operations on directories, computed.
use Rattle.std.proofs.Common.{◌≡◌, [], ◌∷◌, Some, Ok, refl}
use Rattle.std.specs.Prelude.{pos, codes}
use Rattle.fdb_tuple.specs.declared.tuple.Elem.{Elem}
use Rattle.fdb_tuple.specs.declared.tuple.Elem.TheVariants as elem
use Rattle.fdb_calls.specs.declared.Request.TheVariants as request
use Rattle.directory_types.specs.declared.DirKind.TheVariants as kind
use Rattle.model_machine.specs.declared.Item.{Item}
use Rattle.model_machine.specs.declared.ItemValue.TheVariants as value
use Rattle.model_machine.specs.declared.Awaits.TheVariants as awaits
use Rattle.model_machine.specs.declared.Scope.TheVariants as scope
use Rattle.model_machine.specs.declared.directories.Object.TheVariants as object
use Rattle.model_machine.specs.declared.directories.DirectoryOperation.TheVariants as operation
use Rattle.model_machine.specs.Operands.{operands_by}
use Rattle.model_machine.specs.Directories.{Chooses, Faults, Gives, Asks, Directories, args_on, default_layer, directed, first_directories, with_object}

item : Elem → Item
item element = record { value = value.Known element; instruction = 0 }

-- DIRECTORY_EXISTS of 0 asks whether the root is there
asks_for_the_root : directed operation.Exists scope.Transaction (112 ∷ []) first_directories (item (elem.Int (pos 0)) ∷ [])
    ≡ Ok (Asks (request.Directory (Some (112 ∷ [])) default_layer kind.Exists (args_on [])) awaits.Existence, [])
unfolding directed item
asks_for_the_root = refl

-- DIRECTORY_CHANGE to an index that is none of the list
changes_to_no_index : directed operation.Change scope.Transaction (112 ∷ []) first_directories (item (elem.Int (pos 7)) ∷ [])
    ≡ Ok (Faults (codes "NoSuchIndex"), [])
unfolding directed item
changes_to_no_index = refl

-- to a null object, where the error index is 0
changes_to_null : directed operation.Change scope.Transaction (112 ∷ []) (with_object first_directories object.Null) (item (elem.Int (pos 1)) ∷ [])
    ≡ Ok (Chooses 0, [])
unfolding directed item
changes_to_null = refl

-- a layer is no subspace
packs_no_key : directed operation.PackKey scope.Transaction (112 ∷ []) first_directories (item (elem.Int (pos 0)) ∷ [])
    ≡ Ok (Faults (codes "NotASubspace"), [])
unfolding directed item operands_by
packs_no_key = refl

-- a partition is no subspace, though it can be asked for directories
at_a_partition : Directories
at_a_partition = record { objects = object.Directory default_layer ((97 ∷ []) ∷ []) (20 ∷ []) (codes "partition") ∷ []; index = 0; error_index = 0 }

packs_no_key_of_a_partition : directed operation.PackKey scope.Transaction (112 ∷ []) at_a_partition (item (elem.Int (pos 0)) ∷ [])
    ≡ Ok (Faults (codes "NotASubspace"), [])
unfolding directed item operands_by at_a_partition
packs_no_key_of_a_partition = refl

lists_a_partition : directed operation.List scope.Transaction (112 ∷ []) at_a_partition (item (elem.Int (pos 0)) ∷ [])
    ≡ Ok (Asks (request.Directory (Some (112 ∷ [])) default_layer kind.List (args_on ((97 ∷ []) ∷ []))) awaits.Names, [])
unfolding directed item at_a_partition
lists_a_partition = refl

-- a key behind the prefix of a subspace, and one that isn't
under_a : Directories
under_a = record { objects = object.Subspace (97 ∷ []) ∷ []; index = 0; error_index = 0 }

strips_the_prefix : directed operation.StripPrefix scope.Transaction (112 ∷ []) under_a (item (elem.Bytes (97 ∷ 98 ∷ [])) ∷ [])
    ≡ Ok (Gives (elem.Bytes (98 ∷ []) ∷ []), [])
unfolding directed item under_a
strips_the_prefix = refl

stands_outside : directed operation.StripPrefix scope.Transaction (112 ∷ []) under_a (item (elem.Bytes (98 ∷ [])) ∷ [])
    ≡ Ok (Faults (codes "NotInside"), [])
unfolding directed item under_a
stands_outside = refl
