-- The rule on names that remain, on answers that were worked out by hand: names stand in front of a path, and nothing else changes.
use Rattle.std.proofs.Common.{◌≡◌, [], ◌∷◌, Some, None, Ok, Err, refl}
use Rattle.std.specs.Prelude.{codes}
use Rattle.directory_types.specs.declared.DirArgs.{DirArgs}
use Rattle.directory_types.specs.declared.DirKind.TheVariants as kind
use Rattle.directory_types.specs.declared.DirReply.TheVariants as reply
use Rattle.directory_types.specs.declared.fault.DirFault.TheVariants as fault
use Rattle.model_directory.specs.Calls.{to_remove}
use Rattle.laws_directory.specs.Remaining.{all_in_front, lookup_of}

-- create ("a", "b"), where ("a",) is a partition: the call inside creates ("b",) with the prefix 14 14
created_inside : all_in_front (codes "a" ∷ []) (Ok (reply.Opened (20 ∷ 20 ∷ []) (codes "b" ∷ []) []))
    ≡ Ok (reply.Opened (20 ∷ 20 ∷ []) (codes "a" ∷ codes "b" ∷ []) [])
created_inside = refl

-- the names below a directory are told without those above it
listed_inside : all_in_front (codes "a" ∷ []) (Ok (reply.Names (codes "b" ∷ []))) ≡ Ok (reply.Names (codes "b" ∷ []))
listed_inside = refl

missing_inside : all_in_front (codes "a" ∷ []) (Err fault.Missing) ≡ Err fault.Missing
missing_inside = refl

-- a removal looks for its path, and a move and a note of a log have rules of their own
removal : (args : DirArgs) → lookup_of kind.Remove args ≡ Some to_remove
removal args = refl

move : (args : DirArgs) → lookup_of kind.MoveTo args ≡ None
move args = refl

log : (args : DirArgs) → lookup_of kind.Log args ≡ None
log args = refl
