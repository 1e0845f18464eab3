-- Where a path leads into a partition and names of it remain: the same call begins again on the partition's layer with these names,
-- behind what was done before, and the names before them stand in front of the path of its answer (directory layer's documentation).
use Rattle.std.specs.Prelude.{◌≡◌, ℕ, ◌+◌, true, false, List, ◌∷◌, ◌++◌, Option, Some, None, Result, Ok, Err, bytes_eq}
use Rattle.std.specs.List.{starts_with}
use Rattle.model_database.specs.Histories.{Setting}
use Rattle.model_database.specs.Transactions.{Transaction}
use Rattle.directory_types.specs.declared.Layer.{Layer}
use Rattle.directory_types.specs.declared.DirArgs.{DirArgs}
use Rattle.directory_types.specs.declared.DirKind.{DirKind}
use Rattle.directory_types.specs.declared.DirKind.TheVariants as kind
use Rattle.directory_types.specs.declared.DirReply.{DirReply}
use Rattle.directory_types.specs.declared.DirReply.TheVariants as reply
use Rattle.directory_types.specs.declared.fault.DirFault.{DirFault}
use Rattle.directory_types.specs.declared.fault.DirFault.TheVariants as fault
use Rattle.model_directory.specs.declared.Directory.{Directory}
use Rattle.model_directory.specs.declared.Lookup.{Lookup}
use Rattle.model_directory.specs.Courses.{Course, Gives, ◌>>=◌, Reached, run}
use Rattle.model_directory.specs.Steps.{refuse_where, check, Found, found_at, find, inside, admits}
use Rattle.model_directory.specs.Calls.{to_create, to_create_or_open, to_open, to_look, to_remove, to_see, effect}

-- ---- what is done before

-- what a call that looks for one path checks first; none for the calls that don't
abbrev pub lookup_of : DirKind → DirArgs → Option Lookup
lookup_of kind.Create args = Some (to_look to_create args.prefix)
lookup_of kind.CreateOrOpen args = Some (to_look to_create_or_open args.prefix)
lookup_of kind.Open args = Some (to_look (to_open args.snapshot) args.prefix)
lookup_of kind.MoveTo args = None
lookup_of kind.Remove args = Some to_remove
lookup_of kind.RemoveIfExists args = Some to_remove
lookup_of kind.List args = Some (to_see args.snapshot)
lookup_of kind.Exists args = Some (to_see args.snapshot)
lookup_of kind.Log args = None

-- the checks of such a call, and Find
abbrev pub looks_for : Lookup → Layer → (path : List (List ℕ)) → Course (Option Found)
looks_for lookup layer path = admits lookup layer path >>= (λ may. find lookup.snapshot layer path)

-- the checks of move_to, and Find for both paths
abbrev pub looks_for_both : Layer → (path new_path : List (List ℕ)) → Course (Option Found × Option Found)
looks_for_both layer path new_path = do
  written ← check true false layer
  apart ← refuse_where (starts_with bytes_eq new_path path) fault.IntoItself
  old ← find false layer path
  new ← find false layer new_path
  Gives (old, new)

-- ---- what is done behind it

-- names in front of the path of an answer, where it has one
abbrev pub in_front : (names : List (List ℕ)) → DirReply → DirReply
in_front names (reply.Opened prefix path layer) = reply.Opened prefix (names ++ path) layer
in_front names other = other

abbrev pub all_in_front : (names : List (List ℕ)) → Result DirReply DirFault → Result DirReply DirFault
all_in_front names (Ok answer) = Ok (in_front names answer)
all_in_front names (Err fault) = Err fault

-- a call from where another course has come to, with the random words behind those that it drew
abbrev pub call_behind : {X : Type 0} → Reached X → DirKind → Layer → DirArgs → Setting → (words : ℕ → ℕ) → Reached DirReply
call_behind first kind layer args setting words =
    effect kind layer args setting (λ place. words (first.words + place)) first.transaction

-- what was done before, and then that call, whose answer has these names in front of its path
abbrev pub both_done : {X : Type 0} → Reached X → (names : List (List ℕ)) → Reached DirReply → Reached DirReply
both_done first names later =
    record { transaction = later.transaction; words = first.words + later.words; end = all_in_front names later.end }

-- ---- the rule

-- Where Find leaves names in a call that looks for one path, these are the last ones of the path, and the call does what was done
-- before and then the same call on the partition's layer with the names that remain.
abbrev pub AreDoneInside : Type 0
AreDoneInside = (kind : DirKind) (lookup : Lookup) (layer : Layer) (args : DirArgs) (setting : Setting) (words : ℕ → ℕ)
    (transaction : Transaction) (partition : Directory) (name : List ℕ) (names : List (List ℕ)) → lookup_of kind args ≡ Some lookup
    → (run setting words (looks_for lookup layer args.path) transaction).end ≡ Ok (Some (found_at partition (name ∷ names)))
    → (before : List (List ℕ)) × (args.path ≡ before ++ name ∷ names)
    × (effect kind layer args setting words transaction
    ≡ both_done (run setting words (looks_for lookup layer args.path) transaction) before
    (call_behind (run setting words (looks_for lookup layer args.path) transaction) kind (inside partition.prefix)
    (record args { path = name ∷ names }) setting words))

-- Where names of both paths remain at one partition, a move does what was done before and then the move on the partition's layer with
-- the names that remain of both; those before them in the new path stand in front of the path of its answer.
abbrev pub AreMovedInside : Type 0
AreMovedInside = (layer : Layer) (args : DirArgs) (setting : Setting) (words : ℕ → ℕ) (transaction : Transaction)
    (partition same : Directory) (name new_name : List ℕ) (names new_names : List (List ℕ)) → partition.prefix ≡ same.prefix
    → (run setting words (looks_for_both layer args.path args.new_path) transaction).end
    ≡ Ok (Some (found_at partition (name ∷ names)), Some (found_at same (new_name ∷ new_names)))
    → (before : List (List ℕ)) × (args.new_path ≡ before ++ new_name ∷ new_names)
    × (effect kind.MoveTo layer args setting words transaction
    ≡ both_done (run setting words (looks_for_both layer args.path args.new_path) transaction) before
    (call_behind (run setting words (looks_for_both layer args.path args.new_path) transaction) kind.MoveTo (inside partition.prefix)
    (record args { path = name ∷ names; new_path = new_name ∷ new_names }) setting words))
