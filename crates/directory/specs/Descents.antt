-- How the parents of a directory are made in two loops: down from the whole path to the nearest directory that is there, with a
-- prefix for each one that isn't, and then up again, where each is entered in the one above it.
use Rattle.std.specs.Prelude.{ℕ, zero, suc, List, [], ◌∷◌, ◌++◌, reverse, Option, Some, None}
use Rattle.directory_types.specs.declared.Layer.{Layer}
use Rattle.model_directory.specs.declared.Directory.{Directory}
use Rattle.directory.specs.declared.creating.Missing.{Missing}
use Rattle.model_directory.specs.Courses.{Course, Gives, ◌>>=◌}
use Rattle.model_directory.specs.Steps.{root, front, last_name}
use Rattle.model_directory.specs.Calls.{to_create_or_open, looks, takes_prefix, enters}

abbrev pub missing_at : Layer → (name prefix : List ℕ) → Missing
missing_at layer name prefix = record { layer = layer; name = name; prefix = prefix }

abbrev pub or_further : (missing : List Missing) → Option Directory → Course (Directory × List Missing) → Course (Directory × List Missing)
or_further missing (Some found) others = Gives (found, missing)
or_further missing None others = others

-- the nearest directory on a path that is there, and those below it that are missing, the uppermost last: the number bounds how
-- many names are left out
unfoldable pub descends : (bound : ℕ) → Layer → (path : List (List ℕ)) → (missing : List Missing) → Course (Directory × List Missing)
descends zero layer path missing = Gives (root layer, missing)
descends (suc bound) layer [] missing = Gives (root layer, missing)
descends (suc bound) layer (name ∷ names) missing = do
  at ← looks to_create_or_open layer (name ∷ names) None None
  or_further missing at.found (do
    prefix ← takes_prefix at.layer None
    descends bound at.layer (front at.path) (missing ++ missing_at at.layer (last_name at.path) prefix ∷ []))

-- each of the missing ones is entered in the one above it, the uppermost first
unfoldable pub ascends : (parent : Directory) → (missing : List Missing) → Course Directory
ascends parent [] = Gives parent
ascends parent (below ∷ others) = do
  entered ← enters below.layer parent below.name below.prefix []
  ascends entered others

-- the directory of a path, which is made where it is missing
unfoldable pub makes_parent : (bound : ℕ) → Layer → (path : List (List ℕ)) → Course Directory
makes_parent bound layer path = do
  found ← descends bound layer path []
  ascends found.0 (reverse found.1)
