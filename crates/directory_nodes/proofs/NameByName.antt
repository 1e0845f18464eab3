-- What a path leads to is found name by name: the first of the names that are left, and then the others.
use Rattle.std.proofs.Common.{◌≡◌, ℕ, Bool, true, false, List, ◌∷◌, Some, refl}
use Rattle.directory_types.specs.declared.Layer.{Layer}
use Rattle.model_directory.specs.declared.Directory.{Directory}
use Rattle.model_directory.specs.Courses.{Gives, ◌>>=◌}
use Rattle.model_directory.specs.Nodes.{is_partition}
use Rattle.model_directory.specs.Steps.{found_at, below, child_of, find_from}

-- names behind a partition remain
pub stops_here : (snapshot : Bool) (layer : Layer) (found : Directory) (names : List (List ℕ)) (name : List ℕ) (others : List (List ℕ))
    → names ≡ name ∷ others → is_partition found.layer ≡ true
    → find_from snapshot layer found names ≡ Gives (Some (found_at found names))
unfolding find_from
stops_here snapshot layer found names name others parts is = rw parts (rw is refl)

-- else the first of them is followed
pub goes_on : (snapshot : Bool) (layer : Layer) (found : Directory) (names : List (List ℕ)) (name : List ℕ) (others : List (List ℕ))
    → names ≡ name ∷ others → is_partition found.layer ≡ false
    → find_from snapshot layer found names
    ≡ (child_of snapshot layer found name >>= (λ child. below child (λ next. find_from snapshot layer next others)))
unfolding find_from
goes_on snapshot layer found names name others parts is = rw parts (rw is refl)
