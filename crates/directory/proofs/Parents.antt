-- The parents of a directory that are made in two loops are those that are made by the same steps again and again.
use Rattle.std.proofs.Common.{◌≡◌, ℕ, zero, suc, List, [], ◌∷◌, ◌++◌, length, reverse, Option, Some, None, refl, sym, ap, ◌∙◌}
use Rattle.std.proofs.lemmas.List.{reverse-append}
use Rattle.directory_types.specs.declared.Layer.{Layer}
use Rattle.model_directory.specs.declared.Directory.{Directory}
use Rattle.model_directory.specs.Courses.{Course, ◌>>=◌}
use Rattle.model_directory.specs.Steps.{Place, front, last_name}
use Rattle.model_directory.specs.Calls.{to_create_or_open, looks, takes_prefix, enters, or_else, or_root, makes}
use Rattle.directory.specs.declared.creating.Missing.{Missing}
use Rattle.directory.specs.Descents.{missing_at, or_further, descends, ascends, makes_parent}
use Rattle.directory.proofs.Trees.{regrouped, same_next, gives_last}

pub length-front : (name : List ℕ) (names : List (List ℕ)) → length (front (name ∷ names)) ≡ length names
length-front name [] = refl
length-front name (next ∷ names) = ap suc (length-front next names)

pub climbed : (missing : List Missing) (layer : Layer) (name prefix : List ℕ) (parent : Directory)
    → ascends parent (reverse (missing ++ missing_at layer name prefix ∷ []))
    ≡ (enters layer parent name prefix [] >>= (λ entered. ascends entered (reverse missing)))
unfolding ascends
climbed missing layer name prefix parent = ap (ascends parent) (reverse-append missing (missing_at layer name prefix ∷ []))

-- one name further down, where the names above it are known
one_further : (bound : ℕ) (layer : Layer) (name : List ℕ) (names : List (List ℕ)) (missing : List Missing)
    → ((layer : Layer) (path : List (List ℕ)) (missing : List Missing)
    → (descends bound layer path missing >>= (λ found. ascends found.0 (reverse found.1)))
    ≡ (or_root layer path (makes bound to_create_or_open layer path None None) >>= (λ parent. ascends parent (reverse missing))))
    → (descends (suc bound) layer (name ∷ names) missing >>= (λ found. ascends found.0 (reverse found.1)))
    ≡ (makes (suc bound) to_create_or_open layer (name ∷ names) None None >>= (λ parent. ascends parent (reverse missing)))
unfolding descends makes
one_further bound layer name names missing further =
    regrouped looked (λ at. or_further missing at.found (taken at >>= down at)) upwards
    ∙ same_next looked (λ at. or_further missing at.found (taken at >>= down at) >>= upwards)
    (λ at. or_else at.found (taken at >>= made at) >>= up) (λ at. by at at.found)
    ∙ sym (regrouped looked (λ at. or_else at.found (taken at >>= made at)) up)
  where
    looked : Course Place
    looked = looks to_create_or_open layer (name ∷ names) None None

    taken : Place → Course (List ℕ)
    taken at = takes_prefix at.layer None

    lower : (at : Place) (prefix : List ℕ) → List Missing
    lower at prefix = missing ++ missing_at at.layer (last_name at.path) prefix ∷ []

    down : (at : Place) (prefix : List ℕ) → Course (Directory × List Missing)
    down at prefix = descends bound at.layer (front at.path) (lower at prefix)

    upwards : (Directory × List Missing) → Course Directory
    upwards found = ascends found.0 (reverse found.1)

    up : Directory → Course Directory
    up parent = ascends parent (reverse missing)

    above : Place → Course Directory
    above at = or_root at.layer (front at.path) (makes bound to_create_or_open at.layer (front at.path) None None)

    made : (at : Place) (prefix : List ℕ) → Course Directory
    made at prefix = above at >>= (λ parent. enters at.layer parent (last_name at.path) prefix [])

    step : (at : Place) (prefix : List ℕ) → (down at prefix >>= upwards) ≡ (made at prefix >>= up)
    step at prefix =
        further at.layer (front at.path) (lower at prefix)
        ∙ same_next (above at) (λ parent. ascends parent (reverse (lower at prefix)))
        (λ parent. enters at.layer parent (last_name at.path) prefix [] >>= up) (climbed missing at.layer (last_name at.path) prefix)
        ∙ sym (regrouped (above at) (λ parent. enters at.layer parent (last_name at.path) prefix []) up)

    by : (at : Place) (found : Option Directory)
        → (or_further missing found (taken at >>= down at) >>= upwards) ≡ (or_else found (taken at >>= made at) >>= up)
    by at (Some found) = refl
    by at None = regrouped (taken at) (down at) upwards
        ∙ same_next (taken at) (λ prefix. down at prefix >>= upwards) (λ prefix. made at prefix >>= up) (step at)
        ∙ sym (regrouped (taken at) (made at) up)

-- down, and then up, is what the same steps again and again make, and then up
down_and_up : (bound : ℕ) (layer : Layer) (path : List (List ℕ)) (missing : List Missing)
    → (descends bound layer path missing >>= (λ found. ascends found.0 (reverse found.1)))
    ≡ (or_root layer path (makes bound to_create_or_open layer path None None) >>= (λ parent. ascends parent (reverse missing)))
unfolding descends makes
down_and_up zero layer [] missing = refl
down_and_up (suc bound) layer [] missing = refl
down_and_up zero layer (name ∷ names) missing = refl
down_and_up (suc bound) layer (name ∷ names) missing = one_further bound layer name names missing (λ layer path missing. down_and_up bound layer path missing)

-- The parent that is made in two loops.
pub parents_made : (bound : ℕ) (layer : Layer) (path : List (List ℕ))
    → makes_parent bound layer path ≡ or_root layer path (makes bound to_create_or_open layer path None None)
unfolding makes_parent ascends
parents_made bound layer path =
    down_and_up bound layer path [] ∙ gives_last (or_root layer path (makes bound to_create_or_open layer path None None))
