-- Where a path ends, one layer further in.
use Rattle.std.proofs.Common.{◌≡◌, ◌⊎◌, inl, inr, ℕ, zero, suc, ◌+◌, ◌<◌, List, [], ◌∷◌, length, Option, Some, refl, arith}
use Rattle.directory_types.specs.declared.Layer.{Layer}
use Rattle.model_directory.specs.declared.Lookup.{Lookup}
use Rattle.model_directory.specs.declared.Directory.{Directory}
use Rattle.model_directory.specs.Courses.{Course, Gives, ◌>>=◌, Done}
use Rattle.model_directory.specs.Steps.{Found, found_at, Place, place, admits, find, inside, or_inside, arrives}

abbrev pub less_one : ℕ → ℕ
less_one zero = zero
less_one (suc bound) = bound

pub less_one_is : (bound count : ℕ) → count < bound → less_one bound + 1 ≡ bound
less_one_is zero count enough = absurd (omega (arith, enough))
less_one_is (suc bound) count enough = omega arith

-- by what was found
abbrev pub by_found : (bound : ℕ) → Lookup → Layer → (path : List (List ℕ)) → Option Found → Course Place
by_found bound lookup layer path found = or_inside layer path found (λ layer names. arrives (less_one bound) lookup layer names)

abbrev pub behind_admits : (bound : ℕ) → Lookup → Layer → (path : List (List ℕ)) → Done → Course Place
behind_admits bound lookup layer path may = find lookup.snapshot layer path >>= by_found bound lookup layer path

pub one_layer : (bound : ℕ) (lookup : Lookup) (layer : Layer) (path : List (List ℕ)) → length path < bound
    → arrives bound lookup layer path ≡ (admits lookup layer path >>= behind_admits bound lookup layer path)
unfolding arrives
one_layer zero lookup layer path enough = absurd (omega (arith, enough))
one_layer (suc bound) lookup layer path enough = refl

-- no name remains
pub ends_here : (bound : ℕ) (lookup : Lookup) (layer : Layer) (path : List (List ℕ)) (found : Directory) (rest : List (List ℕ)) → length rest ≡ 0
    → by_found bound lookup layer path (Some (found_at found rest)) ≡ Gives (place layer path (Some found))
ends_here bound lookup layer path found [] none = refl
ends_here bound lookup layer path found (name ∷ names) none = absurd (omega (arith, none))

-- names remain
pub begins_again : (bound : ℕ) (lookup : Lookup) (layer : Layer) (path : List (List ℕ)) (found : Directory) (rest : List (List ℕ)) → 0 < length rest
    → by_found bound lookup layer path (Some (found_at found rest)) ≡ arrives (less_one bound) lookup (inside found.prefix) rest
begins_again bound lookup layer path found [] some = absurd (omega (arith, some))
begins_again bound lookup layer path found (name ∷ names) some = refl

-- fewer names remain than there were
pub shorter : (rest names : ℕ) → (rest ≡ 0) ⊎ (rest < names) → 0 < rest → rest < names
shorter rest names (inl none) some = absurd (omega (arith, none, some))
shorter rest names (inr less) some = less
