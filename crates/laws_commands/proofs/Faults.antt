-- Faults that are looked for in turn.
use Rattle.std.proofs.Common.{◌≡◌, [], ◌∷◌, refl}
use Rattle.clap.specs.Kinds.{Kinds, or_else}

pub first_clear : (a b : Kinds) → or_else a b ≡ [] → a ≡ []
first_clear [] b none = refl
first_clear (k ∷ ks) b none = none

pub second_clear : (a b : Kinds) → or_else a b ≡ [] → b ≡ []
second_clear [] b none = none
second_clear (k ∷ ks) b none = cc

pub none_behind : (a : Kinds) → or_else a [] ≡ a
none_behind [] = refl
none_behind (k ∷ ks) = refl
