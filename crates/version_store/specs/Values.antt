-- What a key was given, as it lies in its slot.
use Rattle.std.specs.Prelude.{ℕ, Bool, true, false, ◌||◌, List, [], ◌∷◌, Option, map, is_none, nat_lt, nat_le, ⊤}
use Rattle.std.specs.VecDeque.{deque_len, deque_capacity}
use Rattle.version_store.specs.declared.values.Given.{Given}
use Rattle.version_store.specs.declared.values.Values.{Values}
use Rattle.version_store.specs.declared.values.Values.TheVariants.{Nothing, One, Many}
use Rattle.version_store.specs.Versions.{Chain}

abbrev pub given_of : Given → ℕ × Option (List ℕ)
given_of given = (given.version, given.value)

abbrev pub givens : List Given → Chain
givens given = map given_of given

-- the chain of a key
abbrev pub chain_of_values : Values → Chain
chain_of_values Nothing = []
chain_of_values (One given) = given_of given ∷ []
chain_of_values (Many queue) = givens queue.items

-- what was given once, and nothing before
abbrev pub IsOne : Values → Type 0
IsOne Nothing = ⊥
IsOne (One given) = ⊤
IsOne (Many queue) = ⊥

-- one more takes no memory
abbrev pub has_room : Values → Bool
has_room Nothing = true
has_room (One given) = false
has_room (Many queue) = nat_lt (deque_len queue) (deque_capacity queue)

-- no version from an oldest one on needs the last of a chain: it is an absence, as the end is, or the one before it is no later
abbrev pub is_needless : (oldest : ℕ) → Chain → Bool
is_needless oldest [] = false
is_needless oldest (given ∷ []) = is_none given.1
is_needless oldest (given ∷ next ∷ []) = is_none next.1 || nat_le given.0 oldest
is_needless oldest (given ∷ next ∷ more ∷ rest) = is_needless oldest (next ∷ more ∷ rest)
