-- Walks along the keys, up or down.
use Rattle.std.specs.Prelude.{ℕ, ◌==◌, Bool, true, false, not, ◌&&◌, List, is_some}
use Rattle.std.specs.FinMap as finite
use Rattle.std.specs.List.{filter}
use Rattle.key_bytes.specs.Keys.{after, key_le, key_lt}
use Rattle.key_map.specs.Ends.{first}
use Rattle.model_database.specs.Databases.{Database}
use Rattle.model_database.specs.Slices.{Entries, turned}

-- a walk up from a key meets this key: it is not below; a walk down meets it: it is below
abbrev pub is_onward : List ℕ → Bool → List ℕ → Bool
is_onward from true key = key_lt key from
is_onward from false key = key_le from key

-- the pairs that a walk from a key meets, in the order in which it does
abbrev pub onward : Database → List ℕ → Bool → Entries
onward database from backward = filter (λ e. is_onward from backward e.0) (turned backward (finite.entries database))

-- where a walk goes on behind a key
abbrev pub behind : List ℕ → Bool → List ℕ
behind key true = key
behind key false = after key

-- the end of a range at which a walk through it starts
abbrev pub near : List ℕ → List ℕ → Bool → List ℕ
near begin end true = end
near begin end false = begin

-- the two ends of what is left of a range behind a key
abbrev pub begin_behind : List ℕ → List ℕ → Bool → List ℕ
begin_behind begin key true = begin
begin_behind begin key false = after key

abbrev pub end_behind : List ℕ → List ℕ → Bool → List ℕ
end_behind end key true = key
end_behind end key false = end

-- whether a slice goes on behind a page of a size which left this of the range: the limit isn't reached, and a pair is left
abbrev pub has_more : (limit size : ℕ) → Entries → Bool
has_more limit size left = not (limit == size) && is_some (first left)
