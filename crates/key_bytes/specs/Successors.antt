-- The least key above every key that begins with a prefix.
use Rattle.std.specs.Prelude.{ℕ, ◌+◌, if◌then◌else◌, List, [], ◌∷◌, Option, Some, None, nat_lt, IsTrue}
use Rattle.std.specs.Option.{option_map_or}
use Rattle.key_bytes.specs.Keys.{IsByteString, begins_with, key_le, key_lt}

-- a byte raised by one, alone; nothing is above FF
abbrev pub raised : ℕ → Option (List ℕ)
raised byte = if nat_lt byte 255 then Some ((byte + 1) ∷ []) else None

-- the first byte stays where there is a successor of those behind it, and is raised by one else
abbrev pub strinc : List ℕ → Option (List ℕ)
strinc [] = None
strinc (byte ∷ bytes) = option_map_or (λ next. Some (byte ∷ next)) (strinc bytes) (raised byte)

-- k is above every key that begins with prefix
abbrev pub IsAboveEach : List ℕ → List ℕ → Type 0
IsAboveEach prefix k = (key : List ℕ) → IsByteString key → IsTrue (begins_with key prefix) → IsTrue (key_lt key k)

-- next is the least key above every key that begins with prefix
pub record IsLeastAbove (prefix next : List ℕ) : Type 0 where
  pub key : IsByteString next
  pub above : IsAboveEach prefix next
  pub least : (k : List ℕ) → IsByteString k → IsAboveEach prefix k → IsTrue (key_le next k)
