-- The names of the files of a folder.
use Rattle.std.specs.Prelude.{◌≡◌, true, List, ℕ, nat_eq, String, string_bytes}
use Rattle.std.specs.List.{ends_with}

-- a name ends with a text
abbrev pub HasEnding : {A : Type 0} → List ℕ → String A → Type 0
HasEnding ending name = ends_with nat_eq (string_bytes name) ending ≡ true
