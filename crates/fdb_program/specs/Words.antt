-- The words that begin the shell.
use Rattle.std.specs.Prelude.{ℕ, Bool, false, List, [], ◌∷◌, codes}
use Rattle.std.specs.Str.{bytes_eq}

-- the one word `shell`
abbrev pub is_shell : List (List ℕ) → Bool
is_shell [] = false
is_shell (word ∷ []) = bytes_eq word (codes "shell")
is_shell (word ∷ other ∷ words) = false
