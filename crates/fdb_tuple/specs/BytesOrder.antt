-- The order of strings as they are spelled.
use Rattle.std.proofs.Common.{◌≡◌, ℕ, zero, suc, ◌<◌, List, [], ◌∷◌, ◌++◌, refl, sym, ap, ◌∙◌, arith}
use Rattle.std.specs.Ordering.{nat_cmp, ordering_then}
use Rattle.std.specs.declared.cmp.Ordering.{Ordering}
use Rattle.std.specs.declared.cmp.Ordering.TheVariants.{Less, Greater}
use Rattle.key_bytes.specs.Keys.{key_cmp}
use Rattle.key_bytes.proofs.Orders.{ordering_then-assoc, nat_cmp-less, nat_cmp-greater, key_cmp-first_less, key_cmp-first_greater}
use Rattle.fdb_tuple.specs.Spelling.{escaped}

-- what may follow a string or a null: nothing, or a byte below FF
abbrev pub IsBelowEscape : List ℕ → Type 0
IsBelowEscape [] = Unit {0}
IsBelowEscape (b ∷ bytes) = b < 0xFF

pub key_cmp-below_escape : (x y : List ℕ) → IsBelowEscape x → key_cmp x (0xFF ∷ y) ≡ Less
key_cmp-below_escape [] y h = refl
key_cmp-below_escape (b ∷ x) y h = key_cmp-first_less b 0xFF x y h

key_cmp-above_escape : (x y : List ℕ) → IsBelowEscape y → key_cmp (0xFF ∷ x) y ≡ Greater
key_cmp-above_escape x [] h = refl
key_cmp-above_escape x (b ∷ y) h = key_cmp-first_greater 0xFF b x y h

-- a string that begins another stands before it, since its 00 is no 00 FF
pub key_cmp-escaped : (a b x y : List ℕ) → IsBelowEscape x → IsBelowEscape y
    → key_cmp (escaped a ++ 0 ∷ x) (escaped b ++ 0 ∷ y) ≡ ordering_then (key_cmp a b) (key_cmp x y)
key_cmp-escaped [] [] x y h k = refl
key_cmp-escaped [] (zero ∷ b) x y h k = key_cmp-below_escape x (escaped b ++ 0 ∷ y) h
key_cmp-escaped [] (suc d ∷ b) x y h k = key_cmp-first_less 0 (suc d) x (escaped b ++ 0 ∷ y) (omega arith)
key_cmp-escaped (zero ∷ a) [] x y h k = key_cmp-above_escape (escaped a ++ 0 ∷ x) y k
key_cmp-escaped (suc c ∷ a) [] x y h k = key_cmp-first_greater (suc c) 0 (escaped a ++ 0 ∷ x) y (omega arith)
key_cmp-escaped (zero ∷ a) (zero ∷ b) x y h k = key_cmp-escaped a b x y h k
key_cmp-escaped (zero ∷ a) (suc d ∷ b) x y h k = rw (nat_cmp-less 0 (suc d) (omega arith)) refl
key_cmp-escaped (suc c ∷ a) (zero ∷ b) x y h k = rw (nat_cmp-greater (suc c) 0 (omega arith)) refl
key_cmp-escaped (suc c ∷ a) (suc d ∷ b) x y h k =
    ap (ordering_then (nat_cmp (suc c) (suc d))) (key_cmp-escaped a b x y h k)
    ∙ sym (ordering_then-assoc (nat_cmp (suc c) (suc d)) (key_cmp a b) (key_cmp x y))
