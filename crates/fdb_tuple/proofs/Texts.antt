-- What `String::from_utf8` answered, and the test of UTF-8.
use Rattle.std.proofs.Common.{◌≡◌, ℕ, Bool, true, false, List, Option, Some, None, Result, Ok, Err, refl, subst, IfOk, IsOk, IsFalse, IsUtf8}
use Rattle.std.specs.Result.{result_ok}
use Rattle.std.specs.Str.{is_utf8}
use Rattle.std.proofs.lemmas.Str.{IsUtf8-from_is_utf8}

abbrev found : {T : Type 0} → T → Option T
found x = Some x

found_is : {T : Type 0} (x y : T) → found x ≡ found y → x ≡ y
found_is x y e = cc

pub at_some : {T E : Type 0} (r : Result T E) (P : T → Type 0) (x : T) → IfOk r P → result_ok r ≡ Some x → P x
at_some (Ok y) P x h e = subst P (found_is y x e) h
at_some (Err d) P x h e = absurd cc

pub at_none : {T E : Type 0} (r : Result T E) → result_ok r ≡ None → IsOk r → ⊥
at_none (Ok y) e h = absurd cc
at_none (Err d) e h = absurd cc

no_text : (b : Bool) (bytes : List ℕ) → is_utf8 bytes ≡ b → (IsUtf8 bytes → ⊥) → IsFalse b
no_text true bytes e h = absurd (h (IsUtf8-from_is_utf8 bytes e))
no_text false bytes e h = refl

pub not_utf8 : (bytes : List ℕ) → (IsUtf8 bytes → ⊥) → IsFalse (is_utf8 bytes)
not_utf8 bytes h = no_text (is_utf8 bytes) bytes refl h
