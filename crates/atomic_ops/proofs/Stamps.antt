-- The place that the offset at the end of stamped bytes gives.
use Rattle.std.proofs.Common.{◌≡◌, ◌≤◌, ℕ, zero, suc, ◌+◌, ◌-◌, ◌*◌, List, [], ◌∷◌, length, take, drop, refl, ap, ◌∙◌, length-drop, arith}
use Rattle.std.proofs.lemmas.List.{take_all}
use Rattle.key_bytes.specs.Numbers.{number_low}
use Rattle.model_database.specs.declared.StampForm.{StampForm}
use Rattle.model_database.specs.Atomics.{offset_size}
use Rattle.model_database.specs.States.{stamp_place}
use Rattle.byteorder.specs.Endian.{little_number}
use Rattle.byteorder.specs.Numbers.{little_from-cons}

-- bytes as a number, the lowest first, are that of so many bytes of them as they have
pub little_is_low : (n : ℕ) (bytes : List ℕ) → length bytes ≡ n → little_number n bytes ≡ number_low bytes
unfolding number_low
little_is_low zero [] is = refl
little_is_low (suc n) (byte ∷ bytes) is =
    ap (λ rest. byte + 256 * rest) (little_from-cons 0 n byte bytes ∙ little_is_low n bytes (omega (arith, is)))
little_is_low zero (byte ∷ bytes) is = absurd (omega (arith, is))
little_is_low (suc n) [] is = absurd (omega (arith, is))

-- the last bytes of stamped bytes, as many as the offset of their form has, are as a number the place
pub offset_is_place : (form : StampForm) (n size : ℕ) (bytes : List ℕ) → size ≡ offset_size form → offset_size form ≡ n
    → offset_size form ≤ length bytes
    → little_number n (take (length bytes - (length bytes - size)) (drop (length bytes - size) bytes)) ≡ stamp_place form bytes
offset_is_place form n size bytes sized is within =
    let at = length bytes - size in
    let last = drop at bytes in
    ap (little_number n) (take_all (length bytes - at) last (omega (arith, length-drop at bytes)))
    ∙ little_is_low n last (omega (arith, length-drop at bytes, sized, is, within))
    ∙ ap (λ size. number_low (drop (length bytes - size) bytes)) sized
