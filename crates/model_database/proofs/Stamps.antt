-- The versionstamp of a commit: the version's bytes, the highest first, and two of 00.
use Rattle.std.proofs.Common.{◌≡◌, ℕ, zero, suc, ◌/◌, ◌%◌, ◌^◌, [], ◌∷◌, ◌++◌, length, refl, sym, ap, ◌∙◌}
use Rattle.std.specs.Prelude.{reverse}
use Rattle.std.specs.Int.{w64, byte_at, bytes_high_first, to_be_bytes}
use Rattle.std.proofs.Math.Nat.{pow-succ', div-div-eq-div-mul}
use Rattle.std.proofs.lemmas.List.{reverse-append}
use Rattle.model_database.specs.Atomics.{little_bytes}
use Rattle.model_database.specs.Histories.{stamp_of}

-- one byte more of a number
pub little_bytes-suc : (k n : ℕ) → little_bytes (suc k) n ≡ little_bytes k n ++ byte_at k n ∷ []
unfolding little_bytes
little_bytes-suc zero n = refl
little_bytes-suc (suc zero) n = refl
little_bytes-suc (suc (suc k)) n =
    let shifted : n / 256 / 256 ^ suc k ≡ n / 256 ^ suc (suc k) =
    div-div-eq-div-mul n 256 (256 ^ suc k) ∙ ap (λ (m : ℕ). n / m) (sym (pow-succ' 256 (suc k))) in
    ap (λ list. n % 256 ∷ list) (little_bytes-suc (suc k) (n / 256))
    ∙ ap (λ (m : ℕ). n % 256 ∷ little_bytes (suc k) (n / 256) ++ m % 256 ∷ []) shifted

-- the lowest bytes of a number, the lowest first, are the same from behind with the highest first
pub reverse-little_bytes : (k n : ℕ) → reverse (little_bytes k n) ≡ bytes_high_first k n
unfolding little_bytes
reverse-little_bytes zero n = refl
reverse-little_bytes (suc k) n =
    ap reverse (little_bytes-suc k n)
    ∙ reverse-append (little_bytes k n) (byte_at k n ∷ [])
    ∙ ap (λ list. byte_at k n ∷ list) (reverse-little_bytes k n)

-- as `version.to_be_bytes()` and two bytes more
pub stamp_is : (version : ℕ) → stamp_of version ≡ to_be_bytes w64 version ++ 0 ∷ 0 ∷ []
unfolding stamp_of
stamp_is version = ap (λ list. list ++ 0 ∷ 0 ∷ []) (reverse-little_bytes 8 version)

pub stamp_length : (version : ℕ) → length (stamp_of version) ≡ 10
stamp_length version = ap length (stamp_is version)
