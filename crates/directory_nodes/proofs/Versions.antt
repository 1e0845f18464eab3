-- The version that was read: what is written, which one is newer, and what a call does with it.
use Rattle.std.proofs.Common.{◌≡◌, ◌≢◌, ℕ, ◌<◌, ◌≤◌, Bool, true, false, List, [], ◌∷◌, length, get_or, take, drop}
use Rattle.std.proofs.Common.{Some, None, Result, Ok, Err, refl, subst}
use Rattle.std.specs.Prelude.{◌||◌, ◌&&◌, nat_lt}
use Rattle.std.proofs.lemmas.Bool.{eq-eqb, ne_eqb, lt-ltb, le-ltb}
use Rattle.key_bytes.specs.Numbers.{number_low}
use Rattle.model_database.specs.Atomics.{little_bytes}
use Rattle.model_database.specs.Databases.{Set}
use Rattle.model_database.specs.Histories.{Setting}
use Rattle.model_database.specs.Transactions.{Transaction}
use Rattle.directory_types.specs.declared.Layer.{Layer}
use Rattle.directory_types.specs.declared.fault.DirFault.{DirFault}
use Rattle.directory_types.specs.declared.fault.DirFault.TheVariants as fault
use Rattle.model_directory.specs.Courses.{Done, done, does}
use Rattle.model_directory.specs.Nodes.{version_key, version_now, version_numbers, is_newer}
use Rattle.model_directory.specs.Steps.{version_read, version_checked}
use Rattle.directory_nodes.specs.Runs.{Draws, Tells}
use Rattle.directory_nodes.proofs.Following.{gave}
use Rattle.directory_nodes.proofs.Refusing.{told}

-- the version that is written
pub version_bytes : version_now ≡ 1 ∷ 0 ∷ 0 ∷ 0 ∷ 0 ∷ 0 ∷ 0 ∷ 0 ∷ 0 ∷ 0 ∷ 0 ∷ 0 ∷ []
unfolding little_bytes
version_bytes = refl

-- ---- which one is newer

by_second : (first writes second : Bool) → writes ≡ true → second ≡ true → (first || (writes && second)) ≡ true
by_second true writes second written above = refl
by_second false writes second written above = rw (written, above) refl

by_neither : (first writes second : Bool) → first ≡ false → second ≡ false → (first || (writes && second)) ≡ false
by_neither first true second low other = rw (low, other) refl
by_neither first false second low other = rw low refl

pub newer_first : (writes : Bool) (value numbers : List ℕ) → numbers ≡ version_numbers value → 1 < get_or numbers 0 0
    → is_newer writes value ≡ true
newer_first writes value numbers are above =
    let high : 1 < number_low (take 4 value) = subst (λ (numbers : List ℕ). 1 < get_or numbers 0 0) are above in
    rw (lt-ltb 1 (number_low (take 4 value)) high) refl

pub newer_second : (writes : Bool) (value numbers : List ℕ) → numbers ≡ version_numbers value → writes ≡ true
    → nat_lt 0 (get_or numbers 1 0) ≡ true → is_newer writes value ≡ true
newer_second writes value numbers are written above =
    by_second (nat_lt 1 (number_low (take 4 value))) writes (nat_lt 0 (number_low (take 4 (drop 4 value)))) written
    (subst (λ (numbers : List ℕ). nat_lt 0 (get_or numbers 1 0) ≡ true) are above)

low_first : (value numbers : List ℕ) → numbers ≡ version_numbers value → get_or numbers 0 0 ≤ 1
    → nat_lt 1 (number_low (take 4 value)) ≡ false
low_first value numbers are low =
    le-ltb 1 (number_low (take 4 value)) (subst (λ (numbers : List ℕ). get_or numbers 0 0 ≤ 1) are low)

pub known_to_write : (writes : Bool) (value numbers : List ℕ) → numbers ≡ version_numbers value → get_or numbers 0 0 ≤ 1
    → nat_lt 0 (get_or numbers 1 0) ≡ false → is_newer writes value ≡ false
known_to_write writes value numbers are low other =
    by_neither (nat_lt 1 (number_low (take 4 value))) writes (nat_lt 0 (number_low (take 4 (drop 4 value))))
    (low_first value numbers are low)
    (subst (λ (numbers : List ℕ). nat_lt 0 (get_or numbers 1 0) ≡ false) are other)

pub known_to_read : (writes : Bool) (value numbers : List ℕ) → numbers ≡ version_numbers value → get_or numbers 0 0 ≤ 1 → writes ≡ false
    → is_newer writes value ≡ false
known_to_read writes value numbers are low reads = rw (low_first value numbers are low, reads) refl

-- ---- what a call does with it

-- one that isn't of 12 bytes, one that is newer, and any other
pub spoiled_read : (key : List ℕ) (writes : Bool) (value : List ℕ) → length value ≢ 12
    → version_read key writes value ≡ Err (fault.BadNode key)
unfolding version_read
spoiled_read key writes value short = rw (ne_eqb (length value) 12 short) refl

pub newer_read : (key : List ℕ) (writes : Bool) (value numbers : List ℕ) → length value ≡ 12 → is_newer writes value ≡ true
    → numbers ≡ version_numbers value → version_read key writes value ≡ Err (fault.VersionNewer numbers)
unfolding version_read
newer_read key writes value numbers long newer are =
    rw (eq-eqb (length value) 12 long, newer, are) refl

pub known_read : (key : List ℕ) (writes : Bool) (value : List ℕ) → length value ≡ 12 → is_newer writes value ≡ false
    → version_read key writes value ≡ Ok done
unfolding version_read
known_read key writes value long known = rw (eq-eqb (length value) 12 long, known) refl

-- one that was read is judged
pub version_judged : (layer : Layer) (writes : Bool) (value : List ℕ) (result : Result Done DirFault)
    (stands : Setting → Transaction → Type 0) (words : ℕ → ℕ) → Tells result (version_read (version_key layer) writes value)
    → Draws result stands stands words words (version_checked layer writes (Some value))
unfolding version_checked
version_judged layer true value result stands words is = told result (version_read (version_key layer) true value) stands words is
version_judged layer false value result stands words is = told result (version_read (version_key layer) false value) stands words is

-- where there is none, the first call that writes notes it
pub version_noted : (layer : Layer) (writes : Bool) (result : Result Done DirFault) (before after : Setting → Transaction → Type 0)
    (words : ℕ → ℕ) → writes ≡ true → Draws result before after words words (does (Set (version_key layer) version_now))
    → Draws result before after words words (version_checked layer writes None)
unfolding version_checked
version_noted layer true result before after words is noted = noted
version_noted layer false result before after words is noted = absurd cc

pub no_version : (layer : Layer) (writes : Bool) (stands : Setting → Transaction → Type 0) (words : ℕ → ℕ) → writes ≡ false
    → Draws (Ok done) stands stands words words (version_checked layer writes None)
unfolding version_checked
no_version layer true stands words is = absurd cc
no_version layer false stands words is = gave done stands words
