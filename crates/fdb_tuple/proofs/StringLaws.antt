-- A string is read exactly where its spelling stands, and refused exactly where it has no end.
use Rattle.std.proofs.Common.{◌≡◌, ℕ, zero, suc, ◌==◌, List, [], ◌∷◌, ◌++◌, Result, Ok, Err, refl, ap}
use Rattle.std.proofs.lemmas.Bool.{eqb-true, eqb-false, cond_both}
use Rattle.fdb_tuple.specs.declared.fault.UnpackFault.{UnpackFault}
use Rattle.fdb_tuple.specs.declared.fault.UnpackFault.TheVariants as fault
use Rattle.fdb_tuple.specs.Zeros.{IsNoEscape}
use Rattle.fdb_tuple.specs.Spelling.{escaped_byte, escaped, string_spelled}
use Rattle.fdb_tuple.specs.Reading.{after_run, string_at}
use Rattle.fdb_tuple.specs.Stops.{HasNoEnd}
use Rattle.fdb_tuple.proofs.Strings.{string_end}

-- what reading a string may give: the string that is spelled first, or that there is no end
abbrev pub StringIs : ℕ → List ℕ → Result (List ℕ × List ℕ) UnpackFault → Type 0
StringIs whole bytes (Ok x) = (bytes ≡ string_spelled x.0 ++ x.1) × IsNoEscape x.1
StringIs whole bytes (Err f) = HasNoEnd bytes × (f ≡ fault.Truncated whole)

string_goes_on : (whole b : ℕ) (rest : List ℕ) (read : Result (List ℕ × List ℕ) UnpackFault) → StringIs whole rest read
    → StringIs whole (escaped_byte b ++ rest) (after_run (b ∷ []) read)
string_goes_on whole zero rest (Ok x) is = (ap (λ (bytes : List ℕ). 0 ∷ 255 ∷ bytes) is.0, is.1)
string_goes_on whole zero rest (Err f) is = ((0 ∷ is.0.0, ap (λ (bytes : List ℕ). 0 ∷ 255 ∷ bytes) is.0.1), is.1)
string_goes_on whole (suc b) rest (Ok x) is = (ap (λ (bytes : List ℕ). suc b ∷ bytes) is.0, is.1)
string_goes_on whole (suc b) rest (Err f) is = ((suc b ∷ is.0.0, ap (λ (bytes : List ℕ). suc b ∷ bytes) is.0.1), is.1)

pub string_found : (whole : ℕ) (bytes : List ℕ) → StringIs whole bytes (string_at whole bytes)
unfolding string_at
string_found whole [] = (([], refl), refl)
string_found whole (suc b ∷ rest) = string_goes_on whole (suc b) rest (string_at whole rest) (string_found whole rest)
string_found whole (zero ∷ []) = (refl, tt)
string_found whole (zero ∷ b ∷ rest) =
    cond_both (b == 255) (after_run (0 ∷ []) (string_at whole rest)) (Ok ([], b ∷ rest)) (StringIs whole (0 ∷ b ∷ rest))
    (λ escape. rw (eqb-true b 255 escape) (string_goes_on whole zero rest (string_at whole rest) (string_found whole rest)))
    (λ end. (refl, eqb-false b 255 end))

pub string_again : (whole : ℕ) (string rest : List ℕ) → IsNoEscape rest
    → string_at whole (string_spelled string ++ rest) ≡ Ok (string, rest)
unfolding string_at
string_again whole [] rest end = string_end whole rest end
string_again whole (zero ∷ string) rest end = ap (after_run (0 ∷ [])) (string_again whole string rest end)
string_again whole (suc b ∷ string) rest end = ap (after_run (suc b ∷ [])) (string_again whole string rest end)

pub string_open : (whole : ℕ) (string : List ℕ) → string_at whole (escaped string) ≡ Err (fault.Truncated whole)
unfolding string_at
string_open whole [] = refl
string_open whole (zero ∷ string) = ap (after_run (0 ∷ [])) (string_open whole string)
string_open whole (suc b ∷ string) = ap (after_run (suc b ∷ [])) (string_open whole string)
