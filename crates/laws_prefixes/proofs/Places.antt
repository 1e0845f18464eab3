-- A script on which an allocator alone wrote to its subspace, and entries behind it.
use Rattle.std.proofs.Common.{◌≡◌, ℕ, zero, suc, ◌+◌, ◌<◌, ◌⊎◌, inl, inr, Bool, true, false, List, [], ◌∷◌, ◌++◌, length, Some, refl, sym, ap, ◌∙◌, arith}
use Rattle.std.specs.Prelude.{if◌then◌else◌, slice_get, bytes_eq}
use Rattle.std.proofs.lemmas.Bool.{false_from_ne_true}
use Rattle.std.proofs.lemmas.Option.{none-some, same_Some, slice_get_within}
use Rattle.std.proofs.lemmas.Slice.Eq.{bytes_eq-Decides}
use Rattle.key_bytes.specs.Keys.{begins_with}
use Rattle.model_database.specs.Databases.{Mutation}
use Rattle.model_database.specs.Histories.{Entry, Script, Wrote, HasRead, Granted, written}
use Rattle.model_database.specs.States.{filled, all_filled, touches}
use Rattle.laws_prefixes.specs.Prefixes.{IsGranting, IsOfGrant, TouchesSpace, granted_by, grants_in}
use Rattle.laws_prefixes.proofs.Leaving.{AreLeaving, filled_leaves, untouched_leaves}
use Rattle.laws_prefixes.proofs.Listed.{IsBehind, get_front, get_behind, get_parts, none_of_both}

-- ---- notes of grants

-- a note on a subspace gives its number
pub granted_itself : (space : List ℕ) (number from : ℕ) → granted_by space (Granted space number from) ≡ number ∷ []
granted_itself space number from = ap (λ b. if b then number ∷ [] else []) ((bytes_eq-Decides space space).1 refl)

-- and on another one none
pub granted_elsewhere : (asked space : List ℕ) (number from : ℕ) → bytes_eq space asked ≡ false
    → granted_by asked (Granted space number from) ≡ []
granted_elsewhere asked space number from differ = ap (λ b. if b then number ∷ [] else []) differ

-- entries that grant no number on a subspace have no note on it
pub none_granted : (space : List ℕ) (entries : Script) (end number from : ℕ) → grants_in space entries ≡ []
    → slice_get entries end ≡ Some (Granted space number from) → ⊥
none_granted space [] end number from none found = none-some (Granted space number from) found
none_granted space (entry ∷ entries) zero number from none found =
    let own = sym (granted_itself space number from)
    ∙ sym (ap (granted_by space) (same_Some entry (Granted space number from) found))
    ∙ (none_of_both (granted_by space entry) (grants_in space entries) none).0 in
    absurd cc
none_granted space (entry ∷ entries) (suc end) number from none found =
    none_granted space entries end number from (none_of_both (granted_by space entry) (grants_in space entries) none).1 found

-- where a note begins
abbrev from_of : Entry → ℕ
from_of (Granted space number from) = from
from_of (Wrote mutation adds_conflict) = 0
from_of (HasRead read answer) = 0

-- ---- what stands before entries

-- a place is of the same grant in another script that has its note at the same place
with_note : (space : List ℕ) (script other : Script) (place : ℕ) (of_grant : IsOfGrant space script place)
    → slice_get other of_grant.end ≡ Some (Granted space of_grant.number of_grant.from) → IsOfGrant space other place
with_note space script other place of_grant granted = record {
  number = of_grant.number;
  from = of_grant.from;
  end = of_grant.end;
  granted = granted;
  not_before = of_grant.not_before;
  before_end = of_grant.before_end;
}

-- a place of a script is of a grant of the script itself, where it is of one among entries behind the script that have no note
of_front : (space : List ℕ) (script entries : Script) (place : ℕ) → grants_in space entries ≡ []
    → IsOfGrant space (script ++ entries) place → IsOfGrant space script place
of_front space script entries place none of_grant =
    by (get_parts script entries of_grant.end (Granted space of_grant.number of_grant.from) of_grant.granted)
  where
    by : (slice_get script of_grant.end ≡ Some (Granted space of_grant.number of_grant.from))
        ⊎ IsBehind script entries of_grant.end (Granted space of_grant.number of_grant.from) → IsOfGrant space script place
    by (inl front) = with_note space (script ++ entries) script place of_grant front
    by (inr behind) = absurd (none_granted space entries behind.within of_grant.number of_grant.from none behind.found)

-- a note that stands alone, at the place of a note, begins where that one does
note_from : (space : List ℕ) (from within other number start : ℕ)
    → slice_get (Granted space number from ∷ []) within ≡ Some (Granted space other start) → start ≡ from
note_from space from zero other number start found =
    sym (ap from_of (same_Some (Granted space number from) (Granted space other start) found))
note_from space from (suc within) other number start found = absurd (none-some (Granted space other start) found)

-- the same where the entries end with a note on the subspace, of a call that began behind the script
of_before_note : (space : List ℕ) (script entries : Script) (number place : ℕ) → place < length script → grants_in space entries ≡ []
    → IsOfGrant space ((script ++ entries) ++ Granted space number (length script) ∷ []) place → IsOfGrant space script place
of_before_note space script entries number place early none of_grant =
    by (get_parts (script ++ entries) (Granted space number (length script) ∷ []) of_grant.end
    (Granted space of_grant.number of_grant.from) of_grant.granted)
  where
    by : (slice_get (script ++ entries) of_grant.end ≡ Some (Granted space of_grant.number of_grant.from))
        ⊎ IsBehind (script ++ entries) (Granted space number (length script) ∷ []) of_grant.end
        (Granted space of_grant.number of_grant.from) → IsOfGrant space script place
    by (inl front) = of_front space script entries place none
        (with_note space ((script ++ entries) ++ Granted space number (length script) ∷ []) (script ++ entries) place of_grant front)
    by (inr behind) =
        let same = note_from space (length script) behind.within of_grant.number number of_grant.from behind.found in
        absurd (omega (arith, early, same, of_grant.not_before))

-- what stood before entries without a note is such a script by itself
pub granting_front : (stamp space : List ℕ) (script entries : Script) → grants_in space entries ≡ []
    → IsGranting stamp space (script ++ entries) → IsGranting stamp space script
granting_front stamp space script entries none granting place mutation adds_conflict found touched =
    of_front space script entries place none
    (granting place mutation adds_conflict (get_front script entries place (Wrote mutation adds_conflict) found) touched)

-- and so is what stood before a call that granted a number on the subspace
pub granting_before_note : (stamp space : List ℕ) (script entries : Script) (number : ℕ) → grants_in space entries ≡ []
    → IsGranting stamp space ((script ++ entries) ++ Granted space number (length script) ∷ []) → IsGranting stamp space script
granting_before_note stamp space script entries number none granting place mutation adds_conflict found touched =
    of_before_note space script entries number place (slice_get_within script place (Wrote mutation adds_conflict) found) none
    (granting place mutation adds_conflict
    (get_front (script ++ entries) (Granted space number (length script) ∷ []) place (Wrote mutation adds_conflict)
    (get_front script entries place (Wrote mutation adds_conflict) found)) touched)

-- ---- what entries without a note wrote

-- no write of these entries touches a key of the subspace, where this is the versionstamp of its commit
abbrev AreApartFrom : (stamp space : List ℕ) → Script → Type 0
AreApartFrom stamp space entries = (place : ℕ) (mutation : Mutation) (adds_conflict : Bool)
    → slice_get entries place ≡ Some (Wrote mutation adds_conflict)
    → TouchesSpace space (filled stamp mutation) → ⊥

-- it is so of entries without a note behind a script
others_apart : (stamp space : List ℕ) (script entries : Script) → grants_in space entries ≡ []
    → IsGranting stamp space (script ++ entries) → AreApartFrom stamp space entries
others_apart stamp space script entries none granting place mutation adds_conflict found touched =
    by (granting (length script + place) mutation adds_conflict (get_behind script entries place ∙ found) touched)
  where
    by : IsOfGrant space (script ++ entries) (length script + place) → ⊥
    by of_grant = in_part
        (get_parts script entries of_grant.end (Granted space of_grant.number of_grant.from) of_grant.granted)
      where
        in_part : (slice_get script of_grant.end ≡ Some (Granted space of_grant.number of_grant.from))
            ⊎ IsBehind script entries of_grant.end (Granted space of_grant.number of_grant.from) → ⊥
        in_part (inl front) =
            let early = slice_get_within script of_grant.end (Granted space of_grant.number of_grant.from) front in
            absurd (omega (arith, early, of_grant.before_end))
        in_part (inr behind) = none_granted space entries behind.within of_grant.number of_grant.from none behind.found

-- a mutation that touches no key of a subspace doesn't touch one of them
apart_untouched : (stamp space : List ℕ) (mutation : Mutation) → (TouchesSpace space (filled stamp mutation) → ⊥)
    → (key : List ℕ) → begins_with key space ≡ true → touches (filled stamp mutation) key ≡ false
apart_untouched stamp space mutation apart key inside =
    false_from_ne_true (touches (filled stamp mutation) key) (λ touched. apart (record { key = key; inside = inside; touched = touched }))

-- such entries leave the keys of the subspace
apart_leaving : (stamp space : List ℕ) (entries : Script) → AreApartFrom stamp space entries → AreLeaving space (written entries)
apart_leaving stamp space [] apart = tt
apart_leaving stamp space (Wrote mutation adds_conflict ∷ entries) apart = (
  λ key inside. filled_leaves stamp mutation key (apart_untouched stamp space mutation (apart 0 mutation adds_conflict refl) key inside),
  apart_leaving stamp space entries (λ place. apart (suc place)),
)
apart_leaving stamp space (HasRead read answer ∷ entries) apart = apart_leaving stamp space entries (λ place. apart (suc place))
apart_leaving stamp space (Granted other number from ∷ entries) apart = apart_leaving stamp space entries (λ place. apart (suc place))

-- and with the versionstamp filled in
apart_filled_leaving : (stamp space : List ℕ) (entries : Script) → AreApartFrom stamp space entries
    → AreLeaving space (all_filled stamp (written entries))
apart_filled_leaving stamp space [] apart = tt
apart_filled_leaving stamp space (Wrote mutation adds_conflict ∷ entries) apart = (
  λ key inside. untouched_leaves (filled stamp mutation) key
      (apart_untouched stamp space mutation (apart 0 mutation adds_conflict refl) key inside),
  apart_filled_leaving stamp space entries (λ place. apart (suc place)),
)
apart_filled_leaving stamp space (HasRead read answer ∷ entries) apart =
    apart_filled_leaving stamp space entries (λ place. apart (suc place))
apart_filled_leaving stamp space (Granted other number from ∷ entries) apart =
    apart_filled_leaving stamp space entries (λ place. apart (suc place))

-- so entries without a note behind a script leave the keys of the subspace
pub others_leaving : (stamp space : List ℕ) (script entries : Script) → grants_in space entries ≡ []
    → IsGranting stamp space (script ++ entries) → AreLeaving space (written entries)
others_leaving stamp space script entries none granting =
    apart_leaving stamp space entries (others_apart stamp space script entries none granting)

-- also with the versionstamp filled in
pub others_filled_leaving : (stamp space : List ℕ) (script entries : Script) → grants_in space entries ≡ []
    → IsGranting stamp space (script ++ entries) → AreLeaving space (all_filled stamp (written entries))
others_filled_leaving stamp space script entries none granting =
    apart_filled_leaving stamp space entries (others_apart stamp space script entries none granting)
