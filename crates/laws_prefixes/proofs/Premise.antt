-- Calls of an allocator that grant a number keep the premise of the law, so it can be met.
use Rattle.std.proofs.Common.{◌≡◌, ℕ, zero, suc, ◌+◌, ◌⊎◌, inl, inr, Bool, List, [], ◌∷◌, ◌++◌, length, Some, sym, subst, length-append, arith}
use Rattle.std.specs.Prelude.{slice_get}
use Rattle.std.proofs.lemmas.Option.{none-some, slice_get_within}
use Rattle.model_database.specs.Databases.{Mutation}
use Rattle.model_database.specs.Histories.{Script, Setting, Wrote, Granted}
use Rattle.model_database.specs.Transactions.{Transaction, fresh}
use Rattle.laws_prefixes.specs.Prefixes.{IsGranting, IsOfGrant}
use Rattle.laws_prefixes.specs.Held.{HasGranted}
use Rattle.laws_prefixes.proofs.Listed.{IsBehind, get_behind, get_front, get_parts}

-- a life before its first call meets it
pub fresh_granting : (stamp space : List ℕ) (life : ℕ) → IsGranting stamp space (fresh life).script
fresh_granting stamp space life place mutation adds_conflict found touched = absurd (none-some (Wrote mutation adds_conflict) found)

-- a note is no write
note_unwritten : (space : List ℕ) (number from within : ℕ) (mutation : Mutation) (adds_conflict : Bool)
    → slice_get (Granted space number from ∷ []) within ≡ Some (Wrote mutation adds_conflict) → ⊥
note_unwritten space number from zero mutation adds_conflict found = absurd cc
note_unwritten space number from (suc within) mutation adds_conflict found = none-some (Wrote mutation adds_conflict) found

-- a script that meets it meets it with the entries of a call that granted a number on the subspace, and its note
noted_granting : (stamp space : List ℕ) (script entries : Script) (number : ℕ) → IsGranting stamp space script
    → IsGranting stamp space ((script ++ entries) ++ Granted space number (length script) ∷ [])
noted_granting stamp space script entries number granting place mutation adds_conflict found touched =
    in_all (get_parts (script ++ entries) (Granted space number (length script) ∷ []) place (Wrote mutation adds_conflict) found)
  where
    in_front : (slice_get script place ≡ Some (Wrote mutation adds_conflict)) ⊎ IsBehind script entries place (Wrote mutation adds_conflict)
        → IsOfGrant space ((script ++ entries) ++ Granted space number (length script) ∷ []) place
    in_front (inl early) =
        let of_grant = granting place mutation adds_conflict early touched in record {
          number = of_grant.number;
          from = of_grant.from;
          end = of_grant.end;
          granted = get_front (script ++ entries) (Granted space number (length script) ∷ []) of_grant.end _
              (get_front script entries of_grant.end _ of_grant.granted);
          not_before = of_grant.not_before;
          before_end = of_grant.before_end;
        }
    in_front (inr behind) = record {
      number = number;
      from = length script;
      end = length (script ++ entries) + 0;
      granted = get_behind (script ++ entries) (Granted space number (length script) ∷ []) 0;
      not_before = omega (arith, behind.is);
      before_end = omega (
        arith,
        behind.is,
        length-append script entries,
        slice_get_within entries behind.within (Wrote mutation adds_conflict) behind.found,
      );
    }

    in_all : (slice_get (script ++ entries) place ≡ Some (Wrote mutation adds_conflict))
        ⊎ IsBehind (script ++ entries) (Granted space number (length script) ∷ []) place (Wrote mutation adds_conflict)
        → IsOfGrant space ((script ++ entries) ++ Granted space number (length script) ∷ []) place
    in_all (inl early) = in_front (get_parts script entries place (Wrote mutation adds_conflict) early)
    in_all (inr behind) = absurd (note_unwritten space number (length script) behind.within mutation adds_conflict behind.found)

-- so each call that grants a number keeps the premise
pub granted_granting : (setting : Setting) (stamp space : List ℕ) (number : ℕ) (before after : Transaction)
    → HasGranted setting space number before after → IsGranting stamp space before.script → IsGranting stamp space after.script
granted_granting setting stamp space number before after granted granting =
    subst (IsGranting stamp space) (sym granted.noted)
    (noted_granting stamp space before.script granted.entries number granting)
