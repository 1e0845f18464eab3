-- What is held of a transaction stays held.
use Rattle.std.proofs.Common.{◌≡◌, ℕ, ◌≤◌, ◌⊎◌, inl, inr, Bool, true, false, List, [], ◌∷◌, ◌++◌, length, Some, refl, sym, ap, subst, ◌∙◌, length-append, arith}
use Rattle.std.specs.Prelude.{◌||◌, slice_get, bytes_eq, unwrap_or}
use Rattle.std.proofs.lemmas.Bool.{false_from_ne_true, or_cases, or_left, or_right}
use Rattle.std.proofs.lemmas.List.{append_assoc, append-nil}
use Rattle.std.proofs.lemmas.Option.{none-some}
use Rattle.std.proofs.lemmas.Slice.Eq.{bytes_eq-Decides}
use Rattle.model_database.specs.Histories.{History, Script, Setting, Granted, at, write_conflicts_by, last, written}
use Rattle.model_database.specs.Intervals.{decided}
use Rattle.model_database.specs.States.{all_filled, covers}
use Rattle.model_database.specs.Transactions.{Transaction, write_conflicts_of, fresh, version_in, writes_of}
use Rattle.model_database.proofs.AddingConflicts.{write_conflicts-append, written-append, written_granted}
use Rattle.model_database.proofs.States.{covers-append, filled-append}
use Rattle.model_allocator.specs.Counters.{recent_key}
use Rattle.model_machine.proofs.Chains.{at_before}
use Rattle.laws_prefixes.specs.Prefixes.{IsGranting, granted_by, grants_in}
use Rattle.laws_prefixes.specs.Held.{AreDistinct, AreFit, AreSpending, HasGranted, HasGrown, IsFit, IsGrantOf, IsHeld, IsSpent}
use Rattle.laws_prefixes.proofs.Leaving.{leaving_fit}
use Rattle.laws_prefixes.proofs.Listed.{IsBehind, distinct_more, get_alone, get_parts}
use Rattle.laws_prefixes.proofs.Places.{granted_elsewhere, granted_itself, granting_before_note, granting_front, others_filled_leaving, others_leaving}
use Rattle.laws_prefixes.proofs.Recording.{grants-append}
use Rattle.laws_prefixes.proofs.Spending.{fit_append, fit_nothing, spending_first, spending_last}

-- ---- what some entries more leave of a transaction

-- A transaction has these entries more, of which the mutations are fit for the allocator of a subspace, also with this versionstamp
-- filled in; and it keeps its version, its read conflict ranges and the write conflict ranges that were added to it.
record HasMore (stamp space : List ℕ) (before after : Transaction) (entries : Script) : Type 0 where
  pub more : after.script ≡ before.script ++ entries
  pub fit : AreFit space (written entries)
  pub filled_fit : AreFit space (all_filled stamp (written entries))
  pub taken : (version : ℕ) → before.version ≡ Some version → after.version ≡ Some version
  pub read_conflict_still : (key : List ℕ) → covers before.read_ranges key ≡ true → covers after.read_ranges key ≡ true
  pub adds_conflict_still : (key : List ℕ) → covers before.write_ranges key ≡ true → covers after.write_ranges key ≡ true

-- its mutations are those before and those of the entries
writes_more : (before after : Transaction) (entries : Script) → after.script ≡ before.script ++ entries
    → writes_of after ≡ writes_of before ++ written entries
writes_more before after entries more = ap written more ∙ written-append before.script entries

-- also with the versionstamp filled in
filled_more : (stamp : List ℕ) (before after : Transaction) (entries : Script) → after.script ≡ before.script ++ entries
    → all_filled stamp (writes_of after) ≡ all_filled stamp (writes_of before) ++ all_filled stamp (written entries)
filled_more stamp before after entries more =
    ap (all_filled stamp) (writes_more before after entries more) ∙ filled-append stamp (writes_of before) (written entries)

-- a write conflict range stays one
write_conflicts_more : (stamp : List ℕ) (before after : Transaction) (entries : Script) (key : List ℕ) → after.script ≡ before.script ++ entries
    → (covers before.write_ranges key ≡ true → covers after.write_ranges key ≡ true)
    → covers (write_conflicts_of stamp before) key ≡ true → covers (write_conflicts_of stamp after) key ≡ true
write_conflicts_more stamp before after entries key more still adds_conflict =
    covers-append (write_conflicts_by stamp after.script) after.write_ranges key
    ∙ by (or_cases (covers (write_conflicts_by stamp before.script) key) (covers before.write_ranges key)
    (sym (covers-append (write_conflicts_by stamp before.script) before.write_ranges key) ∙ adds_conflict))
  where
    by : (covers (write_conflicts_by stamp before.script) key ≡ true) ⊎ (covers before.write_ranges key ≡ true)
        → (covers (write_conflicts_by stamp after.script) key || covers after.write_ranges key) ≡ true
    by (inl own) = or_left (covers (write_conflicts_by stamp after.script) key) (covers after.write_ranges key)
        (ap (λ ranges. covers ranges key) (ap (write_conflicts_by stamp) more ∙ write_conflicts-append stamp before.script entries)
        ∙ covers-append (write_conflicts_by stamp before.script) (write_conflicts_by stamp entries) key
        ∙ or_left (covers (write_conflicts_by stamp before.script) key) (covers (write_conflicts_by stamp entries) key) own)
    by (inr told) = or_right (covers (write_conflicts_by stamp after.script) key) (covers after.write_ranges key) (still told)

-- what holds of a number that was granted before, holds still
grant_more : (history : History) (stamp space : List ℕ) (before after : Transaction) (entries : Script) (number : ℕ)
    → HasMore stamp space before after entries → IsGrantOf history stamp space before number → IsGrantOf history stamp space after number
grant_more history stamp space before after entries number has grant = record {
  small = grant.small;
  version = grant.version;
  taken = has.taken grant.version grant.taken;
  reached = grant.reached;
  free = grant.free;
  spent = subst (AreSpending space number) (sym (writes_more before after entries has.more))
      (spending_first space number (writes_of before) (written entries) grant.small grant.spent has.fit);
  filled_spent = subst (AreSpending space number) (sym (filled_more stamp before after entries has.more))
      (spending_first space number (all_filled stamp (writes_of before)) (all_filled stamp (written entries)) grant.small
      grant.filled_spent has.filled_fit);
  read_conflict = has.read_conflict_still (recent_key space number) grant.read_conflict;
  adds_conflict = write_conflicts_more stamp before after entries (recent_key space number) has.more (has.adds_conflict_still (recent_key space number))
      grant.adds_conflict;
}

-- its mutations are fit, as those before
plain_more : (stamp space : List ℕ) (before after : Transaction) (entries : Script) → HasMore stamp space before after entries
    → AreFit space (writes_of before) → AreFit space (writes_of after)
plain_more stamp space before after entries has fit =
    subst (AreFit space) (sym (writes_more before after entries has.more))
    (fit_append space (writes_of before) (written entries) fit has.fit)

-- and so they are with the versionstamp filled in
filled_fit_more : (stamp space : List ℕ) (before after : Transaction) (entries : Script) → HasMore stamp space before after entries
    → AreFit space (all_filled stamp (writes_of before)) → AreFit space (all_filled stamp (writes_of after))
filled_fit_more stamp space before after entries has fit =
    subst (AreFit space) (sym (filled_more stamp before after entries has.more))
    (fit_append space (all_filled stamp (writes_of before)) (all_filled stamp (written entries)) fit has.filled_fit)

-- ---- entries that grant no number on a subspace

-- they leave the transaction fit for that subspace
grown_fit : (history : History) (stamp space : List ℕ) (before after : Transaction) (entries : Script)
    → after.script ≡ before.script ++ entries → grants_in space entries ≡ []
    → ((version : ℕ) → before.version ≡ Some version → after.version ≡ Some version)
    → ((key : List ℕ) → covers before.read_ranges key ≡ true → covers after.read_ranges key ≡ true)
    → ((key : List ℕ) → covers before.write_ranges key ≡ true → covers after.write_ranges key ≡ true)
    → IsHeld history before → IsGranting stamp space after.script → IsFit history stamp space after
grown_fit history stamp space before after entries more none taken read_conflict_still adds_conflict_still held granting =
    let together : IsGranting stamp space (before.script ++ entries) = subst (IsGranting stamp space) more granting in
    let fit = held stamp space (granting_front stamp space before.script entries none together) in
    let has : HasMore stamp space before after entries = record {
      more = more;
      fit = leaving_fit space (written entries) (others_leaving stamp space before.script entries none together);
      filled_fit = leaving_fit space (all_filled stamp (written entries))
          (others_filled_leaving stamp space before.script entries none together);
      taken = taken;
      read_conflict_still = read_conflict_still;
      adds_conflict_still = adds_conflict_still;
    } in
    let same : grants_in space after.script ≡ grants_in space before.script =
    ap (grants_in space) more ∙ grants-append space before.script entries
    ∙ ap (λ numbers. grants_in space before.script ++ numbers) none ∙ append-nil (grants_in space before.script) in record {
      plain = plain_more stamp space before after entries has fit.plain;
      filled = filled_fit_more stamp space before after entries has fit.filled;
      grants = λ place number found. grant_more history stamp space before after entries number has
          (fit.grants place number (sym (ap (λ numbers. slice_get numbers place) same) ∙ found));
      distinct = subst AreDistinct (sym same) fit.distinct;
    }

-- a call that granted no number keeps what is held
pub grown_held : (history : History) (before after : Transaction) → HasGrown before after → IsHeld history before → IsHeld history after
grown_held history before after grown held stamp space granting =
    grown_fit history stamp space before after grown.entries grown.more (grown.none_noted space) grown.taken grown.read_conflict_still
    grown.adds_conflict_still held granting

-- ---- a call that granted a number

-- the version of a transaction stays once it is taken
version_stays : (setting : Setting) (before : Transaction) (version : ℕ) → before.version ≡ Some version
    → version_in setting before ≡ version
version_stays setting before version taken = ap (λ found. unwrap_or found (last setting.history)) taken

-- on the subspace itself
own_fit : (setting : Setting) (stamp space : List ℕ) (number : ℕ) (before after : Transaction)
    → HasGranted setting space number before after → IsHeld setting.history before → IsGranting stamp space after.script
    → IsFit setting.history stamp space after
own_fit setting stamp space number before after granted held granting =
    let entries = granted.entries in
    let note : Script = Granted space number (length before.script) ∷ [] in
    let version = version_in setting before in
    let together : IsGranting stamp space ((before.script ++ entries) ++ note) = subst (IsGranting stamp space) granted.noted granting in
    let fit = held stamp space (granting_before_note stamp space before.script entries number (granted.none_noted space) together) in
    let none : written (entries ++ note) ≡ written entries = written_granted entries space number (length before.script) in
    let filled_none : all_filled stamp (written (entries ++ note)) ≡ written entries = ap (all_filled stamp) none ∙ granted.plain stamp in
    let has : HasMore stamp space before after (entries ++ note) = record {
      more = granted.noted ∙ append_assoc before.script entries note;
      fit = subst (AreFit space) (sym none) granted.fit;
      filled_fit = subst (AreFit space) (sym filled_none) granted.fit;
      taken = λ taken is. granted.taken ∙ ap Some (version_stays setting before taken is);
      read_conflict_still = granted.read_conflict_still;
      adds_conflict_still = granted.adds_conflict_still;
    } in
    let unspent : AreSpending space number (writes_of before) → ⊥ = λ spending. granted.free (spending (at setting.history version)) in
    let numbers : grants_in space after.script ≡ grants_in space before.script ++ number ∷ [] =
    ap (grants_in space) granted.noted ∙ grants-append space (before.script ++ entries) note
    ∙ ap (λ first. first ++ grants_in space note)
    (grants-append space before.script entries ∙ ap (λ more. grants_in space before.script ++ more) (granted.none_noted space)
    ∙ append-nil (grants_in space before.script))
    ∙ ap (λ last. grants_in space before.script ++ last)
    (append-nil (granted_by space (Granted space number (length before.script))) ∙ granted_itself space number (length before.script)) in
    let own : IsGrantOf setting.history stamp space after number = record {
      small = granted.small;
      version = version;
      taken = granted.taken;
      reached = granted.reached;
      free = λ spent. granted.free (fit.plain.keep (at setting.history version) number granted.small spent);
      spent = subst (AreSpending space number) (sym (writes_more before after (entries ++ note) has.more))
          (spending_last space number (writes_of before) (written (entries ++ note))
          (subst (AreSpending space number) (sym none) granted.spent));
      filled_spent = subst (AreSpending space number) (sym (filled_more stamp before after (entries ++ note) has.more))
          (spending_last space number (all_filled stamp (writes_of before)) (all_filled stamp (written (entries ++ note)))
          (subst (AreSpending space number) (sym filled_none) granted.spent));
      read_conflict = granted.read_conflict (false_from_ne_true (covers (decided (writes_of before)) (recent_key space number))
          (λ decides. unspent (fit.plain.deciding number granted.small decides)));
      adds_conflict = covers-append (write_conflicts_by stamp after.script) after.write_ranges (recent_key space number)
          ∙ or_right (covers (write_conflicts_by stamp after.script) (recent_key space number))
          (covers after.write_ranges (recent_key space number)) granted.adds_conflict;
    } in record {
      plain = plain_more stamp space before after (entries ++ note) has fit.plain;
      filled = filled_fit_more stamp space before after (entries ++ note) has fit.filled;
      grants = λ place other found. grants_at fit has own place other
          (get_parts (grants_in space before.script) (number ∷ []) place other (sym (ap (λ list. slice_get list place) numbers) ∙ found));
      distinct = subst AreDistinct (sym numbers) (distinct_more (grants_in space before.script) number fit.distinct
          (λ place found. unspent (fit.grants place number found).spent));
    }
  where
    grants_at : IsFit setting.history stamp space before
        → HasMore stamp space before after (granted.entries ++ Granted space number (length before.script) ∷ [])
        → IsGrantOf setting.history stamp space after number → (place other : ℕ)
        → (slice_get (grants_in space before.script) place ≡ Some other)
        ⊎ IsBehind (grants_in space before.script) (number ∷ []) place other
        → IsGrantOf setting.history stamp space after other
    grants_at fit has own place other (inl earlier) =
        grant_more setting.history stamp space before after (granted.entries ++ Granted space number (length before.script) ∷ []) other has
        (fit.grants place other earlier)
    grants_at fit has own place other (inr new) =
        subst (IsGrantOf setting.history stamp space after) (get_alone number new.within other new.found).1 own

-- on another subspace
other_fit : (setting : Setting) (stamp asked space : List ℕ) (number : ℕ) (before after : Transaction) → bytes_eq space asked ≡ false
    → HasGranted setting space number before after → IsHeld setting.history before → IsGranting stamp asked after.script
    → IsFit setting.history stamp asked after
other_fit setting stamp asked space number before after differ granted held granting =
    let note : Script = Granted space number (length before.script) ∷ [] in
    grown_fit setting.history stamp asked before after (granted.entries ++ note)
    (granted.noted ∙ append_assoc before.script granted.entries note)
    (grants-append asked granted.entries note ∙ ap (λ numbers. numbers ++ grants_in asked note) (granted.none_noted asked)
    ∙ append-nil (granted_by asked (Granted space number (length before.script)))
    ∙ granted_elsewhere asked space number (length before.script) differ)
    (λ taken is. granted.taken ∙ ap Some (version_stays setting before taken is)) granted.read_conflict_still granted.adds_conflict_still held granting

-- a call of an allocator that granted a number keeps what is held
pub granted_held : (setting : Setting) (space : List ℕ) (number : ℕ) (before after : Transaction)
    → HasGranted setting space number before after → IsHeld setting.history before → IsHeld setting.history after
granted_held setting space number before after granted held stamp asked granting = by (bytes_eq space asked) refl
  where
    by : (b : Bool) → bytes_eq space asked ≡ b → IsFit setting.history stamp asked after
    by true is =
        let same : space ≡ asked = (bytes_eq-Decides space asked).0 is in
        subst (λ named. IsFit setting.history stamp named after) same
        (own_fit setting stamp space number before after granted held
        (subst (λ named. IsGranting stamp named after.script) (sym same) granting))
    by false is = other_fit setting stamp asked space number before after is granted held granting

-- ---- histories and fresh transactions

-- a number that was granted among some commits was so among more
grant_later : (before more : History) (stamp space : List ℕ) (transaction : Transaction) (number : ℕ)
    → IsGrantOf before stamp space transaction number → IsGrantOf (before ++ more) stamp space transaction number
grant_later before more stamp space transaction number grant = record {
  small = grant.small;
  version = grant.version;
  taken = grant.taken;
  reached = subst (λ n. grant.version ≤ n) (sym (length-append before more)) (omega (arith, grant.reached));
  free = λ spent. grant.free (subst (IsSpent space number) (at_before before more grant.version grant.reached) spent);
  spent = grant.spent;
  filled_spent = grant.filled_spent;
  read_conflict = grant.read_conflict;
  adds_conflict = grant.adds_conflict;
}

-- what is held among some commits is held among more
pub later_held : (before more : History) (transaction : Transaction) → IsHeld before transaction → IsHeld (before ++ more) transaction
later_held before more transaction held stamp space granting =
    let fit = held stamp space granting in record {
      plain = fit.plain;
      filled = fit.filled;
      grants = λ place number found. grant_later before more stamp space transaction number (fit.grants place number found);
      distinct = fit.distinct;
    }

-- a life before its first call is held among any commits
pub fresh_held : (history : History) (life : ℕ) → IsHeld history (fresh life)
fresh_held history life stamp space granting = record {
  plain = fit_nothing space;
  filled = fit_nothing space;
  grants = λ place number found. absurd (none-some number found);
  distinct = λ place later one other before found found_later same. none-some one found;
}
