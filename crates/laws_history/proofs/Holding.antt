-- What is held of a transaction stays held.
use Rattle.std.proofs.Common.{◌≡◌, ℕ, ◌≤◌, Bool, true, false, List, [], ◌∷◌, ◌++◌, Option, Some, None, refl, sym, ap, subst, ◌∙◌, length-append, arith}
use Rattle.std.specs.Prelude.{not, unwrap_or}
use Rattle.std.proofs.lemmas.Bool.{and_from, or_left, or_right}
use Rattle.std.proofs.lemmas.List.{append_assoc, append-nil}
use Rattle.key_bytes.specs.declared.range.KeyRange.{KeyRange}
use Rattle.model_database.specs.declared.Phase.{Phase}
use Rattle.model_database.specs.Databases.{Mutation}
use Rattle.model_database.specs.Histories.{History, Script, Setting, Wrote, HasRead, Granted, last, written}
use Rattle.model_database.specs.Intervals.{added}
use Rattle.model_database.specs.Reads.{Read, Answer, answer}
use Rattle.key_bytes.specs.Ranges.{has}
use Rattle.model_database.specs.States.{covers, seen}
use Rattle.model_database.specs.Transactions.{Transaction, fresh, writes_of, version_in, view, map_below, with_version, with_read, with_mutation, with_range, with_read_range, with_write_range, with_phase, with_granted, with_write_conflict_disabled}
use Rattle.model_database.proofs.AddingConflicts.{written_wrote, written_read, written_granted}
use Rattle.model_database.proofs.Ranges.{covers_with_range}
use Rattle.model_database.proofs.States.{covers-append}
use Rattle.model_machine.proofs.Chains.{at_before}
use Rattle.laws_history.specs.Small.{is_small, are_small}
use Rattle.laws_history.specs.Whole.{EachRead}
use Rattle.laws_history.specs.Held.{IsAnsweredAt, IsHeld}
use Rattle.laws_history.proofs.Smallness.{are_small-append}

-- ---- each read of a script

-- what holds of each read of a script, holds where it says less
pub each_weaker : {P Q : List Mutation → Read → Answer → Type 0} (before : List Mutation) (script : Script)
    → ((writes : List Mutation) (read : Read) (given : Answer) → P writes read given → Q writes read given)
    → EachRead P before script → EachRead Q before script
each_weaker before [] weaker each = tt
each_weaker before (Wrote mutation adds_conflict ∷ script) weaker each = each_weaker (before ++ mutation ∷ []) script weaker each
each_weaker before (HasRead read given ∷ script) weaker each =
    (weaker before read given each.0, each_weaker before script weaker each.1)
each_weaker before (Granted space number from ∷ script) weaker each = each_weaker before script weaker each

-- it holds of each read of two scripts, the second after the writes of the first
pub each-append : (P : List Mutation → Read → Answer → Type 0) (before : List Mutation) (first second : Script)
    → EachRead P before first → EachRead P (before ++ written first) second → EachRead P before (first ++ second)
each-append P before [] second each other = subst (λ writes. EachRead P writes second) (append-nil before) other
each-append P before (Wrote mutation adds_conflict ∷ first) second each other =
    each-append P (before ++ mutation ∷ []) first second each
    (subst (λ writes. EachRead P writes second) (sym (append_assoc before (mutation ∷ []) (written first))) other)
each-append P before (HasRead read given ∷ first) second each other = (each.0, each-append P before first second each.1 other)
each-append P before (Granted space number from ∷ first) second each other = each-append P before first second each other

-- ---- what a read was answered

-- a read was answered so among more commits too
answered_later : (before more : History) (version : Option ℕ) (rests : List KeyRange) (writes : List Mutation) (read : Read) (given : Answer)
    → IsAnsweredAt before version rests writes read given → IsAnsweredAt (before ++ more) version rests writes read given
answered_later before more None rests writes read given answered = absurd answered
answered_later before more (Some version) rests writes read given answered =
    let same = at_before before more version answered.taken in record {
      first = answered.first;
      taken = subst (λ n. version ≤ n) (sym (length-append before more)) (omega (arith, answered.taken));
      is = answered.is ∙ ap (λ database. answer read (seen writes database)) (sym same);
      noted = λ key inside. answered.noted key (subst (λ database. covers (added read database writes) key ≡ true) same inside);
      small = answered.small;
    }

-- and where there are more read conflict ranges
answered_wider : (before : History) (version : Option ℕ) (rests others : List KeyRange)
    → ((key : List ℕ) → covers rests key ≡ true → covers others key ≡ true)
    → (writes : List Mutation) (read : Read) (given : Answer)
    → IsAnsweredAt before version rests writes read given → IsAnsweredAt before version others writes read given
answered_wider before None rests others wider writes read given answered = absurd answered
answered_wider before (Some version) rests others wider writes read given answered = record {
  first = answered.first;
  taken = answered.taken;
  is = answered.is;
  noted = λ key inside. wider key (answered.noted key inside);
  small = answered.small;
}

-- no read was answered before a version was taken
answered_taken : (before : History) (version : Option ℕ) (newest : ℕ) (rests : List KeyRange)
    (writes : List Mutation) (read : Read) (given : Answer)
    → IsAnsweredAt before version rests writes read given → IsAnsweredAt before (Some (unwrap_or version newest)) rests writes read given
answered_taken before None newest rests writes read given answered = absurd answered
answered_taken before (Some version) newest rests writes read given answered = answered

-- ---- what is held of a transaction

-- a life before its first call is held among any commits
pub fresh_held : (before : History) (life : ℕ) → IsHeld before (fresh life)
fresh_held before life = record { answered = tt; small = refl; from_one = λ version none. absurd cc }

-- what is held among some commits is held among more
pub later_held : (before more : History) (transaction : Transaction) → IsHeld before transaction → IsHeld (before ++ more) transaction
later_held before more transaction held = record {
  answered = each_weaker [] transaction.script (answered_later before more transaction.version transaction.read_ranges) held.answered;
  small = held.small;
  from_one = held.from_one;
}

-- a version is taken, where there is a commit
pub version_held : (setting : Setting) (transaction : Transaction) → 1 ≤ last setting.history → IsHeld setting.history transaction
    → IsHeld setting.history (with_version setting transaction)
version_held setting transaction some held = record {
  answered = each_weaker [] transaction.script
      (answered_taken setting.history transaction.version (last setting.history) transaction.read_ranges) held.answered;
  small = held.small;
  from_one = λ version is. subst (λ n. 1 ≤ n) (let same : version_in setting transaction ≡ version = cc in same)
      (taken transaction.version held.from_one);
}
  where
    taken : (version : Option ℕ) → ((n : ℕ) → version ≡ Some n → 1 ≤ n) → 1 ≤ unwrap_or version (last setting.history)
    taken None from_one = some
    taken (Some n) from_one = from_one n refl

-- a version above 0 is set before one is taken
pub set_version_held : (before : History) (transaction : Transaction) (version : ℕ) → transaction.version ≡ None → 1 ≤ version
    → IsHeld before transaction → IsHeld before (record transaction { version = Some version })
set_version_held before transaction version none above held = record {
  answered = each_weaker [] transaction.script unanswered held.answered;
  small = held.small;
  from_one = λ n is. subst (λ m. 1 ≤ m) (let same : version ≡ n = cc in same) above;
}
  where
    unanswered : (writes : List Mutation) (read : Read) (given : Answer)
        → IsAnsweredAt before transaction.version transaction.read_ranges writes read given
        → IsAnsweredAt before (Some version) transaction.read_ranges writes read given
    unanswered writes read given answered =
        absurd (subst (λ taken. IsAnsweredAt before taken transaction.read_ranges writes read given) none answered)

-- a write that is accepted
pub mutation_held : (before : History) (transaction : Transaction) (mutation : Mutation) → is_small mutation ≡ true
    → IsHeld before transaction → IsHeld before (with_mutation transaction mutation)
mutation_held before transaction mutation small held = record {
  answered = each-append (IsAnsweredAt before transaction.version transaction.read_ranges) [] transaction.script
      (Wrote mutation (not transaction.skips_write_conflict) ∷ []) held.answered tt;
  small = ap are_small (written_wrote transaction.script mutation (not transaction.skips_write_conflict))
      ∙ are_small-append (writes_of transaction) (mutation ∷ [])
      ∙ and_from (are_small (writes_of transaction)) (are_small (mutation ∷ [])) held.small (and_from (is_small mutation) true small refl);
  from_one = held.from_one;
}

-- a number that the allocator granted is noted
pub noted_held : (before : History) (transaction : Transaction) (space : List ℕ) (number from : ℕ) → IsHeld before transaction
    → IsHeld before (with_granted transaction space number from)
noted_held before transaction space number from held = record {
  answered = each-append (IsAnsweredAt before transaction.version transaction.read_ranges) [] transaction.script
      (Granted space number from ∷ []) held.answered tt;
  small = ap are_small (written_granted transaction.script space number from) ∙ held.small;
  from_one = held.from_one;
}

-- a read at its version, which is one of those so far
pub read_held : (setting : Setting) (transaction : Transaction) (snapshot : Bool) (read : Read)
    → version_in setting transaction ≤ last setting.history → IsHeld setting.history (with_version setting transaction)
    → IsHeld setting.history (with_read snapshot read (answer read (view setting transaction))
    (added read (map_below setting transaction) (writes_of transaction)) (with_version setting transaction))
read_held setting transaction true read taken held = held
read_held setting transaction false read taken held =
    let version = version_in setting transaction in
    let rests = transaction.read_ranges in
    let more = added read (map_below setting transaction) (writes_of transaction) in
    let given = answer read (view setting transaction) in record {
      answered = each-append (IsAnsweredAt setting.history (Some version) (rests ++ more)) [] transaction.script (HasRead read given ∷ [])
          (each_weaker [] transaction.script (answered_wider setting.history (Some version) rests (rests ++ more)
          (λ key inside. covers-append rests more key ∙ or_left (covers rests key) (covers more key) inside)) held.answered) (
            record {
              first = held.from_one version refl;
              taken = taken;
              is = refl;
              noted = λ key inside. covers-append rests more key ∙ or_right (covers rests key) (covers more key) inside;
              small = held.small;
            },
            tt,
          );
      small = ap are_small (written_read transaction.script read given) ∙ held.small;
      from_one = held.from_one;
    }

-- a read conflict range is added to it
pub read_range_held : (before : History) (transaction : Transaction) (range : KeyRange) → IsHeld before transaction
    → IsHeld before (with_read_range transaction range)
read_range_held before transaction range held =
    let rests = transaction.read_ranges in record {
      answered = each_weaker [] transaction.script (answered_wider before transaction.version rests (with_range rests range)
          (λ key inside. covers_with_range rests range key ∙ or_left (covers rests key) (has range key) inside)) held.answered;
      small = held.small;
      from_one = held.from_one;
    }

-- what is held does not speak of the write conflict ranges that were added to it, nor of the size
pub write_range_held : (before : History) (transaction : Transaction) (range : KeyRange) → IsHeld before transaction
    → IsHeld before (with_write_range transaction range)
write_range_held before transaction range held = record { answered = held.answered; small = held.small; from_one = held.from_one }

-- nor of whether its next write adds a write conflict range
pub write_conflict_disabled_held : (before : History) (transaction : Transaction) → IsHeld before transaction → IsHeld before (with_write_conflict_disabled transaction)
write_conflict_disabled_held before transaction held = record { answered = held.answered; small = held.small; from_one = held.from_one }

-- nor of its phase
pub phase_held : (before : History) (transaction : Transaction) (phase : Phase) → IsHeld before transaction
    → IsHeld before (with_phase transaction phase)
phase_held before transaction phase held = record { answered = held.answered; small = held.small; from_one = held.from_one }
