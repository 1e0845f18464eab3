-- What a transaction writes has a write conflict range or is written without one, and commits that meet no range leave its keys as
-- they are.
use Rattle.std.proofs.Common.{◌≡◌, ℕ, zero, suc, Bool, true, false, cond, List, [], ◌∷◌, ◌++◌, Option, inl, inr, refl, sym, ap, ◌∙◌}
use Rattle.std.specs.Prelude.{◌||◌, ⊤, drop}
use Rattle.std.specs.FinMap as finite
use Rattle.std.specs.List.{list_any}
use Rattle.std.proofs.lemmas.Bool.{both_ways, false_from_ne_true, or_cases, or_parts}
use Rattle.key_bytes.specs.declared.range.KeyRange.{KeyRange}
use Rattle.key_bytes.specs.Ranges.{has}
use Rattle.model_database.specs.Databases.{Database, Mutation, Set, Clear, ClearRange, Atomic, do_all}
use Rattle.model_database.specs.Histories.{Script, Wrote, HasRead, Granted, written, write_range, write_conflicts_by, without_conflict_by, Commit, History, after_commits}
use Rattle.model_database.specs.Intervals.{any_meet}
use Rattle.model_database.specs.KeyByKey.{made_of, at_keys}
use Rattle.model_database.specs.States.{covers, filled, all_filled, touches}
use Rattle.model_database.proofs.KeyByKey.{get-do_all}
use Rattle.model_database.proofs.Ranges.{has_one, any_meet_at}
use Rattle.model_database.proofs.States.{covers-append}
use Rattle.laws_history.specs.Held.{AgreeOn, AreSound}

-- ---- what a script writes

-- the write conflict range of a write has the keys that it touches
pub has_write_range : (mutation : Mutation) (key : List ℕ) → has (write_range mutation) key ≡ touches mutation key
has_write_range (Set other value) key = has_one other key
has_write_range (Clear other) key = has_one other key
has_write_range (ClearRange begin end) key = refl
has_write_range (Atomic op other operand) key = has_one other key

-- of three, it doesn't matter which of the first two comes first
or_swap : (a b c : Bool) → (a || (b || c)) ≡ (b || (a || c))
or_swap true true c = refl
or_swap true false c = refl
or_swap false b c = refl

-- the write conflict ranges of a script and what it writes without one are together the keys that its writes touch
pub covers_written : (stamp : List ℕ) (script : Script) (key : List ℕ)
    → covers (write_conflicts_by stamp script ++ without_conflict_by stamp script) key
    ≡ list_any (λ mutation. touches mutation key) (all_filled stamp (written script))
covers_written stamp [] key = refl
covers_written stamp (Wrote mutation true ∷ script) key = (λ i.
    has_write_range (filled stamp mutation) key i || covers_written stamp script key i)
covers_written stamp (Wrote mutation false ∷ script) key =
    let range = write_range (filled stamp mutation) in
    covers-append (write_conflicts_by stamp script) (range ∷ without_conflict_by stamp script) key
    ∙ or_swap (covers (write_conflicts_by stamp script) key) (has range key) (covers (without_conflict_by stamp script) key)
    ∙ ap (λ b. has range key || b) (sym (covers-append (write_conflicts_by stamp script) (without_conflict_by stamp script) key))
    ∙ (λ i. has_write_range (filled stamp mutation) key i || covers_written stamp script key i)
covers_written stamp (HasRead read answer ∷ script) key = covers_written stamp script key
covers_written stamp (Granted space number from ∷ script) key = covers_written stamp script key

-- so each key that its writes touch is among them
pub written_covered : (stamp : List ℕ) (script : Script) (key : List ℕ)
    → list_any (λ mutation. touches mutation key) (all_filled stamp (written script)) ≡ true
    → covers (write_conflicts_by stamp script ++ without_conflict_by stamp script) key ≡ true
written_covered stamp script key touched = covers_written stamp script key ∙ touched

-- ---- keys that no write touches

-- writes that don't touch a key make of its value what it is
at_untouched : (writes : List Mutation) (key : List ℕ) (old : Option (List ℕ))
    → list_any (λ mutation. touches mutation key) writes ≡ false → at_keys writes key old ≡ old
at_untouched [] key old none = refl
at_untouched (mutation ∷ writes) key old none =
    let parts = or_parts (touches mutation key) (list_any (λ other. touches other key) writes) none in
    ap (λ b. at_keys writes key (cond b (made_of mutation old) old)) parts.0 ∙ at_untouched writes key old parts.1

-- a key that no write touches stays as it is
pub untouched : (writes : List Mutation) (m : Database) (key : List ℕ) → list_any (λ mutation. touches mutation key) writes ≡ false
    → finite.get (do_all writes m) key ≡ finite.get m key
untouched writes m key none = get-do_all writes m key ∙ at_untouched writes key (finite.get m key) none

-- ---- commits that meet no range

-- each key that the commit touches has a write conflict range or is written without one
abbrev pub IsRanged : Commit → Type 0
IsRanged commit = (key : List ℕ) → list_any (λ mutation. touches mutation key) commit.mutations ≡ true
    → covers (commit.write_conflicts ++ commit.without_conflict) key ≡ true

-- the same of each of these commits
abbrev pub AreRanged : List Commit → Type 0
AreRanged [] = ⊤
AreRanged (commit ∷ commits) = IsRanged commit × AreRanged commits

-- it is so of sound commits
pub sound_ranged : (before : History) (commits : List Commit) → AreSound before commits → AreRanged commits
sound_ranged before [] sound = tt
sound_ranged before (commit ∷ commits) sound = (sound.0.ranged, sound_ranged (before ++ commit ∷ []) commits sound.1)

-- and of those behind the first so many
pub ranged-drop : (n : ℕ) (commits : List Commit) → AreRanged commits → AreRanged (drop n commits)
ranged-drop zero commits ranged = ranged
ranged-drop (suc n) [] ranged = tt
ranged-drop (suc n) (commit ∷ commits) ranged = ranged-drop n commits ranged.1

-- a commit that meets no range touches no key of it
pub unmet_untouched : (commit : Commit) (rests : List KeyRange) → IsRanged commit
    → any_meet commit.write_conflicts rests ≡ false → any_meet commit.without_conflict rests ≡ false
    → (key : List ℕ) → covers rests key ≡ true → list_any (λ mutation. touches mutation key) commit.mutations ≡ false
unmet_untouched commit rests ranged without_write_conflicts with_conflict key is_in =
    false_from_ne_true (list_any (λ mutation. touches mutation key) commit.mutations) (λ touched.
    elim (or_cases (covers commit.write_conflicts key) (covers commit.without_conflict key)
    (sym (covers-append commit.write_conflicts commit.without_conflict key) ∙ ranged key touched)) [
      | inl adds_conflict ↦ both_ways (any_meet commit.write_conflicts rests) without_write_conflicts (any_meet_at commit.write_conflicts rests key adds_conflict is_in)
      | inr writes_without_conflict ↦ both_ways (any_meet commit.without_conflict rests) with_conflict (any_meet_at commit.without_conflict rests key writes_without_conflict is_in)
    ])

-- commits that meet none of these ranges leave each key of them as it is
pub commits_unmet : (commits : List Commit) (m : Database) (rests : List KeyRange) → AreRanged commits
    → list_any (λ commit. any_meet commit.write_conflicts rests) commits ≡ false
    → list_any (λ commit. any_meet commit.without_conflict rests) commits ≡ false → AgreeOn rests (after_commits commits m) m
commits_unmet [] m rests ranged without_write_conflicts with_conflict key is_in = refl
commits_unmet (commit ∷ commits) m rests ranged without_write_conflicts with_conflict key is_in =
    let first = or_parts (any_meet commit.write_conflicts rests) (list_any (λ other. any_meet other.write_conflicts rests) commits) without_write_conflicts in
    let second = or_parts (any_meet commit.without_conflict rests) (list_any (λ other. any_meet other.without_conflict rests) commits) with_conflict in
    commits_unmet commits (do_all commit.mutations m) rests ranged.1 first.1 second.1 key is_in
    ∙ untouched commit.mutations m key (unmet_untouched commit rests ranged.0 first.0 second.0 key is_in)
