-- Commits that are sound make one legal history.
use Rattle.std.proofs.Common.{◌≡◌, ℕ, zero, suc, ◌≤◌, ◌⊎◌, inl, inr, Bool, true, false, List, [], ◌∷◌, ◌++◌, length, take, drop, refl, sym, ap, subst, ◌∙◌, arith}
use Rattle.std.specs.Prelude.{⊤, IsTrue, is_some}
use Rattle.std.specs.List.{AllByRecursion}
use Rattle.std.specs.FinMap as finite
use Rattle.key_bytes.specs.Keys.{key_cmp, key_lt, top}
use Rattle.model_database.specs.Databases.{Database, Mutation, do_all}
use Rattle.model_database.specs.Histories.{Script, Wrote, HasRead, Granted, Commit, History, after_commits, at, conflicts}
use Rattle.model_database.specs.Intervals.{added, interval}
use Rattle.model_database.specs.Reads.{Read, Answer, answer}
use Rattle.model_database.specs.States.{seen}
use Rattle.model_lines.specs.Inputs.{IsSmall}
use Rattle.laws_history.specs.Small.{IsBelowTop, are_small}
use Rattle.laws_history.specs.Held.{AgreeOn, IsAnswered, IsSound, AreSound}
use Rattle.laws_history.specs.Steps.{AreReachedLegal}
use Rattle.laws_history.specs.Whole.{EachRead, RunsWhole, fell_between, AreLegal, IsOneLegalHistory, AreRunsLegal}
use Rattle.laws_history.proofs.Worlds.{runs_reached}
use Rattle.laws_history.proofs.Reading.{read_local}
use Rattle.laws_history.proofs.Smallness.{do_all_small, seen_small}
use Rattle.laws_history.proofs.Unmet.{IsRanged, AreRanged, ranged-drop, commits_unmet}
use Rattle.laws_history.proofs.Views.{view_local}

-- ---- a read on two databases

-- a read has the same answer where two databases agree on the keys that it adds
pub added_local : (read : Read) (one other : Database) (writes : List Mutation) → are_small writes ≡ true → IsBelowTop one → IsBelowTop other
    → AgreeOn (added read one writes) one other → answer read (seen writes one) ≡ answer read (seen writes other)
unfolding added
added_local read one other writes small below below_too agree =
    (read_local read (seen writes one) (seen writes other) (seen_small writes one small below) (seen_small writes other small below_too)
    (view_local writes one other (interval read (seen writes one)) agree)).0

-- ---- databases of a history

after_append : (first second : List Commit) (database : Database)
    → after_commits (first ++ second) database ≡ after_commits second (after_commits first database)
after_append [] second database = refl
after_append (commit ∷ first) second database = after_append first second (do_all commit.mutations database)

take_drop : {X : Type 0} (n : ℕ) (xs : List X) → take n xs ++ drop n xs ≡ xs
take_drop zero xs = refl
take_drop (suc n) [] = refl
take_drop (suc n) (x ∷ xs) = ap (λ rest. x ∷ rest) (take_drop n xs)

take_length : {X : Type 0} (xs : List X) → take (length xs) xs ≡ xs
take_length [] = refl
take_length (x ∷ xs) = ap (λ rest. x ∷ rest) (take_length xs)

-- the last database is what the commits after a version make of that version's
last_from : (history : History) (version : ℕ)
    → after_commits history finite.empty ≡ after_commits (drop version history) (at history version)
last_from history version =
    ap (λ commits. after_commits commits finite.empty) (sym (take_drop version history))
    ∙ after_append (take version history) (drop version history) finite.empty

-- commits whose mutations put values under keys less than FF alone
abbrev AreSmall : List Commit → Type 0
AreSmall [] = ⊤
AreSmall (commit ∷ commits) = (are_small commit.mutations ≡ true) × AreSmall commits

after_small : (commits : List Commit) (database : Database) → AreSmall commits → IsBelowTop database → IsBelowTop (after_commits commits database)
after_small [] database small below = below
after_small (commit ∷ commits) database small below =
    after_small commits (do_all commit.mutations database) small.1 (do_all_small commit.mutations database small.0 below)

taken_small : (n : ℕ) (commits : List Commit) → AreSmall commits → AreSmall (take n commits)
taken_small zero commits small = tt
taken_small (suc n) [] small = tt
taken_small (suc n) (commit ∷ commits) small = (small.0, taken_small n commits small.1)

small_more : (commits : List Commit) (commit : Commit) → AreSmall commits → are_small commit.mutations ≡ true → AreSmall (commits ++ commit ∷ [])
small_more [] commit small is = (is, tt)
small_more (first ∷ commits) commit small is = (small.0, small_more commits commit small.1 is)

ranged_more : (commits : List Commit) (commit : Commit) → AreRanged commits → IsRanged commit → AreRanged (commits ++ commit ∷ [])
ranged_more [] commit ranged is = (is, tt)
ranged_more (first ∷ commits) commit ranged is = (ranged.0, ranged_more commits commit ranged.1 is)

-- those after a version that isn't that before the first commit
ranged_after : (version : ℕ) (first : Commit) (later : List Commit) → 1 ≤ version → AreRanged later → AreRanged (drop version (first ∷ later))
ranged_after zero first later above ranged = absurd (omega arith)
ranged_after (suc n) first later above ranged = ranged-drop n later ranged

none_small : IsBelowTop finite.empty
none_small key there = absurd (let none = sym (ap is_some (finite.get-empty key_cmp key)) ∙ there in cc)

-- ---- the law

-- what holds of the commits before one
record StandsBefore (first : Commit) (done : List Commit) : Type 0 where
  pub small : AreSmall (first ∷ done)
  pub ranged : AreRanged done

-- a read of a commit has its answer on the last database too, where no write fell between
read_whole : (first : Commit) (done : List Commit) (commit : Commit) (writes : List Mutation) (read : Read) (given : Answer)
    → StandsBefore first done → conflicts (first ∷ done) commit.version commit.read_ranges ≡ false
    → fell_between (first ∷ done) commit ≡ false → IsAnswered (first ∷ done) commit.version commit.read_ranges writes read given
    → given ≡ answer read (seen writes (after_commits (first ∷ done) finite.empty))
read_whole first done commit writes read given before judged none answered =
    let history = first ∷ done in
    let unmet = commits_unmet (drop commit.version history) (at history commit.version) commit.read_ranges
    (ranged_after commit.version first done answered.first before.ranged) judged none in
    let agree : AgreeOn commit.read_ranges (at history commit.version) (after_commits history finite.empty) =
    λ key there. sym (unmet key there) ∙ ap (λ database. finite.get database key) (sym (last_from history commit.version)) in
    answered.is
    ∙ added_local read (at history commit.version) (after_commits history finite.empty) writes answered.small
    (after_small (take commit.version history) finite.empty (taken_small commit.version history before.small) none_small)
    (after_small history finite.empty before.small none_small)
    (λ key there. agree key (answered.noted key there))

-- so have all of a script
each_whole : (first : Commit) (done : List Commit) (commit : Commit) (before : List Mutation) (script : Script)
    → StandsBefore first done → conflicts (first ∷ done) commit.version commit.read_ranges ≡ false
    → fell_between (first ∷ done) commit ≡ false
    → EachRead (IsAnswered (first ∷ done) commit.version commit.read_ranges) before script
    → EachRead (λ writes read given. given ≡ answer read (seen writes (after_commits (first ∷ done) finite.empty))) before script
each_whole first done commit before [] stands judged none answered = tt
each_whole first done commit before (Wrote mutation adds_conflict ∷ script) stands judged none answered =
    each_whole first done commit (before ++ mutation ∷ []) script stands judged none answered
each_whole first done commit before (HasRead read given ∷ script) stands judged none answered = (
  read_whole first done commit before read given stands judged none answered.0,
  each_whole first done commit before script stands judged none answered.1,
)
each_whole first done commit before (Granted space number from ∷ script) stands judged none answered =
    each_whole first done commit before script stands judged none answered

-- a commit gets its reads run whole, or a write without a write conflict range fell between
commit_legal : (first : Commit) (done : List Commit) (commit : Commit) → StandsBefore first done → IsSound (first ∷ done) commit
    → RunsWhole (after_commits (first ∷ done) finite.empty) commit.script ⊎ IsTrue (fell_between (first ∷ done) commit)
commit_legal first done commit stands sound = by (fell_between (first ∷ done) commit) refl
  where
    by : (b : Bool) → fell_between (first ∷ done) commit ≡ b
        → RunsWhole (after_commits (first ∷ done) finite.empty) commit.script ⊎ IsTrue (fell_between (first ∷ done) commit)
    by true fell = inr fell
    by false none = inl (each_whole first done commit [] commit.script stands sound.judged none sound.answered)

legal_after : (first : Commit) (done later : List Commit) → StandsBefore first done → AreSound (first ∷ done) later
    → AreLegal (first ∷ done) (after_commits (first ∷ done) finite.empty) later
legal_after first done [] stands sound = tt
legal_after first done (commit ∷ later) stands sound = (
  commit_legal first done commit stands sound.0,
  subst (λ database. AreLegal (first ∷ done ++ commit ∷ []) database later) (after_append (first ∷ done) (commit ∷ []) finite.empty)
      (legal_after first (done ++ commit ∷ []) later (record {
        small = (stands.small.0, small_more done commit stands.small.1 sound.0.small);
        ranged = ranged_more done commit stands.ranged sound.0.ranged;
      }) sound.1),
)

-- sound commits after a first one without reads make one legal history
pub sound_is_legal : (first : Commit) (later : List Commit) → first.script ≡ [] → are_small first.mutations ≡ true
    → AreSound (first ∷ []) later → IsOneLegalHistory (first ∷ later)
sound_is_legal first later none small sound = record {
  legal = (
    inl (subst (λ script. RunsWhole finite.empty script) (sym none) tt),
    legal_after first [] later (record { small = (small, tt); ranged = tt }) sound,
  );
  last_is = ap (λ commits. after_commits commits finite.empty) (sym (take_length (first ∷ later)));
}

-- so does a world that is reached
pub reached_legal : AreReachedLegal
reached_legal world reached =
    let grown = reached.grown in
    subst IsOneLegalHistory (sym grown.is) (sound_is_legal grown.first grown.later grown.bare grown.small grown.sound)

-- so does every run
pub runs_legal : AreRunsLegal
runs_legal pairs prefix order run small few is = reached_legal run.world (runs_reached order pairs prefix run (keys_small pairs small) few is)
  where
    keys_small : (pairs : List (List ℕ × List ℕ)) → AllByRecursion IsSmall pairs → AllByRecursion (λ pair. key_lt pair.0 top ≡ true) pairs
    keys_small [] small = tt
    keys_small (pair ∷ pairs) small = (small.0.below_top, keys_small pairs small.1)
