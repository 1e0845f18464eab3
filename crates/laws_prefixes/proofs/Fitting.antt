-- The numbers that sound commits granted on a subspace, where its allocator alone wrote there, are apart.
use Rattle.std.proofs.Common.{◌≡◌, ℕ, zero, suc, ◌^◌, ◌<◌, ◌≤◌, ◌⊎◌, inl, inr, true, false, List, [], ◌∷◌, ◌++◌, length, take, drop, Some, sym, subst, length-append, arith}
use Rattle.std.specs.Prelude.{⊤, slice_get}
use Rattle.std.specs.FinMap as finite
use Rattle.std.specs.List.{list_any}
use Rattle.std.proofs.lemmas.Bool.{both_ways, cases_lt, or_left, or_right}
use Rattle.std.proofs.lemmas.List.{append_assoc}
use Rattle.std.proofs.lemmas.Option.{none-some}
use Rattle.key_bytes.specs.declared.range.KeyRange.{KeyRange}
use Rattle.model_database.specs.Databases.{Database, do_all}
use Rattle.model_database.specs.Histories.{Commit, History, after_commits, conflicts}
use Rattle.model_database.specs.Intervals.{any_meet}
use Rattle.model_database.proofs.Ranges.{any_meet_at}
use Rattle.model_allocator.specs.Counters.{recent_key}
use Rattle.model_allocator.proofs.Codes.{packed_apart}
use Rattle.laws_prefixes.specs.Prefixes.{AreApart, AreGranting, all_grants, grants_in}
use Rattle.laws_prefixes.specs.Held.{AreDistinct, AreFit, AreSpending, IsFitCommit, IsGrantIn, IsGrown, IsSound, IsSpent}
use Rattle.model_machine.specs.Held.{AreEach}
use Rattle.laws_prefixes.proofs.Listed.{distinct_append, get_parts}

-- ---- commits that are fit for a subspace

-- each of these commits is, where such commits came before them
abbrev AreFitCommits : (space : List ℕ) → (before : History) → List Commit → Type 0
AreFitCommits space before [] = ⊤
AreFitCommits space before (commit ∷ commits) = IsFitCommit before space commit × AreFitCommits space (before ++ commit ∷ []) commits

-- sound ones are, where the allocator alone wrote there
sound_fit : (space : List ℕ) (before : History) (commits : List Commit) → AreEach IsSound before commits
    → AreGranting space (length before) commits → AreFitCommits space before commits
sound_fit space before [] sound granting = tt
sound_fit space before (commit ∷ commits) sound granting = (
  sound.0 space granting.0,
  sound_fit space (before ++ commit ∷ []) commits sound.1
      (subst (λ n. AreGranting space n commits) (sym (length-append before (commit ∷ []))) granting.1),
)

-- ---- a number stays spent

-- the mutations of each of these commits keep what is spent
abbrev AreKeeping : (space : List ℕ) → List Commit → Type 0
AreKeeping space [] = ⊤
AreKeeping space (commit ∷ commits) = AreFit space commit.mutations × AreKeeping space commits

-- and one more that does
keeping_more : (space : List ℕ) (commits : List Commit) (commit : Commit) → AreKeeping space commits → AreFit space commit.mutations
    → AreKeeping space (commits ++ commit ∷ [])
keeping_more space [] commit keeping fit = (fit, tt)
keeping_more space (first ∷ commits) commit keeping fit = (keeping.0, keeping_more space commits commit keeping.1 fit)

-- a number that is spent is spent after the first so many of them
spent_still : (space : List ℕ) (number count : ℕ) (commits : List Commit) (database : Database) → number < 2 ^ 63
    → AreKeeping space commits → IsSpent space number database → IsSpent space number (after_commits (take count commits) database)
spent_still space number zero commits database small keeping spent = spent
spent_still space number (suc count) [] database small keeping spent = spent
spent_still space number (suc count) (commit ∷ commits) database small keeping spent =
    spent_still space number count commits (do_all commit.mutations database) small keeping.1
    (keeping.0.keep database number small spent)

-- a number that a commit leaves spent is spent at each version from that commit on
spent_from : (space : List ℕ) (number version : ℕ) (before : List Commit) (commit : Commit) (later : List Commit) (database : Database)
    → number < 2 ^ 63 → length before < version → AreSpending space number commit.mutations → AreKeeping space later
    → IsSpent space number (after_commits (take version (before ++ commit ∷ later)) database)
spent_from space number zero before commit later database small behind spending keeping = absurd (omega (arith, behind))
spent_from space number (suc version) [] commit later database small behind spending keeping =
    spent_still space number version later (do_all commit.mutations database) small keeping (spending database)
spent_from space number (suc version) (first ∷ before) commit later database small behind spending keeping =
    spent_from space number version before commit later (do_all first.mutations database) small (omega (arith, behind)) spending keeping

-- ---- a commit that is judged by another one

-- reads at a version conflict with a commit after it that has one of their keys among its write conflict ranges
conflicts_with : (version : ℕ) (before : List Commit) (commit : Commit) (later : List Commit) (reads : List KeyRange)
    → version ≤ length before → any_meet commit.write_conflicts reads ≡ true → conflicts (before ++ commit ∷ later) version reads ≡ true
conflicts_with zero [] commit later reads at_most meet =
    or_left (any_meet commit.write_conflicts reads) (list_any (λ other. any_meet other.write_conflicts reads) later) meet
conflicts_with zero (first ∷ before) commit later reads at_most meet =
    or_right (any_meet first.write_conflicts reads) (list_any (λ other. any_meet other.write_conflicts reads) (before ++ commit ∷ later))
    (conflicts_with zero before commit later reads (omega arith) meet)
conflicts_with (suc version) [] commit later reads at_most meet = absurd (omega (arith, at_most))
conflicts_with (suc version) (first ∷ before) commit later reads at_most meet =
    conflicts_with version before commit later reads (omega (arith, at_most)) meet

-- ---- a number is granted once

-- a number that a commit granted is not granted again by one after it
not_again : (space : List ℕ) (number : ℕ) (before : History) (commit : Commit) (between : List Commit) (other : Commit)
    → IsGrantIn before space commit number → AreKeeping space between → IsGrantIn (before ++ commit ∷ between) space other number
    → conflicts (before ++ commit ∷ between) other.version other.read_ranges ≡ false → ⊥
not_again space number before commit between other grant keeping again judged = by (cases_lt (length before) other.version)
  where
    by : (length before < other.version) ⊎ (other.version ≤ length before) → ⊥
    by (inl seen) =
        again.free (spent_from space number other.version before commit between finite.empty grant.small seen grant.spent keeping)
    by (inr unseen) =
        both_ways (conflicts (before ++ commit ∷ between) other.version other.read_ranges) judged
        (conflicts_with other.version before commit between other.read_ranges unseen
        (any_meet_at commit.write_conflicts other.read_ranges (recent_key space number) grant.adds_conflict again.read_conflict))

-- nor by any of those after it
none_again : (space : List ℕ) (number : ℕ) (before : History) (commit : Commit) (between commits : List Commit)
    → IsGrantIn before space commit number → AreKeeping space between → AreFitCommits space (before ++ commit ∷ between) commits
    → (place : ℕ) → slice_get (all_grants space commits) place ≡ Some number → ⊥
none_again space number before commit between [] grant keeping fit place found = none-some number found
none_again space number before commit between (other ∷ commits) grant keeping fit place found =
    elim (get_parts (grants_in space other.script) (all_grants space commits) place number found) [
      | inl first ↦ not_again space number before commit between other grant keeping (fit.0.grants place number first) fit.0.judged
      | inr behind ↦
          none_again space number before commit (between ++ other ∷ []) commits grant (keeping_more space between other keeping fit.0.fit)
          (subst (λ history. AreFitCommits space history commits) (append_assoc before (commit ∷ between) (other ∷ [])) fit.1)
          behind.within behind.found
    ]

-- so the numbers that fit commits granted are distinct
all_distinct : (space : List ℕ) (before : History) (commits : List Commit) → AreFitCommits space before commits
    → AreDistinct (all_grants space commits)
all_distinct space before [] fit = λ place later one other ahead found found_later same. none-some one found
all_distinct space before (commit ∷ commits) fit =
    distinct_append (grants_in space commit.script) (all_grants space commits) fit.0.distinct
    (all_distinct space (before ++ commit ∷ []) commits fit.1)
    (λ place later number found again.
    none_again space number before commit [] commits (fit.0.grants place number found) tt fit.1 later again)

-- and less than 2^63
all_below : (space : List ℕ) (before : History) (commits : List Commit) → AreFitCommits space before commits
    → (place number : ℕ) → slice_get (all_grants space commits) place ≡ Some number → number < 2 ^ 63
all_below space before [] fit place number found = absurd (none-some number found)
all_below space before (commit ∷ commits) fit place number found =
    elim (get_parts (grants_in space commit.script) (all_grants space commits) place number found) [
      | inl first ↦ (fit.0.grants place number first).small
      | inr behind ↦ all_below space (before ++ commit ∷ []) commits fit.1 behind.within number behind.found
    ]

-- ---- numbers that are apart

-- distinct numbers below 2^63 are apart
apart_from_distinct : (numbers : List ℕ) → AreDistinct numbers
    → ((place number : ℕ) → slice_get numbers place ≡ Some number → number < 2 ^ 63) → AreApart numbers
apart_from_distinct numbers distinct below place later one other ahead found found_later =
    let differ : one ≡ other → ⊥ = distinct place later one other ahead found found_later in
    let small = below place one found in
    let small_later = below later other found_later in record {
      distinct = differ;
      no_prefix = packed_apart other one small_later small (λ same. differ (sym same));
      nor_behind = packed_apart one other small small_later differ;
    }

-- so are those of a grown history, where the allocator alone wrote on its subspace
pub grown_apart : (history : History) → IsGrown history → (space : List ℕ) → AreGranting space 1 (drop 1 history)
    → AreApart (all_grants space (drop 1 history))
grown_apart history grown space =
    subst (λ (commits : History). AreGranting space 1 (drop 1 commits) → AreApart (all_grants space (drop 1 commits))) (sym grown.is) apart
  where
    apart : AreGranting space 1 grown.later → AreApart (all_grants space grown.later)
    apart granting =
        let fit = sound_fit space (grown.first ∷ []) grown.later grown.sound granting in
        apart_from_distinct (all_grants space grown.later) (all_distinct space (grown.first ∷ []) grown.later fit)
        (all_below space (grown.first ∷ []) grown.later fit)
