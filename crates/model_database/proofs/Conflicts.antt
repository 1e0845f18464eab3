-- Reads conflict with a commit after a version exactly where the newest commit of a key that they have is after it.
use Rattle.std.proofs.Common.{◌≡◌, ℕ, ◌+◌, ◌<◌, ◌⊎◌, true, false, List, [], ◌∷◌, ◌++◌, length, take, drop, get_or, inl, inr, refl, sym, ap, ◌∙◌, arith}
use Rattle.std.specs.Prelude.{◌||◌, nat_lt}
use Rattle.std.specs.Bool.{Decides}
use Rattle.std.specs.List.{list_any, All}
use Rattle.std.proofs.lemmas.Bool.{both_ways, lt-ltb, ltb-true, or_cases, or_left, or_right}
use Rattle.std.proofs.lemmas.Bool.Decides.{same_from_decides, Decides-like, Decides-or}
use Rattle.std.proofs.lemmas.List.{take_more}
use Rattle.std.proofs.lemmas.List.Elements.{All-head, All-tail}
use Rattle.key_bytes.specs.declared.range.KeyRange.{KeyRange}
use Rattle.key_bytes.specs.Ranges.{has}
use Rattle.model_database.specs.States.{covers}
use Rattle.model_database.specs.Intervals.{any_meet}
use Rattle.model_database.specs.Histories.{Commit, History, conflicts}
use Rattle.model_database.specs.Newest.{newest_of, IsNewestIn}
use Rattle.model_database.proofs.States.{covers-append}
use Rattle.model_database.proofs.Ranges.{covers_single, any_meet_at, common_key_of}
use Rattle.model_database.proofs.Newest.{any_adds_conflict, newest_later}

-- ---- conflicts, by keys

conflict_at : (commits : List Commit) (reads : List KeyRange) (k : List ℕ) → covers reads k ≡ true → any_adds_conflict commits k ≡ true
    → list_any (λ commit. any_meet commit.write_conflicts reads) commits ≡ true
conflict_at [] reads k in_reads in_commits = in_commits
conflict_at (commit ∷ commits) reads k in_reads in_commits =
    elim (or_cases (covers commit.write_conflicts k) (any_adds_conflict commits k) in_commits) [
      | inl first ↦ or_left (any_meet commit.write_conflicts reads) _ (any_meet_at commit.write_conflicts reads k first in_reads)
      | inr later ↦ or_right (any_meet commit.write_conflicts reads) _ (conflict_at commits reads k in_reads later)
    ]

conflict_key : (commits : List Commit) (reads : List KeyRange) → list_any (λ commit. any_meet commit.write_conflicts reads) commits ≡ true
    → (k : List ℕ) × (covers reads k ≡ true) × (any_adds_conflict commits k ≡ true)
conflict_key [] reads conflict = absurd (both_ways false refl conflict)
conflict_key (commit ∷ commits) reads conflict =
    elim (or_cases (any_meet commit.write_conflicts reads) (list_any (λ commit. any_meet commit.write_conflicts reads) commits) conflict) [
      | inl first ↦
          let common = common_key_of commit.write_conflicts reads first in
          (common.0, common.2, or_left (covers commit.write_conflicts common.0) (any_adds_conflict commits common.0) common.1)
      | inr later ↦
          let common = conflict_key commits reads later in
          (common.0, common.1, or_right (covers commit.write_conflicts common.0) (any_adds_conflict commits common.0) common.2)
    ]

-- reads have a key whose newest commit is after the version
abbrev pub HasNewerKey : History → (version : ℕ) → (reads : List KeyRange) → Type 0
HasNewerKey history version reads = (k : List ℕ) × (covers reads k ≡ true) × (nat_lt version (newest_of history k) ≡ true)

-- they conflict exactly where they have
pub conflicts_decides : (history : History) (version : ℕ) (reads : List KeyRange)
    → Decides (conflicts history version reads) (HasNewerKey history version reads)
conflicts_decides history version reads = (
  λ conflict. let common = conflict_key (drop version history) reads conflict in
      (common.0, common.1, newest_later history version common.0 ∙ common.2),
  λ common. conflict_at (drop version history) reads common.0 common.1 (sym (newest_later history version common.0) ∙ common.2),
)

-- ranges with the same keys conflict alike
pub conflicts_by_keys : (history : History) (version : ℕ) (reads same : List KeyRange)
    → ((k : List ℕ) → covers reads k ≡ covers same k) → conflicts history version reads ≡ conflicts history version same
conflicts_by_keys history version reads same same_reads =
    same_from_decides (conflicts history version reads) (conflicts history version same) (conflicts_decides history version reads)
    (Decides-like (conflicts history version same)
    (λ common. (common.0, same_reads common.0 ∙ common.1, common.2))
    (λ common. (common.0, sym (same_reads common.0) ∙ common.1, common.2))
    (conflicts_decides history version same))

-- where nothing is read, nothing conflicts
pub conflicts_none : (history : History) (version : ℕ) → conflicts history version [] ≡ false
conflicts_none history version =
    same_from_decides (conflicts history version []) false (conflicts_decides history version [])
    (λ never. absurd (both_ways false refl never), λ common. common.1)

-- reads conflict where some of them do
pub conflicts-append : (history : History) (version : ℕ) (first second : List KeyRange)
    → conflicts history version (first ++ second) ≡ (conflicts history version first || conflicts history version second)
conflicts-append history version first second =
    same_from_decides (conflicts history version (first ++ second)) (conflicts history version first || conflicts history version second)
    (conflicts_decides history version (first ++ second))
    (Decides-like (conflicts history version first || conflicts history version second) there back
    (Decides-or (conflicts history version first) (conflicts history version second) (conflicts_decides history version first)
    (conflicts_decides history version second)))
  where
    there : HasNewerKey history version first ⊎ HasNewerKey history version second → HasNewerKey history version (first ++ second)
    there (inl common) =
        (common.0, covers-append first second common.0 ∙ or_left (covers first common.0) (covers second common.0) common.1, common.2)
    there (inr common) =
        (common.0, covers-append first second common.0 ∙ or_right (covers first common.0) (covers second common.0) common.1, common.2)

    back : HasNewerKey history version (first ++ second) → HasNewerKey history version first ⊎ HasNewerKey history version second
    back common =
        elim (or_cases (covers first common.0) (covers second common.0) (sym (covers-append first second common.0) ∙ common.1)) [
          | inl in_first ↦ inl (common.0, in_first, common.2)
          | inr in_second ↦ inr (common.0, in_second, common.2)
        ]

-- one more range, as at a step of a loop
pub conflicts_more : (history : History) (version : ℕ) (reads : List KeyRange) (i : ℕ) (d : KeyRange) → i < length reads
    → conflicts history version (take (i + 1) reads)
    ≡ (conflicts history version (take i reads) || conflicts history version (get_or reads i d ∷ []))
conflicts_more history version reads i d within =
    ap (conflicts history version) (take_more reads i d within) ∙ conflicts-append history version (take i reads) (get_or reads i d ∷ [])

-- ---- conflicts, by the newest of ranges

-- the newest of a range judges it
pub judged_by_newest : (history : History) (version : ℕ) (range : KeyRange) (number : ℕ) → IsNewestIn history range number
    → conflicts history version (range ∷ []) ≡ nat_lt version number
judged_by_newest history version range number newest =
    same_from_decides (conflicts history version (range ∷ [])) (nat_lt version number) (conflicts_decides history version (range ∷ []))
    (there, back)
  where
    from : (number ≡ 0) ⊎ ((k : List ℕ) × (has range k ≡ true) × (newest_of history k ≡ number)) → nat_lt version number ≡ true
        → HasNewerKey history version (range ∷ [])
    from (inl none) after = let less = ltb-true version number after in absurd (omega (arith, less, none))
    from (inr common) after = (common.0, covers_single range common.0 ∙ common.1, ap (nat_lt version) common.2 ∙ after)

    there : nat_lt version number ≡ true → HasNewerKey history version (range ∷ [])
    there after = from newest.reached after

    back : HasNewerKey history version (range ∷ []) → nat_lt version number ≡ true
    back common =
        let less = ltb-true version (newest_of history common.0) common.2 in
        let most = newest.above common.0 (sym (covers_single range common.0) ∙ common.1) in
        lt-ltb version number (omega (arith, less, most))

-- reads are judged range by range
pub judged_by_each : (history : History) (version : ℕ) (reads : List KeyRange) (newest : KeyRange → ℕ)
    → All (λ range. IsNewestIn history range (newest range)) reads
    → conflicts history version reads ≡ list_any (λ range. nat_lt version (newest range)) reads
judged_by_each history version [] newest each = conflicts_none history version
judged_by_each history version (range ∷ reads) newest each =
    conflicts-append history version (range ∷ []) reads
    ∙ ap (λ b. b || conflicts history version reads)
    (judged_by_newest history version range (newest range)
    (All-head (λ range. IsNewestIn history range (newest range)) range reads each))
    ∙ ap (λ b. nat_lt version (newest range) || b)
    (judged_by_each history version reads newest (All-tail (λ range. IsNewestIn history range (newest range)) range reads each))
