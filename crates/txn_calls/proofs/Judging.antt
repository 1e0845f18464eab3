-- The checks of a commit come to the same for what is kept and for each transaction that it stands for.
use Rattle.std.proofs.Common.{◌≡◌, ◌⊎◌, inl, inr, ◌≤◌, ◌||◌, ℕ, Bool, true, false, List, [], ◌∷◌, Option, Some, None, nat_lt, ◌<◌, lt-ltb, le-ltb, refl, sym, ap, ◌∙◌, arith}
use Rattle.std.proofs.lemmas.Bool.{both_ways, ltb-true, cases_lt}
use Rattle.std.proofs.lemmas.Bool.Decides.{same_from_decides}
use Rattle.std.specs.Prelude.{if◌then◌else◌}
use Rattle.key_bytes.specs.declared.range.KeyRange.{KeyRange}
use Rattle.key_bytes.specs.Keys.{within}
use Rattle.model_database.specs.States.{range_from}
use Rattle.model_database.specs.Histories.{History, conflicts}
use Rattle.model_database.specs.Newest.{newest_of}
use Rattle.model_database.proofs.Conflicts.{conflicts-append, conflicts_by_keys, conflicts_decides}
use Rattle.model_database.proofs.Conflicts.{HasNewerKey}
use Rattle.model_database.proofs.Ranges.{covers_single}
use Rattle.conflict_ranges.specs.Writes.{newest_at, above, Index}
use Rattle.model_database.specs.declared.Phase.{Phase}
use Rattle.model_database.specs.declared.Phase.TheVariants as phase
use Rattle.model_database.specs.Transactions.{Transaction, first_failing, commit_code, version_in, is_ahead, is_behind}
use Rattle.model_database.specs.declared.TheConstants.{FUTURE_VERSION, NOT_COMMITTED, TRANSACTION_TOO_OLD}
use Rattle.model_database.specs.Histories.{Setting, low}
use Rattle.version_store.specs.Versions.{Versions}
use Rattle.txn_calls.specs.Accesses.{version_of, version_code}
use Rattle.txn_calls.proofs.Views.{version_code_same, version_same}
use Rattle.txn_calls.specs.Judging.{commit_refusal, conflict_refusal}
use Rattle.txn_calls.specs.Stands.{Kept, StandsFor, Keeps, is_bare}

pub refusal_same : (kept : Kept) (t : Transaction) → StandsFor kept t
    → commit_code kept.phase (is_bare kept) kept.size ≡ commit_refusal t
refusal_same kept t stands = λ i. commit_code (stands.phase i) (stands.writes i) (stands.size i)

-- a commit that no check refuses is one of an active life
pub active_of : (now : Phase) (read_only : Bool) (size : ℕ) → commit_code now read_only size ≡ None → now ≡ phase.Active
unfolding commit_code
active_of phase.Active read_only size accepted = refl
active_of phase.Cancelled read_only size accepted = absurd cc
active_of (phase.Tried outcome) read_only size accepted = absurd cc

-- ---- conflicts

-- from a low version on, a version above it is newer whether it is kept or not
above_newer : (lowest version newest : ℕ) → lowest ≤ version → nat_lt version (above lowest newest) ≡ nat_lt version newest
above_newer lowest version newest from = by (cases_lt lowest newest)
  where
    by : (lowest < newest) ⊎ (newest ≤ lowest) → nat_lt version (above lowest newest) ≡ nat_lt version newest
    by (inl later) = ap (λ b. nat_lt version (if b then newest else 0)) (lt-ltb lowest newest later)
    by (inr earlier) =
        ap (λ b. nat_lt version (if b then newest else 0)) (le-ltb lowest newest earlier)
        ∙ le-ltb version 0 (omega arith) ∙ sym (le-ltb version newest (omega (arith, earlier, from)))

-- an index that keeps a history tells of each key whether a commit after a version that can be read has it among its write conflict ranges
pub newer_same : (store : Versions) (index : Index) (setting : Setting) (version : ℕ) → Keeps store index setting → low setting ≤ version
    → (key : List ℕ) → nat_lt version (newest_at index key) ≡ nat_lt version (newest_of setting.history key)
newer_same store index setting version keeps from key =
    sym (above_newer (low setting) version (newest_at index key) from)
    ∙ ap (nat_lt version) (keeps.newest_is key)
    ∙ above_newer (low setting) version (newest_of setting.history key) from

-- where no key has a newer version, nothing conflicts
pub none_newer : (index : Index) (history : History) (version newest : ℕ) (reads : List KeyRange)
    → ((key : List ℕ) → nat_lt version (newest_at index key) ≡ nat_lt version (newest_of history key))
    → ((key : List ℕ) → newest_at index key ≤ newest) → newest ≤ version
    → conflicts history version reads ≡ false
none_newer index history version newest reads same above old =
    same_from_decides (conflicts history version reads) false (conflicts_decides history version reads) (
      λ never. absurd (both_ways false refl never),
      λ newer.
          let less = ltb-true version (newest_at index newer.0) (same newer.0 ∙ newer.2) in let most = above newer.0 in
          absurd (omega (arith, less, most, old)),
    )

-- a range is judged by the newest version that an index answers of it
judged_range : (index : Index) (history : History) (version : ℕ) (begin end : List ℕ) (newest : ℕ)
    → ((key : List ℕ) → nat_lt version (newest_at index key) ≡ nat_lt version (newest_of history key))
    → ((key : List ℕ) → within begin end key ≡ true → newest_at index key ≤ newest)
    → ((newest ≡ 0) ⊎ ((key : List ℕ) × (within begin end key ≡ true) × (newest_at index key ≡ newest)))
    → conflicts history version (range_from begin end ∷ []) ≡ nat_lt version newest
judged_range index history version begin end newest same above reached =
    same_from_decides (conflicts history version (range_from begin end ∷ [])) (nat_lt version newest)
    (conflicts_decides history version (range_from begin end ∷ []))
    (there reached, back)
  where
    there : (newest ≡ 0) ⊎ ((key : List ℕ) × (within begin end key ≡ true) × (newest_at index key ≡ newest)) → nat_lt version newest ≡ true
        → HasNewerKey history version (range_from begin end ∷ [])
    there (inl none) after = let less = ltb-true version newest after in absurd (omega (arith, less, none))
    there (inr at) after = (
      at.0,
      covers_single (range_from begin end) at.0 ∙ at.1,
      sym (same at.0) ∙ ap (nat_lt version) at.2 ∙ after,
    )

    back : HasNewerKey history version (range_from begin end ∷ []) → nat_lt version newest ≡ true
    back common =
        let less = ltb-true version (newest_at index common.0) (same common.0 ∙ common.2) in
        let most = above common.0 (sym (covers_single (range_from begin end) common.0) ∙ common.1) in
        lt-ltb version newest (omega (arith, less, most))

-- the first of some ranges is judged by its newest version
pub judged_first : (index : Index) (history : History) (version : ℕ) (begin end : List ℕ) (left : List KeyRange) (newest : ℕ)
    → ((key : List ℕ) → nat_lt version (newest_at index key) ≡ nat_lt version (newest_of history key))
    → ((key : List ℕ) → within begin end key ≡ true → newest_at index key ≤ newest)
    → ((newest ≡ 0) ⊎ ((key : List ℕ) × (within begin end key ≡ true) × (newest_at index key ≡ newest)))
    → conflicts history version (range_from begin end ∷ left) ≡ (nat_lt version newest || conflicts history version left)
judged_first index history version begin end left newest same above reached =
    conflicts-append history version (range_from begin end ∷ []) left
    ∙ ap (λ b. b || conflicts history version left) (judged_range index history version begin end newest same above reached)

-- the checks of a commit at its version come to the same for what is kept and for each transaction that it stands for
abbrev pub checked : Option ℕ → Bool → Option ℕ
checked (Some code) conflict = Some code
checked None conflict = first_failing ((conflict, NOT_COMMITTED) ∷ [])

pub conflict_same : (kept : Kept) (store : Versions) (index : Index) (setting : Setting) (t : Transaction) → StandsFor kept t
    → Keeps store index setting
    → checked (version_code kept store) (conflicts setting.history (version_of kept store) kept.read_ranges) ≡ conflict_refusal setting t
conflict_same kept store index setting t stands keeps =
    let same : conflicts setting.history (version_of kept store) kept.read_ranges ≡ conflicts setting.history (version_in setting t) t.read_ranges =
    ap (λ v. conflicts setting.history v kept.read_ranges) (version_same kept store index setting t stands keeps)
    ∙ conflicts_by_keys setting.history (version_in setting t) kept.read_ranges t.read_ranges stands.reads in
    (λ i. checked (version_code_same kept store index setting t stands keeps i) (same i))
    ∙ in_turn (is_behind setting t) (is_ahead setting t) (conflicts setting.history (version_in setting t) t.read_ranges)
  where
    in_turn : (behind ahead conflict : Bool) → checked (first_failing ((behind, TRANSACTION_TOO_OLD) ∷ (ahead, FUTURE_VERSION) ∷ [])) conflict
        ≡ first_failing ((behind, TRANSACTION_TOO_OLD) ∷ (ahead, FUTURE_VERSION) ∷ (conflict, NOT_COMMITTED) ∷ [])
    in_turn true ahead conflict = refl
    in_turn false true conflict = refl
    in_turn false false conflict = refl
