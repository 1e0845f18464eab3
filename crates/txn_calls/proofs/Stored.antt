-- What a store has, for a history that it keeps.
use Rattle.std.proofs.Common.{◌≡◌, ℕ, ◌+◌, ◌≤◌, ◌<◌, ◌⊎◌, inl, inr, List, [], ◌∷◌, ◌++◌, length-append, min, max, ◌-◌, Option, Some, None, Bool, true, false, lt-ltb, le-ltb, refl, sym, ap, ◌∙◌, arith}
use Rattle.std.specs.Prelude.{if◌then◌else◌}
use Rattle.std.specs.Option.{option_map_or}
use Rattle.std.specs.FinMap as finite
use Rattle.std.proofs.lemmas.Bool.{cases_lt}
use Rattle.std.proofs.lemmas.List.{take_min, take_all, take-append-le}
use Rattle.model_database.specs.Databases.{Database, do_all}
use Rattle.model_database.specs.Histories.{Commit, History, Setting, grown_by, after_commits, at, last, low, lowest}
use Rattle.version_store.specs.Versions.{Versions, last_of, oldest_of}
use Rattle.version_store.specs.Versions as versions
use Rattle.model_database.specs.States.{covers}
use Rattle.model_database.specs.Newest.{newest_of}
use Rattle.model_database.proofs.Newest.{newest_push}
use Rattle.conflict_ranges.specs.Writes.{newest_at, above, Index}
use Rattle.txn_calls.specs.Stands.{Keeps}

-- a version above the last has the last map
at_min : (history : History) (version : ℕ) → at history (min version (last history)) ≡ at history version
at_min history version = ap (λ h. after_commits h finite.empty) (take_min version history)

-- the lowest version that can be read isn't above the last one
pub low_inside : (setting : Setting) → low setting ≤ last setting.history
low_inside setting = by setting.options.window
  where
    by : (o : Option ℕ) → option_map_or (λ window. last setting.history - window) o 0 ≤ last setting.history
    by None = omega arith
    by (Some window) = omega arith

-- what the store has at a version, or at the last one, is what the history has at that version
pub keeps_at : (store : Versions) (index : Index) (setting : Setting) (version : ℕ) → Keeps store index setting
    → low setting ≤ version → versions.at store (max (oldest_of store) (min version (last_of store))) ≡ at setting.history version
keeps_at store index setting version keeps from =
    let inside = low_inside setting in
    let same : max (oldest_of store) (min version (last_of store)) ≡ min version (last setting.history) =
    omega (arith, keeps.oldest_is, keeps.last_is, from, inside) in
    ap (versions.at store) same
    ∙ keeps.at_is (min version (last setting.history)) (omega (arith, from, inside)) (omega arith)
    ∙ at_min setting.history version

-- a store that reads as before, and an index that judges as before, keep what they kept
pub keeps_same : (old new : Versions) (index after : Index) (setting : Setting) → Keeps old index setting → last_of new ≡ last_of old
    → oldest_of new ≡ oldest_of old → after.forgotten ≡ index.forgotten
    → ((version : ℕ) → versions.at new version ≡ versions.at old version)
    → ((key : List ℕ) → newest_at after key ≡ newest_at index key) → Keeps new after setting
keeps_same old new index after setting keeps last_same oldest_same forgotten_same reads judges = record {
  last_is = last_same ∙ keeps.last_is;
  oldest_is = oldest_same ∙ keeps.oldest_is;
  at_is = λ version from le. reads version ∙ keeps.at_is version from le;
  forgotten_is = omega (arith, forgotten_same, keeps.forgotten_is);
  newest_is = λ key. ap (above (low setting)) (judges key) ∙ keeps.newest_is key;
}

after_commits-push : (history : History) (commit : Commit) (database : Database)
    → after_commits (history ++ commit ∷ []) database ≡ do_all commit.mutations (after_commits history database)
after_commits-push [] commit database = refl
after_commits-push (first ∷ history) commit database = after_commits-push history commit (do_all first.mutations database)

-- a commit leaves the earlier versions, and makes the next of its mutations
at_earlier : (history : History) (commit : Commit) (version : ℕ) → version ≤ last history
    → at (history ++ commit ∷ []) version ≡ at history version
at_earlier history commit version le = ap (λ h. after_commits h finite.empty) (take-append-le version history (commit ∷ []) le)

at_next : (history : History) (commit : Commit)
    → at (history ++ commit ∷ []) (last history + 1) ≡ do_all commit.mutations (at history (last history))
at_next history commit =
    ap (λ h. after_commits h finite.empty)
    (take_all (last history + 1) (history ++ commit ∷ []) (omega (arith, length-append history (commit ∷ []))))
    ∙ after_commits-push history commit finite.empty
    ∙ ap (λ h. do_all commit.mutations (after_commits h finite.empty)) (sym (take_all (last history) history (omega arith)))

-- more commits make no lower version readable
pub low_grows : (setting : Setting) (commit : Commit) → low setting ≤ low (grown_by setting (commit ∷ []))
low_grows setting commit = by setting.options.window
  where
    by : (o : Option ℕ) → option_map_or (λ window. last setting.history - window) o 0
        ≤ option_map_or (λ window. last (setting.history ++ commit ∷ []) - window) o 0
    by None = omega arith
    by (Some window) = let longer = length-append setting.history (commit ∷ []) in omega (arith, longer)

-- versions that agree above a low one agree above a higher one
pub above_later : (low later a b : ℕ) → low ≤ later → above low a ≡ above low b → above later a ≡ above later b
above_later low later a b more same = by (cases_lt low a) (cases_lt low b)
  where
    high : (n : ℕ) → low < n → above low n ≡ n
    high n less = ap (λ b. if b then n else 0) (lt-ltb low n less)

    none : (low n : ℕ) → n ≤ low → above low n ≡ 0
    none low n le = ap (λ b. if b then n else 0) (le-ltb low n le)

    by : (low < a) ⊎ (a ≤ low) → (low < b) ⊎ (b ≤ low) → above later a ≡ above later b
    by (inl one) (inl other) = ap (above later) (sym (high a one) ∙ same ∙ high b other)
    by (inl one) (inr other) = let is = sym (high a one) ∙ same ∙ none low b other in absurd (omega (arith, is, one))
    by (inr one) (inl other) = let is = sym (high b other) ∙ sym same ∙ none low a one in absurd (omega (arith, is, other))
    by (inr one) (inr other) = none later a (omega (arith, one, more)) ∙ sym (none later b (omega (arith, other, more)))

-- forgetting again what is forgotten changes nothing above
above_again : (lowest first version : ℕ) → first ≤ lowest → above lowest (above first version) ≡ above lowest version
above_again lowest first version less = by (cases_lt first version)
  where
    by : (first < version) ⊎ (version ≤ first) → above lowest (above first version) ≡ above lowest version
    by (inl later) = ap (λ b. above lowest (if b then version else 0)) (lt-ltb first version later)
    by (inr earlier) =
        ap (λ b. above lowest (if b then version else 0)) (le-ltb first version earlier)
        ∙ ap (λ b. if b then 0 else 0) (le-ltb lowest 0 (omega arith))
        ∙ sym (ap (λ b. if b then version else 0) (le-ltb lowest version (omega (arith, earlier, less))))

-- a version that was given to a key, or not, in an index that forgot versions and then more
pub above_given : (lowest first second : ℕ) (given : Bool) (version newest made later : ℕ) → first ≤ lowest → second ≤ lowest
    → made ≡ (if given then above first version else newest) → later ≡ above second made
    → above lowest later ≡ above lowest (if given then version else newest)
above_given lowest first second given version newest made later low lower made_is later_is =
    ap (above lowest) (later_is ∙ ap (above second) made_is)
    ∙ above_again lowest second (if given then above first version else newest) lower
    ∙ by given
  where
    by : (b : Bool) → above lowest (if b then above first version else newest) ≡ above lowest (if b then version else newest)
    by true = above_again lowest first version low
    by false = refl

-- a store with one version more, which the mutations of a commit make, pruned up to the lowest version that can be read then, and an
-- index where the keys of its write conflict ranges have this version, keep the history with that commit
pub keeps_next : (old new : Versions) (index later : Index) (setting : Setting) (commit : Commit) → Keeps old index setting
    → last_of new ≡ last_of old + 1
    → oldest_of new ≡ low (grown_by setting (commit ∷ []))
    → ((version : ℕ) → oldest_of new ≤ version → version ≤ last_of old → versions.at new version ≡ versions.at old version)
    → versions.at new (last_of old + 1) ≡ do_all commit.mutations (versions.at old (last_of old))
    → later.forgotten ≤ low (grown_by setting (commit ∷ []))
    → ((key : List ℕ) → above (low (grown_by setting (commit ∷ []))) (newest_at later key)
    ≡ above (low (grown_by setting (commit ∷ []))) (if covers commit.write_conflicts key then last_of old + 1 else newest_at index key))
    → Keeps new later (grown_by setting (commit ∷ []))
keeps_next old new index later setting commit keeps next oldest before after forgotten judges = record {
  last_is = next ∙ ap (λ n. n + 1) keeps.last_is ∙ sym (length-append setting.history (commit ∷ []));
  oldest_is = oldest;
  at_is = λ version from le. by_version version (cases_lt (last setting.history) version) from
      (omega (arith, le, length-append setting.history (commit ∷ [])));
  forgotten_is = forgotten;
  newest_is = λ key.
      judges key ∙ (λ i. above lowest (if covers commit.write_conflicts key then keeps.last_is i + 1 else newest_at index key))
      ∙ by_conflict key (covers commit.write_conflicts key)
      ∙ ap (above lowest) (sym (newest_push setting.history commit key));
}
  where
    lowest : ℕ
    lowest = low (grown_by setting (commit ∷ []))

    by_conflict : (key : List ℕ) (b : Bool) → above lowest (if b then last setting.history + 1 else newest_at index key)
        ≡ above lowest (if b then last setting.history + 1 else newest_of setting.history key)
    by_conflict key true = refl
    by_conflict key false = above_later (low setting) lowest _ _ (low_grows setting commit) (keeps.newest_is key)

    by_version : (version : ℕ) → (last setting.history < version) ⊎ (version ≤ last setting.history) → lowest ≤ version
        → version ≤ last setting.history + 1 → versions.at new version ≡ at (setting.history ++ commit ∷ []) version
    by_version version (inl later) from le =
        let is : version ≡ last setting.history + 1 = omega arith in let inside = low_inside setting in
        ap (versions.at new) (is ∙ ap (λ n. n + 1) (sym keeps.last_is)) ∙ after
        ∙ ap (do_all commit.mutations)
        (keeps.at_is (last_of old) (omega (arith, keeps.last_is, inside)) (omega (arith, keeps.last_is)) ∙ ap (at setting.history) keeps.last_is)
        ∙ sym (at_next setting.history commit) ∙ ap (at (setting.history ++ commit ∷ [])) (sym is)
    by_version version (inr earlier) from le =
        let grows = low_grows setting commit in
        before version (omega (arith, oldest, from)) (omega (arith, earlier, keeps.last_is))
        ∙ keeps.at_is version (omega (arith, grows, from)) earlier ∙ sym (at_earlier setting.history commit version earlier)
