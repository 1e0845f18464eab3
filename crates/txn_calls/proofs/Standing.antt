-- A transaction of the code goes on standing for each one that it stood for.
use Rattle.std.proofs.Common.{◌≡◌, ◌⊎◌, inl, inr, ℕ, Bool, true, false, cond, not, ◌&&◌, ◌||◌, List, [], ◌∷◌, ◌++◌, length, Some, nat_lt, refl, sym, ap, subst, ◌∙◌, length-append, le-ltb, arith}
use Rattle.std.proofs.lemmas.List.{length-map}
use Rattle.std.specs.Prelude.{if◌then◌else◌}
use Rattle.key_bytes.specs.declared.range.KeyRange.{KeyRange}
use Rattle.key_bytes.specs.Keys.{key_lt}
use Rattle.key_bytes.specs.Ranges.{has}
use Rattle.model_database.specs.declared.Phase.{Phase}
use Rattle.model_database.specs.declared.Phase.TheVariants as phase
use Rattle.model_database.specs.Databases.{Mutation}
use Rattle.model_database.specs.Reads.{Read, Answer, answer}
use Rattle.model_database.specs.States.{covers, filled, all_filled}
use Rattle.model_database.specs.Histories.{Setting, write_range, write_conflicts_by}
use Rattle.model_database.specs.Transactions.{Transaction, writes_of, write_conflicts_of, is_tried, grown, mutation_size, range_size, with_range, version_in, with_version, with_read, with_mutation, with_read_range, with_write_range, with_write_conflict_disabled, with_phase, cancelled}
use Rattle.model_database.proofs.States.{covers-append, filled-append}
use Rattle.model_database.proofs.Ranges.{covers_with_range}
use Rattle.model_database.proofs.AddingConflicts.{written_wrote, written_read, write_conflicts_wrote, write_conflicts_read}
use Rattle.txn_parts.proofs.Units.{and_false, and_true, or_false}
use Rattle.txn_calls.specs.Stands.{Kept, SameMutations, StandsFor, write_conflicts_among}
use Rattle.txn_calls.specs.Accesses.{StandsWritten}
use Rattle.txn_calls.proofs.States.{same_more}

-- ranges that have a key are not none
pub not_bare : (ranges : List KeyRange) (key : List ℕ) → covers ranges key ≡ true → nat_lt (length ranges) 1 ≡ false
not_bare [] key there = absurd cc
not_bare (range ∷ ranges) key there = le-ltb (length (range ∷ ranges)) 1 (omega arith)

-- a read that is noted leaves the mutations as they are
writes_read : (snapshot : Bool) (read : Read) (answer : Answer) (ranges : List KeyRange) (t : Transaction)
    → writes_of (with_read snapshot read answer ranges t) ≡ writes_of t
writes_read true read answer ranges t = refl
writes_read false read answer ranges t = written_read t.script read answer

-- ---- fields that change alike

pub versioned : (setting : Setting) (kept : Kept) (version : ℕ) (t : Transaction) → StandsFor kept t → version ≡ version_in setting t
    → StandsFor (record kept { version = Some version }) (with_version setting t)
versioned setting kept version t stands is = record {
  mutations = stands.mutations;
  writes = stands.writes;
  write_conflicts = stands.write_conflicts;
  life = stands.life;
  version = ap (λ v. Some v) is;
  reads = stands.reads;
  size = stands.size;
  with_write_conflict_disabled = stands.with_write_conflict_disabled;
  phase = stands.phase;
}

pub phased : (now : Phase) (kept : Kept) (t : Transaction) → StandsFor kept t → StandsFor (record kept { phase = now }) (with_phase t now)
phased now kept t stands = record {
  mutations = stands.mutations;
  writes = stands.writes;
  write_conflicts = stands.write_conflicts;
  life = stands.life;
  version = stands.version;
  reads = stands.reads;
  size = stands.size;
  with_write_conflict_disabled = stands.with_write_conflict_disabled;
  phase = refl;
}

-- ---- a write

appended_not_empty : (mutations : List Mutation) (mutation : Mutation) → nat_lt (length (mutations ++ mutation ∷ [])) 1 ≡ false
appended_not_empty mutations mutation =
    le-ltb (length (mutations ++ mutation ∷ [])) 1 (omega (arith, length-append mutations (mutation ∷ [])))

-- the keys of one mutation, where it has a write conflict range
abbrev of_one : Bool → Mutation → List KeyRange
of_one adds_conflict mutation = if adds_conflict then write_range mutation ∷ [] else []

write_conflicts_more : (mutations : List Mutation) (adds_conflict : List Bool) (mutation : Mutation) (one : Bool)
    → length adds_conflict ≡ length mutations
    → write_conflicts_among (mutations ++ mutation ∷ []) (adds_conflict ++ one ∷ []) ≡ write_conflicts_among mutations adds_conflict ++ of_one one mutation
write_conflicts_more [] [] mutation true same = refl
write_conflicts_more [] [] mutation false same = refl
write_conflicts_more [] (b ∷ adds_conflict) mutation one same = absurd (omega (arith, same))
write_conflicts_more (m ∷ mutations) [] mutation one same = absurd (omega (arith, same))
write_conflicts_more (m ∷ mutations) (true ∷ adds_conflict) mutation one same =
    ap (λ list. write_range m ∷ list) (write_conflicts_more mutations adds_conflict mutation one (omega (arith, same)))
write_conflicts_more (m ∷ mutations) (false ∷ adds_conflict) mutation one same = write_conflicts_more mutations adds_conflict mutation one (omega (arith, same))

moved : (x y z : Bool) → ((x || y) || z) ≡ ((x || z) || y)
moved true y z = refl
moved false true true = refl
moved false true false = refl
moved false false true = refl
moved false false false = refl

-- a list of ranges that more were put into before the last of them
covers_between : (first more last : List KeyRange) (key : List ℕ)
    → covers ((first ++ more) ++ last) key ≡ (covers (first ++ last) key || covers more key)
covers_between first more last key =
    covers-append (first ++ more) last key ∙ ap (λ b. b || covers last key) (covers-append first more key)
    ∙ moved (covers first key) (covers more key) (covers last key) ∙ ap (λ b. b || covers more key) (sym (covers-append first last key))

-- the write conflict ranges, by the code and by the definitions, after a mutation more
write_conflicts_written : (kept : Kept) (t : Transaction) (mutation : Mutation) (stamp key : List ℕ) → length kept.adds_conflict ≡ length kept.mutations
    → StandsFor kept t → length stamp ≡ 10
    → covers (write_conflicts_among (all_filled stamp (kept.mutations ++ mutation ∷ [])) (kept.adds_conflict ++ not kept.skips_write_conflict ∷ []) ++ kept.write_ranges) key
    ≡ covers (write_conflicts_of stamp (with_mutation t mutation)) key
write_conflicts_written kept t mutation stamp key same stands ten =
    let filled_one = of_one (not kept.skips_write_conflict) (filled stamp mutation) in
    ap (λ list. covers (list ++ kept.write_ranges) key)
    (ap (λ list. write_conflicts_among list (kept.adds_conflict ++ not kept.skips_write_conflict ∷ [])) (filled-append stamp kept.mutations (mutation ∷ []))
    ∙ write_conflicts_more (all_filled stamp kept.mutations) kept.adds_conflict (filled stamp mutation) (not kept.skips_write_conflict)
    (same ∙ sym (length-map kept.mutations (filled stamp))))
    ∙ covers_between (write_conflicts_among (all_filled stamp kept.mutations) kept.adds_conflict) filled_one kept.write_ranges key
    ∙ (λ i. stands.write_conflicts stamp key ten i || covers (of_one (not (stands.with_write_conflict_disabled i)) (filled stamp mutation)) key)
    ∙ sym (covers_between (write_conflicts_by stamp t.script) (of_one (not t.skips_write_conflict) (filled stamp mutation)) t.write_ranges key)
    ∙ ap (λ list. covers (list ++ t.write_ranges) key) (sym (write_conflicts_wrote stamp t.script mutation (not t.skips_write_conflict)))

-- what is kept with one mutation more, which counts so many bytes
pub stands_written : (mutation : Mutation) (kept new : Kept) → length kept.adds_conflict ≡ length kept.mutations
    → new ≡ record kept {
      mutations = kept.mutations ++ mutation ∷ [];
      adds_conflict = kept.adds_conflict ++ not kept.skips_write_conflict ∷ [];
      size = grown kept.size (mutation_size mutation);
      skips_write_conflict = false;
    }
    → StandsWritten kept new mutation
stands_written mutation kept new same is t stands = subst (λ k. StandsFor k (with_mutation t mutation)) (sym is) (record {
  mutations = subst (λ list. SameMutations (kept.mutations ++ mutation ∷ []) list) (sym (written_wrote t.script mutation (not t.skips_write_conflict)))
      (same_more kept.mutations (writes_of t) (mutation ∷ []) stands.mutations);
  writes =
      ap (λ b. b && nat_lt (length kept.write_ranges) 1) (appended_not_empty kept.mutations mutation)
      ∙ sym (ap (λ b. b && nat_lt (length t.write_ranges) 1)
      (ap (λ list. nat_lt (length list) 1) (written_wrote t.script mutation (not t.skips_write_conflict)) ∙ appended_not_empty (writes_of t) mutation));
  write_conflicts = λ stamp key ten. write_conflicts_written kept t mutation stamp key same stands ten;
  life = stands.life;
  version = stands.version;
  reads = stands.reads;
  size = ap (λ n. grown n (mutation_size mutation)) stands.size;
  with_write_conflict_disabled = refl;
  phase = stands.phase;
})

-- ---- a read

-- one that is noted, and adds ranges of which the code has the keys
pub stands_read : (snapshot : Bool) (read : Read) (answer : Answer) (ranges : List KeyRange) (kept : Kept) (t : Transaction)
    → StandsFor (record kept { read_ranges = t.read_ranges }) t
    → ((key : List ℕ) → covers kept.read_ranges key ≡ (covers t.read_ranges key || (not snapshot && covers ranges key)))
    → StandsFor kept (with_read snapshot read answer ranges t)
stands_read true read answer ranges kept t stands noted = record {
  mutations = stands.mutations;
  writes = stands.writes;
  write_conflicts = stands.write_conflicts;
  life = stands.life;
  version = stands.version;
  reads = λ key. noted key ∙ or_false (covers t.read_ranges key);
  size = stands.size;
  with_write_conflict_disabled = stands.with_write_conflict_disabled;
  phase = stands.phase;
}
stands_read false read answer ranges kept t stands noted = record {
  mutations = subst (λ list. SameMutations kept.mutations list) (sym (writes_read false read answer ranges t)) stands.mutations;
  writes =
      stands.writes ∙ ap (λ list. nat_lt (length list) 1 && nat_lt (length t.write_ranges) 1) (sym (writes_read false read answer ranges t));
  write_conflicts = λ stamp key ten.
      stands.write_conflicts stamp key ten ∙ ap (λ list. covers (list ++ t.write_ranges) key) (sym (write_conflicts_read stamp t.script read answer));
  life = stands.life;
  version = stands.version;
  reads = λ key. noted key ∙ sym (covers-append t.read_ranges ranges key);
  size = stands.size;
  with_write_conflict_disabled = stands.with_write_conflict_disabled;
  phase = stands.phase;
}

-- ---- read and write conflict ranges that are added to it

pub stands_reads : (range : KeyRange) (kept : Kept) (t : Transaction) (ranges : List KeyRange) → StandsFor kept t
    → ((key : List ℕ) → covers ranges key ≡ (covers kept.read_ranges key || has range key))
    → StandsFor (record kept { read_ranges = ranges; size = grown kept.size (range_size range) }) (with_read_range t range)
stands_reads range kept t ranges stands added = record {
  mutations = stands.mutations;
  writes = stands.writes;
  write_conflicts = stands.write_conflicts;
  life = stands.life;
  version = stands.version;
  reads = λ key. added key ∙ ap (λ b. b || has range key) (stands.reads key) ∙ sym (covers_with_range t.read_ranges range key);
  size = ap (λ n. grown n (range_size range)) stands.size;
  with_write_conflict_disabled = stands.with_write_conflict_disabled;
  phase = stands.phase;
}

or_moved : (x y z : Bool) → (x || (y || z)) ≡ ((x || y) || z)
or_moved true y z = refl
or_moved false y z = refl

-- a write conflict range that is added; an empty one changes nothing but the size
pub stands_writes : (range : KeyRange) (kept : Kept) (t : Transaction) (ranges : List KeyRange) → StandsFor kept t
    → ((key : List ℕ) → covers ranges key ≡ (covers kept.write_ranges key || has range key))
    → nat_lt (length ranges) 1 ≡ (nat_lt (length kept.write_ranges) 1 && not (key_lt range.begin range.end))
    → StandsFor (record kept { write_ranges = ranges; size = grown kept.size (range_size range) }) (with_write_range t range)
stands_writes range kept t ranges stands added bare = record {
  mutations = stands.mutations;
  writes =
      ap (λ b. nat_lt (length kept.mutations) 1 && b) bare
      ∙ and_moved (nat_lt (length kept.mutations) 1) (nat_lt (length kept.write_ranges) 1) (not (key_lt range.begin range.end))
      ∙ ap (λ b. b && not (key_lt range.begin range.end)) stands.writes
      ∙ sym (and_moved (nat_lt (length (writes_of t)) 1) (nat_lt (length t.write_ranges) 1) (not (key_lt range.begin range.end)))
      ∙ ap (λ b. nat_lt (length (writes_of t)) 1 && b) (sym (with_range_bare t.write_ranges range));
  write_conflicts = λ stamp key ten.
      covers-append (write_conflicts_among (all_filled stamp kept.mutations) kept.adds_conflict) ranges key
      ∙ ap (λ b. covers (write_conflicts_among (all_filled stamp kept.mutations) kept.adds_conflict) key || b) (added key)
      ∙ or_moved (covers (write_conflicts_among (all_filled stamp kept.mutations) kept.adds_conflict) key) (covers kept.write_ranges key) (has range key)
      ∙ ap (λ b. b || has range key)
      (sym (covers-append (write_conflicts_among (all_filled stamp kept.mutations) kept.adds_conflict) kept.write_ranges key) ∙ stands.write_conflicts stamp key ten
      ∙ covers-append (write_conflicts_by stamp t.script) t.write_ranges key)
      ∙ sym (or_moved (covers (write_conflicts_by stamp t.script) key) (covers t.write_ranges key) (has range key))
      ∙ ap (λ b. covers (write_conflicts_by stamp t.script) key || b) (sym (covers_with_range t.write_ranges range key))
      ∙ sym (covers-append (write_conflicts_by stamp t.script) (with_range t.write_ranges range) key);
  life = stands.life;
  version = stands.version;
  reads = stands.reads;
  size = ap (λ n. grown n (range_size range)) stands.size;
  with_write_conflict_disabled = stands.with_write_conflict_disabled;
  phase = stands.phase;
}
  where
    and_moved : (x y z : Bool) → (x && (y && z)) ≡ ((x && y) && z)
    and_moved true y z = refl
    and_moved false y z = refl

    with_range_bare : (ranges : List KeyRange) (range : KeyRange)
        → nat_lt (length (with_range ranges range)) 1 ≡ (nat_lt (length ranges) 1 && not (key_lt range.begin range.end))
    with_range_bare ranges range = by_order (key_lt range.begin range.end)
      where
        by_order : (b : Bool) → nat_lt (length (cond b (ranges ++ range ∷ []) ranges)) 1 ≡ (nat_lt (length ranges) 1 && not b)
        by_order true = le-ltb (length (ranges ++ range ∷ [])) 1 (omega (arith, length-append ranges (range ∷ []))) ∙ sym (and_false (nat_lt (length ranges) 1))
        by_order false = sym (and_true (nat_lt (length ranges) 1))

pub stands_write_conflict_disabled : (kept : Kept) (t : Transaction) → StandsFor kept t → StandsFor (record kept { skips_write_conflict = true }) (with_write_conflict_disabled t)
stands_write_conflict_disabled kept t stands = record {
  mutations = stands.mutations;
  writes = stands.writes;
  write_conflicts = stands.write_conflicts;
  life = stands.life;
  version = stands.version;
  reads = stands.reads;
  size = stands.size;
  with_write_conflict_disabled = refl;
  phase = stands.phase;
}

pub stands_set_version : (kept : Kept) (t : Transaction) (version : ℕ) → StandsFor kept t
    → StandsFor (record kept { version = Some version }) (record t { version = Some version })
stands_set_version kept t version stands = record {
  mutations = stands.mutations;
  writes = stands.writes;
  write_conflicts = stands.write_conflicts;
  life = stands.life;
  version = refl;
  reads = stands.reads;
  size = stands.size;
  with_write_conflict_disabled = stands.with_write_conflict_disabled;
  phase = stands.phase;
}

-- read ranges with the same keys stand for the same transactions
pub stands_same_reads : (kept : Kept) (t : Transaction) (ranges : List KeyRange) → ((key : List ℕ) → covers ranges key ≡ covers kept.read_ranges key)
    → StandsFor kept t → StandsFor (record kept { read_ranges = ranges }) t
stands_same_reads kept t ranges same stands = record {
  mutations = stands.mutations;
  writes = stands.writes;
  write_conflicts = stands.write_conflicts;
  life = stands.life;
  version = stands.version;
  reads = λ key. same key ∙ stands.reads key;
  size = stands.size;
  with_write_conflict_disabled = stands.with_write_conflict_disabled;
  phase = stands.phase;
}

pub cancel_stands : (kept : Kept) (t : Transaction) → StandsFor kept t
    → StandsFor (if is_tried kept.phase then kept else record kept { phase = phase.Cancelled }) (cancelled t)
cancel_stands kept t stands =
    let P : Bool → Bool → Type 0 = λ a b. StandsFor (if a then kept else record kept { phase = phase.Cancelled }) (if b then t else with_phase t phase.Cancelled) in
    subst (P (is_tried kept.phase)) (ap is_tried stands.phase)
    (elim (is_tried kept.phase) as (λ b. P b b) [ true ↦ stands | false ↦ phased phase.Cancelled kept t stands ])
