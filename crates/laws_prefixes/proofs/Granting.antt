-- What a call of the allocator does to its transaction: one that grants a number, and any other.
use Rattle.std.proofs.Common.{◌≡◌, ℕ, ◌^◌, ◌<◌, true, false, List, [], ◌∷◌, ◌++◌, Option, Some, None, refl, sym, ap, subst, ◌∙◌}
use Rattle.std.specs.Prelude.{length, not}
use Rattle.std.proofs.lemmas.Bool.{and_from, or_from, or_parts, or_right}
use Rattle.std.proofs.lemmas.Slice.Eq.{bytes_eq-Decides}
use Rattle.key_bytes.specs.Ranges.{has}
use Rattle.model_database.specs.declared.Code.{Code}
use Rattle.model_database.specs.Databases.{Mutation, Set}
use Rattle.model_database.specs.Histories.{Setting, Granted}
use Rattle.model_database.specs.Intervals.{added, decided, one}
use Rattle.model_database.specs.Reads.{Get, GetKeyRange}
use Rattle.model_database.specs.States.{all_filled, covers, unreadable}
use Rattle.model_database.specs.Transactions.{Transaction, map_below, view, with_granted, with_write_range, writes_of}
use Rattle.model_database.proofs.Deciding.{covers-decided-append}
use Rattle.model_database.proofs.Ranges.{covers_one, covers_with_range, covers_without, has_one}
use Rattle.model_database.proofs.States.{covers-append, covers-unreadable-append}
use Rattle.fdb_calls.specs.Calling.{read_called, write_conflict_called}
use Rattle.model_allocator.specs.Acts.{Act, Acted, Reads, Writes, DisablesWriteConflict, AddsWriteConflict, all_acted, written_by}
use Rattle.model_allocator.specs.Counters.{counters_begin, counters_end, recent_key}
use Rattle.model_allocator.specs.Granting.{Ending, Grants, IsFull, IsNoCounter, IsRefused, allocated, asks_greatest, ended, plan}
use Rattle.laws_prefixes.specs.Held.{AreFit, AreSpending, HasGranted, HasGrown}
use Rattle.laws_prefixes.proofs.Acting.{AreLetThrough, all_grown, all_wrote, write_conflicts_made, entries_wrote, first_act, in_parts, left_by, left_first, none_left, read_made, version_left}
use Rattle.laws_prefixes.proofs.Finding.{AreGrantActs, finds, grant_acts}
use Rattle.laws_prefixes.proofs.Freeing.{is_free, unmet}
use Rattle.laws_prefixes.proofs.Planned.{plan_fit, plan_plain, plan_small, plan_spends}

-- ---- a key that is found, and then gets a write conflict range

-- the range of a key has the key
pub has_itself : (key : List ℕ) → covers (one key ∷ []) key ≡ true
has_itself key = covers_one key key ∙ (bytes_eq-Decides key key).1 refl

-- A number's key that was read and set, and has a write conflict range: it could be read; what is left has it among its read
-- conflict ranges, unless the mutations before decide it, and among its write conflict ranges.
record IsFound (writes : List Mutation) (key : List ℕ) (after : Transaction) : Type 0 where
  readable : covers (unreadable writes) key ≡ false
  read_conflict : covers (decided writes) key ≡ false → covers after.read_ranges key ≡ true
  adds_conflict : covers after.write_ranges key ≡ true

-- so it is where that was let through
is_found : (setting : Setting) (transaction : Transaction) (space : List ℕ) (number : ℕ)
    → AreLetThrough setting (finds space number) transaction
    → IsFound (writes_of transaction) (recent_key space number) (left_by setting (finds space number) transaction)
unfolding added
is_found setting transaction space number passed =
    let key = recent_key space number in
    let read = Get key in
    let writing : List Act = DisablesWriteConflict ∷ Writes (Set key []) ∷ [] in
    let behind : List Act = writing ++ AddsWriteConflict key ∷ [] in
    let next = (read_called setting transaction false false read).transaction in
    let adds = added read (map_below setting transaction) (writes_of transaction) in
    let made = read_made setting transaction false false read (first_act setting (Reads read false) behind transaction passed) in
    let parts = in_parts setting (Reads read false ∷ writing) (AddsWriteConflict key ∷ []) transaction passed in
    let last = left_by setting (Reads read false ∷ writing) transaction in
    let end : left_by setting (finds space number) transaction ≡ with_write_range last (one key) =
    parts.left ∙ left_first setting (AddsWriteConflict key) [] last parts.behind
    ∙ none_left setting (write_conflict_called last (one key)).transaction
    ∙ write_conflicts_made last key (first_act setting (AddsWriteConflict key) [] last parts.behind) in record {
      readable = unmet (one key ∷ []) (unreadable (writes_of transaction)) key made.seen (has_itself key);
      read_conflict = λ undecided.
          ap (λ (t : Transaction). covers t.read_ranges key) (left_first setting (Reads read false) behind transaction passed)
          ∙ (all_grown setting behind next).read_conflict_still key
          (ap (λ (t : Transaction). covers t.read_ranges key) made.is
          ∙ covers-append transaction.read_ranges adds key
          ∙ or_right (covers transaction.read_ranges key) (covers adds key)
          (covers_without (decided (writes_of transaction)) (one key ∷ []) key
          ∙ and_from (covers (one key ∷ []) key) (not (covers (decided (writes_of transaction)) key)) (has_itself key) (ap not undecided)));
      adds_conflict = ap (λ (t : Transaction). covers t.write_ranges key) end
          ∙ covers_with_range last.write_ranges (one key) key
          ∙ or_right (covers last.write_ranges key) (has (one key) key) (has_one key key ∙ (bytes_eq-Decides key key).1 refl);
    }

-- ---- a call that grants a number

-- What the mutations of a call that grants a number are, whatever the database: they have no versionstamp, are fit, and leave it spent.
record ArePlanned (space : List ℕ) (number : ℕ) (mutations : List Mutation) : Type 0 where
  small : number < 2 ^ 63
  plain : (stamp : List ℕ) → all_filled stamp mutations ≡ mutations
  fit : AreFit space mutations
  spends : AreSpending space number mutations

-- where the acts of such a call were all let through, it did this
acted_has : (setting : Setting) (transaction : Transaction) (space : List ℕ) (number : ℕ) (listed : List Act)
    → (granting : AreGrantActs space (view setting transaction) number listed)
    → ArePlanned space number (written_by ((asks_greatest space ∷ granting.others) ++ finds space number))
    → AreLetThrough setting ((asks_greatest space ∷ granting.others) ++ finds space number) transaction
    → HasGranted setting space number transaction
    (with_granted (left_by setting ((asks_greatest space ∷ granting.others) ++ finds space number) transaction) space number
    (length transaction.script))
acted_has setting transaction space number listed granting planned passed =
    let others = granting.others in
    let key = recent_key space number in
    let before : List Act = asks_greatest space ∷ others in
    let acts : List Act = before ++ finds space number in
    let greatest = GetKeyRange (counters_begin space) (counters_end space) 1 true in
    let made = read_made setting transaction false true greatest
    (first_act setting (Reads greatest true) (others ++ finds space number) transaction passed) in
    let parts = in_parts setting before (finds space number) transaction passed in
    let between = left_by setting before transaction in
    let found = is_found setting between space number parts.behind in
    let wrote : writes_of between ≡ writes_of transaction ++ written_by before = all_wrote setting before transaction parts.before in
    let grown = all_grown setting acts transaction in
    let entries_are = sym (entries_wrote setting acts transaction passed) in record {
      small = planned.small;
      entries = grown.entries;
      noted = ap (λ script. script ++ Granted space number (length transaction.script) ∷ []) grown.more;
      none_noted = grown.none_noted;
      taken = version_left setting greatest true (others ++ finds space number) transaction passed;
      reached = made.reached;
      plain = λ stamp. subst (λ list. all_filled stamp list ≡ list) entries_are (planned.plain stamp);
      fit = subst (AreFit space) entries_are planned.fit;
      spent = subst (AreSpending space number) entries_are planned.spends;
      free = is_free space (writes_of transaction) (map_below setting transaction) granting.first number granting.absent
          (or_parts (covers (unreadable (writes_of transaction)) key) (covers (unreadable (written_by before)) key)
          (sym (covers-unreadable-append (writes_of transaction) (written_by before) key)
          ∙ ap (λ list. covers (unreadable list) key) (sym wrote) ∙ found.readable)).0
          granting.greatest granting.from_first made.seen;
      read_conflict = λ undecided. ap (λ (t : Transaction). covers t.read_ranges key) parts.left
          ∙ found.read_conflict (ap (λ list. covers (decided list) key) wrote
          ∙ covers-decided-append (writes_of transaction) (written_by before) key
          ∙ or_from (covers (decided (writes_of transaction)) key) (covers (decided (written_by before)) key) undecided
          (granting.undecided planned.small));
      read_conflict_still = grown.read_conflict_still;
      adds_conflict = ap (λ (t : Transaction). covers t.write_ranges key) parts.left ∙ found.adds_conflict;
      adds_conflict_still = grown.adds_conflict_still;
    }

-- ---- how a call ends

-- a call that grants a number was to grant it, and none of its acts was refused
ended_granting : (space : List ℕ) (from : ℕ) (ending : Ending) (acted : Acted) (code : Option Code) (number : ℕ)
    → (ended space from ending acted code).ending ≡ Grants number → (ending ≡ Grants number) × (code ≡ None)
ended_granting space from ending acted (Some code) number grants = absurd cc
ended_granting space from ending acted None number grants = (grants, refl)

-- one that grants a number
pub granted_has : (setting : Setting) (t : Transaction) (space : List ℕ) (words : ℕ → ℕ) (number : ℕ)
    → (allocated setting t space words).ending ≡ Grants number
    → HasGranted setting space number t (allocated setting t space words).transaction
unfolding allocated
granted_has setting t space words number grants =
    let database = view setting t in
    let planned = plan space database words in
    let acted = all_acted setting planned.acts t in
    let ends = ended_granting space (length t.script) planned.ending acted acted.refused number grants in
    let granting = grant_acts space database words number ends.0 in
    let acts_are = granting.acts_are in
    let mutations : ArePlanned space number (written_by planned.acts) = record {
      small = plan_small space database words number ends.0;
      plain = λ stamp. plan_plain stamp space database words;
      fit = plan_fit space database words;
      spends = plan_spends space database words number ends.0;
    } in
    subst (HasGranted setting space number t) (λ i. (ended space (length t.script) (sym ends.0 i) acted (sym ends.1 i)).transaction)
    (subst (λ list. HasGranted setting space number t (with_granted (left_by setting list t) space number (length t.script))) (sym acts_are)
    (acted_has setting t space number planned.acts granting
    (subst (λ list. ArePlanned space number (written_by list)) acts_are mutations)
    (subst (λ list. AreLetThrough setting list t) acts_are ends.1)))

-- one that grants none
pub other_grown : (setting : Setting) (t : Transaction) (space : List ℕ) (words : ℕ → ℕ)
    → ((number : ℕ) → (allocated setting t space words).ending ≡ Grants number → ⊥)
    → HasGrown t (allocated setting t space words).transaction
unfolding allocated
other_grown setting t space words none =
    let planned = plan space (view setting t) words in
    by planned.ending (all_acted setting planned.acts t).refused (all_grown setting planned.acts t) none
  where
    acted : Acted
    acted = all_acted setting (plan space (view setting t) words).acts t

    by : (ending : Ending) (code : Option Code) → HasGrown t acted.transaction
        → ((number : ℕ) → (ended space (length t.script) ending acted code).ending ≡ Grants number → ⊥)
        → HasGrown t (ended space (length t.script) ending acted code).transaction
    by ending (Some code) grown none = grown
    by (Grants number) None grown none = absurd (none number refl)
    by (IsFull start) None grown none = grown
    by (IsNoCounter key) None grown none = grown
    by (IsRefused code) None grown none = grown
