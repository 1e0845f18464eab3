-- What a read of a transaction of the code is answered, for each transaction that it stands for.
use Rattle.std.proofs.Common.{◌≡◌, ℕ, Bool, true, false, not, ◌&&◌, ◌||◌, List, [], ◌∷◌, Option, Some, None, Result, Ok, Err, inl, inr, refl, sym, ap, subst, ◌∙◌, ◌≤◌, arith}
use Rattle.std.proofs.lemmas.Bool.{ltb-false}
use Rattle.std.specs.Prelude.{unwrap_or, nat_lt}
use Rattle.std.specs.FinMap as finite
use Rattle.key_bytes.specs.declared.range.KeyRange.{KeyRange}
use Rattle.model_database.specs.declared.Code.{Code}
use Rattle.model_database.specs.declared.TheConstants.{ACCESSED_UNREADABLE, FUTURE_VERSION, TRANSACTION_TOO_OLD}
use Rattle.model_database.specs.Databases.{Database, Mutation}
use Rattle.model_database.specs.States.{covers, seen, unreadable}
use Rattle.model_database.specs.Intervals.{any_meet, added, decided, interval, without}
use Rattle.model_database.specs.Reads.{Read, Answer, answer}
use Rattle.model_database.specs.Histories.{Setting, at, low}
use Rattle.model_database.specs.Transactions.{Transaction, writes_of, version_in, map_below, view, is_ahead, is_behind, is_hidden, is_read_outside, first_failing, with_version, read_code}
use Rattle.model_database.proofs.Ranges.{covers_without, meet_by_keys}
use Rattle.model_database.proofs.Deciding.{is_decided, decided_is}
use Rattle.conflict_ranges.specs.Writes.{Index}
use Rattle.fdb_calls.specs.declared.fault.TrFault.{TrFault}
use Rattle.fdb_calls.specs.declared.fault.TrFault.TheVariants as fault
use Rattle.fdb_calls.specs.declared.Reply.{Reply}
use Rattle.fdb_calls.specs.declared.Reply.TheVariants as reply
use Rattle.fdb_calls.specs.Answers.{Answered}
use Rattle.fdb_calls.specs.Calling.{Called, reply_of, refuses, read_answered, read_at_version, read_by, read_called}
use Rattle.version_store.specs.Versions.{Versions, oldest_of}
use Rattle.txn_parts.specs.ReadRanges.{ranges_of}
use Rattle.txn_calls.specs.Stands.{Kept, SameMutations, StandsFor, Keeps}
use Rattle.txn_calls.specs.Accesses.{version_of, seen_by, is_ahead_of, is_behind_of, version_code, early_code, Admits, Rests, HasRested}
use Rattle.txn_calls.proofs.States.{same_maps}
use Rattle.txn_calls.proofs.Stored.{keeps_at}
use Rattle.txn_calls.proofs.Standing.{versioned, stands_read, stands_same_reads}

-- mutations that agree let the same be seen of each map
seen_same : (kept mutations : List Mutation) (database : Database) → SameMutations kept mutations
    → seen kept database ≡ seen mutations database
unfolding seen
seen_same kept mutations database same =
    λ i. finite.retain_keys (same_maps kept mutations same database i) (λ key. not (same.unreadable_same key i))

pub version_same : (kept : Kept) (store : Versions) (index : Index) (setting : Setting) (t : Transaction) → StandsFor kept t
    → Keeps store index setting → version_of kept store ≡ version_in setting t
version_same kept store index setting t stands keeps = λ i. unwrap_or (stands.version i) (keeps.last_is i)

-- a version that can be read is no lower than the lowest
pub not_behind : (kept : Kept) (store : Versions) (index : Index) (setting : Setting) → Keeps store index setting
    → version_code kept store ≡ None → low setting ≤ version_of kept store
not_behind kept store index setting keeps readable = by (is_behind_of kept store) refl readable
  where
    by : (behind : Bool) → is_behind_of kept store ≡ behind
        → first_failing ((behind, TRANSACTION_TOO_OLD) ∷ (is_ahead_of kept store, FUTURE_VERSION) ∷ []) ≡ None → low setting ≤ version_of kept store
    by true is none = absurd cc
    by false is none =
        let oldest = keeps.oldest_is in let least = ltb-false (version_of kept store) (oldest_of store) is in omega (arith, oldest, least)

-- the code sees what each transaction sees that it stands for
pub view_same : (kept : Kept) (store : Versions) (index : Index) (setting : Setting) (t : Transaction) → StandsFor kept t
    → Keeps store index setting → version_code kept store ≡ None → seen_by kept store ≡ view setting t
view_same kept store index setting t stands keeps readable =
    ap (seen kept.mutations)
    (keeps_at store index setting (version_of kept store) keeps (not_behind kept store index setting keeps readable) ∙ ap (at setting.history) (version_same kept store index setting t stands keeps))
    ∙ seen_same kept.mutations (writes_of t) (at setting.history (version_in setting t)) stands.mutations

pub ahead_same : (kept : Kept) (store : Versions) (index : Index) (setting : Setting) (t : Transaction) → StandsFor kept t
    → Keeps store index setting → is_ahead_of kept store ≡ is_ahead setting t
ahead_same kept store index setting t stands keeps =
    λ i. nat_lt (keeps.last_is i) (version_same kept store index setting t stands keeps i)

pub behind_same : (kept : Kept) (store : Versions) (index : Index) (setting : Setting) (t : Transaction) → StandsFor kept t
    → Keeps store index setting → is_behind_of kept store ≡ is_behind setting t
behind_same kept store index setting t stands keeps =
    λ i. nat_lt (version_same kept store index setting t stands keeps i) (keeps.oldest_is i)

-- the code of a version that can't be read
abbrev pub unreadable_code : Setting → Transaction → Option ℕ
unreadable_code setting t = first_failing ((is_behind setting t, TRANSACTION_TOO_OLD) ∷ (is_ahead setting t, FUTURE_VERSION) ∷ [])

pub version_code_same : (kept : Kept) (store : Versions) (index : Index) (setting : Setting) (t : Transaction) → StandsFor kept t
    → Keeps store index setting → version_code kept store ≡ unreadable_code setting t
version_code_same kept store index setting t stands keeps =
    λ i. first_failing ((behind_same kept store index setting t stands keeps i, TRANSACTION_TOO_OLD)
    ∷ (ahead_same kept store index setting t stands keeps i, FUTURE_VERSION) ∷ [])

-- a key of the ranges is unreadable for the code where one is for the transaction
hidden_same : (kept : Kept) (t : Transaction) (ranges : List KeyRange) → StandsFor kept t
    → any_meet ranges (unreadable kept.mutations) ≡ any_meet ranges (unreadable (writes_of t))
hidden_same kept t ranges stands =
    meet_by_keys ranges ranges (unreadable kept.mutations) (unreadable (writes_of t)) (λ key. refl) stands.mutations.unreadable_same

-- what a read adds, by the mutations of the code
added_same : (kept : Kept) (t : Transaction) (ranges : List KeyRange) (key : List ℕ) → StandsFor kept t
    → covers (without (decided kept.mutations) ranges) key ≡ covers (without (decided (writes_of t)) ranges) key
added_same kept t ranges key stands =
    covers_without (decided kept.mutations) ranges key
    ∙ ap (λ b. covers ranges key && not b)
    (decided_is kept.mutations key ∙ ap is_decided (stands.mutations.state_same key) ∙ sym (decided_is (writes_of t) key))
    ∙ sym (covers_without (decided (writes_of t)) ranges key)

-- ---- how a read is answered, by its checks

early_same : (kept : Kept) (t : Transaction) (lacks : Bool) (read : Read) (outside : Bool) → StandsFor kept t → outside ≡ is_read_outside read
    → early_code kept outside lacks ≡ read_code t.phase lacks read
unfolding read_code
early_same kept t lacks read outside stands is =
    λ i. early_code (record kept { phase = stands.phase i }) (is i) lacks

-- an earlier check refuses it
refused_early : (setting : Setting) (t : Transaction) (lacks snapshot : Bool) (read : Read) (code : ℕ) → read_code t.phase lacks read ≡ Some code
    → read_called setting t lacks snapshot read ≡ refuses t code
refused_early setting t lacks snapshot read code is = ap (λ code. read_by code setting t snapshot read) is

abbrev late : Bool → Bool → Bool → Option ℕ
late behind ahead hidden = first_failing ((behind, TRANSACTION_TOO_OLD) ∷ (ahead, FUTURE_VERSION) ∷ (hidden, ACCESSED_UNREADABLE) ∷ [])

-- no earlier check refuses it
called_late : (setting : Setting) (t : Transaction) (lacks snapshot : Bool) (read : Read) (code : Option ℕ) → read_code t.phase lacks read ≡ None
    → late (is_behind setting t) (is_ahead setting t) (is_hidden setting t read) ≡ code
    → read_called setting t lacks snapshot read ≡ read_at_version code setting (with_version setting t) snapshot read
called_late setting t lacks snapshot read code none is =
    ap (λ code. read_by code setting t snapshot read) none
    ∙ ap (λ code. read_at_version code setting (with_version setting t) snapshot read) is

late_version : (behind ahead hidden : Bool) (code : ℕ)
    → first_failing ((behind, TRANSACTION_TOO_OLD) ∷ (ahead, FUTURE_VERSION) ∷ []) ≡ Some code → late behind ahead hidden ≡ Some code
late_version true ahead hidden code is = is
late_version false true hidden code is = is
late_version false false hidden code is = absurd cc

late_readable : (behind ahead hidden : Bool) → first_failing ((behind, TRANSACTION_TOO_OLD) ∷ (ahead, FUTURE_VERSION) ∷ []) ≡ None
    → late behind ahead hidden ≡ first_failing ((hidden, ACCESSED_UNREADABLE) ∷ [])
late_readable true ahead hidden none = absurd cc
late_readable false true hidden none = absurd cc
late_readable false false hidden none = refl

refused_version : (setting : Setting) (t : Transaction) (lacks snapshot : Bool) (read : Read) (code : ℕ) → read_code t.phase lacks read ≡ None
    → unreadable_code setting t ≡ Some code → read_called setting t lacks snapshot read ≡ refuses (with_version setting t) code
refused_version setting t lacks snapshot read code none is =
    called_late setting t lacks snapshot read (Some code) none
    (late_version (is_behind setting t) (is_ahead setting t) (is_hidden setting t read) code is)

refused_hidden : (setting : Setting) (t : Transaction) (lacks snapshot : Bool) (read : Read) → read_code t.phase lacks read ≡ None
    → unreadable_code setting t ≡ None → is_hidden setting t read ≡ true
    → read_called setting t lacks snapshot read ≡ refuses (with_version setting t) ACCESSED_UNREADABLE
refused_hidden setting t lacks snapshot read none readable hidden =
    called_late setting t lacks snapshot read (Some ACCESSED_UNREADABLE) none
    (late_readable (is_behind setting t) (is_ahead setting t) (is_hidden setting t read) readable
    ∙ ap (λ hidden. first_failing ((hidden, ACCESSED_UNREADABLE) ∷ [])) hidden)

answered_late : (setting : Setting) (t : Transaction) (lacks snapshot : Bool) (read : Read) → read_code t.phase lacks read ≡ None
    → unreadable_code setting t ≡ None → is_hidden setting t read ≡ false
    → read_called setting t lacks snapshot read
    ≡ read_answered snapshot read (answer read (view setting t)) (added read (map_below setting t) (writes_of t)) (with_version setting t)
answered_late setting t lacks snapshot read none readable hidden =
    called_late setting t lacks snapshot read None none
    (late_readable (is_behind setting t) (is_ahead setting t) (is_hidden setting t read) readable
    ∙ ap (λ hidden. first_failing ((hidden, ACCESSED_UNREADABLE) ∷ [])) hidden)

refusal_answers : {A : Type 0} (shown : A → Reply) (code : Code) (number : ℕ) (stands : Transaction → Type 0) (t after : Transaction) (called : Called)
    → code.0 ≡ number → called ≡ refuses after number → stands after → Answered shown (Err (fault.Code code)) stands t called
refusal_answers shown code number stands t after called is called_is holds =
    subst (λ (made : Called). (reply.Fault code ≡ made.reply) × stands made.transaction)
    (ap (λ n. refuses after n) is ∙ sym called_is) (refl, holds)

-- ---- a read that is refused before it is answered

pub admit_answered : {A : Type 0} (B : Type 0) (shown : A → Reply) (why : TrFault) (old new : Kept) (store : Versions) (index : Index)
    (setting : Setting) (t : Transaction) (lacks snapshot : Bool) (read : Read) (outside : Bool)
    → outside ≡ is_read_outside read → StandsFor old t → Keeps store index setting
    → Admits {A = B} (Err why) old new store outside lacks
    → Answered shown (Err why) (StandsFor new) t (read_called setting t lacks snapshot read)
admit_answered B shown (fault.Code code) old new store index setting t lacks snapshot read outside is stands keeps (inl early) =
    refusal_answers shown code code.0 (StandsFor new) t t _ refl
    (refused_early setting t lacks snapshot read code.0 (sym (early_same old t lacks read outside stands is) ∙ early.0))
    (subst (λ k. StandsFor k t) (sym early.1) stands)
admit_answered B shown (fault.Code code) old new store index setting t lacks snapshot read outside is stands keeps (inr ahead) =
    refusal_answers shown code code.0 (StandsFor new) t (with_version setting t) _ refl
    (refused_version setting t lacks snapshot read code.0 (sym (early_same old t lacks read outside stands is) ∙ ahead.0)
    (sym (version_code_same old store index setting t stands keeps) ∙ ahead.1))
    (subst (λ k. StandsFor k (with_version setting t)) (sym ahead.2)
    (versioned setting old (version_of old store) t stands (version_same old store index setting t stands keeps)))
admit_answered B shown fault.NoMemory old new store index setting t lacks snapshot read outside is stands keeps admits = absurd admits

-- ---- a read that was let through to its answer

pub record IsAdmitted (old mid : Kept) (store : Versions) (outside lacks : Bool) (ranges : List KeyRange) (read : Read) : Type 0 where
  pub outside_is : outside ≡ is_read_outside read
  pub early : early_code old outside lacks ≡ None
  pub readable : version_code old store ≡ None
  pub same : mid ≡ old
  pub interval_is : ranges ≡ interval read (seen_by old store)

-- it was let through, and the ranges are those of what is seen
pub admitted_so : (old mid : Kept) (store : Versions) (outside lacks : Bool) (ranges : List KeyRange) (read : Read) → outside ≡ is_read_outside read
    → (early_code old outside lacks ≡ None) × (version_code old store ≡ None) × (mid ≡ old)
    → (mid ≡ old → ranges ≡ interval read (seen_by old store)) → IsAdmitted old mid store outside lacks ranges read
admitted_so old mid store outside lacks ranges read is admits are = record {
  outside_is = is;
  early = admits.0;
  readable = admits.1;
  same = admits.2;
  interval_is = are admits.2;
}

module _ {A : Type 0} (shown : A → Reply) (old mid new : Kept) (store : Versions) (index : Index) (setting : Setting) (t : Transaction)
    (lacks snapshot : Bool) (read : Read) (outside : Bool) (ranges : List KeyRange) (stands : StandsFor old t) (keeps : Keeps store index setting)
    (admitted : IsAdmitted old mid store outside lacks ranges read) where
  none : read_code t.phase lacks read ≡ None
  none = sym (early_same old t lacks read outside stands admitted.outside_is) ∙ admitted.early

  may_read : unreadable_code setting t ≡ None
  may_read = sym (version_code_same old store index setting t stands keeps) ∙ admitted.readable

  interval_same : ranges ≡ interval read (view setting t)
  interval_same = admitted.interval_is ∙ ap (interval read) (view_same old store index setting t stands keeps admitted.readable)

  hidden_is : any_meet ranges (unreadable mid.mutations) ≡ is_hidden setting t read
  hidden_is =
      ap (λ (k : Kept). any_meet ranges (unreadable k.mutations)) admitted.same
      ∙ hidden_same old t ranges stands ∙ ap (λ rs. any_meet rs (unreadable (writes_of t))) interval_same

  -- where the code has further read conflict ranges, with the version taken
  rested_stands : (more : List KeyRange) → HasRested mid new (version_of mid store) more
      → StandsFor (record new { read_ranges = t.read_ranges }) (with_version setting t)
      × ((key : List ℕ) → covers new.read_ranges key ≡ (covers t.read_ranges key || covers (without (decided (writes_of t)) more) key))
  rested_stands more rested = (
    subst (λ (k : Kept). StandsFor (record k { read_ranges = t.read_ranges }) (with_version setting t))
        (sym (rested.rest ∙ ap (λ (k : Kept). record k { version = Some (version_of k store); read_ranges = new.read_ranges }) admitted.same))
        (stands_same_reads (record old { version = Some (version_of old store) }) (with_version setting t) t.read_ranges (λ key. sym (stands.reads key))
        (versioned setting old (version_of old store) t stands (version_same old store index setting t stands keeps))),
    λ key.
        rested.ranges_are key
        ∙ ap (λ (k : Kept). covers k.read_ranges key || covers (without (decided k.mutations) more) key) admitted.same
        ∙ (λ i. stands.reads key i || added_same old t more key stands i),
  )

  or_nothing : (x : Bool) → (x || false) ≡ x
  or_nothing true = refl
  or_nothing false = refl

  -- the version is taken, and nothing else
  version_taken : HasRested mid new (version_of mid store) [] → StandsFor new (with_version setting t)
  version_taken rested =
      let both = rested_stands [] rested in
      stands_same_reads (record new { read_ranges = t.read_ranges }) (with_version setting t) new.read_ranges
      (λ key. both.1 key ∙ ap (λ b. covers t.read_ranges key || b) (covers_without (decided (writes_of t)) [] key) ∙ or_nothing (covers t.read_ranges key)) both.0

  pub rest_refused : (B : Type 0) (why : TrFault) → Rests {A = B} (Err why) mid new store snapshot ranges
      → Answered shown (Err why) (StandsFor new) t (read_called setting t lacks snapshot read)
  rest_refused B (fault.Code code) rests =
      refusal_answers shown code ACCESSED_UNREADABLE (StandsFor new) t (with_version setting t) _ rests.0
      (refused_hidden setting t lacks snapshot read none may_read (sym hidden_is ∙ rests.1)) (version_taken rests.2)
  rest_refused B fault.NoMemory rests =
      subst (λ k. StandsFor k t) (sym (rests.0 ∙ ap (λ (k : Kept). record k { read_ranges = new.read_ranges }) admitted.same))
      (stands_same_reads old t new.read_ranges (λ key. rests.1 key ∙ ap (λ (k : Kept). covers k.read_ranges key) admitted.same) stands)

  noted : (key : List ℕ) → HasRested mid new (version_of mid store) (ranges_of snapshot ranges)
      → covers new.read_ranges key
      ≡ (covers t.read_ranges key || (not snapshot && covers (added read (map_below setting t) (writes_of t)) key))
  unfolding added
  noted key rested = by_kind snapshot (rested_stands (ranges_of snapshot ranges) rested)
    where
      by_kind : (b : Bool)
          → StandsFor (record new { read_ranges = t.read_ranges }) (with_version setting t)
          × ((key : List ℕ) → covers new.read_ranges key ≡ (covers t.read_ranges key || covers (without (decided (writes_of t)) (ranges_of b ranges)) key))
          → covers new.read_ranges key
          ≡ (covers t.read_ranges key || (not b && covers (without (decided (writes_of t)) (interval read (seen (writes_of t) (map_below setting t)))) key))
      by_kind true both = both.1 key ∙ ap (λ b. covers t.read_ranges key || b) (covers_without (decided (writes_of t)) [] key)
      by_kind false both = both.1 key ∙ ap (λ rs. covers t.read_ranges key || covers (without (decided (writes_of t)) rs) key) interval_same

  pub rest_answered : {B : Type 0} (value : A) (said : Answer) (done : B) → shown value ≡ reply_of said → said ≡ answer read (seen_by old store)
      → Rests (Ok done) mid new store snapshot ranges
      → Answered shown (Ok value) (StandsFor new) t (read_called setting t lacks snapshot read)
  rest_answered value said done shown_is is rests =
      subst (λ (made : Called). (shown value ≡ made.reply) × StandsFor new made.transaction)
      (sym (answered_late setting t lacks snapshot read none may_read (sym hidden_is ∙ rests.0))) (
        shown_is ∙ ap reply_of (is ∙ ap (answer read) (view_same old store index setting t stands keeps admitted.readable)),
        stands_read snapshot read (answer read (view setting t)) (added read (map_below setting t) (writes_of t)) new (with_version setting t)
            (rested_stands (ranges_of snapshot ranges) rests.1).0 (λ key. noted key rests.1),
      )

-- a fault that is handed on is answered as it was
pub answered_on_return : {A : Type 0} (shown : A → Reply) (result : Result A TrFault) (why : TrFault) (stands : Transaction → Type 0)
    (t : Transaction) (called : Called) → result ≡ Err why → Answered shown (Err why) stands t called → Answered shown result stands t called
answered_on_return shown result why stands t called is answered = subst (λ r. Answered shown r stands t called) (sym is) answered
