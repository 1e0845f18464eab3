-- What a read or a write of a transaction of the code is answered, as a call.
use Rattle.std.proofs.Common.{◌≡◌, ℕ, Bool, true, cond, List, [], ◌∷◌, ◌++◌, Option, Some, None, Result, Ok, Err, inl, refl, sym, ap, subst, ◌∙◌, append-nil}
use Rattle.std.specs.Prelude.{false, OnErr}
use Rattle.model_database.specs.declared.AtomicOp.{AtomicOp}
use Rattle.model_database.specs.Databases.{Mutation, Atomic}
use Rattle.model_database.specs.Reads.{Read}
use Rattle.model_database.specs.Histories.{History, Setting, grown_by, stamp_of}
use Rattle.model_database.specs.declared.Code.{Code}
use Rattle.model_database.specs.declared.Phase.{Phase}
use Rattle.model_database.specs.declared.Phase.TheVariants as phase
use Rattle.model_database.specs.declared.Tried.TheVariants as tried
use Rattle.model_database.specs.Transactions.{Transaction, first_failing, phase_code, read_code, late_checks, is_read_only, version_made, with_version, with_phase}
use Rattle.conflict_ranges.specs.Writes.{Index}
use Rattle.fdb_calls.specs.declared.fault.TrFault.{TrFault}
use Rattle.fdb_calls.specs.declared.fault.TrFault.TheVariants as fault
use Rattle.fdb_calls.specs.declared.Reply.{Reply}
use Rattle.fdb_calls.specs.declared.Reply.TheVariants as reply
use Rattle.fdb_calls.specs.Answers.{Answered}
use Rattle.fdb_calls.specs.Calling.{Called, answers, refuses, does_by, committed_version_called, versionstamp_called, read_at_version, read_by, read_called, write_by, atomic_by, next_version, commit_of, commit_at_version, commit_allowed, commit_refused, commit_by, commit_called}
use Rattle.version_store.specs.Versions.{Versions}
use Rattle.txn_core.specs.declared.answer.Answer.{Answer}
use Rattle.txn_core.specs.Answering.{Tells, TellsOf}
use Rattle.txn_calls.specs.Judging.{Promises, TakesVersion, commit_refusal, conflict_refusal}
use Rattle.txn_calls.specs.Stands.{Kept, StandsFor, Keeps, StandsStill}
use Rattle.txn_core.specs.Stands.{Answers}
use Rattle.txn_calls.specs.Accesses.{Writes, WritesNamed, IsRefusedBy}

pub subst2 : {A B : Type 0} (P : A → B → Type 0) {a a' : A} {b b' : B} → a ≡ a' → b ≡ b' → P a b → P a' b'
subst2 P same other p = subst (λ pair. pair) (λ i. P (same i) (other i)) p

pub subst3 : {A B C : Type 0} (P : A → B → C → Type 0) {a a' : A} {b b' : B} {c c' : C} → a ≡ a' → b ≡ b' → c ≡ c' → P a b c → P a' b' c'
subst3 P same other third p = subst (λ pair. pair) (λ i. P (same i) (other i) (third i)) p

pub on_err_of : {A E Q : Type 0} (result : Result A E) → Q → OnErr result Q
on_err_of (Ok value) q = tt
on_err_of (Err e) q = q

-- ---- calls that make no commit, and draw no life

pub record IsInPlace (called : Called) : Type 0 where
  pub commits : called.commits ≡ []
  pub lives : called.lives ≡ 0

pub read_in_place : (setting : Setting) (t : Transaction) (lacks snapshot : Bool) (read : Read)
    → IsInPlace (read_called setting t lacks snapshot read)
read_in_place setting t lacks snapshot read = by_code (read_code t.phase lacks read)
  where
    by_code : (code : Option ℕ) → IsInPlace (read_by code setting t snapshot read)
    by_code (Some code) = record { commits = refl; lives = refl }
    by_code None = by_late (first_failing (late_checks setting (with_version setting t) read))
      where
        by_late : (code : Option ℕ) → IsInPlace (read_at_version code setting (with_version setting t) snapshot read)
        by_late (Some code) = record { commits = refl; lives = refl }
        by_late None = record { commits = refl; lives = refl }

pub write_in_place : (code : Option ℕ) (t : Transaction) (mutation : Mutation) → IsInPlace (write_by code t mutation)
write_in_place (Some code) t mutation = record { commits = refl; lives = refl }
write_in_place None t mutation = record { commits = refl; lives = refl }

pub atomic_in_place : (code : Option ℕ) (op : Option AtomicOp) (t : Transaction) (key operand : List ℕ)
    → IsInPlace (atomic_by code op t key operand)
atomic_in_place code None t key operand = record { commits = refl; lives = refl }
atomic_in_place code (Some op) t key operand = write_in_place code t (Atomic op key operand)

pub does_in_place : (code : Option ℕ) (t after : Transaction) (reply : Reply) → IsInPlace (does_by code t after reply)
does_in_place (Some code) t after reply = record { commits = refl; lives = refl }
does_in_place None t after reply = record { commits = refl; lives = refl }

-- a call in place leaves the history as it was
keeps_in_place : (store : Versions) (index : Index) (setting : Setting) (called : Called) → IsInPlace called → Keeps store index setting
    → Keeps store index (grown_by setting called.commits)
keeps_in_place store index setting called place keeps =
    subst (λ (h : History). Keeps store index (record setting { history = h }))
    (sym (ap (λ commits. setting.history ++ commits) place.commits ∙ append-nil setting.history)) keeps

-- an answer that tells of a result answers the call
pub told_in_place : {A : Type 0} (replied : A → Reply) (result : Result A TrFault) (answer : Answer) (kept : Kept) (store : Versions) (index : Index)
    (setting : Setting) (t : Transaction) (called : Called)
    → IsInPlace called → Keeps store index setting → Answered replied result (StandsFor kept) t called → Tells replied result answer
    → Answers answer kept store index setting called
told_in_place replied (Ok value) answer kept store index setting t called place keeps answered tells = record {
  reply = tells.0 ∙ answered.0;
  lives = ap (λ b. cond b 1 0) tells.1 ∙ sym place.lives;
  stands = answered.1;
  keeps = keeps_in_place store index setting called place keeps;
}
told_in_place replied (Err (fault.Code code)) answer kept store index setting t called place keeps answered tells = record {
  reply = tells.0 ∙ answered.0;
  lives = ap (λ b. cond b 1 0) tells.1 ∙ sym place.lives;
  stands = answered.1;
  keeps = keeps_in_place store index setting called place keeps;
}
told_in_place replied (Err fault.NoMemory) answer kept store index setting t called place keeps answered tells = absurd tells

-- a read or a write in which memory ran out left the transaction and the store as they were
pub left_standing : {A : Type 0} (replied : A → Reply) (result : Result A TrFault) (kept : Kept) (store : Versions) (index : Index) (setting : Setting)
    (t : Transaction) (called : Called)
    → result ≡ Err fault.NoMemory → Answered replied result (StandsFor kept) t called → Keeps store index setting
    → StandsStill (StandsFor kept) setting t × Keeps store index setting
left_standing replied (Ok value) kept store index setting t called refused answered keeps = absurd cc
left_standing replied (Err (fault.Code code)) kept store index setting t called refused answered keeps = absurd cc
left_standing replied (Err fault.NoMemory) kept store index setting t called refused answered keeps = (inl answered, keeps)

-- a promise is answered as is said
pub promise_answered : (result : Result ℕ Code) (answer : Answer) (kept : Kept) (store : Versions) (index : Index)
    (setting : Setting) (t : Transaction)
    → StandsFor kept t → Keeps store index setting → Promises result kept → TellsOf result answer
    → Answers answer kept store index setting (versionstamp_called t)
promise_answered (Ok life) answer kept store index setting t stands keeps promises tells =
    subst (λ (code : Option ℕ). Answers answer kept store index setting (does_by code t t (reply.Life t.life)))
    (sym (sym (ap phase_code stands.phase) ∙ promises.0)) (record {
      reply = tells.0 ∙ ap (λ life. reply.Life life) (promises.1 ∙ stands.life);
      lives = ap (λ b. cond b 1 0) tells.1;
      stands = stands;
      keeps = keeps_in_place store index setting (answers t (reply.Life t.life)) (record { commits = refl; lives = refl }) keeps;
    })
promise_answered (Err code) answer kept store index setting t stands keeps promises tells =
    subst (λ (checked : Option ℕ). Answers answer kept store index setting (does_by checked t t (reply.Life t.life)))
    (sym (sym (ap phase_code stands.phase) ∙ promises)) (record {
      reply = tells.0;
      lives = ap (λ b. cond b 1 0) tells.1;
      stands = stands;
      keeps = keeps_in_place store index setting (refuses t code.0) (record { commits = refl; lives = refl }) keeps;
    })

-- the version that a commit made is answered as is said
pub version_answered : (answer : Answer) (kept : Kept) (store : Versions) (index : Index) (setting : Setting) (t : Transaction)
    → StandsFor kept t → Keeps store index setting → answer.reply ≡ reply.Version (version_made kept.phase) → answer.drew_life ≡ false
    → Answers answer kept store index setting (committed_version_called t)
version_answered answer kept store index setting t stands keeps replied drew = record {
  reply = replied ∙ ap (λ now. reply.Version (version_made now)) stands.phase;
  lives = ap (λ b. cond b 1 0) drew;
  stands = stands;
  keeps = keeps_in_place store index setting (committed_version_called t) (record { commits = refl; lives = refl }) keeps;
}

-- the same answer, over a store that keeps its history
pub answered_on : {A : Type 0} (replied : A → Reply) (result : Result A TrFault) (kept : Kept) (store : Versions) (index : Index) (setting : Setting)
    (t : Transaction) (called : Called)
    → Keeps store index setting → Answered replied result (StandsFor kept) t called
    → Answered replied result (λ t. StandsFor kept t × Keeps store index setting) t called
answered_on replied (Ok value) kept store index setting t called keeps answered = (answered.0, (answered.1, keeps))
answered_on replied (Err (fault.Code code)) kept store index setting t called keeps answered = (answered.0, (answered.1, keeps))
answered_on replied (Err fault.NoMemory) kept store index setting t called keeps answered = (answered, keeps)

-- ---- writes

-- where this is the code of the first check that fails, for what is kept and for what it stands for
pub writes_answered : {A : Type 0} (result : Result A TrFault) (old new : Kept) (t : Transaction) (code made : Option ℕ)
    (mutation : Mutation)
    → code ≡ made → StandsFor old t → Writes result old new code mutation
    → Answered (λ _. reply.Done) result (StandsFor new) t (write_by made t mutation)
writes_answered (Ok value) old new t code made mutation same stands writes =
    subst (λ (c : Option ℕ). (reply.Done ≡ (write_by c t mutation).reply) × StandsFor new (write_by c t mutation).transaction)
    (sym writes.0 ∙ same) (refl, writes.1 t stands)
writes_answered (Err (fault.Code code)) old new t checked made mutation same stands writes =
    subst (λ (c : Option ℕ). (reply.Fault code ≡ (write_by c t mutation).reply) × StandsFor new (write_by c t mutation).transaction)
    (sym writes.0 ∙ same) (refl, writes.1 t stands)
writes_answered (Err fault.NoMemory) old new t code made mutation same stands writes = writes t stands

refused_answered : {A : Type 0} (result : Result A TrFault) (old new : Kept) (t : Transaction) (code made : Option ℕ)
    (key operand : List ℕ)
    → code ≡ made → StandsFor old t → IsRefusedBy result old new code
    → Answered (λ _. reply.Done) result (StandsFor new) t (atomic_by made None t key operand)
refused_answered (Ok value) old new t code made key operand same stands refused = absurd refused
refused_answered (Err (fault.Code code)) old new t checked made key operand same stands refused =
    subst (λ (c : Option ℕ). (reply.Fault code ≡ (atomic_by c None t key operand).reply) × StandsFor new (atomic_by c None t key operand).transaction)
    (sym refused.0 ∙ same) (refl, refused.1 t stands)
refused_answered (Err fault.NoMemory) old new t code made key operand same stands refused = refused t stands

-- an atomic operation by its name
pub named_answered : {A : Type 0} (result : Result A TrFault) (old new : Kept) (t : Transaction) (code made : Option ℕ)
    (op : Option AtomicOp) (key operand : List ℕ)
    → code ≡ made → StandsFor old t → WritesNamed result old new code op key operand
    → Answered (λ _. reply.Done) result (StandsFor new) t (atomic_by made op t key operand)
named_answered result old new t code made None key operand same stands writes =
    refused_answered result old new t code made key operand same stands writes
named_answered result old new t code made (Some op) key operand same stands writes =
    writes_answered result old new t code made (Atomic op key operand) same stands writes

-- ---- commits

-- one that is allowed, and has nothing to write
pub committed_read_only : (answer : Answer) (kept : Kept) (store : Versions) (index : Index) (setting : Setting) (t : Transaction)
    → commit_refusal t ≡ None → is_read_only t ≡ true → answer.reply ≡ reply.Done → answer.drew_life ≡ false
    → StandsFor kept (with_phase t (phase.Tried tried.ReadOnly)) → Keeps store index setting
    → Answers answer kept store index setting (commit_called setting t)
committed_read_only answer kept store index setting t allowed read_only replied drew stands keeps =
    let called : commit_called setting t ≡ commit_allowed true setting t =
    ap (λ (code : Option ℕ). commit_by code setting t) allowed ∙ ap (λ b. commit_allowed b setting t) read_only in
    subst (λ (made : Called). Answers answer kept store index setting made) (sym called) (record {
      reply = replied;
      lives = ap (λ b. cond b 1 0) drew;
      stands = stands;
      keeps = keeps_in_place store index setting (commit_allowed true setting t) (record { commits = refl; lives = refl }) keeps;
    })

-- one that goes on to its version
takes_version : (setting : Setting) (t : Transaction) (code : Option ℕ) → TakesVersion t → conflict_refusal setting t ≡ code
    → commit_called setting t ≡ commit_at_version code setting (with_version setting t)
takes_version setting t code takes is =
    ap (λ (code : Option ℕ). commit_by code setting t) takes.allowed ∙ ap (λ b. commit_allowed b setting t) takes.writes
    ∙ ap (λ (code : Option ℕ). commit_at_version code setting (with_version setting t)) is

-- one that is allowed, and makes a version
pub committed_version : (answer : Answer) (kept : Kept) (store : Versions) (index : Index) (setting : Setting) (t : Transaction)
    → TakesVersion t → conflict_refusal setting t ≡ None → answer.reply ≡ reply.Done → answer.drew_life ≡ false
    → StandsFor kept (with_phase (with_version setting t) (phase.Tried (tried.Version (next_version setting))))
    → Keeps store index (grown_by setting (commit_of (stamp_of (next_version setting)) setting (with_version setting t) ∷ []))
    → Answers answer kept store index setting (commit_called setting t)
committed_version answer kept store index setting t takes none replied drew stands keeps =
    subst (λ (made : Called). Answers answer kept store index setting made) (sym (takes_version setting t None takes none)) (record {
      reply = replied;
      lives = ap (λ b. cond b 1 0) drew;
      stands = stands;
      keeps = keeps;
    })

-- one that is refused, before its version is taken or after
refused_by_phase : (answer : Answer) (kept : Kept) (store : Versions) (index : Index) (setting : Setting) (t : Transaction) (code : Code) (now : Phase)
    → answer.reply ≡ reply.Fault code → answer.drew_life ≡ false → Keeps store index setting
    → StandsFor kept (commit_refused now code.0 t).transaction → Answers answer kept store index setting (commit_refused now code.0 t)
refused_by_phase answer kept store index setting t code phase.Active replied drew keeps stands = record {
  reply = replied;
  lives = ap (λ b. cond b 1 0) drew;
  stands = stands;
  keeps = keeps_in_place store index setting (commit_refused phase.Active code.0 t) (record { commits = refl; lives = refl }) keeps;
}
refused_by_phase answer kept store index setting t code phase.Cancelled replied drew keeps stands = record {
  reply = replied;
  lives = ap (λ b. cond b 1 0) drew;
  stands = stands;
  keeps = keeps_in_place store index setting (refuses t code.0) (record { commits = refl; lives = refl }) keeps;
}
refused_by_phase answer kept store index setting t code (phase.Tried outcome) replied drew keeps stands = record {
  reply = replied;
  lives = ap (λ b. cond b 1 0) drew;
  stands = stands;
  keeps = keeps_in_place store index setting (refuses t code.0) (record { commits = refl; lives = refl }) keeps;
}

pub commit_refused_early : (answer : Answer) (kept : Kept) (store : Versions) (index : Index) (setting : Setting) (t : Transaction) (code : Code)
    → commit_refusal t ≡ Some code.0 → answer.reply ≡ reply.Fault code → answer.drew_life ≡ false
    → StandsFor kept (commit_refused t.phase code.0 t).transaction → Keeps store index setting
    → Answers answer kept store index setting (commit_called setting t)
commit_refused_early answer kept store index setting t code refused replied drew stands keeps =
    subst (λ (made : Called). Answers answer kept store index setting made) (sym (ap (λ (code : Option ℕ). commit_by code setting t) refused))
    (refused_by_phase answer kept store index setting t code t.phase replied drew keeps stands)

pub commit_refused_late : (answer : Answer) (kept : Kept) (store : Versions) (index : Index) (setting : Setting) (t : Transaction) (code : Code)
    → TakesVersion t → conflict_refusal setting t ≡ Some code.0 → answer.reply ≡ reply.Fault code → answer.drew_life ≡ false
    → StandsFor kept (commit_refused t.phase code.0 (with_version setting t)).transaction → Keeps store index setting
    → Answers answer kept store index setting (commit_called setting t)
commit_refused_late answer kept store index setting t code takes refused replied drew stands keeps =
    subst (λ (made : Called). Answers answer kept store index setting made) (sym (takes_version setting t (Some code.0) takes refused))
    (refused_by_phase answer kept store index setting (with_version setting t) code t.phase replied drew keeps stands)
