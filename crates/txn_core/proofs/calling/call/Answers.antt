use Rattle.std.proofs.Common.{rules, ℤ, Some, unsigned_abs, ap, subst, sym, ◌∙◌}
use Rattle.std.proofs.lemmas.Int.{to_z-of_z}
use mir.Val.{SFits}
use mir.Syntax.{w64}
use Rattle.std.proofs.lemmas.Result.{IfOk-weaker, on_err_weaker}
use Rattle.model_database.specs.declared.options.DatabaseOptions.{DatabaseOptions}
use Rattle.model_database.specs.Databases.{Set, Clear, ClearRange}
use Rattle.model_database.specs.Atomics.{atomic_named}
use Rattle.model_database.specs.Transactions.{phase_code, set_code, clear_code, range_code, atomic_code, set_version_code, with_read_range, with_write_range, with_write_conflict_disabled}
use Rattle.fdb_calls.specs.declared.Reply.TheVariants as reply
use Rattle.fdb_calls.specs.Answers.{Answered}
use Rattle.fdb_calls.specs.Calling.{Called, called, named_atomic_called, set_read_version_called}
use Rattle.txn_calls.specs.Accesses.{Writes, WritesNamed}
use Rattle.txn_calls.specs.Stands.{StandsFor}
use Rattle.txn_core.specs.Stands.{Answers}
use Rattle.txn_core.proofs.Answering.{subst2, subst3, told_in_place, left_standing, does_in_place, write_in_place, atomic_in_place, writes_answered, named_answered}
use Rattle.txn_core.proofs.calling.call.Goals as goal

-- a read of each kind
pub returns-in-Get-clause-ok : goal.returns-in-Get-clause-ok
returns-in-Get-clause-ok c = IfOk-weaker c.answer_read.result _ _ (λ answer does t setting stands keeps within.
    does t c.args.index.now setting c.args.life stands keeps) c.answer_read.ensures.ok

pub returns-in-Get-clause-err : goal.returns-in-Get-clause-err
returns-in-Get-clause-err c = on_err_weaker c.answer_read.result (λ still t setting stands keeps.
    (still t c.args.index.now setting stands keeps, keeps)) c.answer_read.ensures.err

pub returns-in-Set-clause-ok : goal.returns-in-Set-clause-ok
unfolding called
returns-in-Set-clause-ok c = IfOk-weaker c.of_write.result _ _ (λ answer tells t setting stands keeps within.
    let writes : Writes c.set.result c.args.txn.now c.set.new.self (set_code c.args.txn.now.phase c.in-Set.key c.in-Set.value) (Set c.in-Set.key c.in-Set.value) =
    subst2 (λ key value. Writes c.set.result c.args.txn.now c.set.new.self (set_code c.args.txn.now.phase key value) (Set key value))
    c.as_slice.ensures c.as_slice-in-Set.ensures c.set.ensures in
    subst (λ (made : Called). Answers answer c.set.new.self c.args.store.now c.args.index.now setting made) (sym (ap (called setting c.args.life t) c.in-Set.is))
    (told_in_place (λ _. reply.Done) c.set.result answer c.set.new.self c.args.store.now c.args.index.now setting t _
    (write_in_place (set_code t.phase c.in-Set.key c.in-Set.value) t (Set c.in-Set.key c.in-Set.value)) keeps
    (writes_answered c.set.result c.args.txn.now c.set.new.self t _ _ (Set c.in-Set.key c.in-Set.value) (ap (λ now. set_code now c.in-Set.key c.in-Set.value) stands.phase) stands writes)
    tells)) c.of_write.ensures.ok

pub returns-in-Set-clause-err : goal.returns-in-Set-clause-err
returns-in-Set-clause-err c = on_err_weaker c.of_write.result (λ refused t setting stands keeps.
    let writes : Writes c.set.result c.args.txn.now c.set.new.self (set_code c.args.txn.now.phase c.in-Set.key c.in-Set.value) (Set c.in-Set.key c.in-Set.value) =
    subst2 (λ key value. Writes c.set.result c.args.txn.now c.set.new.self (set_code c.args.txn.now.phase key value) (Set key value))
    c.as_slice.ensures c.as_slice-in-Set.ensures c.set.ensures in
    left_standing (λ _. reply.Done) c.set.result c.set.new.self c.args.store.now c.args.index.now setting t _ refused
    (writes_answered c.set.result c.args.txn.now c.set.new.self t _ (set_code t.phase c.in-Set.key c.in-Set.value) (Set c.in-Set.key c.in-Set.value) (ap (λ now. set_code now c.in-Set.key c.in-Set.value) stands.phase) stands writes)
    keeps) c.of_write.ensures.err

pub returns-in-Clear-clause-ok : goal.returns-in-Clear-clause-ok
unfolding called
returns-in-Clear-clause-ok c = IfOk-weaker c.of_write-in-Clear.result _ _ (λ answer tells t setting stands keeps within.
    let writes : Writes c.clear.result c.args.txn.now c.clear.new.self (clear_code c.args.txn.now.phase c.in-Clear.key) (Clear c.in-Clear.key) =
    subst (λ key. Writes c.clear.result c.args.txn.now c.clear.new.self (clear_code c.args.txn.now.phase key) (Clear key)) c.as_slice-in-Clear.ensures c.clear.ensures in
    subst (λ (made : Called). Answers answer c.clear.new.self c.args.store.now c.args.index.now setting made) (sym (ap (called setting c.args.life t) c.in-Clear.is))
    (told_in_place (λ _. reply.Done) c.clear.result answer c.clear.new.self c.args.store.now c.args.index.now setting t _
    (write_in_place (clear_code t.phase c.in-Clear.key) t (Clear c.in-Clear.key)) keeps
    (writes_answered c.clear.result c.args.txn.now c.clear.new.self t _ _ (Clear c.in-Clear.key) (ap (λ now. clear_code now c.in-Clear.key) stands.phase) stands writes)
    tells)) c.of_write-in-Clear.ensures.ok

pub returns-in-Clear-clause-err : goal.returns-in-Clear-clause-err
returns-in-Clear-clause-err c = on_err_weaker c.of_write-in-Clear.result (λ refused t setting stands keeps.
    let writes : Writes c.clear.result c.args.txn.now c.clear.new.self (clear_code c.args.txn.now.phase c.in-Clear.key) (Clear c.in-Clear.key) =
    subst (λ key. Writes c.clear.result c.args.txn.now c.clear.new.self (clear_code c.args.txn.now.phase key) (Clear key)) c.as_slice-in-Clear.ensures c.clear.ensures in
    left_standing (λ _. reply.Done) c.clear.result c.clear.new.self c.args.store.now c.args.index.now setting t _ refused
    (writes_answered c.clear.result c.args.txn.now c.clear.new.self t _ (clear_code t.phase c.in-Clear.key) (Clear c.in-Clear.key) (ap (λ now. clear_code now c.in-Clear.key) stands.phase) stands writes)
    keeps) c.of_write-in-Clear.ensures.err

pub returns-in-ClearRange-clause-ok : goal.returns-in-ClearRange-clause-ok
unfolding called
returns-in-ClearRange-clause-ok c = IfOk-weaker c.of_write-in-ClearRange.result _ _ (λ answer tells t setting stands keeps within.
    let writes : Writes c.clear_range.result c.args.txn.now c.clear_range.new.self (range_code c.args.txn.now.phase c.in-ClearRange.range.begin c.in-ClearRange.range.end) (ClearRange c.in-ClearRange.range.begin c.in-ClearRange.range.end) =
    c.clear_range.ensures in
    subst (λ (made : Called). Answers answer c.clear_range.new.self c.args.store.now c.args.index.now setting made) (sym (ap (called setting c.args.life t) c.in-ClearRange.is))
    (told_in_place (λ _. reply.Done) c.clear_range.result answer c.clear_range.new.self c.args.store.now c.args.index.now setting t _
    (write_in_place (range_code t.phase c.in-ClearRange.range.begin c.in-ClearRange.range.end) t (ClearRange c.in-ClearRange.range.begin c.in-ClearRange.range.end)) keeps
    (writes_answered c.clear_range.result c.args.txn.now c.clear_range.new.self t _ _ (ClearRange c.in-ClearRange.range.begin c.in-ClearRange.range.end) (ap (λ now. range_code now c.in-ClearRange.range.begin c.in-ClearRange.range.end) stands.phase) stands writes)
    tells)) c.of_write-in-ClearRange.ensures.ok

pub returns-in-ClearRange-clause-err : goal.returns-in-ClearRange-clause-err
returns-in-ClearRange-clause-err c = on_err_weaker c.of_write-in-ClearRange.result (λ refused t setting stands keeps.
    let writes : Writes c.clear_range.result c.args.txn.now c.clear_range.new.self (range_code c.args.txn.now.phase c.in-ClearRange.range.begin c.in-ClearRange.range.end) (ClearRange c.in-ClearRange.range.begin c.in-ClearRange.range.end) =
    c.clear_range.ensures in
    left_standing (λ _. reply.Done) c.clear_range.result c.clear_range.new.self c.args.store.now c.args.index.now setting t _ refused
    (writes_answered c.clear_range.result c.args.txn.now c.clear_range.new.self t _ (range_code t.phase c.in-ClearRange.range.begin c.in-ClearRange.range.end) (ClearRange c.in-ClearRange.range.begin c.in-ClearRange.range.end) (ap (λ now. range_code now c.in-ClearRange.range.begin c.in-ClearRange.range.end) stands.phase) stands writes)
    keeps) c.of_write-in-ClearRange.ensures.err

pub returns-in-Atomic-clause-ok : goal.returns-in-Atomic-clause-ok
unfolding called
returns-in-Atomic-clause-ok c = IfOk-weaker c.of_write-in-Atomic.result _ _ (λ answer tells t setting stands keeps within.
    let api = c.args.options.api in
    let writes : WritesNamed c.named_atomic.result c.args.txn.now c.named_atomic.new.self (atomic_code api c.args.txn.now.phase c.in-Atomic.name c.in-Atomic.key c.in-Atomic.operand)
    (atomic_named api c.in-Atomic.name) c.in-Atomic.key c.in-Atomic.operand =
    subst3 (λ name key operand. WritesNamed c.named_atomic.result c.args.txn.now c.named_atomic.new.self
    (atomic_code api c.args.txn.now.phase name key operand) (atomic_named api name) key operand)
    c.as_slice-in-Atomic.ensures c.as_slice-in-Atomic-2.ensures c.as_slice-in-Atomic-3.ensures c.named_atomic.ensures in
    subst (λ (made : Called). Answers answer c.named_atomic.new.self c.args.store.now c.args.index.now setting made)
    (sym (ap (called setting c.args.life t) c.in-Atomic.is
    ∙ ap (λ (options : DatabaseOptions). named_atomic_called options.api t c.in-Atomic.name c.in-Atomic.key c.in-Atomic.operand) within))
    (told_in_place (λ _. reply.Done) c.named_atomic.result answer c.named_atomic.new.self c.args.store.now c.args.index.now setting t _
    (atomic_in_place (atomic_code api t.phase c.in-Atomic.name c.in-Atomic.key c.in-Atomic.operand) (atomic_named api c.in-Atomic.name) t c.in-Atomic.key c.in-Atomic.operand) keeps
    (named_answered c.named_atomic.result c.args.txn.now c.named_atomic.new.self t _ _ (atomic_named api c.in-Atomic.name) c.in-Atomic.key c.in-Atomic.operand
    (ap (λ now. atomic_code api now c.in-Atomic.name c.in-Atomic.key c.in-Atomic.operand) stands.phase) stands writes)
    tells)) c.of_write-in-Atomic.ensures.ok

pub returns-in-Atomic-clause-err : goal.returns-in-Atomic-clause-err
returns-in-Atomic-clause-err c = on_err_weaker c.of_write-in-Atomic.result (λ refused t setting stands keeps.
    let api = c.args.options.api in
    let writes : WritesNamed c.named_atomic.result c.args.txn.now c.named_atomic.new.self (atomic_code api c.args.txn.now.phase c.in-Atomic.name c.in-Atomic.key c.in-Atomic.operand)
    (atomic_named api c.in-Atomic.name) c.in-Atomic.key c.in-Atomic.operand =
    subst3 (λ name key operand. WritesNamed c.named_atomic.result c.args.txn.now c.named_atomic.new.self
    (atomic_code api c.args.txn.now.phase name key operand) (atomic_named api name) key operand)
    c.as_slice-in-Atomic.ensures c.as_slice-in-Atomic-2.ensures c.as_slice-in-Atomic-3.ensures c.named_atomic.ensures in
    left_standing (λ _. reply.Done) c.named_atomic.result c.named_atomic.new.self c.args.store.now c.args.index.now setting t _ refused
    (named_answered c.named_atomic.result c.args.txn.now c.named_atomic.new.self t _ (atomic_code api t.phase c.in-Atomic.name c.in-Atomic.key c.in-Atomic.operand) (atomic_named api c.in-Atomic.name) c.in-Atomic.key c.in-Atomic.operand
    (ap (λ now. atomic_code api now c.in-Atomic.name c.in-Atomic.key c.in-Atomic.operand) stands.phase) stands writes)
    keeps) c.of_write-in-Atomic.ensures.err

pub returns-in-ReadConflict-clause-ok : goal.returns-in-ReadConflict-clause-ok
unfolding called
returns-in-ReadConflict-clause-ok c = IfOk-weaker c.of_write-in-ReadConflict.result _ _ (λ answer tells t setting stands keeps within.
    subst (λ (made : Called). Answers answer c.read_conflict.new.self c.args.store.now c.args.index.now setting made) (sym (ap (called setting c.args.life t) c.in-ReadConflict.is))
    (told_in_place (λ _. reply.Done) c.read_conflict.result answer c.read_conflict.new.self c.args.store.now c.args.index.now setting t _
    (does_in_place (range_code t.phase c.in-ReadConflict.range.begin c.in-ReadConflict.range.end) t (with_read_range t c.in-ReadConflict.range) reply.Done) keeps (c.read_conflict.ensures t stands) tells)) c.of_write-in-ReadConflict.ensures.ok

pub returns-in-ReadConflict-clause-err : goal.returns-in-ReadConflict-clause-err
returns-in-ReadConflict-clause-err c = on_err_weaker c.of_write-in-ReadConflict.result (λ refused t setting stands keeps.
    left_standing (λ _. reply.Done) c.read_conflict.result c.read_conflict.new.self c.args.store.now c.args.index.now setting t _ refused (c.read_conflict.ensures t stands) keeps) c.of_write-in-ReadConflict.ensures.err

pub returns-in-WriteConflict-clause-ok : goal.returns-in-WriteConflict-clause-ok
unfolding called
returns-in-WriteConflict-clause-ok c = IfOk-weaker c.of_write-in-WriteConflict.result _ _ (λ answer tells t setting stands keeps within.
    subst (λ (made : Called). Answers answer c.write_conflict.new.self c.args.store.now c.args.index.now setting made) (sym (ap (called setting c.args.life t) c.in-WriteConflict.is))
    (told_in_place (λ _. reply.Done) c.write_conflict.result answer c.write_conflict.new.self c.args.store.now c.args.index.now setting t _
    (does_in_place (range_code t.phase c.in-WriteConflict.range.begin c.in-WriteConflict.range.end) t (with_write_range t c.in-WriteConflict.range) reply.Done) keeps (c.write_conflict.ensures t stands) tells)) c.of_write-in-WriteConflict.ensures.ok

pub returns-in-WriteConflict-clause-err : goal.returns-in-WriteConflict-clause-err
returns-in-WriteConflict-clause-err c = on_err_weaker c.of_write-in-WriteConflict.result (λ refused t setting stands keeps.
    left_standing (λ _. reply.Done) c.write_conflict.result c.write_conflict.new.self c.args.store.now c.args.index.now setting t _ refused (c.write_conflict.ensures t stands) keeps) c.of_write-in-WriteConflict.ensures.err

pub returns-in-NoWriteConflict-clause-ok : goal.returns-in-NoWriteConflict-clause-ok
unfolding called
returns-in-NoWriteConflict-clause-ok c = IfOk-weaker c.of_write-in-NoWriteConflict.result _ _ (λ answer tells t setting stands keeps within.
    subst (λ (made : Called). Answers answer c.no_write_conflict.new.self c.args.store.now c.args.index.now setting made) (sym (ap (called setting c.args.life t) c.in-NoWriteConflict.is))
    (told_in_place (λ _. reply.Done) c.no_write_conflict.result answer c.no_write_conflict.new.self c.args.store.now c.args.index.now setting t _
    (does_in_place (phase_code t.phase) t (with_write_conflict_disabled t) reply.Done) keeps (c.no_write_conflict.ensures t stands) tells)) c.of_write-in-NoWriteConflict.ensures.ok

pub returns-in-NoWriteConflict-clause-err : goal.returns-in-NoWriteConflict-clause-err
returns-in-NoWriteConflict-clause-err c = on_err_weaker c.of_write-in-NoWriteConflict.result (λ refused t setting stands keeps.
    left_standing (λ _. reply.Done) c.no_write_conflict.result c.no_write_conflict.new.self c.args.store.now c.args.index.now setting t _ refused (c.no_write_conflict.ensures t stands) keeps) c.of_write-in-NoWriteConflict.ensures.err

pub returns-in-SetReadVersion-clause-ok : goal.returns-in-SetReadVersion-clause-ok
unfolding called
returns-in-SetReadVersion-clause-ok c = IfOk-weaker c.of_write-in-SetReadVersion.result _ _ (λ answer tells t setting stands keeps within.
    let fits : SFits w64 c.in-SetReadVersion.version = search rules in
    let answered = subst (λ (v : ℤ). Answered (λ _. reply.Done) c.set_read_version.result (StandsFor c.set_read_version.new.self) t (set_read_version_called t v))
    (to_z-of_z w64 c.in-SetReadVersion.version fits) (c.set_read_version.ensures t stands) in
    subst (λ (made : Called). Answers answer c.set_read_version.new.self c.args.store.now c.args.index.now setting made) (sym (ap (called setting c.args.life t) c.in-SetReadVersion.is))
    (told_in_place (λ _. reply.Done) c.set_read_version.result answer c.set_read_version.new.self c.args.store.now c.args.index.now setting t _
    (does_in_place (set_version_code t.phase t.version c.in-SetReadVersion.version) t (record t { version = Some (unsigned_abs c.in-SetReadVersion.version) }) reply.Done) keeps answered tells)) c.of_write-in-SetReadVersion.ensures.ok

pub returns-in-SetReadVersion-clause-err : goal.returns-in-SetReadVersion-clause-err
returns-in-SetReadVersion-clause-err c = on_err_weaker c.of_write-in-SetReadVersion.result (λ refused t setting stands keeps.
    left_standing (λ _. reply.Done) c.set_read_version.result c.set_read_version.new.self c.args.store.now c.args.index.now setting t _ refused (c.set_read_version.ensures t stands) keeps) c.of_write-in-SetReadVersion.ensures.err

pub returns-in-ReadVersion-clause-ok : goal.returns-in-ReadVersion-clause-ok
unfolding called
returns-in-ReadVersion-clause-ok c = IfOk-weaker c.answer_read_version.result _ _ (λ answer does t setting stands keeps within.
    subst (λ (made : Called). Answers answer c.answer_read_version.new.txn c.args.store.now c.args.index.now setting made)
    (sym (ap (called setting c.args.life t) c.in-ReadVersion.is)) (does t c.args.index.now setting stands keeps)) c.answer_read_version.ensures.ok

pub returns-in-ReadVersion-clause-err : goal.returns-in-ReadVersion-clause-err
returns-in-ReadVersion-clause-err c = on_err_weaker c.answer_read_version.result (λ still t setting stands keeps.
    (still t c.args.index.now setting stands keeps, keeps)) c.answer_read_version.ensures.err

pub returns-in-CommittedVersion-clause-ok : goal.returns-in-CommittedVersion-clause-ok
unfolding called
returns-in-CommittedVersion-clause-ok c t setting stands keeps within =
    subst (λ (made : Called). Answers c.answer_committed_version.result c.args.txn.now c.args.store.now c.args.index.now setting made)
    (sym (ap (called setting c.args.life t) c.in-CommittedVersion.is))
    (c.answer_committed_version.ensures t c.args.store.now c.args.index.now setting stands keeps)

pub returns-in-Versionstamp-clause-ok : goal.returns-in-Versionstamp-clause-ok
unfolding called
returns-in-Versionstamp-clause-ok c t setting stands keeps within =
    subst (λ (made : Called). Answers c.answer_promise.result c.args.txn.now c.args.store.now c.args.index.now setting made)
    (sym (ap (called setting c.args.life t) c.in-Versionstamp.is))
    (c.answer_promise.ensures t c.args.store.now c.args.index.now setting stands keeps)

pub returns-in-Commit-clause-ok : goal.returns-in-Commit-clause-ok
unfolding called
returns-in-Commit-clause-ok c = IfOk-weaker c.commit.result _ _ (λ answer does t setting stands keeps within.
    subst (λ (made : Called). Answers answer c.commit.new.txn c.commit.new.store c.commit.new.index setting made)
    (sym (ap (called setting c.args.life t) c.in-Commit.is)) (does t setting stands keeps within)) c.commit.ensures.ok

pub returns-in-OnError-clause-ok : goal.returns-in-OnError-clause-ok
unfolding called
returns-in-OnError-clause-ok c t setting stands keeps within =
    subst (λ (made : Called). Answers c.answer_error.result c.answer_error.new.txn c.args.store.now c.args.index.now setting made)
    (sym (ap (called setting c.args.life t) c.in-OnError.is))
    (c.answer_error.ensures t c.args.store.now c.args.index.now setting stands keeps)

pub returns-in-Reset-clause-ok : goal.returns-in-Reset-clause-ok
unfolding called
returns-in-Reset-clause-ok c t setting stands keeps within =
    subst (λ (made : Called). Answers c.answer_reset.result c.answer_reset.new.txn c.args.store.now c.args.index.now setting made)
    (sym (ap (called setting c.args.life t) c.in-Reset.is))
    (c.answer_reset.ensures c.args.store.now c.args.index.now setting keeps)

pub returns-in-Cancel-clause-ok : goal.returns-in-Cancel-clause-ok
unfolding called
returns-in-Cancel-clause-ok c t setting stands keeps within =
    subst (λ (made : Called). Answers c.answer_cancel.result c.answer_cancel.new.txn c.args.store.now c.args.index.now setting made)
    (sym (ap (called setting c.args.life t) c.in-Cancel.is))
    (c.answer_cancel.ensures t c.args.store.now c.args.index.now setting stands keeps)
