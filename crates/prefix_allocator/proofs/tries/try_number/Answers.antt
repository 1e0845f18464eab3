use Rattle.std.proofs.Common.{◌≡◌, [], ◌∷◌, Ok, Err, subst, ◌∙◌, sym, false}
use Rattle.std.proofs.lemmas.Result.{err_from_is_err_and}
use Rattle.model_database.specs.Databases.{Set}
use Rattle.model_allocator.specs.Acts.{DisablesWriteConflict, Writes}
use Rattle.model_allocator.specs.Counters.{recent_key}
use Rattle.prefix_allocator.proofs.Calls.{Quiet, quiet_then, quiet_fault, Present, Read, read_fault, tried, read_absent}
use Rattle.prefix_allocator.proofs.Steps.{ended}
use Rattle.prefix_allocator.proofs.tries.try_number.Goals as goal

pub returns-in_err-value-clause-tried : goal.returns-in_err-value-clause-tried
returns-in_err-value-clause-tried g c setting t stands =
    let p = err_from_is_err_and c.from_residual-in_err-value.result c.from_residual-in_err-value.ensures.1 in
    let key : c.as_slice.result.now ≡ recent_key c.args.keys.now.space c.args.number = c.as_slice.ensures ∙ c.in_ok-key.ensures in
    let after = g.T.Tr.stands c.get.new.self setting in
    rw (p.1, p.2) (read_fault (Present setting t c.args.keys.now.space c.args.number) c.in_err-value.field-0.0 setting after
    (recent_key c.args.keys.now.space c.args.number) false
    (DisablesWriteConflict ∷ Writes (Set (recent_key c.args.keys.now.space c.args.number) []) ∷ []) t
    (subst (λ key. Read (Err c.in_err-value.field-0.0) after setting key false t) key (c.in_err-value.ensures.answer setting t stands)))

pub returns-in_err-no_write_conflict-clause-tried : goal.returns-in_err-no_write_conflict-clause-tried
returns-in_err-no_write_conflict-clause-tried g c setting t stands =
    let p = err_from_is_err_and c.from_residual-in_err-no_write_conflict.result c.from_residual-in_err-no_write_conflict.ensures.1 in
    let space = c.args.keys.now.space in
    let number = c.args.number in
    let key : c.as_slice.result.now ≡ recent_key space number = c.as_slice.ensures ∙ c.in_ok-key.ensures in
    let f = c.in_err-no_write_conflict.field-0.0 in
    let first = g.T.Tr.stands c.get.new.self setting in
    let after = g.T.Tr.stands c.no_write_conflict.new.self setting in
    rw (p.1, p.2) (tried setting t space number c.in_ok-value.value (Err f) first after
    (subst (λ key. Read (Ok c.in_ok-value.value) first setting key false t) key (c.in_ok-value.ensures.answer setting t stands))
    (λ u stands. quiet_fault (Present setting t space number) f setting after DisablesWriteConflict (Writes (Set (recent_key space number) []) ∷ []) u
    (c.in_err-no_write_conflict.ensures.answer setting u stands)))

pub returns-in_err-set-clause-tried : goal.returns-in_err-set-clause-tried
returns-in_err-set-clause-tried g c setting t stands =
    let p = err_from_is_err_and c.from_residual-in_err-set.result c.from_residual-in_err-set.ensures.1 in
    let space = c.args.keys.now.space in
    let number = c.args.number in
    let key : c.as_slice.result.now ≡ recent_key space number = c.as_slice.ensures ∙ c.in_ok-key.ensures in
    let other_key : c.as_slice-2.result.now ≡ recent_key space number = c.as_slice-2.ensures ∙ c.in_ok-key.ensures in
    let f = c.in_err-set.field-0.0 in
    let first = g.T.Tr.stands c.get.new.self setting in
    let second = g.T.Tr.stands c.no_write_conflict.new.self setting in
    let after = g.T.Tr.stands c.set.new.self setting in
    let present = Present setting t space number in
    rw (p.1, p.2) (tried setting t space number c.in_ok-value.value (Err f) first after
    (subst (λ key. Read (Ok c.in_ok-value.value) first setting key false t) key (c.in_ok-value.ensures.answer setting t stands))
    (λ u stands. quiet_then present c.in_ok-no_write_conflict.field-0 (Err f) setting second after DisablesWriteConflict
    (Writes (Set (recent_key space number) []) ∷ []) u
    (c.in_ok-no_write_conflict.ensures.answer setting u stands)
    (λ v stands. quiet_fault present f setting after (Writes (Set (recent_key space number) [])) [] v
    (subst (λ key. Quiet (Err f) after setting (Writes (Set key [])) v) other_key (c.in_err-set.ensures.answer setting v stands)))))

pub returns-clause-tried : goal.returns-clause-tried
returns-clause-tried g c setting t stands =
    let space = c.args.keys.now.space in
    let number = c.args.number in
    let key : c.as_slice.result.now ≡ recent_key space number = c.as_slice.ensures ∙ c.in_ok-key.ensures in
    let other_key : c.as_slice-2.result.now ≡ recent_key space number = c.as_slice-2.ensures ∙ c.in_ok-key.ensures in
    let first = g.T.Tr.stands c.get.new.self setting in
    let second = g.T.Tr.stands c.no_write_conflict.new.self setting in
    let after = g.T.Tr.stands c.set.new.self setting in
    let present = Present setting t space number in
    let read = subst (λ key. Read (Ok c.in_ok-value.value) first setting key false t) key (c.in_ok-value.ensures.answer setting t stands) in
    let is : present c.is_none.result = read_absent setting t space number c.in_ok-value.value c.is_none.result first
    (sym c.is_none.ensures) read in
    tried setting t space number c.in_ok-value.value (Ok c.is_none.result) first after read
    (λ u stands. quiet_then present c.in_ok-no_write_conflict.field-0 (Ok c.is_none.result) setting second after DisablesWriteConflict
    (Writes (Set (recent_key space number) []) ∷ []) u
    (c.in_ok-no_write_conflict.ensures.answer setting u stands)
    (λ v stands. quiet_then present c.in_ok-set.field-0 (Ok c.is_none.result) setting after after
    (Writes (Set (recent_key space number) [])) [] v
    (subst (λ key. Quiet (Ok c.in_ok-set.field-0) after setting (Writes (Set key [])) v) other_key
    (c.in_ok-set.ensures.answer setting v stands))
    (λ w stands. ended present c.is_none.result setting after w is stands)))
