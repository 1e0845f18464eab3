use Rattle.std.proofs.Common.{◌≡◌, [], ◌∷◌, Ok, Err, subst, ◌∙◌, true}
use Rattle.std.proofs.lemmas.Result.{err_from_is_err_and}
use Rattle.model_database.specs.declared.AtomicOp.TheVariants as atomic
use Rattle.model_database.specs.Databases.{Atomic}
use Rattle.model_database.specs.Reads.{Get}
use Rattle.model_allocator.specs.Acts.{Reads, Writes, act_called}
use Rattle.model_allocator.specs.Counters.{counter_key, one_more}
use Rattle.prefix_allocator.proofs.Calls.{quiet_then, quiet_fault, Read, read_fault, Halves, added, counted}
use Rattle.prefix_allocator.proofs.windows.count_one.Goals as goal

pub returns-in_err-atomic-clause-counted : goal.returns-in_err-atomic-clause-counted
returns-in_err-atomic-clause-counted g c setting t stands =
    let p = err_from_is_err_and c.from_residual-in_err-atomic.result c.from_residual-in_err-atomic.ensures.1 in
    let space = c.args.keys.now.space in
    let start = c.args.start in
    let f = c.in_err-atomic.field-0.0 in
    let after = g.T.Tr.stands c.atomic.new.self setting in
    rw (p.1, p.2) (quiet_fault (Halves setting t space start) f setting after
    (Writes (Atomic atomic.Add (counter_key space start) one_more))
    (Reads (Get (counter_key space start)) true ∷ []) t
    (added (Err f) after setting _ _ t (c.as_slice.ensures ∙ c.in_ok-counter.ensures) (c.in_err-atomic.ensures.answer setting t stands)))

pub returns-in_err-count-clause-counted : goal.returns-in_err-count-clause-counted
returns-in_err-count-clause-counted g c setting t stands =
    let p = err_from_is_err_and c.from_residual-in_err-count.result c.from_residual-in_err-count.ensures.1 in
    let space = c.args.keys.now.space in
    let start = c.args.start in
    let f = c.in_err-count.field-0.0 in
    let first = g.T.Tr.stands c.atomic.new.self setting in
    let after = g.T.Tr.stands c.get.new.self setting in
    let key : c.as_slice-2.result.now ≡ counter_key space start = c.as_slice-2.ensures ∙ c.in_ok-counter.ensures in
    rw (p.1, p.2) (quiet_then (Halves setting t space start) c.in_ok-atomic.field-0 (Err f) setting first after
    (Writes (Atomic atomic.Add (counter_key space start) one_more)) (Reads (Get (counter_key space start)) true ∷ []) t
    (added (Ok c.in_ok-atomic.field-0) first setting _ _ t (c.as_slice.ensures ∙ c.in_ok-counter.ensures)
    (c.in_ok-atomic.ensures.answer setting t stands))
    (λ u stands. read_fault (Halves setting t space start) f setting after (counter_key space start) true [] u
    (subst (λ key. Read (Err f) after setting key true u) key (c.in_err-count.ensures.answer setting u stands))))

pub returns-clause-counted : goal.returns-clause-counted
returns-clause-counted g c setting t stands =
    let space = c.args.keys.now.space in
    let start = c.args.start in
    let value = c.in_ok-count.count in
    let first = g.T.Tr.stands c.atomic.new.self setting in
    let after = g.T.Tr.stands c.get.new.self setting in
    let key : c.as_slice-2.result.now ≡ counter_key space start = c.as_slice-2.ensures ∙ c.in_ok-counter.ensures in
    let add = added (Ok c.in_ok-atomic.field-0) first setting _ _ t (c.as_slice.ensures ∙ c.in_ok-counter.ensures)
    (c.in_ok-atomic.ensures.answer setting t stands) in
    let u = (act_called setting t (Writes (Atomic atomic.Add (counter_key space start) one_more))).transaction in
    let read = subst (λ key. Read (Ok value) after setting key true u) key (c.in_ok-count.ensures.answer setting u add.1) in
    counted setting t space start value c.is_half_read.result c.in_ok-atomic.field-0 first after add read c.is_half_read.ensures
