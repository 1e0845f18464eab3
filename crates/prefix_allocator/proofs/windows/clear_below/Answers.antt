use Rattle.std.proofs.Common.{[], ◌∷◌, Ok, Err}
use Rattle.std.specs.Prelude.{⊤}
use Rattle.std.proofs.lemmas.Result.{err_from_is_err_and}
use Rattle.model_database.specs.Databases.{ClearRange}
use Rattle.model_allocator.specs.Acts.{DisablesWriteConflict, Writes}
use Rattle.model_allocator.specs.Counters.{counters_prefix, counter_key, recent_prefix, recent_key}
use Rattle.prefix_allocator.proofs.Calls.{quiet_done, quiet_then, quiet_fault, cleared}
use Rattle.prefix_allocator.proofs.windows.clear_below.Goals as goal

pub returns-in_err-clear_range-clause-cleared : goal.returns-in_err-clear_range-clause-cleared
returns-in_err-clear_range-clause-cleared g c setting t stands =
    let p = err_from_is_err_and c.from_residual-in_err-clear_range.result c.from_residual-in_err-clear_range.ensures.1 in
    let space = c.args.keys.now.space in
    let start = c.args.start in
    let f = c.in_err-clear_range.field-0.0 in
    let after = g.T.Tr.stands c.clear_range.new.self setting in
    rw (p.1, p.2) (quiet_fault (λ (done : Unit {0}). ⊤) f setting after
    (Writes (ClearRange (counters_prefix space) (counter_key space start)))
    (DisablesWriteConflict ∷ Writes (ClearRange (recent_prefix space) (recent_key space start)) ∷ []) t
    (cleared (Err f) after setting _ _ _ _ t c.in_ok-counters_below.ensures.begin c.in_ok-counters_below.ensures.end
    (c.in_err-clear_range.ensures.answer setting t stands)))

pub returns-in_err-no_write_conflict-clause-cleared : goal.returns-in_err-no_write_conflict-clause-cleared
returns-in_err-no_write_conflict-clause-cleared g c setting t stands =
    let p = err_from_is_err_and c.from_residual-in_err-no_write_conflict.result c.from_residual-in_err-no_write_conflict.ensures.1 in
    let space = c.args.keys.now.space in
    let start = c.args.start in
    let f = c.in_err-no_write_conflict.field-0.0 in
    let first = g.T.Tr.stands c.clear_range.new.self setting in
    let after = g.T.Tr.stands c.no_write_conflict.new.self setting in
    rw (p.1, p.2) (quiet_then (λ (done : Unit {0}). ⊤) c.in_ok-clear_range.field-0 (Err f) setting first after
    (Writes (ClearRange (counters_prefix space) (counter_key space start)))
    (DisablesWriteConflict ∷ Writes (ClearRange (recent_prefix space) (recent_key space start)) ∷ []) t
    (cleared (Ok c.in_ok-clear_range.field-0) first setting _ _ _ _ t c.in_ok-counters_below.ensures.begin
    c.in_ok-counters_below.ensures.end
    (c.in_ok-clear_range.ensures.answer setting t stands))
    (λ u stands. quiet_fault (λ (done : Unit {0}). ⊤) f setting after DisablesWriteConflict
    (Writes (ClearRange (recent_prefix space) (recent_key space start)) ∷ []) u
    (c.in_err-no_write_conflict.ensures.answer setting u stands)))

pub returns-clause-cleared : goal.returns-clause-cleared
returns-clause-cleared g c setting t stands =
    let space = c.args.keys.now.space in
    let start = c.args.start in
    let result = c.clear_range-2.result in
    let first = g.T.Tr.stands c.clear_range.new.self setting in
    let second = g.T.Tr.stands c.no_write_conflict.new.self setting in
    let after = g.T.Tr.stands c.clear_range-2.new.self setting in
    quiet_then (λ (done : Unit {0}). ⊤) c.in_ok-clear_range.field-0 result setting first after
    (Writes (ClearRange (counters_prefix space) (counter_key space start)))
    (DisablesWriteConflict ∷ Writes (ClearRange (recent_prefix space) (recent_key space start)) ∷ []) t
    (cleared (Ok c.in_ok-clear_range.field-0) first setting _ _ _ _ t c.in_ok-counters_below.ensures.begin
    c.in_ok-counters_below.ensures.end
    (c.in_ok-clear_range.ensures.answer setting t stands))
    (λ u stands. quiet_then (λ (done : Unit {0}). ⊤) c.in_ok-no_write_conflict.field-0 result setting second after DisablesWriteConflict
    (Writes (ClearRange (recent_prefix space) (recent_key space start)) ∷ []) u
    (c.in_ok-no_write_conflict.ensures.answer setting u stands)
    (λ v stands. quiet_done result setting after (Writes (ClearRange (recent_prefix space) (recent_key space start))) v
    (cleared result after setting _ _ _ _ v c.in_ok-recents_below.ensures.begin c.in_ok-recents_below.ensures.end
    (c.clear_range-2.ensures.answer setting v stands))))
