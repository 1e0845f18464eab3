use Rattle.std.proofs.Common.{◌≡◌, ◌+◌, Ok, Err, ap, subst, true}
use Rattle.std.specs.Prelude.{⊤}
use Rattle.std.proofs.lemmas.Result.{err_from_is_err_and}
use Rattle.model_allocator.specs.Counters.{window}
use Rattle.model_allocator.specs.Granting.{counts, clears_below}
use Rattle.prefix_allocator.specs.Doing.{Done}
use Rattle.prefix_allocator.proofs.Calls.{Halves}
use Rattle.prefix_allocator.proofs.Openings.{after_done, count_fault, window_opened}
use Rattle.prefix_allocator.proofs.Steps.{stopped_done, other_fault, other_good}
use Rattle.prefix_allocator.proofs.windows.open_window.Goals as goal

pub returns-in_err-count_one-clause-opened : goal.returns-in_err-count_one-clause-opened
returns-in_err-count_one-clause-opened g c setting t stands =
    let p = err_from_is_err_and c.from_residual.result c.from_residual.ensures.1 in
    rw (p.1, p.2) (count_fault c.in_err-count_one.field-0.0 setting t c.args.keys.now.space c.args.first
    (g.T.Tr.stands c.count_one.new.tr setting)
    (c.in_err-count_one.ensures.counted setting t stands))

pub returns-in_err-clear_below-clause-opened : goal.returns-in_err-clear_below-clause-opened
returns-in_err-clear_below-clause-opened g c setting t stands =
    let p = err_from_is_err_and c.from_residual-in_err-clear_below.result c.from_residual-in_err-clear_below.ensures.1 in
    let space = c.args.keys.now.space in
    let is_half : c.in_ok-count_one.field-0 ≡ true = c.if-not-branch.false in
    let first = c.args.first in
    let start = first + window first in
    let f = c.in_err-clear_below.field-0.0 in
    let after = g.T.Tr.stands c.clear_below.new.tr setting in
    rw (p.1, p.2) (window_opened c.in_ok-count_one.field-0 (Err f) setting t space first (g.T.Tr.stands c.count_one.new.tr setting) after
    is_half
    (c.in_ok-count_one.ensures.counted setting t stands)
    (λ u stands. stopped_done (λ (done : Unit {0}). ⊤) (λ found. found ≡ start) f setting after (clears_below space start)
    (counts space start) u
    (subst (λ wide. Done (λ (done : Unit {0}). ⊤) (Err f) setting after (clears_below space (first + wide)) u) c.window.ensures
    (c.in_err-clear_below.ensures.cleared setting u stands))))

pub returns-in_err-count_one-2-clause-opened : goal.returns-in_err-count_one-2-clause-opened
returns-in_err-count_one-2-clause-opened g c setting t stands =
    let p = err_from_is_err_and c.from_residual-in_err-count_one-2.result c.from_residual-in_err-count_one-2.ensures.1 in
    let space = c.args.keys.now.space in
    let is_half : c.in_ok-count_one.field-0 ≡ true = c.if-not-branch.false in
    let first = c.args.first in
    let start = first + window first in
    let f = c.in_err-count_one-2.field-0.0 in
    let cleared = g.T.Tr.stands c.clear_below.new.tr setting in
    let after = g.T.Tr.stands c.count_one-2.new.tr setting in
    rw (p.1, p.2) (window_opened c.in_ok-count_one.field-0 (Err f) setting t space first (g.T.Tr.stands c.count_one.new.tr setting) after
    is_half
    (c.in_ok-count_one.ensures.counted setting t stands)
    (λ u stands. after_done (λ (done : Unit {0}). ⊤) (λ found. found ≡ start) c.in_ok-clear_below.field-0 (Err f) setting cleared after
    (clears_below space start) (counts space start) u
    (subst (λ wide. Done (λ (done : Unit {0}). ⊤) (Ok c.in_ok-clear_below.field-0) setting cleared (clears_below space (first + wide)) u)
    c.window.ensures
    (c.in_ok-clear_below.ensures.cleared setting u stands))
    (λ v stands. other_fault (Halves setting v space start) (λ found. found ≡ start) f setting after (counts space start) v
    (subst (λ wide. Done (Halves setting v space (first + wide)) (Err f) setting after (counts space (first + wide)) v) c.window.ensures
    (c.in_err-count_one-2.ensures.counted setting v stands)))))

pub returns-clause-opened : goal.returns-clause-opened
returns-clause-opened g c setting t stands =
    let space = c.args.keys.now.space in
    let is_half : c.in_ok-count_one.field-0 ≡ true = c.if-not-branch.false in
    let first = c.args.first in
    let start = first + window first in
    let opened = first + c.window.result in
    let cleared = g.T.Tr.stands c.clear_below.new.tr setting in
    let after = g.T.Tr.stands c.count_one-2.new.tr setting in
    window_opened c.in_ok-count_one.field-0 (Ok opened) setting t space first (g.T.Tr.stands c.count_one.new.tr setting) after is_half
    (c.in_ok-count_one.ensures.counted setting t stands)
    (λ u stands. after_done (λ (done : Unit {0}). ⊤) (λ found. found ≡ start) c.in_ok-clear_below.field-0 (Ok opened) setting cleared after
    (clears_below space start) (counts space start) u
    (subst (λ wide. Done (λ (done : Unit {0}). ⊤) (Ok c.in_ok-clear_below.field-0) setting cleared (clears_below space (first + wide)) u)
    c.window.ensures
    (c.in_ok-clear_below.ensures.cleared setting u stands))
    (λ v stands. other_good (Halves setting v space start) (λ found. found ≡ start) c.in_ok-count_one-2.field-0 opened setting after
    (counts space start) v
    (λ half. ap (λ wide. first + wide) c.window.ensures)
    (subst (λ wide. Done (Halves setting v space (first + wide)) (Ok c.in_ok-count_one-2.field-0) setting after
    (counts space (first + wide)) v) c.window.ensures
    (c.in_ok-count_one-2.ensures.counted setting v stands))))
