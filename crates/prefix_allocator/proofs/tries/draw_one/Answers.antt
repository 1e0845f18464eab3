use Rattle.std.proofs.Common.{◌≡◌, ◌+◌, Ok, Err, sym, ap, ◌∙◌, subst, false}
use Rattle.std.specs.Prelude.{◌%◌}
use Rattle.std.proofs.lemmas.Result.{err_from_is_err_and}
use Rattle.model_database.specs.Transactions.{view}
use Rattle.model_allocator.specs.Granting.{drawn, tries}
use Rattle.prefix_allocator.specs.Doing.{Done, IsLast, found_in, draws, tries_of}
use Rattle.prefix_allocator.proofs.Calls.{Present}
use Rattle.prefix_allocator.proofs.Draws.{one_drawn, last_drawn}
use Rattle.prefix_allocator.proofs.Drawing.{NextOf}
use Rattle.prefix_allocator.proofs.Steps.{other_fault}
use Rattle.prefix_allocator.proofs.tries.draw_one.Goals as goal

pub returns-in_err-is_absent-clause-tried : goal.returns-in_err-is_absent-clause-tried
returns-in_err-is_absent-clause-tried g c setting t stands =
    let p = err_from_is_err_and c.from_residual.result c.from_residual.ensures.1 in
    let space = c.args.keys.now.space in
    let words = g.W.Words.words c.args.words.now in
    let f = c.in_err-is_absent.field-0.0 in
    let number : c.args.start + c.from.result % c.window.result ≡ drawn c.args.start words 0 =
    ap (λ word. c.args.start + word % c.window.result) (c.from.ensures ∙ c.next.ensures.word)
    ∙ ap (λ wide. c.args.start + words 0 % wide) c.window.ensures in
    let after = g.T.Tr.stands c.try_number.new.tr setting in
    rw (p.1, p.2) (other_fault (Present setting t space (drawn c.args.start words 0)) (NextOf space setting t c.args.start words) f
    setting after (tries_of space (view setting t) (draws c.args.start words 0 1)) t
    (one_drawn (Err f) setting after space c.args.start words t
    (subst (λ number. Done (Present setting t space number) (Err f) setting after
    (tries space (record { number = number; is_drawn = false })) t) number
    (c.in_err-is_absent.ensures.tried setting t stands))))

pub returns-clause-tried : goal.returns-clause-tried
returns-clause-tried g c setting t stands =
    let space = c.args.keys.now.space in
    let words = g.W.Words.words c.args.words.now in
    let absent = c.in_ok-is_absent.is_absent in
    let number : c.args.start + c.from.result % c.window.result ≡ drawn c.args.start words 0 =
    ap (λ word. c.args.start + word % c.window.result) (c.from.ensures ∙ c.next.ensures.word)
    ∙ ap (λ wide. c.args.start + words 0 % wide) c.window.ensures in
    let after = g.T.Tr.stands c.try_number.new.tr setting in
    let done = one_drawn (Ok absent) setting after space c.args.start words t
    (subst (λ number. Done (Present setting t space number) (Ok absent) setting after
    (tries space (record { number = number; is_drawn = false })) t) number
    (c.in_ok-is_absent.ensures.tried setting t stands)) in (
      done.0,
      subst (λ number. IsLast (found_in space (view setting t) (draws c.args.start words 0 1)) (drawn c.args.start words 0) number absent)
          (sym number)
          (last_drawn setting space c.args.start words t absent done.1),
      done.2,
    )
