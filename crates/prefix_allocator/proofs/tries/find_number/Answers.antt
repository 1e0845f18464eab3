use Rattle.std.proofs.lemmas.Result.{err_from_is_err_and}
use Rattle.prefix_allocator.proofs.Finding.{fault_random, fault_random_words, found_random, found_random_words, scanned, scanned_words}
use Rattle.prefix_allocator.proofs.tries.find_number.Goals as goal

pub returns-in_err-drawn-clause-found : goal.returns-in_err-drawn-clause-found
returns-in_err-drawn-clause-found g c setting t stands =
    let p = err_from_is_err_and c.from_residual.result c.from_residual.ensures.1 in
    rw (p.1, p.2) (fault_random c.in_err-drawn.field-0.0 setting (g.T.Tr.stands c.draw_number.new.tr setting) c.args.keys.now.space
    c.args.start
    (g.W.Words.words c.args.words.now) t (c.in_err-drawn.ensures.tried setting t stands))

pub returns-in_err-drawn-clause-drew : goal.returns-in_err-drawn-clause-drew
returns-in_err-drawn-clause-drew g c setting t stands =
    let p = err_from_is_err_and c.from_residual.result c.from_residual.ensures.1 in
    rw (p.1, p.2) (fault_random_words c.in_err-drawn.field-0.0 setting (g.T.Tr.stands c.draw_number.new.tr setting) c.args.keys.now.space
    c.args.start
    (g.W.Words.words c.args.words.now) (g.W.Words.words c.draw_number.new.words) t (c.in_err-drawn.ensures.tried setting t stands)
    (c.in_err-drawn.ensures.drew setting t stands))

pub returns-then-drawn-clause-found : goal.returns-then-drawn-clause-found
returns-then-drawn-clause-found g c setting t stands =
    found_random c.in_ok-drawn.drawn setting (g.T.Tr.stands c.draw_number.new.tr setting) c.args.keys.now.space c.args.start
    (g.W.Words.words c.args.words.now) t c.if-drawn.true (c.in_ok-drawn.ensures.tried setting t stands)

pub returns-then-drawn-clause-drew : goal.returns-then-drawn-clause-drew
returns-then-drawn-clause-drew g c setting t stands =
    found_random_words c.in_ok-drawn.drawn setting (g.T.Tr.stands c.draw_number.new.tr setting) c.args.keys.now.space c.args.start
    (g.W.Words.words c.args.words.now) (g.W.Words.words c.draw_number.new.words) t c.if-drawn.true
    (c.in_ok-drawn.ensures.tried setting t stands)
    (c.in_ok-drawn.ensures.drew setting t stands)

pub returns-clause-found : goal.returns-clause-found
returns-clause-found g c setting t stands =
    scanned c.in_ok-drawn.drawn c.scan_window.result setting (g.T.Tr.stands c.draw_number.new.tr setting)
    (g.T.Tr.stands c.scan_window.new.tr setting)
    c.args.keys.now.space c.args.start (g.W.Words.words c.args.words.now) t c.if-drawn.false (c.in_ok-drawn.ensures.tried setting t stands)
    (λ u stands. c.scan_window.ensures.tried setting u stands)

pub returns-clause-drew : goal.returns-clause-drew
returns-clause-drew g c setting t stands =
    scanned_words c.in_ok-drawn.drawn c.scan_window.result setting (g.T.Tr.stands c.draw_number.new.tr setting)
    c.args.keys.now.space c.args.start (g.W.Words.words c.args.words.now) (g.W.Words.words c.draw_number.new.words) t c.if-drawn.false
    (c.in_ok-drawn.ensures.tried setting t stands) (c.in_ok-drawn.ensures.drew setting t stands)
