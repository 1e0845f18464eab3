use Rattle.std.proofs.Common.{◌≡◌, ◌+◌, ◌-◌, refl, ap, arith}
use Rattle.std.proofs.lemmas.Result.{err_from_is_err_and}
use Rattle.model_allocator.specs.declared.TheConstants.{RANDOM_TRIES}
use Rattle.prefix_allocator.proofs.Drawing.{NextOf, after_draws, none_drawn, words_left, word_next, fault_drawn, fault_words, found_drawn, found_words, one_more_drawn, last_number}
use Rattle.prefix_allocator.proofs.tries.draw_number.Goals as goal

pub loop-init : goal.loop-init
loop-init g c = record {
  tried = λ setting t stands. none_drawn setting (g.T.Tr.stands c.args.tr.now setting) c.args.keys.now.space c.args.start
      (g.W.Words.words c.args.words.now) t stands;
  words = λ place. ap (g.W.Words.words c.args.words.now) (omega arith);
  last = λ below. absurd (omega arith);
  low = omega arith;
  high = omega arith;
  absent = refl;
  same = g.met.T.Tr.same_itself c.args.tr.now;
}

pub returns-in_err-last-clause-tried : goal.returns-in_err-last-clause-tried
returns-in_err-last-clause-tried g c setting t stands =
    let p = err_from_is_err_and c.from_residual.result c.from_residual.ensures.1 in
    let space = c.args.keys.now.space in
    let words = g.W.Words.words c.args.words.now in
    let left = g.W.Words.words c.loop.words in
    let count = c.loop.counter in
    let u = after_draws setting t space c.args.start words count in
    let total : count + 1 + (RANDOM_TRIES - (count + 1)) ≡ RANDOM_TRIES = omega arith in
    let before = c.loop.invariant.tried setting t stands in
    rw (p.1, p.2) (fault_drawn (NextOf space setting u c.args.start left) c.in_err-last.field-0.0 setting
    (g.T.Tr.stands c.loop.tr setting) (g.T.Tr.stands c.draw_one.new.tr setting)
    space c.args.start words left count (RANDOM_TRIES - (count + 1)) RANDOM_TRIES t total before
    (word_next words left count c.loop.invariant.words)
    (c.in_err-last.ensures.tried setting u before.sofar.after))

pub returns-in_err-last-clause-drew : goal.returns-in_err-last-clause-drew
returns-in_err-last-clause-drew g c setting t stands =
    let p = err_from_is_err_and c.from_residual.result c.from_residual.ensures.1 in
    let space = c.args.keys.now.space in
    let words = g.W.Words.words c.args.words.now in
    let left = g.W.Words.words c.loop.words in
    let rest = g.W.Words.words c.draw_one.new.words in
    let count = c.loop.counter in
    let u = after_draws setting t space c.args.start words count in
    let total : count + 1 + (RANDOM_TRIES - (count + 1)) ≡ RANDOM_TRIES = omega arith in
    let before = c.loop.invariant.tried setting t stands in
    rw (p.1, p.2) (fault_words (NextOf space setting u c.args.start left) c.in_err-last.field-0.0 setting
    (g.T.Tr.stands c.loop.tr setting) (g.T.Tr.stands c.draw_one.new.tr setting)
    space c.args.start words left rest count (RANDOM_TRIES - (count + 1)) RANDOM_TRIES t total before
    (word_next words left count c.loop.invariant.words)
    (words_left words left rest count c.loop.invariant.words c.draw_one.ensures.word)
    (c.in_err-last.ensures.tried setting u before.sofar.after))

pub returns-then-last-clause-tried : goal.returns-then-last-clause-tried
returns-then-last-clause-tried g c setting t stands =
    let space = c.args.keys.now.space in
    let words = g.W.Words.words c.args.words.now in
    let left = g.W.Words.words c.loop.words in
    let count = c.loop.counter in
    let total : count + 1 + (RANDOM_TRIES - (count + 1)) ≡ RANDOM_TRIES = omega arith in
    let before = c.loop.invariant.tried setting t stands in
    found_drawn c.in_ok-last.last setting (g.T.Tr.stands c.loop.tr setting) (g.T.Tr.stands c.draw_one.new.tr setting)
    space c.args.start words left count (RANDOM_TRIES - (count + 1)) RANDOM_TRIES t total c.if-last.true before
    (word_next words left count c.loop.invariant.words)
    (c.in_ok-last.ensures.tried setting (after_draws setting t space c.args.start words count) before.sofar.after)

pub returns-then-last-clause-drew : goal.returns-then-last-clause-drew
returns-then-last-clause-drew g c setting t stands =
    let space = c.args.keys.now.space in
    let words = g.W.Words.words c.args.words.now in
    let left = g.W.Words.words c.loop.words in
    let rest = g.W.Words.words c.draw_one.new.words in
    let count = c.loop.counter in
    let total : count + 1 + (RANDOM_TRIES - (count + 1)) ≡ RANDOM_TRIES = omega arith in
    let before = c.loop.invariant.tried setting t stands in
    found_words c.in_ok-last.last setting (g.T.Tr.stands c.loop.tr setting) (g.T.Tr.stands c.draw_one.new.tr setting)
    space c.args.start words left rest count (RANDOM_TRIES - (count + 1)) RANDOM_TRIES t total c.if-last.true before
    (word_next words left count c.loop.invariant.words)
    (words_left words left rest count c.loop.invariant.words c.in_ok-last.ensures.word)
    (c.in_ok-last.ensures.tried setting (after_draws setting t space c.args.start words count) before.sofar.after)

pub loop-preserved : goal.loop-preserved
loop-preserved g c =
    let space = c.args.keys.now.space in
    let words = g.W.Words.words c.args.words.now in
    let left = g.W.Words.words c.loop.words in
    let rest = g.W.Words.words c.draw_one.new.words in
    let count = c.loop.counter in
    let word = word_next words left count c.loop.invariant.words in
    record {
      tried = λ setting t stands.
          let before = c.loop.invariant.tried setting t stands in
          one_more_drawn c.in_ok-last.last setting (g.T.Tr.stands c.loop.tr setting) (g.T.Tr.stands c.draw_one.new.tr setting)
          space c.args.start words left count t c.if-last.false before word
          (c.in_ok-last.ensures.tried setting (after_draws setting t space c.args.start words count) before.sofar.after);
      words = words_left words left rest count c.loop.invariant.words c.in_ok-last.ensures.word;
      last = λ below. last_number c.in_ok-last.last.number c.args.start words left count c.in_ok-last.ensures.number word;
      low = c.in_ok-last.ensures.low;
      high = c.in_ok-last.ensures.high;
      absent = c.if-last.false;
      same = g.met.T.Tr.same_still c.args.tr.now c.loop.tr c.draw_one.new.tr c.loop.invariant.same c.in_ok-last.ensures.same;
    }
