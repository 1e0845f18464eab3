use Rattle.std.proofs.lemmas.Result.{err_from_is_err_and}
use Rattle.prefix_allocator.proofs.Calls.{greatest_fault, greatest_read}
use Rattle.prefix_allocator.proofs.windows.greatest_key.Goals as goal

pub returns-in_err-pairs-clause-read : goal.returns-in_err-pairs-clause-read
returns-in_err-pairs-clause-read g c setting t stands =
    let p = err_from_is_err_and c.from_residual-in_err-pairs.result c.from_residual-in_err-pairs.ensures.1 in
    rw (p.1, p.2) (greatest_fault c.in_err-pairs.field-0.0 (g.T.Tr.stands c.range.new.self setting) setting c.args.keys.now.space _ _ t
    c.in_ok-all_counters.ensures.begin c.in_ok-all_counters.ensures.end (c.in_err-pairs.ensures.answer setting t stands))

pub returns-clause-read : goal.returns-clause-read
returns-clause-read g c setting t stands =
    greatest_read c.in_ok-pairs.pairs c.first_of.result (g.T.Tr.stands c.range.new.self setting) setting c.args.keys.now.space _ _ t
    c.in_ok-all_counters.ensures.begin c.in_ok-all_counters.ensures.end c.first_of.ensures (c.in_ok-pairs.ensures.answer setting t stands)
