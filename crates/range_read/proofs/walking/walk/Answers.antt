use Rattle.std.proofs.Common.{◌≡◌, length, sym, ap, ◌∙◌, arith}
use Rattle.std.specs.Option.{option_map}
use Rattle.key_bytes.specs.Entries.{entry_of}
use Rattle.model_database.specs.Slices.{span}
use Rattle.range_read.proofs.Lists.{first_none}
use Rattle.range_read.proofs.Taking.{step_smaller, step_whole, pushed_length, taken_all, taken_full}
use Rattle.range_read.proofs.walking.walk.Goals as goal

pub loop-left-smaller : goal.loop-left-smaller
loop-left-smaller g c =
    let m = g.V.OrderedView.map c.args.view.now in
    let is = sym (c.in_ok-pair.ensures {u = tt}) ∙ ap (option_map entry_of) c.in-Some.is in
    step_smaller m c.loop-left.left.begin c.loop-left.left.end c.args.reverse (entry_of c.in-Some.pair) is
    c.in_ok-left.left.begin c.in_ok-left.left.end (c.in_ok-left.ensures {u = tt}).begin (c.in_ok-left.ensures {u = tt}).end

pub loop-left-preserved : goal.loop-left-preserved
loop-left-preserved g c =
    let m = g.V.OrderedView.map c.args.view.now in
    let is = sym (c.in_ok-pair.ensures {u = tt}) ∙ ap (option_map entry_of) c.in-Some.is in
    let pushed = (c.in_ok-push.ensures {u = tt}).ok in
    let longer = pushed_length c.loop-left.pairs c.push.new.self (entry_of c.in-Some.pair) pushed in
    record {
      whole = step_whole m c.loop-left.left.begin c.loop-left.left.end c.args.reverse (entry_of c.in-Some.pair) is
          c.in_ok-left.left.begin c.in_ok-left.left.end (c.in_ok-left.ensures {u = tt}).begin (c.in_ok-left.ensures {u = tt}).end
          c.loop-left.pairs c.push.new.self (span m c.args.range.now.begin c.args.range.now.end c.args.reverse) c.loop-left.invariant.whole
          pushed;
      short = λ some. let room = c.is_full.ensures.room c.loop-left-test.true some in omega (arith, room, longer, c.len.ensures);
    }

pub returns-in_default-clause-pairs : goal.returns-in_default-clause-pairs
returns-in_default-clause-pairs g c =
    let m = g.V.OrderedView.map c.args.view.now in
    let left = span m c.loop-left.left.begin c.loop-left.left.end c.args.reverse in
    taken_all c.args.limit c.loop-left.pairs left (span m c.args.range.now.begin c.args.range.now.end c.args.reverse)
    c.loop-left.invariant.whole
    (first_none left (sym (c.in_ok-pair.ensures {u = tt}) ∙ ap (option_map entry_of) c.in_default.is)) c.loop-left.invariant.short

pub returns-clause-pairs : goal.returns-clause-pairs
returns-clause-pairs g c =
    let m = g.V.OrderedView.map c.args.view.now in
    let full = c.is_full.ensures.full c.loop-left-test.false in
    let short = c.loop-left.invariant.short full.0 in
    let is : c.args.limit ≡ length c.loop-left.pairs = omega (arith, full.1, short, c.len.ensures) in
    taken_full c.args.limit c.loop-left.pairs (span m c.loop-left.left.begin c.loop-left.left.end c.args.reverse)
    (span m c.args.range.now.begin c.args.range.now.end c.args.reverse)
    c.loop-left.invariant.whole full.0 is
