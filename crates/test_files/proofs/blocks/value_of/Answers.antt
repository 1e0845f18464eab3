use Rattle.std.proofs.Common.{◌==◌, ℕ, List, Some, length, drop, option_map, ap, ◌∙◌, rules, tests}
use Rattle.std.specs.List.{find, slice_split}
use Rattle.std.proofs.lemmas.List.{length_push}
use Rattle.std.proofs.lemmas.Iterator.Consumers.{YieldsList-at, YieldsList-end, YieldsList-turn}
use Rattle.std.proofs.lemmas.Iterator.Splits.{YieldsList-from_slice_split}
use Rattle.test_files.specs.Blocks.{begins_with}
use Rattle.test_files.proofs.Lines.{passed, found, ended}
use Rattle.test_files.proofs.blocks.value_of.Goals as goal

pub loop-line-preserved : goal.loop-line-preserved
loop-line-preserved c =
    let test = begins_with c.args.tag.now in
    let lines = slice_split (λ byte. byte == 10) c.args.block.now in
    let turn = YieldsList-turn (YieldsList-at c.into_iter-line-iterator.ensures.into_iter_gives (YieldsList-from_slice_split _ (λ byte. byte == 10) c.args.block.now
    c.split-line-items.ensures.rest c.split-line-items.ensures.done c.split-line-items.ensures.closure (λ x b q k. search (rules, tests))))
    c.loop-line.yielded _ c.loop-line.yielded_by _ c.next.new.self c.in-Some.line c.in-Some.is c.next.ensures.steps in
    record {
      can = search rules;
      finite = search rules;
      left =
          ap (λ n. find test (drop n lines)) (length_push c.loop-line.yielded c.in-Some.line)
          ∙ passed test lines (length c.loop-line.yielded) c.in-Some.line.now turn (c.in_default.ensures {u = tt}).cases c.loop-line.invariant.left;
    }

pub returns : goal.returns
returns c =
    let test = begins_with c.args.tag.now in
    let lines = slice_split (λ byte. byte == 10) c.args.block.now in
    let end = YieldsList-end (YieldsList-at c.into_iter-line-iterator.ensures.into_iter_gives (YieldsList-from_slice_split _ (λ byte. byte == 10) c.args.block.now
    c.split-line-items.ensures.rest c.split-line-items.ensures.done c.split-line-items.ensures.closure (λ x b q k. search (rules, tests))))
    c.loop-line.yielded _ c.loop-line.yielded_by _ c.next.new.self c.in-None.is c.next.ensures.steps in
    ap (option_map (drop (length c.args.tag.now))) (ended test lines (length c.loop-line.yielded) end.1 c.loop-line.invariant.left)

pub returns-in-Some-strip_prefix : goal.returns-in-Some-strip_prefix
returns-in-Some-strip_prefix c =
    let test = begins_with c.args.tag.now in
    let lines = slice_split (λ byte. byte == 10) c.args.block.now in
    let turn = YieldsList-turn (YieldsList-at c.into_iter-line-iterator.ensures.into_iter_gives (YieldsList-from_slice_split _ (λ byte. byte == 10) c.args.block.now
    c.split-line-items.ensures.rest c.split-line-items.ensures.done c.split-line-items.ensures.closure (λ x b q k. search (rules, tests))))
    c.loop-line.yielded _ c.loop-line.yielded_by _ c.next.new.self c.in-Some.line c.in-Some.is c.next.ensures.steps in
    let value = (c.in-Some-strip_prefix.ensures {u = tt}).cases in
    ap (λ (x : List ℕ). Some x) value.1
    ∙ ap (option_map (drop (length c.args.tag.now))) (found test lines (length c.loop-line.yielded) c.in-Some.line.now turn value.0 c.loop-line.invariant.left)
