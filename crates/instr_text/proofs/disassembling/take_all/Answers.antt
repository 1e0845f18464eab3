use Rattle.std.proofs.Common.{ℕ, List, [], Ok, refl, sym, ap, ◌∙◌, arith}
use Rattle.key_bytes.specs.Entries.{entries_of}
use Rattle.instr_grammar.specs.Taking.{Taken, take_pairs, disassembled}
use Rattle.instr_text.proofs.TakingSteps.{nothing_written, pair_goes_on, pair_ends, pairs_end}
use Rattle.instr_text.proofs.disassembling.take_all.Goals as goal

pub loop-pair-init : goal.loop-pair-init
unfolding disassembled
loop-pair-init c =
    let nothing : Taken = record { prefixes = []; index = 0 } in
    record {
      stands = record {
        taken = nothing;
        is_taken = c.new-taker.ensures.taken;
        all = rw c.new-text.ensures.items (nothing_written (take_pairs 1 nothing (entries_of c.as_slice-pair-items.result.now)));
      };
      line = refl;
      index = omega (arith, c.new-taker.ensures.index);
    }

pub returns-then-not-branch : goal.returns-then-not-branch
returns-then-not-branch c =
    let stands = c.loop-pair.invariant.stands in
    let items = c.as_slice-pair-items.result.now in
    let steps = rw c.if-not-branch.true at (c.in_ok-step.ensures.steps stands.taken stands.is_taken) in
    sym (ap disassembled c.as_slice-pair-items.ensures)
    ∙ pair_ends c.loop-pair.taker c.step.new.self c.loop-pair.line c.loop-pair.pair-index c.loop-pair.text.items c.step.new.to.items items c.pair-item.result
    (disassembled (entries_of items)) (omega arith) c.pair-item.is stands steps

pub loop-pair-preserved : goal.loop-pair-preserved
loop-pair-preserved c =
    let stands = c.loop-pair.invariant.stands in
    let items = c.as_slice-pair-items.result.now in
    let steps = rw c.if-not-branch.false at (c.in_ok-step.ensures.steps stands.taken stands.is_taken) in
    record {
      stands = pair_goes_on c.loop-pair.taker c.step.new.self c.loop-pair.line c.loop-pair.pair-index c.loop-pair.text.items c.step.new.to.items items
          c.pair-item.result (disassembled (entries_of items)) (omega arith) c.pair-item.is stands steps;
      line = omega (arith, c.loop-pair.invariant.line);
      index = omega (arith, c.in_ok-step.ensures.index, c.loop-pair.invariant.index);
    }

pub returns : goal.returns
returns c =
    let stands = c.loop-pair.invariant.stands in
    let items = c.as_slice-pair-items.result.now in
    sym (ap disassembled c.as_slice-pair-items.ensures)
    ∙ pairs_end c.loop-pair.taker c.loop-pair.line c.loop-pair.pair-index c.loop-pair.text.items items (disassembled (entries_of items)) (omega arith) stands
    ∙ ap (λ (x : List ℕ). Ok x) (sym c.in_ok-from_vec.ensures)
