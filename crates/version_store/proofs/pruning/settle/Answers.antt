use Rattle.std.proofs.Common.{arith}
use Rattle.version_store.proofs.Drops.{KeepsFrom-trimmed, KeepsFrom-then}
use Rattle.version_store.proofs.Notes.{AreNoted-trimmed}
use Rattle.version_store.proofs.pruning.settle.Goals as goal

pub returns-in-Some-clause-keeps : goal.returns-in-Some-clause-keeps
returns-in-Some-clause-keeps c =
    let slots = c.args.nodes.now.slots in let places = c.args.tree.now.entries in let trimmed = c.trim_at.new.nodes.slots in
    KeepsFrom-then c.args.oldest c.args.oldest 0 (omega arith) (omega arith) slots trimmed c.drop_gone.new.nodes.slots places places
    c.drop_gone.new.tree.entries (KeepsFrom-trimmed c.args.oldest c.args.due.now.place slots trimmed places c.trim_at.ensures)
    c.drop_gone.ensures.keeps

pub returns-in-Some-clause-noted : goal.returns-in-Some-clause-noted
returns-in-Some-clause-noted c old next sound dues noted =
    let slots = c.args.nodes.now.slots in let places = c.args.tree.now.entries in let trimmed = c.trim_at.new.nodes.slots in
    let due = c.args.due.now in
    let kept = (KeepsFrom-trimmed c.args.oldest due.place slots trimmed places c.trim_at.ensures next sound).sound in
    c.drop_gone.ensures.noted next kept dues
    (AreNoted-trimmed due dues c.args.oldest next slots trimmed places old c.trim_at.ensures kept noted)

pub returns-in_default-clause-keeps : goal.returns-in_default-clause-keeps
returns-in_default-clause-keeps c =
    KeepsFrom-trimmed c.args.oldest c.args.due.now.place c.args.nodes.now.slots c.trim_at.new.nodes.slots c.args.tree.now.entries
    c.trim_at.ensures

pub returns-in_default-clause-noted : goal.returns-in_default-clause-noted
returns-in_default-clause-noted c old next sound dues noted =
    let slots = c.args.nodes.now.slots in let places = c.args.tree.now.entries in let trimmed = c.trim_at.new.nodes.slots in
    let due = c.args.due.now in
    AreNoted-trimmed due dues c.args.oldest next slots trimmed places old c.trim_at.ensures
    (KeepsFrom-trimmed c.args.oldest due.place slots trimmed places c.trim_at.ensures next sound).sound noted
