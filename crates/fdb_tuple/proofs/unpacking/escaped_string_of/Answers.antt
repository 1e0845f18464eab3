use Rattle.std.proofs.Common.{◌++◌, ◌∷◌, [], ap, ◌∙◌}
use Rattle.fdb_tuple.proofs.Strings.{read_last, read_more, read_open}
use Rattle.fdb_tuple.proofs.unpacking.escaped_string_of.Goals as goal

pub returns-in_default-after_escape : goal.returns-in_default-after_escape
returns-in_default-after_escape c =
    let split = c.in-Some.ensures in
    read_last c.args.whole c.args.bytes.now c.loop-run.string.items c.loop-run.rest.now c.in-Some.run'.now c.in-Some.after.now c.extend_from_slice.new.self.items c.loop-run.invariant split.0 split.1 c.in_default-after_escape.ensures c.in_ok-extend_from_slice.ensures.items

pub loop-run-preserved : goal.loop-run-preserved
loop-run-preserved c =
    let split = c.in-Some.ensures in
    let pushed = c.in_ok-extend_from_slice-2.ensures.items ∙ ap (λ read. read ++ 0 ∷ []) c.in_ok-extend_from_slice.ensures.items in
    read_more c.args.whole c.args.bytes.now c.loop-run.string.items c.loop-run.rest.now c.in-Some.run'.now c.in-Some.after.now c.in-Some-after_escape.others.now c.extend_from_slice-in-Some.new.self.items c.loop-run.invariant split.0 split.1 c.in-Some-after_escape.ensures pushed

pub returns : goal.returns
returns c = read_open c.args.whole c.args.bytes.now c.loop-run.string.items c.loop-run.rest.now c.loop-run.invariant c.in_default.ensures
