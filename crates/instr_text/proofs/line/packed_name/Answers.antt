use Rattle.std.proofs.Common.{rules}
use Rattle.instr_text.proofs.Packs.{name_as_it_stands}
use Rattle.instr_text.proofs.line.packed_name.Goals as goal

pub returns : goal.returns
returns c = rw (name_as_it_stands c.args.name.now c.requires, c.in_ok-push-2.ensures.items, c.in_ok-extend_from_slice.ensures.items, c.in_ok-push.ensures.items, c.new-value.ensures.items) (search rules)
