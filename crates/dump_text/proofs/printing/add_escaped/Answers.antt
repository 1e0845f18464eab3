use Rattle.std.proofs.Common.{◌+◌, ◌-◌, take, length, ap, ◌∙◌, arith, rules}
use Rattle.std.proofs.lemmas.List.{with_items_is}
use borrow.Rule.Slice.PartMut.{same_len_mid}
use Rattle.dump_text.proofs.Rooms.{added_behind}
use Rattle.dump_text.proofs.printing.add_escaped.Goals as goal

pub returns-clause-ok : goal.returns-clause-ok
returns-clause-ok c =
    let len = c.len-len.result in
    let room = c.put_printable-added in
    let all = c.deref_mut.result.now in
    let whole = with_items_is c.resize.new.self _ (same_len_mid len (length all - len) all room.new.room room.ensures.len ∙ c.deref_mut.ensures.len) in
    c.truncate.ensures.items ∙ ap (take (len + room.result)) whole
    ∙ added_behind c.args.to.now.items _ all room.new.room _ _ len c.in_ok-end.end room.result (c.deref_mut.ensures.value ∙ c.in_ok-resize.ensures.items)
    (search rules) (omega (arith, c.in_ok-end.ensures)) room.ensures.within room.ensures.front
