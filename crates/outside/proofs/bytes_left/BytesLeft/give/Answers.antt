use Rattle.std.proofs.Common.{◌≤◌, ◌++◌, length, take, drop, sym, ap, ◌∙◌, arith}
use Rattle.std.proofs.lemmas.List.{take_rest, drop-drop}
use Rattle.outside.proofs.Pieces.{copied_front}
use Rattle.outside.proofs.bytes_left.BytesLeft.give.Goals as goal

pub returns-clause-bytes : goal.returns-clause-bytes
returns-clause-bytes c =
    let n = c.min-n.result in
    let given = c.self.inside.given in
    let items = c.self.inside.bytes.items in
    let tail = take_rest c.as_slice.result.now given ∙ ap (drop given) c.as_slice.ensures.value ∙ c.self.view_is in
    let within : n ≤ length c.args.self.now = omega (arith, c.min-n.ensures, ap length tail) in
    let moved = copied_front c.args.self.now c.copy_from_slice.new.self (drop n c.args.buf.now) n within (c.copy_from_slice.ensures.after ∙ ap (take n) tail) in
    moved
    ∙ ap (λ l. take n (c.copy_from_slice.new.self ++ drop n c.args.buf.now) ++ l) (ap (drop n) (sym c.self.view_is) ∙ drop-drop n given items)
