use Rattle.std.proofs.Common.{◌≡◌, ◌+◌, take, sym, ap, ◌∙◌, arith}
use Rattle.std.proofs.lemmas.List.{take_rest}
use Rattle.dump_text.proofs.Rooms.{printed_behind, printed_next}
use Rattle.dump_text.proofs.room.put_front.Goals as goal

pub returns-then-count-eq16-clause-front : goal.returns-then-count-eq16-clause-front
returns-then-count-eq16-clause-front c =
    let put = c.put_plain-count in
    let e : put.result ≡ 16 = c.if-count-eq16.true in
    rw (take_rest c.args.bytes.now 16) (printed_behind (take c.args.at c.args.room.now) c.args.bytes.now _ put.result 16 e
    (ap (λ n. take (c.args.at + n) put.new.room) (sym e) ∙ put.ensures.front) put.ensures.printed)

pub returns-clause-front : goal.returns-clause-front
returns-clause-front c =
    let put = c.put_plain-count in
    rw (take_rest c.args.bytes.now (put.result + 1))
    (printed_next (take c.args.at c.args.room.now) c.args.bytes.now _ _ put.result (omega (arith, put.ensures.few)) put.ensures.front c.put_form-end.ensures.front put.ensures.printed)
