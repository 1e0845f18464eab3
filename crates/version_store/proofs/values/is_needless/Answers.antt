use Rattle.std.proofs.Common.{◌≡◌, length, nat_le, sym, ◌∙◌, arith, rules}
use Rattle.version_store.proofs.Trims.{is_needless-tests, needless-absent, needless-present}
use Rattle.version_store.proofs.values.is_needless.Goals as goal

pub returns-then-is_none : goal.returns-then-is_none
returns-then-is_none c =
    let items = c.args.queue.now.items in let count = c.len-count.result in let last = c.index-2.result.now in let before = c.index-3.result.now in
    let len : count ≡ length items = search rules in
    needless-absent last.value c.is_none-2.result (nat_le before.version c.args.oldest) c.is_none-2.ensures c.if-is_none.true
    ∙ sym
    (is_needless-tests c.args.oldest items count last before len (omega (arith, c.if-count-eq0.false, c.if-count-eq1.false)) c.index-2.ensures
    c.index-3.ensures)

pub returns-else-is_none : goal.returns-else-is_none
returns-else-is_none c =
    let items = c.args.queue.now.items in let count = c.len-count.result in let last = c.index-2.result.now in let before = c.index-3.result.now in
    let len : count ≡ length items = search rules in
    needless-present last.value c.is_none-2.result (nat_le before.version c.args.oldest) c.is_none-2.ensures c.if-is_none.false
    ∙ sym
    (is_needless-tests c.args.oldest items count last before len (omega (arith, c.if-count-eq0.false, c.if-count-eq1.false)) c.index-2.ensures
    c.index-3.ensures)
