-- Where the key had no numbers it has none still, and there is room.
use Rattle.std.proofs.Common.{◌≡◌, Some, sym, ap, arith, ◌∙◌}
use Rattle.std.proofs.lemmas.Option.{none-some}
use Rattle.std.proofs.lemmas.Result.{on_ok_weaker}
use Rattle.std.specs.FinMap as finite
use Rattle.std.specs.Option.{option_copied_mut, unwrap_or}
use Rattle.watch_core.specs.Watches.{numbers_in}
use Rattle.watch_core.proofs.UnderKeys.{get_here, items_in, numbers_given, given_same, numbers_missing, room_here}
use Rattle.watch_core.proofs.index.reserve_number.Goals as goal

pub unreachable-requires : goal.unreachable-requires
unreachable-requires c =
    let index = c.args.index.now in
    let copy = c.in_ok-copy.field-0 in
    let had = unwrap_or (finite.get index copy) c.new.result in
    let there : finite.get c.insert_missing.new.self c.args.key.now ≡ Some had =
    ap (λ m. finite.get m c.args.key.now) c.in_ok-insert_missing.ensures.ok
    ∙ (ap (finite.get (finite.insert index copy had)) (sym c.in_ok-copy.ensures) ∙ get_here index copy had) in
    none-some had (ap option_copied_mut (sym c.in-None.is) ∙ (c.get_mut.ensures.value ∙ there))

pub returns-clause-numbers : goal.returns-clause-numbers
returns-clause-numbers c =
    let index = c.args.index.now in
    let key = c.args.key.now in
    let with = c.insert_missing.new.self in
    let found : numbers_in with key ≡ c.in-Some.numbers.now.items = ap items_in (sym c.get_mut.ensures.value ∙ ap option_copied_mut c.in-Some.is) in
    numbers_given with key c.reserve.new.self
    ∙ (given_same (numbers_in with) key c.reserve.new.self.items (c.reserve.ensures.items ∙ sym found)
    ∙ (ap numbers_in (c.in_ok-insert_missing.ensures.ok)
    ∙ numbers_missing index c.in_ok-copy.field-0 c.new.result c.new.ensures.items))

pub returns-clause-room : goal.returns-clause-room
returns-clause-room c =
    on_ok_weaker c.reserve.result (λ roomy. room_here c.insert_missing.new.self c.args.key.now c.reserve.new.self (omega (arith, roomy))) c.reserve.ensures.ok
