-- The numbers under the key are the same, and one more.
use Rattle.std.proofs.Common.{◌≡◌, ◌++◌, ◌∷◌, [], sym, ap, ◌∙◌}
use Rattle.std.specs.Option.{option_copied_mut}
use Rattle.watch_core.specs.Watches.{given, numbers_in}
use Rattle.watch_core.proofs.UnderKeys.{items_in, numbers_given}
use Rattle.watch_core.proofs.index.push_number.Goals as goal

pub returns : goal.returns
returns c =
    let index = c.args.index.now in
    let key = c.args.key.now in
    let found : numbers_in index key ≡ c.in-Some.numbers.now.items = ap items_in (sym c.get_mut.ensures.value ∙ ap option_copied_mut c.in-Some.is) in
    numbers_given index key c.push_reserved.new.self
    ∙ ap (given (numbers_in index) key) (c.push_reserved.ensures.items ∙ ap (λ ns. ns ++ c.args.number ∷ []) (sym found))
