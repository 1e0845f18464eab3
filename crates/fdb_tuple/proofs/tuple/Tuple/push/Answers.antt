use Rattle.std.proofs.Common.{◌++◌, ◌∷◌, [], sym, ap, ◌∙◌, arith}
use Rattle.fdb_tuple.specs.Listed.{elements_of, elements_of-tuple_of}
use Rattle.fdb_tuple.proofs.Pushes.{depth_of-push, AreElements-push}
use Rattle.fdb_tuple.proofs.tuple.Tuple.push.Goals as goal

pub invariant_of-self-2 : goal.invariant_of-self-2
invariant_of-self-2 c =
    let items = c.self.inside.items.items in
    let depth = depth_of-push items c.args.element in
    rw c.in_ok-push.ensures.items (omega (arith, depth), (AreElements-push items c.args.element c.self.invariant.1.0 c.shows_element.ensures, omega (arith, depth)))

pub returns-clause-ok : goal.returns-clause-ok
returns-clause-ok c =
    let old = c.self.inside.items.items in
    elements_of-tuple_of c.push.new.self.items ∙ c.in_ok-push.ensures.items
    ∙ ap (λ items. items ++ c.args.element ∷ []) (sym (elements_of-tuple_of old) ∙ ap elements_of c.self.view_is)
