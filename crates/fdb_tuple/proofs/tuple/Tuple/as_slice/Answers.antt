use Rattle.std.proofs.Common.{sym, ap, ◌∙◌}
use Rattle.fdb_tuple.specs.Listed.{elements_of, elements_of-tuple_of}
use Rattle.fdb_tuple.proofs.tuple.Tuple.as_slice.Goals as goal

pub returns-clause-elements : goal.returns-clause-elements
returns-clause-elements c = c.as_slice.ensures.value ∙ sym (elements_of-tuple_of c.self.inside.items.items) ∙ ap elements_of c.self.view_is
