use Rattle.std.proofs.Common.{subst, All}
use Rattle.std.proofs.lemmas.Result.{err_from_is_err_and}
use Rattle.stack_items.specs.Unpacked.{PacksSome}
use Rattle.stack_items.proofs.Refusals.{does_all}
use Rattle.stack_items.proofs.TupleOrder.{tuple_sort-done, tuple_sort-refused}
use Rattle.stack_items.proofs.stack.Stack.tuple_sort.Goals as goal

pub returns-in_err-unpack_each-clause-said : goal.returns-in_err-unpack_each-clause-said
returns-in_err-unpack_each-clause-said c =
    let refused = err_from_is_err_and c.from_residual-in_err-unpack_each.result c.from_residual-in_err-unpack_each.ensures.1 in
    rw (refused.1, refused.2)
    (tuple_sort-refused c.args.instruction c.args.self.now c.pop_byte_strings.new.self c.in_ok-strings.strings.items c.in_err-unpack_each.field-0.0 c.in_ok-strings.ensures.popped
    (rw c.deref.ensures.value at c.in_err-unpack_each.ensures))

pub returns-clause-said : goal.returns-clause-said
returns-clause-said c =
    does_all c.push_strings.result _ _ c.args.self.now c.push_strings.new.self
    (tuple_sort-done c.args.instruction c.args.self.now c.pop_byte_strings.new.self c.in_ok-strings.strings.items c.sort_unstable.new.self.items c.in_ok-strings.ensures.popped
    (subst (All PacksSome) c.deref.ensures.value c.in_ok-unpack_each.ensures) c.sort_unstable.ensures.permutation c.sort_unstable.ensures.sorted)
    c.push_strings.ensures.ok c.push_strings.ensures.cause
