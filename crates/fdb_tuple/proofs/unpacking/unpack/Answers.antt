use Rattle.std.proofs.Common.{◌∙◌, ap, subst, arith}
use Rattle.fdb_tuple.specs.Reading.{Gives, read_tuple}
use Rattle.fdb_tuple.proofs.ByteLists.{AreBytes-by_place}
use Rattle.fdb_tuple.proofs.ReadLaws.{read_tuple_again, read_tuple_refuses}
use Rattle.fdb_tuple.proofs.TupleReads.{found_by, stops_by}
use Rattle.fdb_tuple.proofs.unpacking.unpack.Goals as goal

pub returns-clause-found : goal.returns-clause-found
returns-clause-found c = found_by c.args.bytes.now c.tuple_of.result (AreBytes-by_place c.args.bytes.now (λ i. omega (arith, c.type_inv.bytes i))) c.tuple_of.ensures

pub returns-clause-only : goal.returns-clause-only
returns-clause-only c = λ tuple is e. subst (λ r. Gives (λ t. t) c.tuple_of.result r) (ap read_tuple e ∙ read_tuple_again tuple is) c.tuple_of.ensures

pub returns-clause-stops : goal.returns-clause-stops
returns-clause-stops c = stops_by c.args.bytes.now c.tuple_of.result (AreBytes-by_place c.args.bytes.now (λ i. omega (arith, c.type_inv.bytes i))) c.tuple_of.ensures

pub returns-clause-refused : goal.returns-clause-refused
returns-clause-refused c = λ f stops. subst (λ r. Gives (λ t. t) c.tuple_of.result r) (read_tuple_refuses c.args.bytes.now f stops) c.tuple_of.ensures
