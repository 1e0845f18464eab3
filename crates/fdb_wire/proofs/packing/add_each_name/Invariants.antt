use Rattle.std.proofs.Common.{◌≡◌, [], ◌∷◌, ◌++◌, take}
use Rattle.std.specs.Prelude.{flat_map}
use Rattle.fdb_tuple.specs.declared.tuple.Elem.TheVariants as elem
use Rattle.fdb_wire.specs.Elements.{packed, count}
use Rattle.fdb_wire.proofs.packing.add_each_name.Given as goal

-- what was added is the names so far
abbrev pub invariant-loop-name : goal.invariant-loop-name
invariant-loop-name l = l.to.items ≡ l.fn.to.items ++ flat_map (λ name. packed (elem.Text name ∷ [])) (take l.name-index l.names)
