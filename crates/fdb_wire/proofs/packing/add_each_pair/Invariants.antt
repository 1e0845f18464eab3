use Rattle.std.proofs.Common.{◌≡◌, [], ◌∷◌, ◌++◌, take}
use Rattle.std.specs.Prelude.{flat_map}
use Rattle.fdb_tuple.specs.declared.tuple.Elem.TheVariants as elem
use Rattle.fdb_wire.specs.Elements.{packed, count}
use Rattle.fdb_wire.proofs.packing.add_each_pair.Given as goal

-- what was added is the pairs so far
abbrev pub invariant-loop-pair : goal.invariant-loop-pair
invariant-loop-pair l = l.to.items ≡ l.fn.to.items ++ flat_map (λ pair. packed (elem.Bytes pair.key ∷ elem.Bytes pair.value ∷ [])) (take l.pair-index l.pairs)
