use Rattle.std.proofs.Common.{◌≡◌, [], ◌∷◌, ◌++◌, take}
use Rattle.std.specs.Prelude.{flat_map}
use Rattle.fdb_tuple.specs.declared.tuple.Elem.TheVariants as elem
use Rattle.fdb_wire.specs.Elements.{packed, count}
use Rattle.fdb_wire.proofs.packing.add_counts.Given as goal

-- what was added is the numbers so far
abbrev pub invariant-loop-number : goal.invariant-loop-number
invariant-loop-number l = l.to.items ≡ l.fn.to.items ++ flat_map (λ number. packed (count number ∷ [])) (take l.number-index l.numbers)
