-- How a selector's key is found: from its start up, or from it down.
use Rattle.std.specs.Prelude.{◌≡◌, ℕ, suc, ℤ, pos, neg_ℤ}
use Rattle.range_read.specs.declared.resolving.Course.{Course}
use Rattle.range_read.specs.declared.resolving.Course.TheVariants.{Up, Down}

-- where an offset leads: offset n + 1 to place n of the keys from the start up, offset -i to place i of the keys below it
abbrev pub IsCourse : ℤ → Course → Type 0
IsCourse offset (Up n) = offset ≡ pos (suc n)
IsCourse offset (Down i) = offset ≡ neg_ℤ (pos i)
