use Rattle.std.proofs.Common.{◌≡◌, ℕ, max, arith, List, ap, ◌∙◌}
use Rattle.std.specs.FinMap.{get, get-empty}
use Rattle.key_bytes.specs.Keys.{key_cmp}
use Rattle.range_map.specs.Boundaries.{Boundaries, held}
use Rattle.conflict_ranges.specs.Generations.{version_in}
use Rattle.conflict_ranges.proofs.generation.Generation.new.Goals as goal
use Rattle.conflict_ranges.proofs.generation.Generation.new.Goals.{After-new-2}

no_key : (c : After-new-2) (key : List ℕ) → version_in (get c.new.result key) ≡ 0
no_key c key = ap (λ keys. version_in (get keys key)) c.new.ensures ∙ ap version_in (get-empty key_cmp key)

no_range : (c : After-new-2) (key : List ℕ) → held c.new-2.result key ≡ 0
no_range c key = ap (λ (boundaries : Boundaries ℕ). held boundaries key) c.new-2.ensures

pub invariant_of-result : goal.invariant_of-result
invariant_of-result c = record {
  keys = λ key. let none = no_key c key in omega (arith, none);
  ranges = λ key. let none = no_range c key in omega (arith, none);
}

pub returns-clause-unwritten : goal.returns-clause-unwritten
returns-clause-unwritten c key = (λ i. max (no_key c key i) (no_range c key i))
