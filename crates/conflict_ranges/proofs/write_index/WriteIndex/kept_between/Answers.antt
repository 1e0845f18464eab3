use Rattle.std.proofs.Common.{◌≡◌, ◌≤◌, ◌⊎◌, ℕ, List, true, subst}
use Rattle.key_bytes.specs.Keys.{within}
use Rattle.conflict_ranges.specs.Generations.{version_at}
use Rattle.conflict_ranges.specs.Writes.{newest_at, Index}
use Rattle.conflict_ranges.proofs.Forgotten.{reached-both}
use Rattle.conflict_ranges.proofs.write_index.WriteIndex.kept_between.Goals as goal

pub returns-clause-reached : goal.returns-clause-reached
returns-clause-reached c =
    let begin = c.args.begin.now in let end = c.args.end.now in let inside = c.self.inside in
    subst (λ (index : Index). (c.max.result ≤ index.forgotten)
    ⊎ ((key : List ℕ) × (within begin end key ≡ true) × (newest_at index key ≡ c.max.result))) c.self.view_is
    (reached-both (λ key. within begin end key ≡ true) (version_at inside.older) (version_at inside.younger) inside.forgotten
    c.newest_between.result c.newest_between-younger.result c.max.result c.max.ensures c.newest_between.ensures.above
    c.newest_between-younger.ensures.above c.newest_between.ensures.reached c.newest_between-younger.ensures.reached)
