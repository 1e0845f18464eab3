use Rattle.std.proofs.Common.{◌≡◌, ◌+◌, ◌-◌, ◌<◌, length, ◌∙◌, arith}
use Rattle.std.specs.BTreeMap.{insert_entry}
use Rattle.key_bytes.specs.Keys.{key_cmp}
use Rattle.range_map.proofs.Filled.{placed_more}
use Rattle.range_map.proofs.tree.places_of.Goals as goal

pub loop-at-preserved : goal.loop-at-preserved
loop-at-preserved g c =
    let at = c.loop-at in let es = c.args.boundaries.now in let n = at.at - 1 in let d = c.index-boundaries-at.result in
    let some = c.loop-at-test.true in let fits = at.invariant.inside in
    let inside : n < length es = omega (arith, some, fits) in
    let next : at.at ≡ n + 1 = omega (arith, some) in
    record {
      inside = omega (arith, fits);
      entries = (c.in_ok-insert.ensures {u = tt}).entries
          ∙ (λ i. insert_entry key_cmp (at.invariant.entries i) (c.in_ok-copy.ensures {u = tt} i) n)
          ∙ placed_more es n at.at d c.requires inside next;
    }
