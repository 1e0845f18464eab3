use Rattle.std.proofs.Common.{rules, ap, ◌∙◌}
use Rattle.std.specs.BTreeMap as tree
use Rattle.std.specs.FinMap.{empty}
use Rattle.key_bytes.specs.Entries.{entries_of}
use Rattle.key_bytes.specs.Keys.{key_cmp}
use Rattle.key_map.specs.Inserted.{inserted}
use Rattle.key_map.proofs.Finite.{map_of-collected}
use Rattle.key_map.proofs.map.KeyMap+Bytes.from_pairs.Goals as goal

pub returns : goal.returns
returns c =
    let made : tree.IsFromIterResult key_cmp (entries_of c.into_vec.result.items) c.in_ok-tree.tree = search rules in
    map_of-collected (entries_of c.into_vec.result.items) _ made.0 ∙ ap (λ xs. inserted xs empty) c.into_vec.ensures
