use Rattle.std.proofs.Common.{◌<◌, ◌≤◌, cond, arith, [], ◌∷◌, length, sym, ap, ◌∙◌}
use Rattle.std.proofs.lemmas.List.{drop_all}
use Rattle.std.proofs.lemmas.Result.{on_ok_weaker}
use Rattle.key_bytes.specs.Keys.{within}
use Rattle.model_database.specs.States.{covers}
use Rattle.conflict_ranges.specs.Generations.{version_at}
use Rattle.conflict_ranges.proofs.Rooms.{given_first}
use Rattle.conflict_ranges.proofs.Splits.{next_left}
use Rattle.conflict_ranges.proofs.generation.Generation.install_all.Goals as goal

pub returns-then-is_after-clause-given : goal.returns-then-is_after-clause-given
returns-then-is_after-clause-given c =
    let ranges = c.args.ranges.now in let range = c.range-item.result in let version = c.args.version in
    let old = c.args.self.now in let new = c.install_key.new.self in
    let some : 0 < length ranges = omega (arith, c.in-len1.len_at_least) in
    let few : length ranges ≤ 1 = omega (arith, c.in-len1.len_below) in
    let only = next_left ranges 0 range some c.range-item.is ∙ ap (λ left. range ∷ left) (drop_all 1 ranges few) in
    let ends = c.if-is_after.ensures {u = tt} in
    on_ok_weaker c.install_key.result
    (λ given key.
    given_first range [] version old new
    (λ other. given other ∙ ap (λ end. cond (within range.begin end other) version (version_at old other)) (sym ends)) key
    ∙ ap (λ ranges. cond (covers ranges key) version (version_at old key)) (sym only))
    c.install_key.ensures.given
