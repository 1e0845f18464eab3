use Rattle.std.proofs.Common.{◌∙◌}
use Rattle.std.proofs.lemmas.Result.{on_ok_weaker}
use Rattle.generator.specs.Generated.{data_prefix}
use Rattle.generator.proofs.Adding.{more, pushes}
use Rattle.generator.proofs.worker.read.Goals as goal

pub returns : goal.returns
returns c =
    let start = c.args.script.now in
    let two = more start _ _ c.in_ok-push_int.ensures c.in_ok-push_int-2.ensures in
    let three = more start _ _ two c.in_ok-push_int-3.ensures in
    let prefix = pushes c.push_int-3.new.self _ (data_prefix c.args.worker) (c.as_slice.ensures ∙ c.in_ok-data_prefix.ensures)
    c.in_ok-push_bytes.ensures in
    let four = more start _ _ three prefix in
    let five = more start _ _ four c.in_ok-bare.ensures in
    on_ok_weaker c.bare-2.result (λ last. more start _ _ five last) c.bare-2.ensures
