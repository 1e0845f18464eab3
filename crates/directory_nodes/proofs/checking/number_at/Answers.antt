use Rattle.std.proofs.Common.{◌≡◌, ◌∙◌, ◌+◌, ◌-◌, take, drop, ap, arith, length-drop}
use Rattle.std.proofs.lemmas.List.{length-take}
use Rattle.byteorder.specs.Endian.{little_number}
use Rattle.atomic_ops.proofs.Stamps.{little_is_low}
use Rattle.directory_nodes.proofs.checking.number_at.Goals as goal

pub returns : goal.returns
returns c =
    let place = c.args.place in
    let behind = drop place c.args.value.now in
    let four : place + 4 - place ≡ 4 = omega arith in
    c.read_u32.ensures ∙ ap (λ n. little_number 4 (take n behind)) four
    ∙ little_is_low 4 (take 4 behind) (omega (arith, length-take 4 behind, length-drop place c.args.value.now, c.requires))
