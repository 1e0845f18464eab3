use Rattle.std.proofs.Common.{◌<◌, length, sym, ap, subst, ◌∙◌, arith}
use Rattle.std.proofs.lemmas.List.{length-map, get_or-map}
use Rattle.std.proofs.lemmas.List.Elements.{All-get_or}
use Rattle.write_map.specs.Mutations.{mutation_of, mutations_of}
use Rattle.write_map.specs.Stamps.{HasRoom}
use Rattle.write_map.proofs.filling.filled.Goals as goal

pub fill-requires : goal.fill-requires
fill-requires c =
    let kept = c.args.mutations.now in
    let place = c.loop-mutation.mutation-index in
    let mutation = c.mutation-item.result in
    let inside : place < length kept = omega arith in
    subst HasRoom
    (get_or-map mutation_of kept place mutation (mutation_of mutation) inside ∙ ap mutation_of (sym c.mutation-item.is))
    (All-get_or HasRoom (mutations_of kept) place (mutation_of mutation) (omega (arith, length-map kept mutation_of)) c.requires)
