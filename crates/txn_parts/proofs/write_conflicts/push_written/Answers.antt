use Rattle.std.proofs.Common.{◌≡◌, inl, inr, ◌++◌, [], sym, ap, ◌∙◌}
use Rattle.std.proofs.lemmas.List.{append-nil, length-map}
use Rattle.write_map.specs.Mutations.{mutation_of, mutations_of}
use Rattle.txn_parts.specs.WriteConflicts.{write_conflicts_among}
use Rattle.txn_parts.proofs.Units.{no_write_conflicts}
use Rattle.txn_parts.proofs.write_conflicts.push_written.Goals as goal

pub returns : goal.returns
returns c =
    let mutations = c.loop-mutation.mutation-iterator.a.rest.now in let adds_conflict = c.loop-mutation.mutation-iterator.b.rest.now in
    let none : write_conflicts_among (mutations_of mutations) adds_conflict ≡ [] =
    elim (c.in-None.ensures {u = tt}).steps as (λ _. write_conflicts_among (mutations_of mutations) adds_conflict ≡ []) [
      | inl ended ↦ no_write_conflicts (mutations_of mutations) adds_conflict (inl (length-map mutations mutation_of ∙ ended.1.0))
      | inr ended ↦ no_write_conflicts (mutations_of mutations) adds_conflict (inr ended.1.0)
    ] in
    sym (append-nil c.loop-mutation.ranges.items)
    ∙ ap (λ list. c.loop-mutation.ranges.items ++ list) (sym none) ∙ c.loop-mutation.invariant
