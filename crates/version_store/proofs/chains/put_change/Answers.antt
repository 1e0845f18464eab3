use Rattle.std.proofs.Common.{◌++◌, ◌∷◌, [], refl, ap, ◌∙◌, cond}
use Rattle.version_store.specs.declared.pruning.Due.{Due}
use Rattle.version_store.proofs.Notes.{Notes-due}
use Rattle.version_store.proofs.chains.put_change.Goals as goal

pub returns-clause-notes : goal.returns-clause-notes
returns-clause-notes c =
    let due : Due = record { version = c.args.version; place = c.args.place; removed = c.if-absent.removed } in
    let items = c.args.dues.now.queue.items in
    Notes-due c.args.version c.args.place c.args.dues.now c.note.new.self due c.args.change.value _ _ c.put_at.ensures.chain refl refl
    c.note.ensures.noting
    (λ on. c.note.ensures.items ∙ ap (λ b. cond b (items ++ due ∷ []) items) on)
    (λ off. c.note.ensures.items ∙ ap (λ b. cond b (items ++ due ∷ []) items) off)
