use Rattle.std.proofs.Common.{◌≡◌, inl, inr, [], ◌∷◌, ◌++◌, refl, sym, ap, ◌∙◌}
use Rattle.network.specs.declared.serving.server.ServerState.{ServerState}
use Rattle.network.proofs.serving.server.ServerState.answer.Goals as goal
use Rattle.network.proofs.serving.server.ServerState.answer.Goals.{then-self-via-then-self, then-self-via-else-self+then-not-make_room}

pub returns-clause-answered : goal.returns-clause-answered
returns-clause-answered g c short =
    let room = c.make_room.ensures.room c.if-not-make_room.false in
    let kept = c.set.ensures.short short in
    let added = c.set.ensures.set in (
      sym c.make_room.ensures.rest.0 ∙ kept.0,
      (
        c.answer-reply.result,
        c.answer-reply.ensures,
        kept.1,
        (added.0, added.1, added.2, added.3 ∙ ap (λ l. l ++ added.0 ∷ []) c.make_room.ensures.receipts),
        c.set.ensures.order ∙ room.1,
      ),
    )

pub returns-then-self-clause-replied : goal.returns-then-self-clause-replied
returns-then-self-clause-replied g c =
    inr (c.refuse.result, refl, c.refuse.ensures.cell, c.refuse.ensures.value, c.note_refused.ensures, kept)
  where
    kept : c.then-self.self.receipts.items ≡ c.args.self.now.receipts.items
    kept = elim c.then-self.branch [
      | then-self-via-then-self w ↦ ap (λ (server : ServerState). server.receipts.items) w.self-is
      | then-self-via-else-self+then-not-make_room w ↦ ap (λ (server : ServerState). server.receipts.items) w.self-is ∙ w.make_room.ensures.receipts
    ]

pub returns-clause-replied : goal.returns-clause-replied
returns-clause-replied g c =
    let added = c.set.ensures.set in
    inl (
      c.answer-reply.result,
      c.if-self.false,
      c.answer-reply.ensures,
      λ lasts. (c.set.ensures.short lasts).1,
      (added.0, added.1, added.2, added.3 ∙ ap (λ l. l ++ added.0 ∷ []) c.make_room.ensures.receipts),
    )
