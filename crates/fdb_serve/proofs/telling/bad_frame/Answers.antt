use Rattle.std.proofs.Common.{List, ℕ, inl, refl, subst, ◌∙◌}
use Rattle.err_lines.specs.Told.{IsWritten}
use Rattle.fdb_serve.proofs.telling.bad_frame.Goals as goal

pub returns-in-Ok : goal.returns-in-Ok
returns-in-Ok g c = inl (
  refl,
  subst (λ (bytes : List ℕ). IsWritten bytes (g.N.Sink.written c.args.err.now) (g.N.Sink.written c.tell.new.err) (g.N.Sink.faults c.args.err.now)
      (g.N.Sink.faults c.tell.new.err)) (c.as_slice.ensures.value ∙ c.in-Ok.ensures) c.tell.ensures,
)
