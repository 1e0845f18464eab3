use Rattle.std.proofs.Common.{◌≡◌, ◌∷◌, [], ◌++◌, arith}
use Rattle.std.proofs.KnownBytes.{Consumes-kept, Consumes-nil, Consumes-trans}
use Rattle.std.proofs.lemmas.Result.{err_from_is_err_and}
use Rattle.outside.specs.Counts.{Rose-later}
use Rattle.fdb_shell.specs.declared.reading.Halt.TheVariants as halt
use Rattle.fdb_shell.proofs.Steps.{finishes_by, finishes_closed, finishes_unread, read_byte, read_none, unread_closes, unread_ends}
use Rattle.fdb_shell.proofs.position.Reading.run.Goals as goal

pub loop-byte-init : goal.loop-byte-init
loop-byte-init g c = record {
  bytes = [];
  consumed = Consumes-nil (g.S.Source.left c.args.source.now);
  at = c.requires (g.K.Sink.written c.args.out.now);
  later_read = omega arith;
  later = omega arith;
}

pub loop-byte-preserved : goal.loop-byte-preserved
loop-byte-preserved g c =
    let before = c.loop-byte.invariant in
    record {
      bytes = before.bytes ++ c.in-Some.byte ∷ [];
      consumed = Consumes-trans _ _ _ before.bytes (c.in-Some.byte ∷ []) before.consumed
          (read_byte _ c.in-Some.byte _ _ _ _ c.in-Some.is c.in_ok-byte.ensures.read);
      at = c.in_ok-take.ensures.goes (g.K.Sink.written c.args.out.now) before.bytes before.at;
      later_read = omega (arith, before.later_read, c.next_byte.ensures.later);
      later = omega (arith, before.later, c.take.ensures.later);
    }

pub returns-in_err-byte-clause-finishes : goal.returns-in_err-byte-clause-finishes
returns-in_err-byte-clause-finishes g c =
    let before = c.loop-byte.invariant in
    let read = c.in_err-byte.ensures.read in
    let p = err_from_is_err_and c.from_residual.result c.from_residual.ensures.1 in
    rw (p.1, p.2, read.0) (finishes_unread _ _ _ _ c.loop-byte.self before.bytes
    (Consumes-kept _ _ _ before.bytes before.consumed read.1) before.at c.loop-byte.self.short c.loop-byte.self.few)

pub returns-in_err-take-clause-finishes : goal.returns-in_err-take-clause-finishes
returns-in_err-take-clause-finishes g c =
    let before = c.loop-byte.invariant in
    let p = err_from_is_err_and c.from_residual-in_err-take.result c.from_residual-in_err-take.ensures.1 in
    rw (p.1, p.2) (finishes_by c.in_err-take.field-0.0 _ _ _ _ (before.bytes ++ c.in-Some.byte ∷ [])
    (Consumes-trans _ _ _ before.bytes (c.in-Some.byte ∷ []) before.consumed
    (read_byte _ c.in-Some.byte _ _ _ _ c.in-Some.is c.in_ok-byte.ensures.read))
    (c.in_err-take.ensures.goes (g.K.Sink.written c.args.out.now) before.bytes before.at))

pub returns-in_err-take-clause-read : goal.returns-in_err-take-clause-read
returns-in_err-take-clause-read g c = λ e.
    let before = c.loop-byte.invariant in
    let p = err_from_is_err_and c.from_residual-in_err-take.result c.from_residual-in_err-take.ensures.1 in
    let same : c.in_err-take.field-0.0 ≡ halt.Read = cc (p.1, p.2) in
    absurd (unread_ends c.in_err-take.field-0.0 _ _ _ (c.in_err-take.ensures.goes (g.K.Sink.written c.args.out.now) before.bytes before.at) same)

pub returns-clause-finishes : goal.returns-clause-finishes
returns-clause-finishes g c =
    let before = c.loop-byte.invariant in
    let ended = read_none c.in_ok-byte.field-0 _ _ _ _ c.in_default.not-Some c.in_ok-byte.ensures.read in
    finishes_closed c.end.result _ _ _ _ before.bytes (Consumes-kept _ _ _ before.bytes before.consumed ended.0) ended.1
    (c.end.ensures.closes (g.K.Sink.written c.args.out.now) before.bytes before.at)

pub returns-clause-read : goal.returns-clause-read
returns-clause-read g c = λ e.
    absurd (unread_closes c.end.result _ _ _ (c.end.ensures.closes (g.K.Sink.written c.args.out.now) c.loop-byte.invariant.bytes c.loop-byte.invariant.at) e)

pub returns-clause-write : goal.returns-clause-write
returns-clause-write g c = λ e. Rose-later _ _ _ c.loop-byte.invariant.later (c.end.ensures.cause e)
