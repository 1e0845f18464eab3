use Rattle.std.proofs.Common.{Err, ap, inl, refl}
use Rattle.fdb_shell.proofs.Tops.{complete, ended}
use Rattle.fdb_shell.proofs.top.shell.Goals as goal

pub returns-in-Ok-clause-all : goal.returns-in-Ok-clause-all
returns-in-Ok-clause-all g c = λ e. c.in-Ok.ensures.finishes

pub returns-in-Ok-clause-statuses : goal.returns-in-Ok-clause-statuses
returns-in-Ok-clause-statuses g c = inl refl

pub returns-in-Ok-clause-complete : goal.returns-in-Ok-clause-complete
returns-in-Ok-clause-complete g c = λ faultless. inl refl

pub returns-in-Err-clause-all : goal.returns-in-Err-clause-all
returns-in-Err-clause-all g c =
    let so = ended c.refused.result (g.S.Source.left c.args.source.now) (g.S.Source.left c.run.new.source)
    (g.K.Sink.written c.args.out.now) (g.K.Sink.written c.run.new.out) (g.N.Sink.written c.args.err.now) (g.N.Sink.written c.refused.new.err)
    (g.S.Source.faults c.args.source.now) (g.S.Source.faults c.run.new.source) (g.K.Sink.faults c.args.out.now) (g.K.Sink.faults c.run.new.out)
    (g.N.Sink.faults c.args.err.now) (g.N.Sink.faults c.refused.new.err)
    c.in-Err.halt c.in-Err.ensures.finishes c.refused.ensures (λ e. c.in-Err.ensures.read (ap Err e)) (λ e. c.in-Err.ensures.write (ap Err e)) in
    so.all

pub returns-in-Err-clause-limit : goal.returns-in-Err-clause-limit
returns-in-Err-clause-limit g c =
    let so = ended c.refused.result (g.S.Source.left c.args.source.now) (g.S.Source.left c.run.new.source)
    (g.K.Sink.written c.args.out.now) (g.K.Sink.written c.run.new.out) (g.N.Sink.written c.args.err.now) (g.N.Sink.written c.refused.new.err)
    (g.S.Source.faults c.args.source.now) (g.S.Source.faults c.run.new.source) (g.K.Sink.faults c.args.out.now) (g.K.Sink.faults c.run.new.out)
    (g.N.Sink.faults c.args.err.now) (g.N.Sink.faults c.refused.new.err)
    c.in-Err.halt c.in-Err.ensures.finishes c.refused.ensures (λ e. c.in-Err.ensures.read (ap Err e)) (λ e. c.in-Err.ensures.write (ap Err e)) in
    so.limit

pub returns-in-Err-clause-read : goal.returns-in-Err-clause-read
returns-in-Err-clause-read g c =
    let so = ended c.refused.result (g.S.Source.left c.args.source.now) (g.S.Source.left c.run.new.source)
    (g.K.Sink.written c.args.out.now) (g.K.Sink.written c.run.new.out) (g.N.Sink.written c.args.err.now) (g.N.Sink.written c.refused.new.err)
    (g.S.Source.faults c.args.source.now) (g.S.Source.faults c.run.new.source) (g.K.Sink.faults c.args.out.now) (g.K.Sink.faults c.run.new.out)
    (g.N.Sink.faults c.args.err.now) (g.N.Sink.faults c.refused.new.err)
    c.in-Err.halt c.in-Err.ensures.finishes c.refused.ensures (λ e. c.in-Err.ensures.read (ap Err e)) (λ e. c.in-Err.ensures.write (ap Err e)) in
    so.read

pub returns-in-Err-clause-whole : goal.returns-in-Err-clause-whole
returns-in-Err-clause-whole g c =
    let so = ended c.refused.result (g.S.Source.left c.args.source.now) (g.S.Source.left c.run.new.source)
    (g.K.Sink.written c.args.out.now) (g.K.Sink.written c.run.new.out) (g.N.Sink.written c.args.err.now) (g.N.Sink.written c.refused.new.err)
    (g.S.Source.faults c.args.source.now) (g.S.Source.faults c.run.new.source) (g.K.Sink.faults c.args.out.now) (g.K.Sink.faults c.run.new.out)
    (g.N.Sink.faults c.args.err.now) (g.N.Sink.faults c.refused.new.err)
    c.in-Err.halt c.in-Err.ensures.finishes c.refused.ensures (λ e. c.in-Err.ensures.read (ap Err e)) (λ e. c.in-Err.ensures.write (ap Err e)) in
    so.whole

pub returns-in-Err-clause-write : goal.returns-in-Err-clause-write
returns-in-Err-clause-write g c =
    let so = ended c.refused.result (g.S.Source.left c.args.source.now) (g.S.Source.left c.run.new.source)
    (g.K.Sink.written c.args.out.now) (g.K.Sink.written c.run.new.out) (g.N.Sink.written c.args.err.now) (g.N.Sink.written c.refused.new.err)
    (g.S.Source.faults c.args.source.now) (g.S.Source.faults c.run.new.source) (g.K.Sink.faults c.args.out.now) (g.K.Sink.faults c.run.new.out)
    (g.N.Sink.faults c.args.err.now) (g.N.Sink.faults c.refused.new.err)
    c.in-Err.halt c.in-Err.ensures.finishes c.refused.ensures (λ e. c.in-Err.ensures.read (ap Err e)) (λ e. c.in-Err.ensures.write (ap Err e)) in
    so.write

pub returns-in-Err-clause-front : goal.returns-in-Err-clause-front
returns-in-Err-clause-front g c =
    let so = ended c.refused.result (g.S.Source.left c.args.source.now) (g.S.Source.left c.run.new.source)
    (g.K.Sink.written c.args.out.now) (g.K.Sink.written c.run.new.out) (g.N.Sink.written c.args.err.now) (g.N.Sink.written c.refused.new.err)
    (g.S.Source.faults c.args.source.now) (g.S.Source.faults c.run.new.source) (g.K.Sink.faults c.args.out.now) (g.K.Sink.faults c.run.new.out)
    (g.N.Sink.faults c.args.err.now) (g.N.Sink.faults c.refused.new.err)
    c.in-Err.halt c.in-Err.ensures.finishes c.refused.ensures (λ e. c.in-Err.ensures.read (ap Err e)) (λ e. c.in-Err.ensures.write (ap Err e)) in
    so.front

pub returns-in-Err-clause-short : goal.returns-in-Err-clause-short
returns-in-Err-clause-short g c =
    let so = ended c.refused.result (g.S.Source.left c.args.source.now) (g.S.Source.left c.run.new.source)
    (g.K.Sink.written c.args.out.now) (g.K.Sink.written c.run.new.out) (g.N.Sink.written c.args.err.now) (g.N.Sink.written c.refused.new.err)
    (g.S.Source.faults c.args.source.now) (g.S.Source.faults c.run.new.source) (g.K.Sink.faults c.args.out.now) (g.K.Sink.faults c.run.new.out)
    (g.N.Sink.faults c.args.err.now) (g.N.Sink.faults c.refused.new.err)
    c.in-Err.halt c.in-Err.ensures.finishes c.refused.ensures (λ e. c.in-Err.ensures.read (ap Err e)) (λ e. c.in-Err.ensures.write (ap Err e)) in
    so.short

pub returns-in-Err-clause-statuses : goal.returns-in-Err-clause-statuses
returns-in-Err-clause-statuses g c =
    let so = ended c.refused.result (g.S.Source.left c.args.source.now) (g.S.Source.left c.run.new.source)
    (g.K.Sink.written c.args.out.now) (g.K.Sink.written c.run.new.out) (g.N.Sink.written c.args.err.now) (g.N.Sink.written c.refused.new.err)
    (g.S.Source.faults c.args.source.now) (g.S.Source.faults c.run.new.source) (g.K.Sink.faults c.args.out.now) (g.K.Sink.faults c.run.new.out)
    (g.N.Sink.faults c.args.err.now) (g.N.Sink.faults c.refused.new.err)
    c.in-Err.halt c.in-Err.ensures.finishes c.refused.ensures (λ e. c.in-Err.ensures.read (ap Err e)) (λ e. c.in-Err.ensures.write (ap Err e)) in
    so.statuses

pub returns-in-Err-clause-complete : goal.returns-in-Err-clause-complete
returns-in-Err-clause-complete g c =
    let so = ended c.refused.result (g.S.Source.left c.args.source.now) (g.S.Source.left c.run.new.source)
    (g.K.Sink.written c.args.out.now) (g.K.Sink.written c.run.new.out) (g.N.Sink.written c.args.err.now) (g.N.Sink.written c.refused.new.err)
    (g.S.Source.faults c.args.source.now) (g.S.Source.faults c.run.new.source) (g.K.Sink.faults c.args.out.now) (g.K.Sink.faults c.run.new.out)
    (g.N.Sink.faults c.args.err.now) (g.N.Sink.faults c.refused.new.err)
    c.in-Err.halt c.in-Err.ensures.finishes c.refused.ensures (λ e. c.in-Err.ensures.read (ap Err e)) (λ e. c.in-Err.ensures.write (ap Err e)) in
    complete _ _ _ _ _ _ _ _ _ _ _ _ _ so

pub returns-in-Err-clause-quiet : goal.returns-in-Err-clause-quiet
returns-in-Err-clause-quiet g c =
    let so = ended c.refused.result (g.S.Source.left c.args.source.now) (g.S.Source.left c.run.new.source)
    (g.K.Sink.written c.args.out.now) (g.K.Sink.written c.run.new.out) (g.N.Sink.written c.args.err.now) (g.N.Sink.written c.refused.new.err)
    (g.S.Source.faults c.args.source.now) (g.S.Source.faults c.run.new.source) (g.K.Sink.faults c.args.out.now) (g.K.Sink.faults c.run.new.out)
    (g.N.Sink.faults c.args.err.now) (g.N.Sink.faults c.refused.new.err)
    c.in-Err.halt c.in-Err.ensures.finishes c.refused.ensures (λ e. c.in-Err.ensures.read (ap Err e)) (λ e. c.in-Err.ensures.write (ap Err e)) in
    λ e. absurd (so.not_all e)

pub returns-in-Err-clause-told : goal.returns-in-Err-clause-told
returns-in-Err-clause-told g c =
    let so = ended c.refused.result (g.S.Source.left c.args.source.now) (g.S.Source.left c.run.new.source)
    (g.K.Sink.written c.args.out.now) (g.K.Sink.written c.run.new.out) (g.N.Sink.written c.args.err.now) (g.N.Sink.written c.refused.new.err)
    (g.S.Source.faults c.args.source.now) (g.S.Source.faults c.run.new.source) (g.K.Sink.faults c.args.out.now) (g.K.Sink.faults c.run.new.out)
    (g.N.Sink.faults c.args.err.now) (g.N.Sink.faults c.refused.new.err)
    c.in-Err.halt c.in-Err.ensures.finishes c.refused.ensures (λ e. c.in-Err.ensures.read (ap Err e)) (λ e. c.in-Err.ensures.write (ap Err e)) in
    so.told
