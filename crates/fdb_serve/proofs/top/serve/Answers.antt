use Rattle.std.proofs.Common.{inl, refl}
use Rattle.fdb_serve.proofs.Tops.{ended}
use Rattle.fdb_serve.proofs.top.serve.Goals as goal

pub returns-in-Ok-clause-all : goal.returns-in-Ok-clause-all
returns-in-Ok-clause-all g c = λ e. c.in-Ok.ensures.finishes

pub returns-in-Ok-clause-statuses : goal.returns-in-Ok-clause-statuses
returns-in-Ok-clause-statuses g c = inl refl

pub returns-in-Err-clause-all : goal.returns-in-Err-clause-all
returns-in-Err-clause-all g c =
    let so = ended c.refused.result c.args.api c.args.window c.in-Err.stopped.number (g.S.Source.left c.args.source.now) (g.S.Source.left c.run.new.source)
    (g.K.Sink.written c.args.out.now) (g.K.Sink.written c.run.new.out) (g.N.Sink.written c.args.err.now) (g.N.Sink.written c.refused.new.err)
    (g.S.Source.faults c.args.source.now) (g.S.Source.faults c.run.new.source) (g.K.Sink.faults c.args.out.now) (g.K.Sink.faults c.run.new.out)
    (g.N.Sink.faults c.args.err.now) (g.N.Sink.faults c.refused.new.err)
    c.in-Err.stopped.halt c.in-Err.ensures.finishes c.refused.ensures c.in-Err.ensures.read c.in-Err.ensures.write in
    so.all

pub returns-in-Err-clause-bad : goal.returns-in-Err-clause-bad
returns-in-Err-clause-bad g c =
    let so = ended c.refused.result c.args.api c.args.window c.in-Err.stopped.number (g.S.Source.left c.args.source.now) (g.S.Source.left c.run.new.source)
    (g.K.Sink.written c.args.out.now) (g.K.Sink.written c.run.new.out) (g.N.Sink.written c.args.err.now) (g.N.Sink.written c.refused.new.err)
    (g.S.Source.faults c.args.source.now) (g.S.Source.faults c.run.new.source) (g.K.Sink.faults c.args.out.now) (g.K.Sink.faults c.run.new.out)
    (g.N.Sink.faults c.args.err.now) (g.N.Sink.faults c.refused.new.err)
    c.in-Err.stopped.halt c.in-Err.ensures.finishes c.refused.ensures c.in-Err.ensures.read c.in-Err.ensures.write in
    so.bad

pub returns-in-Err-clause-read : goal.returns-in-Err-clause-read
returns-in-Err-clause-read g c =
    let so = ended c.refused.result c.args.api c.args.window c.in-Err.stopped.number (g.S.Source.left c.args.source.now) (g.S.Source.left c.run.new.source)
    (g.K.Sink.written c.args.out.now) (g.K.Sink.written c.run.new.out) (g.N.Sink.written c.args.err.now) (g.N.Sink.written c.refused.new.err)
    (g.S.Source.faults c.args.source.now) (g.S.Source.faults c.run.new.source) (g.K.Sink.faults c.args.out.now) (g.K.Sink.faults c.run.new.out)
    (g.N.Sink.faults c.args.err.now) (g.N.Sink.faults c.refused.new.err)
    c.in-Err.stopped.halt c.in-Err.ensures.finishes c.refused.ensures c.in-Err.ensures.read c.in-Err.ensures.write in
    so.read

pub returns-in-Err-clause-whole : goal.returns-in-Err-clause-whole
returns-in-Err-clause-whole g c =
    let so = ended c.refused.result c.args.api c.args.window c.in-Err.stopped.number (g.S.Source.left c.args.source.now) (g.S.Source.left c.run.new.source)
    (g.K.Sink.written c.args.out.now) (g.K.Sink.written c.run.new.out) (g.N.Sink.written c.args.err.now) (g.N.Sink.written c.refused.new.err)
    (g.S.Source.faults c.args.source.now) (g.S.Source.faults c.run.new.source) (g.K.Sink.faults c.args.out.now) (g.K.Sink.faults c.run.new.out)
    (g.N.Sink.faults c.args.err.now) (g.N.Sink.faults c.refused.new.err)
    c.in-Err.stopped.halt c.in-Err.ensures.finishes c.refused.ensures c.in-Err.ensures.read c.in-Err.ensures.write in
    so.whole

pub returns-in-Err-clause-write : goal.returns-in-Err-clause-write
returns-in-Err-clause-write g c =
    let so = ended c.refused.result c.args.api c.args.window c.in-Err.stopped.number (g.S.Source.left c.args.source.now) (g.S.Source.left c.run.new.source)
    (g.K.Sink.written c.args.out.now) (g.K.Sink.written c.run.new.out) (g.N.Sink.written c.args.err.now) (g.N.Sink.written c.refused.new.err)
    (g.S.Source.faults c.args.source.now) (g.S.Source.faults c.run.new.source) (g.K.Sink.faults c.args.out.now) (g.K.Sink.faults c.run.new.out)
    (g.N.Sink.faults c.args.err.now) (g.N.Sink.faults c.refused.new.err)
    c.in-Err.stopped.halt c.in-Err.ensures.finishes c.refused.ensures c.in-Err.ensures.read c.in-Err.ensures.write in
    so.write

pub returns-in-Err-clause-front : goal.returns-in-Err-clause-front
returns-in-Err-clause-front g c =
    let so = ended c.refused.result c.args.api c.args.window c.in-Err.stopped.number (g.S.Source.left c.args.source.now) (g.S.Source.left c.run.new.source)
    (g.K.Sink.written c.args.out.now) (g.K.Sink.written c.run.new.out) (g.N.Sink.written c.args.err.now) (g.N.Sink.written c.refused.new.err)
    (g.S.Source.faults c.args.source.now) (g.S.Source.faults c.run.new.source) (g.K.Sink.faults c.args.out.now) (g.K.Sink.faults c.run.new.out)
    (g.N.Sink.faults c.args.err.now) (g.N.Sink.faults c.refused.new.err)
    c.in-Err.stopped.halt c.in-Err.ensures.finishes c.refused.ensures c.in-Err.ensures.read c.in-Err.ensures.write in
    so.front

pub returns-in-Err-clause-short : goal.returns-in-Err-clause-short
returns-in-Err-clause-short g c =
    let so = ended c.refused.result c.args.api c.args.window c.in-Err.stopped.number (g.S.Source.left c.args.source.now) (g.S.Source.left c.run.new.source)
    (g.K.Sink.written c.args.out.now) (g.K.Sink.written c.run.new.out) (g.N.Sink.written c.args.err.now) (g.N.Sink.written c.refused.new.err)
    (g.S.Source.faults c.args.source.now) (g.S.Source.faults c.run.new.source) (g.K.Sink.faults c.args.out.now) (g.K.Sink.faults c.run.new.out)
    (g.N.Sink.faults c.args.err.now) (g.N.Sink.faults c.refused.new.err)
    c.in-Err.stopped.halt c.in-Err.ensures.finishes c.refused.ensures c.in-Err.ensures.read c.in-Err.ensures.write in
    so.short

pub returns-in-Err-clause-statuses : goal.returns-in-Err-clause-statuses
returns-in-Err-clause-statuses g c =
    let so = ended c.refused.result c.args.api c.args.window c.in-Err.stopped.number (g.S.Source.left c.args.source.now) (g.S.Source.left c.run.new.source)
    (g.K.Sink.written c.args.out.now) (g.K.Sink.written c.run.new.out) (g.N.Sink.written c.args.err.now) (g.N.Sink.written c.refused.new.err)
    (g.S.Source.faults c.args.source.now) (g.S.Source.faults c.run.new.source) (g.K.Sink.faults c.args.out.now) (g.K.Sink.faults c.run.new.out)
    (g.N.Sink.faults c.args.err.now) (g.N.Sink.faults c.refused.new.err)
    c.in-Err.stopped.halt c.in-Err.ensures.finishes c.refused.ensures c.in-Err.ensures.read c.in-Err.ensures.write in
    so.statuses

pub returns-in-Err-clause-quiet : goal.returns-in-Err-clause-quiet
returns-in-Err-clause-quiet g c =
    let so = ended c.refused.result c.args.api c.args.window c.in-Err.stopped.number (g.S.Source.left c.args.source.now) (g.S.Source.left c.run.new.source)
    (g.K.Sink.written c.args.out.now) (g.K.Sink.written c.run.new.out) (g.N.Sink.written c.args.err.now) (g.N.Sink.written c.refused.new.err)
    (g.S.Source.faults c.args.source.now) (g.S.Source.faults c.run.new.source) (g.K.Sink.faults c.args.out.now) (g.K.Sink.faults c.run.new.out)
    (g.N.Sink.faults c.args.err.now) (g.N.Sink.faults c.refused.new.err)
    c.in-Err.stopped.halt c.in-Err.ensures.finishes c.refused.ensures c.in-Err.ensures.read c.in-Err.ensures.write in
    λ e. absurd (so.not_all e)

pub returns-in-Err-clause-told : goal.returns-in-Err-clause-told
returns-in-Err-clause-told g c =
    let so = ended c.refused.result c.args.api c.args.window c.in-Err.stopped.number (g.S.Source.left c.args.source.now) (g.S.Source.left c.run.new.source)
    (g.K.Sink.written c.args.out.now) (g.K.Sink.written c.run.new.out) (g.N.Sink.written c.args.err.now) (g.N.Sink.written c.refused.new.err)
    (g.S.Source.faults c.args.source.now) (g.S.Source.faults c.run.new.source) (g.K.Sink.faults c.args.out.now) (g.K.Sink.faults c.run.new.out)
    (g.N.Sink.faults c.args.err.now) (g.N.Sink.faults c.refused.new.err)
    c.in-Err.stopped.halt c.in-Err.ensures.finishes c.refused.ensures c.in-Err.ensures.read c.in-Err.ensures.write in
    so.told
