-- The requests that were read so far were answered, and the counts of faults didn't fall.
use Rattle.std.proofs.Common.{◌≡◌, ◌≤◌, ◌-◌, ◌^◌, ℕ, Option}
use Rattle.model_database.specs.declared.Api.{Api}
use Rattle.fdb_serve.specs.Serving.{first_world}
use Rattle.fdb_serve.specs.Standing.{Stands}
use Rattle.fdb_serve.specs.Endings.{IsAt}
use Rattle.fdb_serve.proofs.top.answer_all.Given as goal

abbrev pub invariant-loop-request : goal.invariant-loop-request
invariant-loop-request g l = record {
  at : (api : Api) (window : Option ℕ) → Stands l.fn.server (first_world api window) → l.fn.server.core.applied ≡ 0
      → IsAt api window l.server (g.S.Source.left l.fn.source) (g.S.Source.left l.source) (g.K.Sink.written l.fn.out) (g.K.Sink.written l.out);
  few : l.fn.server.core.applied ≡ 0 → l.server.core.applied ≤ 2 ^ 62;
  later_read : g.S.Source.faults l.fn.source ≤ g.S.Source.faults l.source;
  later : g.K.Sink.faults l.fn.out ≤ g.K.Sink.faults l.out;
}

abbrev pub decreases-loop-request : goal.decreases-loop-request
decreases-loop-request g l = 2 ^ 62 - l.server.core.applied
