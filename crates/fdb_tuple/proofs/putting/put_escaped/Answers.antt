use Rattle.std.proofs.Common.{◌++◌, ◌∷◌, [], ap, ◌∙◌, rules, append_assoc}
use Rattle.fdb_tuple.proofs.Fronts.{front_more}
use Rattle.fdb_tuple.proofs.ZeroRuns.{escaped_more, escaped_last}
use Rattle.fdb_tuple.proofs.putting.put_escaped.Goals as goal

pub loop-run-preserved : goal.loop-run-preserved
loop-run-preserved c =
    let out = c.loop-run.out.items in
    let run' = c.in-Some.run'.now in
    let split = c.in-Some.ensures in
    let written = c.in_ok-extend_from_slice-2.ensures.items ∙ ap (λ out. out ++ 0 ∷ 0xFF ∷ []) c.in_ok-extend_from_slice.ensures.items in
    record {
      whole = escaped_more _ out c.loop-run.rest.now run' c.in-Some.after.now c.extend_from_slice-in-Some.new.self.items c.loop-run.invariant.whole split.0 split.1 written;
      front = rw (written, append_assoc) (front_more c.args.out.now.items out (run' ++ 0 ∷ 0xFF ∷ []) c.loop-run.invariant.front);
    }

pub returns-clause-ok : goal.returns-clause-ok
returns-clause-ok c = let e = escaped_last c.loop-run.rest.now c.in_default.ensures in rw (← c.loop-run.invariant.whole, e) (search rules)
