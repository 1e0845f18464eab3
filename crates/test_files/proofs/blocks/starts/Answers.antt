use Rattle.std.proofs.Common.{◌∷◌, ◌++◌, [], List, ℕ, sym, ap, ◌∙◌}
use Rattle.test_files.specs.Blocks.{begins_case}
use Rattle.test_files.proofs.Starts.{taken, left_out}
use Rattle.test_files.proofs.blocks.starts.Goals as goal
use Rattle.test_files.proofs.blocks.starts.Goals.{then-begins_case+in_ok-push, else-begins_case}

pub loop-place-preserved : goal.loop-place-preserved
loop-place-preserved c =
    let test = begins_case c.args.text.now in
    let place = c.loop-place.place in
    elim c.if-begins_case.branch [
      | then-begins_case+in_ok-push w ↦
          let more = taken test place (sym c.begins_case.ensures ∙ w.if-begins_case.true) in
          ap (λ v. v.items) w.starts-is ∙ w.in_ok-push.ensures.items ∙ ap (λ (l : List ℕ). l ++ place ∷ []) c.loop-place.invariant ∙ sym more
      | else-begins_case w ↦
          let same = left_out test place (sym c.begins_case.ensures ∙ w.if-begins_case.false) in
          ap (λ v. v.items) w.starts-is ∙ c.loop-place.invariant ∙ sym same
    ]
