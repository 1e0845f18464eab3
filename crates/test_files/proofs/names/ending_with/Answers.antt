use Rattle.std.proofs.Common.{nat_eq, sym, ap, ◌∙◌}
use Rattle.std.specs.List.{ends_with}
use Rattle.std.proofs.lemmas.List.Elements.{All-push, All-same}
use Rattle.std.proofs.lemmas.List.Sorted.{All-permutation}
use Rattle.std.proofs.lemmas.Str.Pattern.{ends_text}
use Rattle.test_files.specs.Names.{HasEnding}
use Rattle.test_files.proofs.names.ending_with.Goals as goal
use Rattle.test_files.proofs.names.ending_with.Goals.{then-ends_with+in_ok-from_str+in_ok-push, else-ends_with}

pub loop-entry-preserved : goal.loop-entry-preserved
loop-entry-preserved g c =
    let ending = c.args.ending.now in
    elim c.if-ends_with.branch [
      | then-ends_with+in_ok-from_str+in_ok-push w ↦
          let ends = sym (ends_text c.ends_with.result ending c.file_name.result.now c.ends_with.ensures.cases) ∙ w.if-ends_with.true in
          let named = (w.in_ok-from_str.ensures.ok ∙ w.file_name-then-ends_with.ensures) ∙ sym c.file_name.ensures in
          All-same (HasEnding ending) c.if-ends_with.names.items _ (ap (λ v. v.items) w.names-is ∙ w.in_ok-push.ensures.items)
          (All-push (HasEnding ending) _ _ c.loop-entry.invariant (ap (λ name. ends_with nat_eq name ending) named ∙ ends))
      | else-ends_with w ↦ All-same (HasEnding ending) c.if-ends_with.names.items _ (ap (λ v. v.items) w.names-is) c.loop-entry.invariant
    ]

pub returns-clause-ending : goal.returns-clause-ending
returns-clause-ending g c = All-permutation (HasEnding c.args.ending.now) c.loop-entry.names.items _ c.sort_unstable.ensures.permutation c.loop-entry.invariant
