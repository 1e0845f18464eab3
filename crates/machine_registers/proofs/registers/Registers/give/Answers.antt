use Rattle.std.proofs.Common.{List, ◌∷◌, [], subst, sym, ap, ◌∙◌}
use Rattle.model_machine.specs.declared.Item.{Item}
use Rattle.model_machine.specs.Machines.{Registers, pushing, with_stack}
use Rattle.stack_items.proofs.Pushing.{pushed-append}
use Rattle.stack_directories.specs.Directing.{AreElements}
use Rattle.machine_registers.proofs.registers.Registers.give.Goals as goal

pub put-requires : goal.put-requires
put-requires c = (subst AreElements c.in-Some.ensures.steps.0 c.loop-element.invariant.left).0

pub loop-element-preserved : goal.loop-element-preserved
loop-element-preserved c =
    let element = c.in-Some.element in
    let start = c.args.self.now in record {
      lies =
          c.in_ok-put.ensures ∙ ap (λ (registers : Registers). pushing c.args.number registers element) c.loop-element.invariant.lies
          ∙ ap (λ (stack : List Item). with_stack start stack) (sym (pushed-append c.args.number c.loop-element.yielded (element ∷ []) start.stack));
      left = (subst AreElements c.in-Some.ensures.steps.0 c.loop-element.invariant.left).1;
    }
