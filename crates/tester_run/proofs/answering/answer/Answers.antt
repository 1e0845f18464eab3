use Rattle.std.proofs.Common.{subst, sym, true≢false, refl}
use Rattle.std.specs.Prelude.{IfErr, IfOk}
use Rattle.model_commands.specs.declared.args.Args.{Args}
use Rattle.tester_run.specs.Answering.{IsMade, IsRefusedBy}
use Rattle.tester_run.specs.declared.fault.Refusal.{Refusal}
use Rattle.tester_run.proofs.Reading.{gen_made, gen_refused}
use Rattle.tester_run.proofs.answering.answer.Goals as goal

pub returns-in-Run-clause-made : goal.returns-in-Run-clause-made
returns-in-Run-clause-made g c =
    subst (λ (asked : Args). IfOk c.run.result (IsMade asked (g.S.Source.left c.args.source.now) (g.S.Source.left c.run.new.source)))
    (sym c.in-Run.is) c.run.ensures.made

pub returns-in-Run-clause-refused : goal.returns-in-Run-clause-refused
returns-in-Run-clause-refused g c =
    subst (λ (asked : Args). IfErr c.run.result (λ (refusal : Refusal). IsRefusedBy asked refusal (g.S.Source.left c.args.source.now)
    (g.S.Source.left c.run.new.source) (g.S.Source.faults c.args.source.now) (g.S.Source.faults c.run.new.source)))
    (sym c.in-Run.is) c.run.ensures.refused

pub returns-in-Replay-clause-made : goal.returns-in-Replay-clause-made
returns-in-Replay-clause-made g c =
    subst (λ (asked : Args). IfOk c.replayed.result (IsMade asked (g.S.Source.left c.args.source.now) (g.S.Source.left c.replayed.new.source)))
    (sym c.in-Replay.is) c.replayed.ensures.made

pub returns-in-Replay-clause-refused : goal.returns-in-Replay-clause-refused
returns-in-Replay-clause-refused g c =
    subst (λ (asked : Args). IfErr c.replayed.result (λ (refusal : Refusal). IsRefusedBy asked refusal (g.S.Source.left c.args.source.now)
    (g.S.Source.left c.replayed.new.source) (g.S.Source.faults c.args.source.now) (g.S.Source.faults c.replayed.new.source)))
    (sym c.in-Replay.is) c.replayed.ensures.refused

pub returns-in-Watch-clause-made : goal.returns-in-Watch-clause-made
returns-in-Watch-clause-made g c =
    subst (λ (asked : Args). IfOk c.watched.result (IsMade asked (g.S.Source.left c.args.source.now) (g.S.Source.left c.watched.new.source)))
    (sym c.in-Watch.is) c.watched.ensures.made

pub returns-in-Watch-clause-refused : goal.returns-in-Watch-clause-refused
returns-in-Watch-clause-refused g c =
    subst (λ (asked : Args). IfErr c.watched.result (λ (refusal : Refusal). IsRefusedBy asked refusal (g.S.Source.left c.args.source.now)
    (g.S.Source.left c.watched.new.source) (g.S.Source.faults c.args.source.now) (g.S.Source.faults c.watched.new.source)))
    (sym c.in-Watch.is) c.watched.ensures.refused

pub returns-in-Asm-clause-made : goal.returns-in-Asm-clause-made
returns-in-Asm-clause-made g c =
    subst (λ (asked : Args). IfOk c.assembled.result (IsMade asked (g.S.Source.left c.args.source.now) (g.S.Source.left c.assembled.new.source)))
    (sym c.in-Asm.is) c.assembled.ensures.made

pub returns-in-Asm-clause-refused : goal.returns-in-Asm-clause-refused
returns-in-Asm-clause-refused g c =
    subst (λ (asked : Args). IfErr c.assembled.result (λ (refusal : Refusal). IsRefusedBy asked refusal (g.S.Source.left c.args.source.now)
    (g.S.Source.left c.assembled.new.source) (g.S.Source.faults c.args.source.now) (g.S.Source.faults c.assembled.new.source)))
    (sym c.in-Asm.is) c.assembled.ensures.refused

pub returns-in-Disasm-clause-made : goal.returns-in-Disasm-clause-made
returns-in-Disasm-clause-made g c =
    subst (λ (asked : Args). IfOk c.disassembled.result (IsMade asked (g.S.Source.left c.args.source.now) (g.S.Source.left c.disassembled.new.source)))
    (sym c.in-Disasm.is) c.disassembled.ensures.made

pub returns-in-Disasm-clause-refused : goal.returns-in-Disasm-clause-refused
returns-in-Disasm-clause-refused g c =
    subst (λ (asked : Args). IfErr c.disassembled.result (λ (refusal : Refusal). IsRefusedBy asked refusal (g.S.Source.left c.args.source.now)
    (g.S.Source.left c.disassembled.new.source) (g.S.Source.faults c.args.source.now) (g.S.Source.faults c.disassembled.new.source)))
    (sym c.in-Disasm.is) c.disassembled.ensures.refused

pub returns-in-Gen-clause-made : goal.returns-in-Gen-clause-made
returns-in-Gen-clause-made g c =
    subst (λ (asked : Args). IfOk c.generated.result (IsMade asked (g.S.Source.left c.args.source.now) (g.S.Source.left c.args.source.now)))
    (sym c.in-Gen.is) (gen_made c.in-Gen.workers _ _ c.generated.result c.generated.ensures.made)

pub returns-in-Gen-clause-refused : goal.returns-in-Gen-clause-refused
returns-in-Gen-clause-refused g c =
    gen_refused c.args.asked.now c.generated.result _ _ _ _ c.generated.ensures.refused
