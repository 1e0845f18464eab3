-- What the parts of the top call say together.
use Rattle.std.proofs.Common.{◌≡◌, ◌≢◌, ℕ, ◌^◌, ◌<◌, ◌≤◌, Bool, true, false, true≢false, cond, ⊎_elim, List, [], ◌++◌, length, Option, Some, None, Result, Ok, Err, refl, sym, ap, subst, ◌∙◌, inl, inr, ◌⊎◌, arith}
use Rattle.std.specs.Prelude.{IfOk, IfSome}
use Rattle.std.specs.Io.KnownBytes.{Appends, IsAtEnd}
use Rattle.outside.specs.Counts.{Rose}
use Rattle.outside.specs.Streams.{AppendsFront}
use Rattle.model_commands.specs.declared.args.Args.{Args}
use Rattle.model_commands.specs.declared.args.Args.TheVariants as args
use Rattle.laws_history.specs.Whole.{AreRunsLegal, IsOneLegalHistory}
use Rattle.laws_prefixes.specs.Prefixes.{GrantsAreApart, RunsArePrefixesApart}
use Rattle.model_lines.specs.Inputs.{IsSmall}
use Rattle.std.specs.List.{list_all, AllByRecursion}
use Rattle.model_machine.specs.Machines.{Progress}
use Rattle.model_machine.specs.Runs.{Run, RunsTo, has_ended, status_of}
use Rattle.tester_run.specs.Arguments.{arguments_of}
use Rattle.tester_run.specs.Answering.{IsMade}
use Rattle.tester_run.specs.Outcomes.{IsLawful, IsLegal, Finishes, BreaksOff, KeepsPrefixesApart}
use Rattle.tester_run.specs.Statuses.{write_fault, IsFinal}
use Rattle.tester_run.specs.Rendered.{Answers}
use Rattle.machine_runs.specs.declared.running.Rendered.{Rendered}

abbrev some_args : Args → Option Args
some_args asked = Some asked

-- a count that stays 0 has not risen
pub no_rise : Rose 0 0 → ⊥
no_rise rose = omega arith

-- the status of a run is final
final_by : (b : Bool) → IsFinal (cond b 0 3)
final_by true = inl refl
final_by false = inr refl

final_run : (run : Run) → IsFinal (status_of run)
final_run run = final_by (list_all (λ (progress : Progress). has_ended progress.machine.state) run.machines)

-- so is each that a command answers
final_of : (asked : Args) (left : Option (List ℕ)) (order output : List ℕ) (status : ℕ) → Answers left asked order output status → IsFinal status
final_of (args.Run arguments) left order output status is = subst IsFinal (sym is.dumps.status_is) (final_run is.dumps.run)
final_of (args.Replay arguments) left order output status is = subst IsFinal (sym is.dumps.status_is) (final_run is.dumps.run)
final_of (args.Gen workers) left order output status is = inl is.sums.status_is
final_of args.Watch left order output status is = inl is.status_is
final_of args.Asm left order output status is = inl is.status_is
final_of args.Disasm left order output status is = inl is.status_is

-- what was made has a final status
pub made_final : (asked : Args) (left after : Option (List ℕ)) (rendered : Rendered) → IsMade asked left after rendered → IsFinal rendered.status
made_final asked left after rendered made = final_of asked left rendered.order rendered.output.items rendered.status made.answers

pub not_write_fault : (status : ℕ) → IsFinal status → status ≢ write_fault
not_write_fault status final e =
    ⊎_elim (λ z. (let h : 0 ≡ 5 = sym z ∙ e in absurd (omega arith))) (λ z. (let h : 3 ≡ 5 = sym z ∙ e in absurd (omega arith))) final

-- where the status is final it is the one that was answered
final_is : (status answered : ℕ) → (status ≡ answered) ⊎ (status ≡ write_fault) → IsFinal status → status ≡ answered
final_is status answered (inl e) final = e
final_is status answered (inr e) final = absurd (not_write_fault status final e)

-- a final status
pub delivered : (words : Option Args) (asked : Args) (left after before written : Option (List ℕ)) (rendered : Rendered) (order : List ℕ)
    (status : ℕ)
    → words ≡ some_args asked → IsMade asked left after rendered → order ≡ rendered.order
    → (status ≡ rendered.status) ⊎ (status ≡ write_fault)
    → (status ≢ write_fault → Appends before written rendered.output.items) → IsFinal status
    → IfSome words (λ its. Finishes left its order status before written)
delivered words asked left after before written rendered order status words_are made order_is status_is whole final =
    subst (λ (w : Option Args). IfSome w (λ its. Finishes left its order status before written)) (sym words_are) (record {
      output = rendered.output.items;
      answers =
          subst (λ (o : List ℕ). Answers left asked o rendered.output.items status) (sym order_is)
          (subst (λ (n : ℕ). Answers left asked rendered.order rendered.output.items n) (sym (final_is status rendered.status status_is final)) made.answers);
      written = whole (not_write_fault status final);
    })

-- a sink that failed
pub broken_off : (words : Option Args) (asked : Args) (left after before written : Option (List ℕ)) (rendered : Rendered) (order : List ℕ)
    → words ≡ some_args asked → IsMade asked left after rendered → order ≡ rendered.order
    → AppendsFront before written rendered.output.items → IfSome words (λ its. BreaksOff left its order before written)
broken_off words asked left after before written rendered order words_are made order_is front =
    subst (λ (w : Option Args). IfSome w (λ its. BreaksOff left its order before written)) (sym words_are) (record {
      output = rendered.output.items;
      status = rendered.status;
      answers = subst (λ (o : List ℕ). Answers left asked o rendered.output.items rendered.status) (sym order_is) made.answers;
      written = front;
    })

-- each run of the order is legal
pub kept_legal : (words : Option Args) (asked : Args) (rendered : Rendered) (order : List ℕ)
    → words ≡ some_args asked → order ≡ rendered.order → length rendered.order < 2 ^ 62 → AreRunsLegal
    → IfSome words (λ its. IsLegal its order)
kept_legal words asked rendered order words_are is short law =
    subst (λ (w : Option Args). IfSome w (λ its. IsLegal its order)) (sym words_are)
    (elim (arguments_of asked) as (λ found. IfSome found (λ arguments. (pairs : List (List ℕ × List ℕ)) (run : Run)
    → AllByRecursion IsSmall pairs → RunsTo pairs arguments order run → IsOneLegalHistory run.world.setting.history)) [
      | None ↦ tt
      | Some arguments ↦ λ pairs run small runs.
          law pairs arguments order run small (subst (λ (o : List ℕ). length o < 2 ^ 62) (sym is) short) runs.runs
    ])

-- the numbers that allocators granted are apart in each run of the order
pub kept_apart : (words : Option Args) (order : List ℕ) → RunsArePrefixesApart → IfSome words (λ its. KeepsPrefixesApart its order)
kept_apart None order law = tt
kept_apart (Some asked) order law =
    elim (arguments_of asked) as (λ found. IfSome found (λ arguments. (pairs : List (List ℕ × List ℕ)) (run : Run)
    → RunsTo pairs arguments order run → GrantsAreApart run.world.setting.history)) [
      | None ↦ tt
      | Some arguments ↦ λ pairs run runs. law pairs arguments order run runs.runs
    ]

-- where no sink failed, the status is final
pub delivered_lawful : (words : Option Args) (left : Option (List ℕ)) (rendered_status status : ℕ)
    (read read_after written written_after : ℕ)
    → IsFinal rendered_status → (status ≡ rendered_status) ⊎ (status ≡ write_fault) → (status ≡ write_fault → Rose written written_after)
    → IsLawful words left read read_after written written_after → IsFinal status
delivered_lawful words left rendered_status status read read_after written written_after final (inl is) cause lawful =
    subst IsFinal (sym is) final
delivered_lawful words left rendered_status status read read_after written written_after final (inr failed) cause lawful =
    absurd (lawful.written (cause failed))
