-- What a poll comes to.
use Rattle.std.specs.Prelude.{◌≡◌, ℕ, Bool, true, false}
use Rattle.fdb_calls.specs.declared.Request.TheVariants as request
use Rattle.model_machine.specs.declared.Awaits.{Awaits}
use Rattle.model_machine.specs.declared.Wait.{Wait}
use Rattle.model_machine.specs.declared.End.TheVariants as end
use Rattle.model_machine.specs.Machines.{Registers, Act, Does, Stops, Asks, polled_once, with_stack, below_waiting}
use Rattle.stack_machine.specs.declared.polls.Polled.{Polled}
use Rattle.stack_machine.specs.declared.polls.Polled.TheVariants as polled

-- what a poll comes to, on the registers as they stand then, where an instruction of this number goes on so, and awaits so
abbrev pub polled_act : Polled → ℕ → Registers → (again : Registers → Act) → (awaiting : Wait → Awaits) → Act
polled_act polled.Known number registers again awaiting = again registers
polled_act (polled.NotYet wait) number registers again awaiting = Asks registers (request.PollStamp wait.life) (awaiting wait)
polled_act polled.Bound number registers again awaiting = Stops registers (end.WaitBound number)
polled_act polled.Other number registers again awaiting = Does registers

-- one that isn't decided yet, where another poll may be made or not
abbrev pub PollsOn : Polled → (may_poll : Bool) → Wait → (old new : Registers) → Type 0
PollsOn answered true wait old new = (answered ≡ polled.NotYet (polled_once wait)) × (new ≡ old)
PollsOn answered false wait old new = (answered ≡ polled.Bound) × (new ≡ with_stack old (below_waiting old.stack))
