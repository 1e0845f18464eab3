-- A machine by itself, over the replies that it gets.
use Rattle.std.specs.Prelude.{◌≡◌, List, [], ◌∷◌, map, Option, Some}
use Rattle.std.specs.List.{fold}
use Rattle.fdb_calls.specs.declared.Request.{Request}
use Rattle.fdb_calls.specs.declared.Reply.{Reply}
use Rattle.model_machine.specs.declared.State.TheVariants as state
use Rattle.model_machine.specs.Machines.{Machine, Progress, resumed, silent}
use Rattle.model_machine.specs.Runs.{at_rest, first_registers}

-- a machine as it was started: before its first instruction, with its registers as they are then
abbrev pub anew : Machine → Machine
anew machine = record machine {
  next = 0;
  registers = first_registers machine.prefix;
  state = state.Running;
}

-- a machine at its first request or its end, as it was started
abbrev pub begun_as : Machine → Progress
begun_as machine = at_rest (silent (anew machine))

-- a machine after a reply, at its next request or its end
abbrev pub after_reply : Progress → Reply → Progress
after_reply progress reply = at_rest (resumed progress.machine reply)

-- a machine after replies, one after the other
abbrev pub after_replies : Progress → List Reply → Progress
after_replies progress replies = fold after_reply progress replies

-- what it asked before each of these replies
abbrev pub asked_over : Progress → List Reply → List (Option Request)
asked_over progress [] = []
asked_over progress (reply ∷ replies) = progress.asks ∷ asked_over (after_reply progress reply) replies

-- A machine that began so asked these requests, got a reply to each before it asked the next, and is this machine after them.
pub record IsAlone (begun : Progress) (requests : List Request) (replies : List Reply) (now : Progress) : Type 0 where
  pub asked : map Some requests ≡ asked_over begun replies
  pub now_is : now ≡ after_replies begun replies
