-- What a machine and those that it started have come to, all ended.
use Rattle.std.specs.Prelude.{◌≡◌, ℕ, List, ◌∷◌}
use Rattle.std.specs.List.{All, Any}
use Rattle.request_line.specs.History.{IsInSpan}
use Rattle.network.specs.Clients.{client_line}
use Rattle.threaded_machine.specs.declared.threaded.ThreadedMachine.{ThreadedMachine}
use Rattle.threaded_machine.specs.Threaded.{history_of, machine_in, HasEnded, HasStarted, IsLater}

-- one has the options of the other
abbrev pub HasOptionsOf : ThreadedMachine → ThreadedMachine → Type 0
HasOptionsOf machine other = (machine_in other).options ≡ (machine_in machine).options

-- The first is this machine at its end, and each other was started by one of them. Their senders are of its line, they have its
-- options, and their spans cover its span.
pub record IsTeamOf (machine : ThreadedMachine) (ended : List ThreadedMachine) : Type 0 where
  pub own : ThreadedMachine
  pub others : List ThreadedMachine
  pub parts : ended ≡ own ∷ others
  pub later : IsLater machine own
  pub have_ended : All HasEnded ended
  pub have_started : All (λ (other : ThreadedMachine). Any (λ (starter : ThreadedMachine). HasStarted starter other) ended) others
  pub one_line : All (λ (one : ThreadedMachine). client_line one.client ≡ client_line machine.client) ended
  pub same_options : All (HasOptionsOf machine) ended
  pub cover : (p : ℕ) → IsInSpan (history_of machine) p → Any (λ (one : ThreadedMachine). IsInSpan (history_of one) p) ended
