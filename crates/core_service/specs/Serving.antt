-- What a core answers that serves machines.
use Rattle.std.specs.Prelude.{ℕ}
use Rattle.outside.specs.Seeds.{words_from}
use Rattle.fdb_calls.specs.declared.Request.{Request}
use Rattle.fdb_calls.specs.declared.Reply.{Reply}
use Rattle.model_machine.specs.Worlds.{World, HasWords, step}
use Rattle.client_core.specs.Stands.{StandsFor, Answers}
use Rattle.core_service.specs.declared.service.CoreService.{CoreService}

-- it answers a request by the step of every world for which it stands, or memory ran out
abbrev pub CoreAnswers : CoreService → (machine : ℕ) → Request → Reply → CoreService → Type 0
CoreAnswers before machine request reply after = (world : World) → StandsFor before.core world
    → HasWords world (words_from before.words) → Answers reply after.core (words_from after.words) (step world request)
