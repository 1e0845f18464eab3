-- Requests leave one legal history.
use Rattle.std.specs.Prelude.{ℕ, ◌<◌, ◌^◌, List, length, Option}
use Rattle.model_database.specs.declared.Api.{Api}
use Rattle.fdb_calls.specs.declared.Request.{Request}
use Rattle.laws_history.specs.Whole.{IsOneLegalHistory}
use Rattle.fdb_serve.specs.Serving.{first_world, world_after}

-- any requests, on a core that is loaded without pairs; no core takes more
abbrev pub AreServedLegal : Type 0
AreServedLegal = (api : Api) (window : Option ℕ) (requests : List Request) → length requests < 2 ^ 62
    → IsOneLegalHistory (world_after (first_world api window) requests).setting.history
