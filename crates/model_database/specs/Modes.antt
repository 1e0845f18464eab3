-- Streaming modes (API reference, "fdb_transaction_get_range").
use Rattle.std.specs.Prelude.{ℕ, ◌==◌, Bool, false}
use Rattle.model_database.specs.declared.mode.Mode.{Mode}
use Rattle.model_database.specs.declared.mode.Mode.TheVariants.{Exact}

-- Exact wants a limit
abbrev pub lacks_limit : Mode → ℕ → Bool
lacks_limit Exact limit = limit == 0
lacks_limit mode limit = false
