-- What a server stands for, and what it makes of a request.
use Rattle.std.specs.Prelude.{◌≡◌, ⊤, List, ℕ, Result, Ok, Err}
use Rattle.std.specs.declared.alloc.AllocError.{AllocError}
use Rattle.outside.specs.Seeds.{words_from}
use Rattle.model_machine.specs.Worlds.{World, Stepped, HasWords}
use Rattle.client_core.specs.Stands.{StandsFor}
use Rattle.fdb_wire.specs.Replies.{reply_bytes}
use Rattle.fdb_serve.specs.declared.server.Server.{Server}
use Rattle.fdb_serve.specs.Serving.{framed}

-- the core stands for a world, and the random words still to come are the world's
pub record Stands (server : Server) (world : World) : Type 0 where
  pub core : StandsFor server.core world
  pub words : HasWords world (words_from server.words)
