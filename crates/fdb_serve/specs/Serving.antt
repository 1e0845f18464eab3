-- What is served: requests come in frames, and each is answered by a frame before the next is read.
use Rattle.std.specs.Prelude.{ℕ, List, [], ◌∷◌, ◌++◌, length, flat_map, Option}
use Rattle.std.specs.Int.{w32, to_be_bytes}
use Rattle.model_commands.specs.declared.args.RunArgs.{RunArgs}
use Rattle.model_database.specs.declared.Api.{Api}
use Rattle.fdb_calls.specs.declared.Request.{Request}
use Rattle.model_machine.specs.Worlds.{World, begun, step}
use Rattle.fdb_wire.specs.Requests.{request_bytes}
use Rattle.fdb_wire.specs.Replies.{reply_bytes}

-- a frame: the number of its bytes in 4 bytes, the highest first, and they
unfoldable pub framed : (bytes : List ℕ) → List ℕ
framed bytes = to_be_bytes w32 (length bytes) ++ bytes

-- the frames of requests, one behind the other
abbrev pub frames_of : List Request → List ℕ
frames_of requests = flat_map (λ request. framed (request_bytes request)) requests

-- the frames that answer requests, each by the reply of its step in the world that the one before left
unfoldable pub answers_to : World → List Request → List ℕ
answers_to world [] = []
answers_to world (request ∷ requests) = framed (reply_bytes (step world request).reply) ++ answers_to (step world request).world requests

-- the world that requests leave
unfoldable pub world_after : World → List Request → World
world_after world [] = world
world_after world (request ∷ requests) = world_after (step world request).world requests

-- the core that serves is loaded without pairs, and no machine runs in it; its API version and how many versions stay readable are asked for
abbrev pub serve_arguments : Api → (window : Option ℕ) → RunArgs
serve_arguments api window = record { prefix = []; api = api; seed = 0; polls = 1; window = window }

abbrev pub first_world : Api → (window : Option ℕ) → World
first_world api window = begun [] (serve_arguments api window)

-- what is answered to requests
abbrev pub served : Api → (window : Option ℕ) → List Request → List ℕ
served api window requests = answers_to (first_world api window) requests
