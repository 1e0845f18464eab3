-- Requests of the shell, one behind the other, and what is printed of their replies.
use Rattle.std.specs.Prelude.{ℕ, ℤ, Bool, true, false, if◌then◌else◌, List, [], ◌∷◌, ◌++◌, ◌==◌, length, flat_map, Some, None, codes, decimal}
use Rattle.std.specs.Fmt.{signed_decimal}
use Rattle.model_lines.specs.Printing.{line_feed}
use Rattle.fdb_calls.specs.declared.TxnCall.{TxnCall}
use Rattle.fdb_calls.specs.declared.TxnCall.TheVariants as call
use Rattle.fdb_calls.specs.declared.Request.{Request}
use Rattle.fdb_calls.specs.declared.Request.TheVariants as request
use Rattle.fdb_calls.specs.declared.Reply.{Reply}
use Rattle.fdb_calls.specs.declared.Reply.TheVariants as reply
use Rattle.model_machine.specs.Worlds.{World, step}
use Rattle.model_shell.specs.Tokens.{token}

-- ---- printed lines

abbrev pub printed_line : (text : List ℕ) → List ℕ
printed_line text = text ++ line_feed ∷ []

-- why a line asks nothing that is done: a text or a code
abbrev pub error_line : (text : List ℕ) → List ℕ
error_line text = codes "ERROR: " ++ printed_line text

-- a key and its value
unfoldable pub pair_text : (key value : List ℕ) → List ℕ
pair_text key value = token key ++ codes " is " ++ printed_line (token value)

-- a key that has none
unfoldable pub missing_text : (key : List ℕ) → List ℕ
missing_text key = token key ++ codes ": not found" ++ line_feed ∷ []

-- the version that a commit made, or -1
unfoldable pub committed_text : (version : ℤ) → List ℕ
committed_text version = codes "Committed (" ++ signed_decimal version ++ printed_line (codes ")")

-- the pairs of a range
abbrev pub pairs_text : List (List ℕ × List ℕ) → List ℕ
pairs_text pairs =
    if length pairs == 0 then printed_line (codes "empty")
    else flat_map (λ entry. pair_text entry.0 entry.1) pairs

-- ---- what is printed of a reply; each other reply prints nothing

abbrev pub value_said : (key : List ℕ) → Reply → List ℕ
value_said key (reply.Value (Some value)) = pair_text key value
value_said key (reply.Value None) = missing_text key
value_said key other = []

abbrev pub pairs_said : Reply → List ℕ
pairs_said (reply.PairsAre pairs) = pairs_text pairs
pairs_said other = []

abbrev pub version_said : Reply → List ℕ
version_said (reply.Version version) = committed_text version
version_said other = []

abbrev pub silent : Reply → List ℕ
silent reply = []

-- ---- requests

-- what requests leave: the world, what was printed, and whether one was refused
pub record Did : Type 0 where
  pub world : World
  pub text : List ℕ
  pub is_refused : Bool

-- a text is printed
abbrev pub says : (text : List ℕ) → World → Did
says text world = record { world = world; text = text; is_refused = false }

-- a reply, and the world behind it: a refused request prints its code
abbrev pub told : (said : Reply → List ℕ) → World → Reply → Did
told said world (reply.Fault code) = record { world = world; text = error_line (decimal code.0); is_refused = true }
told said world other = says (said other) world

-- one request
abbrev pub asked : (said : Reply → List ℕ) → World → Request → Did
asked said world request = told said (step world request).world (step world request).reply

-- what comes next, unless a request was refused
unfoldable pub followed : Did → (World → Did) → Did
followed did next = if did.is_refused then did else record (next did.world) { text = did.text ++ (next did.world).text }

-- ---- the shell's requests, which all use one name

abbrev pub name : List ℕ
name = []

abbrev pub made : World → Did
made world = asked silent world (request.New name)

abbrev pub called : (said : Reply → List ℕ) → TxnCall → World → Did
called said call world = asked said world (request.On name call)

-- a commit, and the version that it made
unfoldable pub committed : World → Did
committed world = followed (called silent call.Commit world) (called version_said call.CommittedVersion)

-- ---- in a transaction that is open, or outside: each line is a transaction of its own there

-- what reads
unfoldable pub read_by : (is_open : Bool) → (reads : World → Did) → World → Did
read_by true reads world = reads world
read_by false reads world = followed (made world) reads

-- what writes: it is committed at once outside
unfoldable pub written_by : (is_open : Bool) → (writes : World → Did) → World → Did
written_by true writes world = followed (writes world) (says (printed_line (codes "Done")))
written_by false writes world = followed (followed (made world) writes) committed
