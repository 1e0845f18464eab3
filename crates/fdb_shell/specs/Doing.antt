-- What a session of the code stands for, and what its calls leave.
use Rattle.std.specs.Prelude.{◌≡◌, ⊤, Bool, true, false, ◌++◌, Result, Ok, Err, decimal}
use Rattle.outside.specs.Seeds.{words_from}
use Rattle.fdb_calls.specs.declared.Reply.{Reply}
use Rattle.fdb_calls.specs.declared.Reply.TheVariants as reply
use Rattle.model_database.specs.declared.Code.{Code}
use Rattle.model_machine.specs.Worlds.{World, Stepped, HasWords}
use Rattle.client_core.specs.Stands.{StandsFor}
use Rattle.model_shell.specs.Requests.{Did, error_line}
use Rattle.model_shell.specs.Sessions as shell
use Rattle.fdb_shell.specs.declared.session.Session.{Session}
use Rattle.fdb_shell.specs.declared.session.Stop.{Stop}
use Rattle.fdb_shell.specs.declared.session.Stop.TheVariants as stop

-- the core stands for a world, and the random words still to come are the world's
pub record Stands (session : Session) (world : World) : Type 0 where
  pub core : StandsFor session.core world
  pub words : HasWords world (words_from session.words)

-- the same of a session of the definitions
pub record IsSession (session : Session) (state : shell.Session) : Type 0 where
  pub stands : Stands session state.world
  pub is_open : session.is_open ≡ state.is_open

-- what a request that was let through left: its reply, and nothing was printed
pub record LetThrough (given : Reply) (before after : Session) (stepped : Stepped) : Type 0 where
  pub reply_is : stepped.reply ≡ given
  pub let_through : (code : Code) → given ≡ reply.Fault code → ⊥
  pub stands : Stands after stepped.world
  pub is_open : after.is_open ≡ before.is_open
  pub text : after.text ≡ before.text

-- what a request that was refused left: its code was printed
pub record WasRefused (before after : Session) (stepped : Stepped) : Type 0 where
  pub code : Code
  pub reply_is : stepped.reply ≡ reply.Fault code
  pub stands : Stands after stepped.world
  pub is_open : after.is_open ≡ before.is_open
  pub text : after.text ≡ before.text ++ error_line (decimal code.0)

-- a request was let through or refused; or memory ran out, and nothing is said
abbrev pub Asks : Result Reply Stop → (before after : Session) → Stepped → Type 0
Asks (Ok given) before after stepped = LetThrough given before after stepped
Asks (Err stop.Refused) before after stepped = WasRefused before after stepped
Asks (Err stop.NoMemory) before after stepped = ⊤

-- what requests did is done, and printed behind what was printed before
pub record HasDone (is_refused : Bool) (before after : Session) (did : Did) : Type 0 where
  pub refused : did.is_refused ≡ is_refused
  pub stands : Stands after did.world
  pub is_open : after.is_open ≡ before.is_open
  pub text : after.text ≡ before.text ++ did.text

-- the same by whether one was refused; or memory ran out, and nothing is said
abbrev pub Does : Result (Unit {0}) Stop → (before after : Session) → Did → Type 0
Does (Ok done) before after did = HasDone false before after did
Does (Err stop.Refused) before after did = HasDone true before after did
Does (Err stop.NoMemory) before after did = ⊤

-- what a line left, and what was printed for it
pub record IsAnswered (session : Session) (answered : shell.Answered) : Type 0 where
  pub session_is : IsSession session answered.session
  pub text : session.text ≡ answered.text

pub record HasLeft (before after : Session) (answered : shell.Answered) : Type 0 where
  pub session_is : IsSession after answered.session
  pub text : after.text ≡ before.text ++ answered.text

-- a line did so, refused or not; or memory ran out, and nothing is said
abbrev pub Leaves : Result (Unit {0}) Stop → (before after : Session) → shell.Answered → Type 0
Leaves (Ok done) before after answered = HasLeft before after answered
Leaves (Err stop.Refused) before after answered = HasLeft before after answered
Leaves (Err stop.NoMemory) before after answered = ⊤
