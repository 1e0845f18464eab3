-- What the requests of a command left is what its row of the table says.
use Rattle.std.proofs.Common.{◌≡◌, ℕ, Bool, true, false, List, [], ◌++◌, Some, None, Result, Ok, Err, refl, sym, ap, subst, ◌∙◌, append_assoc, true≢false}
use Rattle.std.specs.Prelude.{codes, Option}
use Rattle.fdb_calls.specs.declared.TxnCall.{TxnCall}
use Rattle.fdb_calls.specs.declared.TxnCall.TheVariants as call
use Rattle.fdb_calls.specs.declared.Request.TheVariants as request
use Rattle.fdb_calls.specs.declared.Reply.{Reply}
use Rattle.model_machine.specs.Worlds.{World, step}
use Rattle.model_shell.specs.declared.command.Command.{Command}
use Rattle.model_shell.specs.declared.command.Command.TheVariants as command
use Rattle.model_shell.specs.Commands.{command_of}
use Rattle.model_shell.specs.Requests.{Did, says, silent, value_said, made, called, committed, followed, read_by, written_by, printed_line, error_line}
use Rattle.model_shell.specs.Sessions as shell
use Rattle.model_shell.specs.Sessions.{and_is_open, only_says, no_transaction, begun_by, committed_by, reset_by, reads, writes, done, done_if, answered}
use Rattle.fdb_shell.specs.declared.session.Session.{Session}
use Rattle.fdb_shell.specs.declared.session.Stop.{Stop}
use Rattle.fdb_shell.specs.declared.session.Stop.TheVariants as stop
use Rattle.fdb_shell.specs.Doing.{Stands, IsSession, IsAnswered, LetThrough, Asks, HasDone, Does, HasLeft, Leaves}
use Rattle.fdb_shell.proofs.Doing.{done_through, done_silently, does_on, does_stopped, followed_on, leaves_by}

-- ---- requests under the one name

pub made_through : (given : Reply) (before after : Session) (world : World) (its_name : List ℕ) → its_name ≡ []
    → LetThrough given before after (step world (request.New its_name)) → HasDone false before after (made world)
made_through given before after world its_name is h =
    done_silently given before after world (request.New [])
    (subst (λ (n : List ℕ). LetThrough given before after (step world (request.New n))) is h)

pub asks_by_name : (result : Result Reply Stop) (before after : Session) (world : World) (its_call : TxnCall) (its_name : List ℕ) → its_name ≡ []
    → Asks result before after (step world (request.On its_name its_call)) → Asks result before after (step world (request.On [] its_call))
asks_by_name result before after world its_call its_name is h =
    subst (λ (n : List ℕ). Asks result before after (step world (request.On n its_call))) is h

-- a read of a copy of a key is one of the key, and what is said of the copy is said of the key
pub read_through : (given : Reply) (before after : Session) (text : List ℕ) (world : World) (key copied shown : List ℕ) → copied ≡ key → shown ≡ key
    → LetThrough given before after (step world (request.On [] (call.Get copied false))) → text ≡ after.text ++ value_said shown given
    → HasDone false before (record after { text = text }) (called (value_said key) (call.Get key false) world)
read_through given before after text world key copied shown is same h printed =
    done_through (value_said key) given before after text world (request.On [] (call.Get key false))
    (subst (λ (k : List ℕ). LetThrough given before after (step world (request.On [] (call.Get k false)))) is h)
    (subst (λ (k : List ℕ). text ≡ after.text ++ value_said k given) same printed)

-- a transaction is never refused
pub made_unrefused : (world : World) → (made world).is_refused ≡ false
unfolding step
made_unrefused world = refl

-- ---- what reads, in a transaction that is open and outside

pub read_open : (is_open : Bool) (result : Result (Unit {0}) Stop) (before after : Session) (act : World → Did) (world : World) → is_open ≡ true
    → Does result before after (act world) → Does result before after (read_by is_open act world)
unfolding read_by
read_open is_open result before after act world same h =
    subst (λ (b : Bool). Does result before after (read_by b act world)) (sym same) h

pub read_outside : (is_open : Bool) (result : Result (Unit {0}) Stop) (before mid after : Session) (act : World → Did) (world : World)
    → is_open ≡ false → HasDone false before mid (made world) → Does result mid after (act (made world).world)
    → Does result before after (read_by is_open act world)
unfolding read_by
read_outside is_open result before mid after act world same h k =
    subst (λ (b : Bool). Does result before after (read_by b act world)) (sym same) (does_on result before mid after (made world) act h k)

pub read_unmade : (is_open : Bool) (why : Stop) (before after : Session) (act : World → Did) (world : World) → is_open ≡ false
    → Does (Err why) before after (made world) → Does (Err why) before after (read_by is_open act world)
unfolding read_by
read_unmade is_open why before after act world same h =
    subst (λ (b : Bool). Does (Err why) before after (read_by b act world)) (sym same) (does_stopped why before after (made world) act h)

-- ---- what writes

abbrev says_done : World → Did
says_done = says (printed_line (codes "Done"))

pub written_open : (is_open : Bool) (result : Result (Unit {0}) Stop) (before mid after : Session) (act : World → Did) (world : World)
    → is_open ≡ true → HasDone false before mid (act world) → Does result mid after (says (printed_line (codes "Done")) (act world).world)
    → Does result before after (written_by is_open act world)
unfolding written_by
written_open is_open result before mid after act world same h k =
    subst (λ (b : Bool). Does result before after (written_by b act world)) (sym same)
    (does_on result before mid after (act world) says_done h k)

pub unwritten_open : (is_open : Bool) (why : Stop) (before after : Session) (act : World → Did) (world : World) → is_open ≡ true
    → Does (Err why) before after (act world) → Does (Err why) before after (written_by is_open act world)
unfolding written_by
unwritten_open is_open why before after act world same h =
    subst (λ (b : Bool). Does (Err why) before after (written_by b act world)) (sym same)
    (does_stopped why before after (act world) says_done h)

pub written_outside : (is_open : Bool) (result : Result (Unit {0}) Stop) (before mid after : Session) (act : World → Did) (world : World)
    → is_open ≡ false → HasDone false before mid (followed (made world) act) → Does result mid after (committed (followed (made world) act).world)
    → Does result before after (written_by is_open act world)
unfolding written_by
written_outside is_open result before mid after act world same h k =
    subst (λ (b : Bool). Does result before after (written_by b act world)) (sym same)
    (does_on result before mid after (followed (made world) act) committed h k)

pub unwritten_outside : (is_open : Bool) (why : Stop) (before after : Session) (act : World → Did) (world : World) → is_open ≡ false
    → Does (Err why) before after (followed (made world) act) → Does (Err why) before after (written_by is_open act world)
unfolding written_by
unwritten_outside is_open why before after act world same h =
    subst (λ (b : Bool). Does (Err why) before after (written_by b act world)) (sym same)
    (does_stopped why before after (followed (made world) act) committed h)

-- ---- lines

-- a line that asks nothing of the database
pub leaves_said : (result : Result (Unit {0}) Stop) (before after : Session) (state : shell.Session) (text : List ℕ) → IsSession before state
    → Does result before after (says text state.world) → Leaves result before after (only_says text state)
leaves_said (Ok made) before after state text is h =
    record { session_is = record { stands = h.stands; is_open = h.is_open ∙ is.is_open }; text = h.text }
leaves_said (Err stop.Refused) before after state text is h =
    record { session_is = record { stands = h.stands; is_open = h.is_open ∙ is.is_open }; text = h.text }
leaves_said (Err stop.NoMemory) before after state text is h = tt

-- the transaction is open in the code where it is in the definition
open_in : (before : Session) (state : shell.Session) (is_open : Bool) → IsSession before state → before.is_open ≡ is_open → is_open ≡ state.is_open
open_in before state is_open is same = sym same ∙ is.is_open

pub begun_again : (result : Result (Unit {0}) Stop) (before after : Session) (state : shell.Session) → IsSession before state
    → before.is_open ≡ true → Does result before after (says (error_line (codes "Already in transaction")) state.world)
    → Leaves result before after (done state command.Begin)
unfolding done
begun_again result before after state is same h =
    subst (λ (b : Bool). Leaves result before after (begun_by b state)) (open_in before state true is same)
    (leaves_said result before after state (error_line (codes "Already in transaction")) is h)

-- another mark of an open transaction changes nothing that a session stands for
pub stands_opened : (session : Session) (is_open : Bool) (world : World) → Stands session world → Stands (record session { is_open = is_open }) world
stands_opened session is_open world h = record { core = h.core; words = h.words }

abbrev started : List ℕ
started = printed_line (codes "Transaction started")

begun_left : (is_refused : Bool) (before mid after : Session) (state : shell.Session) → HasDone false before mid (made state.world)
    → HasDone is_refused (record mid { is_open = true }) after (says started (made state.world).world)
    → HasLeft before after (and_is_open true (followed (made state.world) (says started)))
begun_left is_refused before mid after state h k =
    subst (λ (did : Did). HasLeft before after (and_is_open true did)) (sym (followed_on (made state.world) (says started) h.refused)) (record {
      session_is = record { stands = k.stands; is_open = k.is_open };
      text = k.text ∙ ap (λ (x : List ℕ). x ++ started) h.text ∙ append_assoc before.text (made state.world).text started;
    })

begun_leaves : (result : Result (Unit {0}) Stop) (before mid after : Session) (state : shell.Session) → HasDone false before mid (made state.world)
    → Does result (record mid { is_open = true }) after (says started (made state.world).world)
    → Leaves result before after (and_is_open true (followed (made state.world) (says started)))
begun_leaves (Ok made_so) before mid after state h k = begun_left false before mid after state h k
begun_leaves (Err stop.Refused) before mid after state h k = begun_left true before mid after state h k
begun_leaves (Err stop.NoMemory) before mid after state h k = tt

pub begun_anew : (result : Result (Unit {0}) Stop) (before mid after : Session) (state : shell.Session) → IsSession before state
    → before.is_open ≡ false → HasDone false before mid (made state.world)
    → Does result (record mid { is_open = true }) after (says (printed_line (codes "Transaction started")) (made state.world).world)
    → Leaves result before after (done state command.Begin)
unfolding done
begun_anew result before mid after state is same h k =
    subst (λ (b : Bool). Leaves result before after (begun_by b state)) (open_in before state false is same)
    (begun_leaves result before mid after state h k)

-- only memory can be wanting where a transaction is made
pub unbegun : (why : Stop) (before after : Session) (state : shell.Session) → Does (Err why) before after (made state.world)
    → Leaves (Err why) before after (done state command.Begin)
unbegun stop.Refused before after state h = absurd (true≢false (sym h.refused ∙ made_unrefused state.world))
unbegun stop.NoMemory before after state h = tt

pub ended : (result : Result (Unit {0}) Stop) (before mid : Session) (state : shell.Session) → IsSession before state → before.is_open ≡ true
    → Does result before mid (committed state.world) → Leaves result before (record mid { is_open = false }) (done state command.Commit)
unfolding done
ended result before mid state is same h =
    subst (λ (b : Bool). Leaves result before (record mid { is_open = false }) (committed_by b state)) (open_in before state true is same) (leaves result h)
  where
    leaves : (result : Result (Unit {0}) Stop) → Does result before mid (committed state.world)
        → Leaves result before (record mid { is_open = false }) (and_is_open false (committed state.world))
    leaves (Ok made_so) h = record {
      session_is = record { stands = stands_opened mid false (committed state.world).world h.stands; is_open = refl };
      text = h.text;
    }
    leaves (Err stop.Refused) h = record {
      session_is = record { stands = stands_opened mid false (committed state.world).world h.stands; is_open = refl };
      text = h.text;
    }
    leaves (Err stop.NoMemory) h = tt

pub unended : (result : Result (Unit {0}) Stop) (before after : Session) (state : shell.Session) → IsSession before state → before.is_open ≡ false
    → Does result before after (says (error_line (codes "No active transaction")) state.world) → Leaves result before after (done state command.Commit)
unfolding done
unended result before after state is same h =
    subst (λ (b : Bool). Leaves result before after (committed_by b state)) (open_in before state false is same)
    (leaves_said result before after state no_transaction is h)

pub reset : (result : Result (Unit {0}) Stop) (before after : Session) (state : shell.Session) → IsSession before state → before.is_open ≡ true
    → Does result before after (followed (called silent call.Reset state.world) (says (printed_line (codes "Transaction reset"))))
    → Leaves result before after (done state command.Reset)
unfolding done
reset result before after state is same h =
    subst (λ (b : Bool). Leaves result before after (reset_by b state)) (open_in before state true is same)
    (leaves_by result true before after _ same h)

pub unreset : (result : Result (Unit {0}) Stop) (before after : Session) (state : shell.Session) → IsSession before state → before.is_open ≡ false
    → Does result before after (says (error_line (codes "No active transaction")) state.world) → Leaves result before after (done state command.Reset)
unfolding done
unreset result before after state is same h =
    subst (λ (b : Bool). Leaves result before after (reset_by b state)) (open_in before state false is same)
    (leaves_said result before after state no_transaction is h)

pub leaves_read : (result : Result (Unit {0}) Stop) (before after : Session) (state : shell.Session) (act : World → Did) → IsSession before state
    → Does result before after (read_by before.is_open act state.world) → Leaves result before after (reads state act)
leaves_read result before after state act is h =
    leaves_by result state.is_open before after (read_by state.is_open act state.world) is.is_open
    (subst (λ (b : Bool). Does result before after (read_by b act state.world)) is.is_open h)

pub leaves_written : (result : Result (Unit {0}) Stop) (before after : Session) (state : shell.Session) (act : World → Did) → IsSession before state
    → Does result before after (written_by before.is_open act state.world) → Leaves result before after (writes state act)
leaves_written result before after state act is h =
    leaves_by result state.is_open before after (written_by state.is_open act state.world) is.is_open
    (subst (λ (b : Bool). Does result before after (written_by b act state.world)) is.is_open h)

-- ---- the command of a line

pub leaves_answer : (result : Result (Unit {0}) Stop) (before after : Session) (state : shell.Session) (line : List ℕ) (its_command : Command)
    → command_of line ≡ Some its_command → Leaves result before after (done state its_command) → Leaves result before after (answered state line)
unfolding answered
leaves_answer result before after state line its_command is h =
    subst (λ (o : Option Command). Leaves result before after (done_if state o)) (sym is) h

pub leaves_no_command : (result : Result (Unit {0}) Stop) (before after : Session) (state : shell.Session) (line : List ℕ) → IsSession before state
    → command_of line ≡ None → Does result before after (says (error_line (codes "bad command")) state.world)
    → Leaves result before after (answered state line)
unfolding answered
leaves_no_command result before after state line its none h =
    subst (λ (o : Option Command). Leaves result before after (done_if state o)) (sym none)
    (leaves_said result before after state (error_line (codes "bad command")) its h)

-- what is printed for a line stands alone where nothing was printed before
pub is_answered : (before after : Session) (its_answer : shell.Answered) → before.text ≡ [] → HasLeft before after its_answer → IsAnswered after its_answer
is_answered before after its_answer none h =
    record { session_is = h.session_is; text = h.text ∙ ap (λ (x : List ℕ). x ++ its_answer.text) none }

pub answered_by : (result : Result (Unit {0}) Stop) (before after : Session) (its_answer : shell.Answered) → before.text ≡ []
    → (result ≡ Err stop.NoMemory → ⊥) → Leaves result before after its_answer → IsAnswered after its_answer
answered_by (Ok made_so) before after its_answer none some h = is_answered before after its_answer none h
answered_by (Err stop.Refused) before after its_answer none some h = is_answered before after its_answer none h
answered_by (Err stop.NoMemory) before after its_answer none some h = absurd (some refl)
