-- What requests left, one behind the other.
use Rattle.std.proofs.Common.{◌≡◌, ℕ, Bool, true, false, List, [], ◌++◌, Result, Ok, Err, refl, sym, ap, subst, ◌∙◌, append_assoc}
use Rattle.std.proofs.lemmas.List.{append-nil}
use Rattle.model_database.specs.declared.Code.{Code}
use Rattle.fdb_calls.specs.declared.Request.{Request}
use Rattle.fdb_calls.specs.declared.Reply.{Reply}
use Rattle.fdb_calls.specs.declared.Reply.TheVariants as reply
use Rattle.model_machine.specs.Worlds.{World, Stepped, HasWords, step}
use Rattle.client_core.specs.Stands.{CoreModel, StandsFor, Answers}
use Rattle.model_shell.specs.Requests.{Did, told, says, silent, asked, followed}
use Rattle.model_shell.specs.Sessions.{and_is_open}
use Rattle.fdb_shell.specs.declared.session.Session.{Session}
use Rattle.fdb_shell.specs.declared.session.Stop.{Stop}
use Rattle.fdb_shell.specs.declared.session.Stop.TheVariants as stop
use Rattle.fdb_shell.specs.Doing.{Stands, LetThrough, WasRefused, Asks, HasDone, Does, HasLeft, Leaves}

-- ---- one request

-- what a core answers that isn't want of memory
abbrev pub Took : Reply → CoreModel → (ℕ → ℕ) → Stepped → Type 0
Took reply core words stepped = (stepped.reply ≡ reply) × StandsFor core stepped.world × HasWords stepped.world words

pub took : (given : Reply) (core : CoreModel) (words : ℕ → ℕ) (stepped : Stepped) → (given ≡ reply.NoMemory → ⊥)
    → Answers given core words stepped → Took given core words stepped
took reply.Done core words stepped some h = h
took (reply.Value value) core words stepped some h = h
took (reply.KeyIs key) core words stepped some h = h
took (reply.PairsAre pairs) core words stepped some h = h
took (reply.Version version) core words stepped some h = h
took (reply.Life life) core words stepped some h = h
took (reply.Stamp stamp) core words stepped some h = h
took reply.NotYet core words stepped some h = h
took reply.Empty core words stepped some h = h
took (reply.Started machine instructions) core words stepped some h = h
took reply.NoMachine core words stepped some h = h
took (reply.Dir answer) core words stepped some h = h
took (reply.DirFault fault) core words stepped some h = h
took (reply.Fault code) core words stepped some h = h
took reply.NoMemory core words stepped some h = absurd (some refl)

-- a request that is let through prints what is said of its reply
pub told_through : (said : Reply → List ℕ) (world : World) (given : Reply) → ((code : Code) → given ≡ reply.Fault code → ⊥)
    → told said world given ≡ says (said given) world
told_through said world reply.Done through = refl
told_through said world (reply.Value value) through = refl
told_through said world (reply.KeyIs key) through = refl
told_through said world (reply.PairsAre pairs) through = refl
told_through said world (reply.Version version) through = refl
told_through said world (reply.Life life) through = refl
told_through said world (reply.Stamp stamp) through = refl
told_through said world reply.NotYet through = refl
told_through said world reply.Empty through = refl
told_through said world (reply.Started machine instructions) through = refl
told_through said world reply.NoMachine through = refl
told_through said world (reply.Dir answer) through = refl
told_through said world (reply.DirFault fault) through = refl
told_through said world (reply.Fault code) through = absurd (through code refl)
told_through said world reply.NoMemory through = refl

-- another text changes nothing else of a session
pub stands_printed : (session : Session) (text : List ℕ) (world : World) → Stands session world → Stands (record session { text = text }) world
stands_printed session text world h = record { core = h.core; words = h.words }

-- what is said of a reply was printed behind what was printed before
pub done_through : (said : Reply → List ℕ) (given : Reply) (before after : Session) (text : List ℕ) (world : World) (request : Request)
    → LetThrough given before after (step world request) → text ≡ after.text ++ said given
    → HasDone false before (record after { text = text }) (asked said world request)
done_through said given before after text world request h printed =
    let is : asked said world request ≡ says (said given) (step world request).world =
    ap (told said (step world request).world) h.reply_is ∙ told_through said (step world request).world given h.let_through in
    subst (λ (did : Did). HasDone false before (record after { text = text }) did) (sym is) (record {
      refused = refl;
      stands = stands_printed after text (step world request).world h.stands;
      is_open = h.is_open;
      text = printed ∙ ap (λ (x : List ℕ). x ++ said given) h.text;
    })

pub done_silently : (given : Reply) (before after : Session) (world : World) (request : Request)
    → LetThrough given before after (step world request) → HasDone false before after (asked silent world request)
done_silently given before after world request h =
    let is : asked silent world request ≡ says [] (step world request).world =
    ap (told silent (step world request).world) h.reply_is ∙ told_through silent (step world request).world given h.let_through in
    subst (λ (did : Did). HasDone false before after did) (sym is) (record {
      refused = refl;
      stands = h.stands;
      is_open = h.is_open;
      text = h.text ∙ sym (append-nil before.text);
    })

pub done_refused : (said : Reply → List ℕ) (before after : Session) (world : World) (request : Request)
    → WasRefused before after (step world request) → HasDone true before after (asked said world request)
done_refused said before after world request h =
    subst (λ (given : Reply). HasDone true before after (told said (step world request).world given)) (sym h.reply_is) (record {
      refused = refl;
      stands = h.stands;
      is_open = h.is_open;
      text = h.text;
    })

-- a request that was refused, or for which memory ran out
pub does_refused : (said : Reply → List ℕ) (why : Stop) (before after : Session) (world : World) (request : Request)
    → Asks (Err why) before after (step world request) → Does (Err why) before after (asked said world request)
does_refused said stop.Refused before after world request h = done_refused said before after world request h
does_refused said stop.NoMemory before after world request h = tt

-- ---- one behind the other

pub followed_off : (did : Did) (next : World → Did) → did.is_refused ≡ true → followed did next ≡ did
unfolding followed
followed_off did next e = rw e refl

pub followed_on : (did : Did) (next : World → Did) → did.is_refused ≡ false
    → followed did next ≡ record (next did.world) { text = did.text ++ (next did.world).text }
unfolding followed
followed_on did next e = rw e refl

-- what was refused stops there
pub does_stopped : (why : Stop) (before after : Session) (did : Did) (next : World → Did) → Does (Err why) before after did
    → Does (Err why) before after (followed did next)
does_stopped stop.Refused before after did next h =
    subst (λ (d : Did). HasDone true before after d) (sym (followed_off did next h.refused)) h
does_stopped stop.NoMemory before after did next h = tt

pub done_on : (is_refused : Bool) (before mid after : Session) (did : Did) (next : World → Did) → HasDone false before mid did
    → HasDone is_refused mid after (next did.world) → HasDone is_refused before after (followed did next)
done_on is_refused before mid after did next h k =
    subst (λ (d : Did). HasDone is_refused before after d) (sym (followed_on did next h.refused)) (record {
      refused = k.refused;
      stands = k.stands;
      is_open = k.is_open ∙ h.is_open;
      text = k.text ∙ ap (λ (x : List ℕ). x ++ (next did.world).text) h.text ∙ append_assoc before.text did.text (next did.world).text;
    })

-- what was let through goes on
pub does_on : (result : Result (Unit {0}) Stop) (before mid after : Session) (did : Did) (next : World → Did) → HasDone false before mid did
    → Does result mid after (next did.world) → Does result before after (followed did next)
does_on (Ok done) before mid after did next h k = done_on false before mid after did next h k
does_on (Err stop.Refused) before mid after did next h k = done_on true before mid after did next h k
does_on (Err stop.NoMemory) before mid after did next h k = tt

-- ---- lines

pub left_by : (is_refused is_open : Bool) (before after : Session) (did : Did) → after.is_open ≡ is_open → HasDone is_refused before after did
    → HasLeft before after (and_is_open is_open did)
left_by is_refused is_open before after did same h = record { session_is = record { stands = h.stands; is_open = same }; text = h.text }

-- what requests did that leave a transaction open or none as it was
pub leaves_by : (result : Result (Unit {0}) Stop) (is_open : Bool) (before after : Session) (did : Did) → before.is_open ≡ is_open
    → Does result before after did → Leaves result before after (and_is_open is_open did)
leaves_by (Ok done) is_open before after did same h = left_by false is_open before after did (h.is_open ∙ same) h
leaves_by (Err stop.Refused) is_open before after did same h = left_by true is_open before after did (h.is_open ∙ same) h
leaves_by (Err stop.NoMemory) is_open before after did same h = tt
