-- What a call answers, by what its steps did.
use Rattle.std.proofs.Common.{◌≡◌, ℕ, zero, suc, Bool, false, List, [], ◌∷◌, ◌++◌, take, Option, Some, None, Result, Ok, Err, refl, sym, ap, ◌∙◌, subst}
use Rattle.std.specs.FinMap as finite
use Rattle.model_database.specs.declared.Code.{Code}
use Rattle.model_database.specs.Databases.{Mutation, Set, Clear}
use Rattle.model_database.specs.Histories.{Setting}
use Rattle.model_database.specs.Reads.{Read, Get, GetKeyRange}
use Rattle.model_database.specs.Slices.{Entries, slice}
use Rattle.model_database.specs.Transactions.{Transaction, view}
use Rattle.fdb_calls.specs.declared.Reply.{Reply}
use Rattle.fdb_calls.specs.declared.Reply.TheVariants as reply
use Rattle.fdb_calls.specs.declared.fault.TrFault.{TrFault}
use Rattle.fdb_calls.specs.declared.fault.TrFault.TheVariants as tr
use Rattle.fdb_calls.specs.Answers.{Answered}
use Rattle.model_allocator.specs.Acts.{Act, Reads, Writes, act_called, all_acted, refusal}
use Rattle.model_allocator.proofs.Reading.{value_read, pairs_read}
use Rattle.model_recipes.specs.declared.fault.RecipeFault.{RecipeFault}
use Rattle.model_recipes.specs.declared.fault.RecipeFault.TheVariants as fault
use Rattle.model_recipes.specs.Faults.{fault_of, from_tr}
use Rattle.model_recipes.specs.Turns.{Turn, Call, replying, turned_by, acts, acts_behind, ending, written, EndsIn, StopsIn, IsAnswered}
use Rattle.model_recipes.proofs.Calling.{each_through, behind_through, refused_first, none_acted}
use Rattle.recipe_layers.specs.Steps.{IsRead, Tells, IsWritten}

-- ---- memory ran out

-- before the first act
pub stops_first : (setting : Setting) (stands : Transaction → Type 0) (acts : List Act) (t : Transaction) → stands t → StopsIn setting stands acts t
stops_first setting stands acts t is = record {
  count = 0;
  let_through = (none_acted setting t).0;
  left = subst stands (sym (none_acted setting t).1) is;
}

-- among the acts behind one that was let through
pub stops_behind : (setting : Setting) (stands : Transaction → Type 0) (act : Act) (acts : List Act) (t : Transaction)
    → refusal (act_called setting t act).reply ≡ None → StopsIn setting stands acts (act_called setting t act).transaction
    → StopsIn setting stands (act ∷ acts) t
stops_behind setting stands act acts t passed stops =
    let one = behind_through setting act (take stops.count acts) t passed in
    record {
      count = suc stops.count;
      let_through = one.refused ∙ stops.let_through;
      left = subst stands (sym one.left) stops.left;
    }

-- ---- the read

-- a fault of the read is the call's
pub read_stopped : {A X : Type 0} (good : A → Type 0) (f : RecipeFault) (setting : Setting) (stands : Transaction → Type 0) (call : Call X)
    (t : Transaction) → IsRead good (Err f) setting stands call.read t → IsAnswered {X = X} (Err f) setting stands call t
read_stopped good (fault.Tr code) setting stands call t is =
    let one = refused_first setting (Reads call.read false) (acts_behind call.turn) t code is.0 in
    (one.0, subst stands (sym one.1) is.1)
read_stopped good fault.NoMemory setting stands call t is = stops_first setting stands (acts call) t is
read_stopped good (fault.BadKey key) setting stands call t is = absurd is
read_stopped good fault.IndexEnd setting stands call t is = absurd is
read_stopped good (fault.PastEnd size) setting stands call t is = absurd is

-- the pairs of a range that were answered
pub pairs_are_read : (result : Result Entries TrFault) (setting : Setting) (stands : Transaction → Type 0) (begin end : List ℕ) (limit : ℕ)
    (backward : Bool) (t : Transaction)
    → Answered reply.PairsAre result stands t (act_called setting t (Reads (GetKeyRange begin end limit backward) false))
    → IsRead (λ pairs. pairs ≡ slice (view setting t) begin end limit backward) (from_tr result) setting stands
    (GetKeyRange begin end limit backward) t
pairs_are_read (Ok pairs) setting stands begin end limit backward t (is, after) =
    (ap refusal (sym is), pairs_read setting t false backward begin end limit pairs is, after)
pairs_are_read (Err (tr.Code code)) setting stands begin end limit backward t (is, after) = (ap refusal (sym is), after)
pairs_are_read (Err tr.NoMemory) setting stands begin end limit backward t is = is

-- the value of a key that was answered
pub value_is_read : (result : Result (Option (List ℕ)) TrFault) (setting : Setting) (stands : Transaction → Type 0) (key : List ℕ) (t : Transaction)
    → Answered reply.Value result stands t (act_called setting t (Reads (Get key) false))
    → IsRead (λ value. value ≡ finite.get (view setting t) key) (from_tr result) setting stands (Get key) t
value_is_read (Ok value) setting stands key t (is, after) = (ap refusal (sym is), value_read setting t false key value is, after)
value_is_read (Err (tr.Code code)) setting stands key t (is, after) = (ap refusal (sym is), after)
value_is_read (Err tr.NoMemory) setting stands key t is = is

-- ---- what was found out

-- a fault of its own ends the call behind its read
ended_behind : {X : Type 0} (f : RecipeFault) (setting : Setting) (stands : Transaction → Type 0) (call : Call X) (t : Transaction)
    → refusal (act_called setting t (Reads call.read false)).reply ≡ None → stands (act_called setting t (Reads call.read false)).transaction
    → call.turn ≡ Err f → EndsIn (Err f) stands call (all_acted setting (acts call) t)
ended_behind f setting stands call t passed after turn =
    let one = behind_through setting (Reads call.read false) (acts_behind call.turn) t passed in
    let u = (act_called setting t (Reads call.read false)).transaction in
    let none = ap (λ turn. (all_acted setting (acts_behind turn) u).refused) turn ∙ (none_acted setting u).0 in
    let left = ap (λ turn. (all_acted setting (acts_behind turn) u).transaction) turn ∙ (none_acted setting u).1 in
    (one.refused ∙ none, ap ending turn, subst stands (sym (one.left ∙ left)) after)

pub told_fault : {A B X : Type 0} (good : A → Type 0) (value : A) (f : RecipeFault) (said : Result B RecipeFault) (setting : Setting)
    (stands : Transaction → Type 0) (call : Call X) (t : Transaction) → IsRead good (Ok value) setting stands call.read t
    → Tells (Err f) said → ((f : RecipeFault) → said ≡ Err f → call.turn ≡ Err f) → IsAnswered {X = X} (Err f) setting stands call t
told_fault good value (fault.BadKey key) said setting stands call t read told turn =
    ended_behind (fault.BadKey key) setting stands call t read.0 read.2 (turn (fault.BadKey key) told)
told_fault good value fault.IndexEnd said setting stands call t read told turn =
    ended_behind fault.IndexEnd setting stands call t read.0 read.2 (turn fault.IndexEnd told)
told_fault good value (fault.PastEnd size) said setting stands call t read told turn =
    ended_behind (fault.PastEnd size) setting stands call t read.0 read.2 (turn (fault.PastEnd size) told)
told_fault good value (fault.Tr code) said setting stands call t read told turn = absurd told
told_fault good value fault.NoMemory said setting stands call t read told turn =
    stops_behind setting stands (Reads call.read false) (acts_behind call.turn) t read.0
    (stops_first setting stands (acts_behind call.turn) (act_called setting t (Reads call.read false)).transaction read.2)

-- memory ran out behind the read
pub read_short : {A X : Type 0} (good : A → Type 0) (value : A) (setting : Setting) (stands : Transaction → Type 0) (call : Call X) (t : Transaction)
    → IsRead good (Ok value) setting stands call.read t → IsAnswered {X = X} (Err fault.NoMemory) setting stands call t
read_short good value setting stands call t read =
    stops_behind setting stands (Reads call.read false) (acts_behind call.turn) t read.0
    (stops_first setting stands (acts_behind call.turn) (act_called setting t (Reads call.read false)).transaction read.2)

-- ---- the writes

-- one write that was answered
pub one_written : (result : Result (Unit {0}) TrFault) (setting : Setting) (stands : Transaction → Type 0) (mutation : Mutation) (t : Transaction)
    → Answered (λ (done : Unit {0}). reply.Done) result stands t (act_called setting t (Writes mutation))
    → IsWritten (from_tr result) setting stands (mutation ∷ []) t
one_written (Ok done) setting stands mutation t (is, after) =
    let one = behind_through setting (Writes mutation) [] t (ap refusal (sym is)) in
    let u = (act_called setting t (Writes mutation)).transaction in
    (one.refused ∙ (none_acted setting u).0, subst stands (sym (one.left ∙ (none_acted setting u).1)) after)
one_written (Err (tr.Code code)) setting stands mutation t (is, after) =
    let one = refused_first setting (Writes mutation) [] t code (ap refusal (sym is)) in
    (one.0, subst stands (sym one.1) after)
one_written (Err tr.NoMemory) setting stands mutation t is = stops_first setting stands (Writes mutation ∷ []) t is

-- no write
pub none_written : (setting : Setting) (stands : Transaction → Type 0) (t : Transaction) → stands t → IsWritten (Ok tt) setting stands [] t
none_written setting stands t is = ((none_acted setting t).0, subst stands (sym (none_acted setting t).1) is)

-- the reply behind the writes
pub replied : {A X : Type 0} (good : A → Type 0) (value : A) (turn : Turn X) (setting : Setting) (first stands : Transaction → Type 0) (call : Call X)
    (t : Transaction) → IsRead good (Ok value) setting first call.read t → call.turn ≡ Ok turn
    → ((u : Transaction) → first u → IsWritten (Ok tt) setting stands turn.writes u) → IsAnswered (Ok turn.reply) setting stands call t
replied good value turn setting first stands call t read turn_is writes =
    let one = behind_through setting (Reads call.read false) (acts_behind call.turn) t read.0 in
    let u = (act_called setting t (Reads call.read false)).transaction in
    let done = writes u read.2 in
    let refused = ap (λ turn. (all_acted setting (acts_behind turn) u).refused) turn_is in
    let left = ap (λ turn. (all_acted setting (acts_behind turn) u).transaction) turn_is in
    (one.refused ∙ refused ∙ done.0, ap ending turn_is, subst stands (sym (one.left ∙ left)) done.1)

-- a fault of a write is the call's
pub write_stopped : {A X : Type 0} (good : A → Type 0) (value : A) (f : RecipeFault) (turn : Turn X) (setting : Setting)
    (first stands : Transaction → Type 0) (call : Call X)
    (t : Transaction) → IsRead good (Ok value) setting first call.read t → call.turn ≡ Ok turn
    → ((u : Transaction) → first u → IsWritten (Err f) setting stands turn.writes u) → IsAnswered {X = X} (Err f) setting stands call t
write_stopped good value (fault.Tr code) turn setting first stands call t read turn_is writes =
    let one = behind_through setting (Reads call.read false) (acts_behind call.turn) t read.0 in
    let u = (act_called setting t (Reads call.read false)).transaction in
    let done = writes u read.2 in
    let refused = ap (λ turn. (all_acted setting (acts_behind turn) u).refused) turn_is in
    let left = ap (λ turn. (all_acted setting (acts_behind turn) u).transaction) turn_is in
    (one.refused ∙ refused ∙ done.0, subst stands (sym (one.left ∙ left)) done.1)
write_stopped good value fault.NoMemory turn setting first stands call t read turn_is writes =
    stops_behind setting stands (Reads call.read false) (acts_behind call.turn) t read.0
    (subst (λ turn. StopsIn setting stands (acts_behind turn) (act_called setting t (Reads call.read false)).transaction) (sym turn_is)
    (writes (act_called setting t (Reads call.read false)).transaction read.2))
write_stopped good value (fault.BadKey key) turn setting first stands call t read turn_is writes =
    absurd (writes (act_called setting t (Reads call.read false)).transaction read.2)
write_stopped good value fault.IndexEnd turn setting first stands call t read turn_is writes =
    absurd (writes (act_called setting t (Reads call.read false)).transaction read.2)
write_stopped good value (fault.PastEnd size) turn setting first stands call t read turn_is writes =
    absurd (writes (act_called setting t (Reads call.read false)).transaction read.2)

-- a call without a reply of its own answers what its writes do
pub written_all : {A : Type 0} (good : A → Type 0) (value : A) (result : Result (Unit {0}) RecipeFault) (turn : Turn (Unit {0})) (setting : Setting)
    (first stands : Transaction → Type 0) (call : Call (Unit {0})) (t : Transaction) → IsRead good (Ok value) setting first call.read t
    → call.turn ≡ Ok turn → ((u : Transaction) → first u → IsWritten result setting stands turn.writes u)
    → IsAnswered result setting stands call t
written_all good value (Ok done) turn setting first stands call t read turn_is writes =
    replied good value turn setting first stands call t read turn_is writes
written_all good value (Err f) turn setting first stands call t read turn_is writes =
    write_stopped good value f turn setting first stands call t read turn_is writes

-- ---- writes one behind the other

-- behind one that was let through
write_behind : (result : Result (Unit {0}) RecipeFault) (setting : Setting) (stands : Transaction → Type 0) (mutation : Mutation)
    (mutations : List Mutation) (t : Transaction) → refusal (act_called setting t (Writes mutation)).reply ≡ None
    → IsWritten result setting stands mutations (act_called setting t (Writes mutation)).transaction
    → IsWritten result setting stands (mutation ∷ mutations) t
write_behind (Ok done) setting stands mutation mutations t passed is =
    let one = behind_through setting (Writes mutation) (written mutations) t passed in
    (one.refused ∙ is.0, subst stands (sym one.left) is.1)
write_behind (Err (fault.Tr code)) setting stands mutation mutations t passed is =
    let one = behind_through setting (Writes mutation) (written mutations) t passed in
    (one.refused ∙ is.0, subst stands (sym one.left) is.1)
write_behind (Err fault.NoMemory) setting stands mutation mutations t passed is =
    stops_behind setting stands (Writes mutation) (written mutations) t passed is
write_behind (Err (fault.BadKey key)) setting stands mutation mutations t passed is = absurd is
write_behind (Err fault.IndexEnd) setting stands mutation mutations t passed is = absurd is
write_behind (Err (fault.PastEnd size)) setting stands mutation mutations t passed is = absurd is

-- behind some that were let through
pub written_more : (result : Result (Unit {0}) RecipeFault) (setting : Setting) (first stands : Transaction → Type 0)
    (mutations more : List Mutation) (t : Transaction) → IsWritten (Ok tt) setting first mutations t
    → ((u : Transaction) → first u → IsWritten result setting stands more u) → IsWritten result setting stands (mutations ++ more) t
written_more result setting first stands [] more t is others = others t (subst first (none_acted setting t).1 is.1)
written_more result setting first stands (mutation ∷ mutations) more t is others =
    let one = each_through setting (Writes mutation) (written mutations) t is.0 in
    write_behind result setting stands mutation (mutations ++ more) t one.passed
    (written_more result setting first stands mutations more (act_called setting t (Writes mutation)).transaction
    (one.others, subst first one.left is.1) others)

-- a write that was refused is the last
pub first_refused : (f : TrFault) (setting : Setting) (stands : Transaction → Type 0) (mutation : Mutation) (mutations : List Mutation)
    (t : Transaction) → Answered (λ (done : Unit {0}). reply.Done) (Err f) stands t (act_called setting t (Writes mutation))
    → IsWritten (Err (fault_of f)) setting stands (mutation ∷ mutations) t
first_refused (tr.Code code) setting stands mutation mutations t (is, after) =
    let one = refused_first setting (Writes mutation) (written mutations) t code (ap refusal (sym is)) in
    (one.0, subst stands (sym one.1) after)
first_refused tr.NoMemory setting stands mutation mutations t is = stops_first setting stands (written (mutation ∷ mutations)) t is

-- ---- a call that writes nothing

-- what was found out, as a reply
abbrev pub mapped : {B X : Type 0} → (B → X) → Result B RecipeFault → Result X RecipeFault
mapped reply_of (Ok found) = Ok (reply_of found)
mapped reply_of (Err fault) = Err fault

-- its reply is what was found out
pub told_reply : {A B X : Type 0} (good : A → Type 0) (value : A) (result : Result B RecipeFault) (said : Result B RecipeFault) (reply_of : B → X)
    (setting : Setting) (stands : Transaction → Type 0) (call : Call X) (t : Transaction) → IsRead good (Ok value) setting stands call.read t
    → Tells result said → call.turn ≡ turned_by (λ found. replying (reply_of found)) said
    → IsAnswered (mapped reply_of result) setting stands call t
told_reply good value (Ok found) said reply_of setting stands call t read told turn =
    replied good value (replying (reply_of found)) setting stands stands call t read
    (turn ∙ ap (turned_by (λ found. replying (reply_of found))) told) (λ u is. none_written setting stands u is)
told_reply good value (Err f) said reply_of setting stands call t read told turn =
    told_fault good value f said setting stands call t read told (λ f said. turn ∙ ap (turned_by (λ found. replying (reply_of found))) said)

-- its reply is what was found out itself
pub told_itself : {A X : Type 0} (good : A → Type 0) (value : A) (result : Result X RecipeFault) (said : Result X RecipeFault)
    (setting : Setting) (stands : Transaction → Type 0) (call : Call X) (t : Transaction) → IsRead good (Ok value) setting stands call.read t
    → Tells result said → call.turn ≡ turned_by (λ found. replying found) said → IsAnswered result setting stands call t
told_itself good value (Ok found) said setting stands call t read told turn =
    told_reply good value (Ok found) said (λ found. found) setting stands call t read told turn
told_itself good value (Err f) said setting stands call t read told turn =
    told_reply good value (Err f) said (λ found. found) setting stands call t read told turn
