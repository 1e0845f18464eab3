-- What a step leaves: few commits, and what the core answers by it.
use Rattle.std.proofs.Common.{◌≡◌, ℕ, ◌+◌, ◌^◌, ◌<◌, ◌≤◌, Bool, true, false, cond, List, [], ◌++◌, length, Option, Some, None, refl, sym, ap, subst, ◌∙◌, length-append, arith}
use Rattle.std.proofs.lemmas.List.{append-nil}
use Rattle.std.specs.Prelude.{is_some, nat_lt, ⊤}
use Rattle.std.specs.FinMap as finite
use Rattle.fdb_calls.specs.declared.Reply.{Reply}
use Rattle.fdb_calls.specs.declared.Reply.TheVariants as reply
use Rattle.fdb_calls.specs.declared.Request.{Request}
use Rattle.fdb_calls.specs.declared.Request.TheVariants as request
use Rattle.fdb_calls.specs.declared.TxnCall.TheVariants as call
use Rattle.model_database.specs.Histories.{Commit, last}
use Rattle.model_database.specs.Transactions.{Transaction}
use Rattle.fdb_calls.specs.Calling.{Called, called, is_fault, in_turn, logs}
use Rattle.version_store.specs.Versions as versions
use Rattle.version_store.specs.Versions.{last_of}
use Rattle.model_machine.specs.Worlds.{World, HasWords, newest, Stepped, next_life, with_new, transaction_of, call_named, fresh_at_last, called_apart, database_by, and_commit, start_by, step}
use Rattle.model_machine.specs.Worlds.{with_drawn, directory_called, directory_named, directory_step}
use Rattle.directory_types.specs.declared.DirArgs.{DirArgs}
use Rattle.directory_types.specs.declared.DirKind.{DirKind}
use Rattle.directory_types.specs.declared.Layer.{Layer}
use Rattle.model_directory.specs.Calls.{effect}
use Rattle.txn_calls.proofs.Stored.{low_inside}
use Rattle.client_core.specs.Stands.{ContentsModel, CoreModel, HasStarted, KeepsWorld, StandsFor, Answers, contents_in, is_no_memory}
use Rattle.client_core.specs.Sound.{IsSound, Took, TookDrawing, TookWhole}
use Rattle.client_core.specs.Lives.{drawn_in}
use Rattle.client_core.specs.Contents.{IsOnDatabase, TookStart}
use Rattle.model_machine.specs.Runs.{start_prefix}
use Rattle.model_machine.specs.declared.TheConstants.{MACHINES}
use Rattle.client_core.proofs.Calls.{few_commits, first_commits, commit_commits, logs_in_place}
use Rattle.client_core.specs.Kinds.{fits}
use Rattle.client_core.proofs.Replies.{step_fits, step_speaks}

appended_counts : (first second : List Commit) → length second ≤ 1 → length (first ++ second) ≤ length first + 1
appended_counts first second few = subst (λ n. n ≤ length first + 1) (sym (length-append first second)) (omega arith)

-- a call that commits nothing, and the commit after it
commit_few : (fault : Bool) (world : World) (made committed : Called) (before : ℕ) → last world.setting.history ≡ before
    → length committed.commits ≤ 1 → last (database_by fault world made committed).world.setting.history ≤ before + 1
commit_few true world made committed before same few = omega (arith, same)
commit_few false world made committed before same few =
    subst (λ n. length (world.setting.history ++ committed.commits) ≤ n + 1) same (appended_counts world.setting.history committed.commits few)

and_commit_few : (world : World) (made : World → Transaction → Called) → (made (drawn_in world) (fresh_at_last world)).commits ≡ []
    → last (and_commit world made).world.setting.history ≤ last world.setting.history + 1
and_commit_few world made none =
    let first = made (drawn_in world) (fresh_at_last world) in
    let between = called_apart (drawn_in world) (fresh_at_last world) first in
    commit_few (is_fault first.reply) between first (called between.setting (next_life between) first.transaction call.Commit)
    (last world.setting.history) (ap (λ commits. length (world.setting.history ++ commits)) none ∙ ap length (append-nil world.setting.history))
    (commit_commits between.setting (next_life between) first.transaction)

start_few : (there_is_room : Bool) (world : World) (prefix : List ℕ)
    → last (start_by there_is_room world prefix).world.setting.history ≤ last world.setting.history + 1
start_few true world prefix = omega arith
start_few false world prefix = omega arith

directory_few : (world : World) (name : Option (List ℕ)) (layer : Layer) (kind : DirKind) (args : DirArgs)
    → last (directory_step world name kind layer args).world.setting.history ≤ last world.setting.history + 1
directory_few world None layer kind args =
    let reached = effect kind layer args world.setting world.words (fresh_at_last world) in
    and_commit_few (with_drawn world reached.words) (λ drawn transaction. directory_called reached) refl
directory_few world (Some name) layer kind args = by_named (is_some (finite.get world.transactions name))
  where
    by_named : (b : Bool)
        → last (directory_named (cond b world (with_new world name)) name kind layer args).world.setting.history
        ≤ last world.setting.history + 1
    by_named true = appended_counts world.setting.history [] (omega arith)
    by_named false = appended_counts world.setting.history [] (omega arith)

-- a step makes one commit at most
pub step_few : (world : World) (given : Request) → last (step world given).world.setting.history ≤ last world.setting.history + 1
unfolding step
step_few world (request.New name) = omega arith
step_few world (request.On name its_call) = by_named (is_some (finite.get world.transactions name))
  where
    called_few : (between : World) → between.setting.history ≡ world.setting.history
        → last (call_named between name its_call).world.setting.history ≤ last world.setting.history + 1
    called_few between same =
        let made = called between.setting (next_life between) (transaction_of between name) its_call in
        subst (λ h. length (between.setting.history ++ made.commits) ≤ length h + 1) same
        (appended_counts between.setting.history made.commits (few_commits between.setting (next_life between) (transaction_of between name) its_call))

    by_named : (b : Bool)
        → last (call_named (cond b world (with_new world name)) name its_call).world.setting.history ≤ last world.setting.history + 1
    by_named true = called_few world refl
    by_named false = called_few (with_new world name) refl
step_few world (request.Database its_call) =
    and_commit_few world (λ drawn transaction. called drawn.setting (next_life drawn) transaction its_call)
    (first_commits world.setting (next_life (drawn_in world)) (next_life world) its_call)
step_few world (request.Log prefix entries) =
    and_commit_few world (λ drawn transaction. in_turn (logs prefix entries) transaction)
    (logs_in_place prefix entries (fresh_at_last world)).commits
step_few world (request.Directory name layer kind args) = directory_few world name layer kind args
step_few world (request.PollStamp life) = omega arith
step_few world (request.PollEmpty prefix) = omega arith
step_few world (request.Start prefix) = start_few (nat_lt (length world.started) MACHINES) world prefix

database_words : (fault : Bool) (world : World) (made committed : Called) → (database_by fault world made committed).world.words ≡ world.words
database_words true world made committed = refl
database_words false world made committed = refl

pub and_commit_words : (world : World) (made : World → Transaction → Called) → (and_commit world made).world.words ≡ world.words
and_commit_words world made =
    let first = made (drawn_in world) (fresh_at_last world) in
    let between = called_apart (drawn_in world) (fresh_at_last world) first in
    database_words (is_fault first.reply) between first (called between.setting (next_life between) first.transaction call.Commit)

start_words : (there_is_room : Bool) (world : World) (prefix : List ℕ) → (start_by there_is_room world prefix).world.words ≡ world.words
start_words true world prefix = refl
start_words false world prefix = refl

-- a request that no layer has a part in
abbrev pub DrawsNone : Request → Type 0
DrawsNone (request.Directory name layer kind args) = ⊥
DrawsNone given = ⊤

-- its step draws no random word
step_words : (world : World) (given : Request) → DrawsNone given → (step world given).world.words ≡ world.words
unfolding step
step_words world (request.New name) none = refl
step_words world (request.On name its_call) none =
    elim (is_some (finite.get world.transactions name)) as (λ b. (cond b world (with_new world name)).words ≡ world.words) [ true ↦ refl | false ↦ refl ]
step_words world (request.Database its_call) none =
    and_commit_words world (λ drawn transaction. called drawn.setting (next_life drawn) transaction its_call)
step_words world (request.Directory name layer kind args) none = absurd none
step_words world (request.Log prefix entries) none = and_commit_words world (λ drawn transaction. in_turn (logs prefix entries) transaction)
step_words world (request.PollStamp life) none = refl
step_words world (request.PollEmpty prefix) none = refl
step_words world (request.Start prefix) none = start_words (nat_lt (length world.started) MACHINES) world prefix

pub words_kept : (world : World) (given : Request) (words : ℕ → ℕ) → DrawsNone given → HasWords world words
    → HasWords (step world given).world words
words_kept world given words none has place = has place ∙ (λ i. sym (step_words world given none) i place)

pub none_drawn : (given : Request) → IsOnDatabase given → DrawsNone given
none_drawn (request.New name) on = tt
none_drawn (request.On name its_call) on = tt
none_drawn (request.Database its_call) on = tt
none_drawn (request.Directory name layer kind args) on = absurd on
none_drawn (request.Log prefix entries) on = tt
none_drawn (request.PollStamp life) on = tt
none_drawn (request.PollEmpty prefix) on = tt
none_drawn (request.Start prefix) on = tt

database_started : (fault : Bool) (world : World) (made committed : Called)
    → (database_by fault world made committed).world.started ≡ world.started
database_started true world made committed = refl
database_started false world made committed = refl

and_commit_started : (world : World) (made : World → Transaction → Called) → (and_commit world made).world.started ≡ world.started
and_commit_started world made =
    let first = made (drawn_in world) (fresh_at_last world) in
    let between = called_apart (drawn_in world) (fresh_at_last world) first in
    database_started (is_fault first.reply) between first (called between.setting (next_life between) first.transaction call.Commit)

-- no call of a directory layer starts a machine
pub directory_started : (world : World) (name : Option (List ℕ)) (layer : Layer) (kind : DirKind) (args : DirArgs)
    → (directory_step world name kind layer args).world.started ≡ world.started
directory_started world None layer kind args =
    let reached = effect kind layer args world.setting world.words (fresh_at_last world) in
    and_commit_started (with_drawn world reached.words) (λ drawn transaction. directory_called reached)
directory_started world (Some name) layer kind args =
    elim (is_some (finite.get world.transactions name)) as (λ b. (cond b world (with_new world name)).started ≡ world.started)
    [ true ↦ refl | false ↦ refl ]

-- no request of the database starts a machine
pub step_started : (world : World) (given : Request) → IsOnDatabase given → (step world given).world.started ≡ world.started
unfolding step
step_started world (request.New name) on = refl
step_started world (request.On name its_call) on =
    elim (is_some (finite.get world.transactions name)) as (λ b. (cond b world (with_new world name)).started ≡ world.started)
    [ true ↦ refl | false ↦ refl ]
step_started world (request.Database its_call) on =
    and_commit_started world (λ drawn transaction. called drawn.setting (next_life drawn) transaction its_call)
step_started world (request.Directory name layer kind args) on = absurd on
step_started world (request.Log prefix entries) on =
    and_commit_started world (λ drawn transaction. in_turn (logs prefix entries) transaction)
step_started world (request.PollStamp life) on = refl
step_started world (request.PollEmpty prefix) on = refl
step_started world (request.Start prefix) on = absurd on

-- what took a request of the database took its step whole
pub database_whole : (contents : ContentsModel) (started : List (List ℕ)) (words : ℕ → ℕ) (its_reply : Reply) (world : World)
    (given : Request) → IsOnDatabase given → started ≡ world.started → HasWords world words → Took its_reply contents (step world given)
    → TookWhole its_reply contents started words (step world given)
database_whole contents started words its_reply world given on same has took = record {
  took = took;
  started_is = same ∙ sym (step_started world given on);
  has_words = words_kept world given words (none_drawn given on) has;
}

-- one that took the start of a machine
started_keeps : (there_is_room : Bool) (contents : ContentsModel) (world : World) (prefix : List ℕ) → KeepsWorld contents world
    → KeepsWorld contents (start_by there_is_room world prefix).world
started_keeps true contents world prefix keeps = record { options = keeps.options; keeps = keeps.keeps; transactions = keeps.transactions; lives = keeps.lives }
started_keeps false contents world prefix keeps = keeps

pub start_whole : (contents : ContentsModel) (started : List (List ℕ)) (words : ℕ → ℕ) (its_reply : Reply) (world : World)
    (prefix : List ℕ) → KeepsWorld contents world → HasWords world words
    → TookStart its_reply started (start_by (nat_lt (length world.started) MACHINES) world prefix)
    → TookWhole its_reply contents started words (step world (request.Start prefix))
unfolding step
start_whole contents started words its_reply world prefix keeps has took = record {
  took = record {
    reply_is = took.reply_is;
    stands = started_keeps (nat_lt (length world.started) MACHINES) contents world prefix keeps;
  };
  started_is = took.started_is;
  has_words = words_kept world (request.Start prefix) words tt has;
}

-- one that took a call of a directory layer
pub directory_whole : (contents : ContentsModel) (started : List (List ℕ)) (words : ℕ → ℕ) (its_reply : Reply) (world : World)
    (name : Option (List ℕ)) (layer : Layer) (kind : DirKind) (args : DirArgs) → started ≡ world.started
    → TookDrawing its_reply contents words (directory_step world name kind layer args)
    → TookWhole its_reply contents started words (step world (request.Directory name layer kind args))
unfolding step
directory_whole contents started words its_reply world name layer kind args same drew = record {
  took = drew.took;
  started_is = same ∙ sym (directory_started world name layer kind args);
  has_words = drew.has_words;
}

-- the reply and what a core stands for, as the contract says it
pub took_answers : (its_reply : Reply) (core : CoreModel) (words : ℕ → ℕ) (stepped : Stepped) → its_reply ≡ stepped.reply
    → StandsFor core stepped.world → HasWords stepped.world words → Answers its_reply core words stepped
took_answers reply.Done core words stepped same stands has = (sym same, stands, has)
took_answers (reply.Value value) core words stepped same stands has = (sym same, stands, has)
took_answers (reply.KeyIs key) core words stepped same stands has = (sym same, stands, has)
took_answers (reply.PairsAre pairs) core words stepped same stands has = (sym same, stands, has)
took_answers (reply.Version version) core words stepped same stands has = (sym same, stands, has)
took_answers (reply.Life life) core words stepped same stands has = (sym same, stands, has)
took_answers (reply.Stamp stamp) core words stepped same stands has = (sym same, stands, has)
took_answers reply.NotYet core words stepped same stands has = (sym same, stands, has)
took_answers (reply.Fault code) core words stepped same stands has = (sym same, stands, has)
took_answers reply.Empty core words stepped same stands has = (sym same, stands, has)
took_answers (reply.Started machine instructions) core words stepped same stands has = (sym same, stands, has)
took_answers (reply.Dir answer) core words stepped same stands has = (sym same, stands, has)
took_answers (reply.DirFault fault) core words stepped same stands has = (sym same, stands, has)
took_answers reply.NoMachine core words stepped same stands has = (sym same, stands, has)
took_answers reply.NoMemory core words stepped same stands has = tt

pub whole_answers : (its_reply : Reply) (core : CoreModel) (words : ℕ → ℕ) (stepped : Stepped)
    → TookWhole its_reply (contents_in core) core.started words stepped → Answers its_reply core words stepped
whole_answers its_reply core words stepped took =
    took_answers its_reply core words stepped took.took.reply_is
    (record { contents = took.took.stands; started = took.started_is }) took.has_words

-- how many requests were taken does not matter for what a core stands for
pub stands_counted : (core : ContentsModel) (applied : ℕ) (world : World) → KeepsWorld core world
    → KeepsWorld (record core { applied = applied }) world
stands_counted core applied world stands = record { options = stands.options; keeps = stands.keeps; transactions = stands.transactions; lives = stands.lives }

-- what took each step whole from where it stood
abbrev pub TakesWhole : (core after : ContentsModel) → (started left_started : List (List ℕ)) → (words left : ℕ → ℕ) → Request → Reply → Type 0
TakesWhole core after started left_started words left given its_reply = (world : World) → KeepsWorld core world → started ≡ world.started
    → HasWords world words → TookWhole its_reply after left_started left (step world given)

-- a core that is sound takes a request, and is sound after it
pub sound_taken : (core after : ContentsModel) (started left_started : List (List ℕ)) (words left : ℕ → ℕ) (given : Request)
    (its_reply : Reply) (applied : ℕ) → TakesWhole core after started left_started words left given its_reply
    → IsSound core (applied + 1) → IsSound after (applied + 1 + 1)
sound_taken core after started left_started words left given its_reply applied takes sound =
    let world : World = record sound.world { started = started; words = words } in
    let stands : KeepsWorld core world =
    record { options = sound.stands.options; keeps = sound.stands.keeps; transactions = sound.stands.transactions; lives = sound.stands.lives } in
    let few = step_few world given in
    record {
      world = (step world given).world;
      stands = (takes world stands refl (λ place. refl)).took.stands;
      few_commits = omega (arith, few, sound.few_commits);
    }

-- the reply isn't NoMemory
pub taken_speaks : (core after : ContentsModel) (started left_started : List (List ℕ)) (words left : ℕ → ℕ) (given : Request)
    (its_reply : Reply) (commits : ℕ) → TakesWhole core after started left_started words left given its_reply
    → IsSound core commits → is_no_memory its_reply ≡ false
taken_speaks core after started left_started words left given its_reply commits takes sound =
    let world : World = record sound.world { started = started; words = words } in
    let stands : KeepsWorld core world =
    record { options = sound.stands.options; keeps = sound.stands.keeps; transactions = sound.stands.transactions; lives = sound.stands.lives } in
    ap is_no_memory (takes world stands refl (λ place. refl)).took.reply_is ∙ step_speaks world given

-- the reply fits the request
pub taken_fits : (core after : ContentsModel) (started left_started : List (List ℕ)) (words left : ℕ → ℕ) (given : Request)
    (its_reply : Reply) (commits : ℕ) → TakesWhole core after started left_started words left given its_reply
    → IsSound core commits → fits given its_reply ≡ true
taken_fits core after started left_started words left given its_reply commits takes sound =
    let world : World = record sound.world { started = started; words = words } in
    let stands : KeepsWorld core world =
    record { options = sound.stands.options; keeps = sound.stands.keeps; transactions = sound.stands.transactions; lives = sound.stands.lives } in
    ap (fits given) (takes world stands refl (λ place. refl)).took.reply_is ∙ step_fits world given

-- a core that is sound has versions to spare
pub sound_enough : (core : ContentsModel) (applied counted : ℕ) → applied < 2 ^ 62 → IsSound core (applied + 1)
    → IsSound (record core { applied = counted }) (2 ^ 62)
sound_enough core applied counted few sound = record {
  world = sound.world;
  stands = stands_counted core counted sound.world sound.stands;
  few_commits = omega (arith, sound.few_commits);
}

-- the map at the last version that is kept
pub kept_newest : (contents : ContentsModel) (world : World) → KeepsWorld contents world
    → versions.at contents.store (last_of contents.store) ≡ newest world
kept_newest contents world keeps =
    ap (versions.at contents.store) keeps.keeps.last_is ∙ keeps.keeps.at_is (last world.setting.history) (low_inside world.setting) (omega arith)

-- a request of the database starts none
pub none_started : (given : Request) (its_reply : Reply) (old new : List (List ℕ)) → IsOnDatabase given → new ≡ old
    → HasStarted (start_prefix given) its_reply old new
none_started (request.New name) its_reply old new on same = ap length same
none_started (request.On name its_call) its_reply old new on same = ap length same
none_started (request.Database its_call) its_reply old new on same = ap length same
none_started (request.Directory name layer kind args) its_reply old new on same = absurd on
none_started (request.Log prefix entries) its_reply old new on same = ap length same
none_started (request.PollStamp life) its_reply old new on same = ap length same
none_started (request.PollEmpty prefix) its_reply old new on same = ap length same
none_started (request.Start prefix) its_reply old new on same = absurd on

-- more commits may be than there are
pub sound_later : (core : ContentsModel) (counted few more : ℕ) → few ≤ more → IsSound core few → IsSound (record core { applied = counted }) more
sound_later core counted few more is sound = record {
  world = sound.world;
  stands = stands_counted core counted sound.world sound.stands;
  few_commits = omega (arith, sound.few_commits, is);
}
