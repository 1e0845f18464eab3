-- What a call of a directory layer leaves is what its step says.
use Rattle.std.proofs.Common.{◌≡◌, ℕ, true, false, cond, List, [], ◌++◌, Option, Some, Result, Ok, Err, refl, sym, ap, subst, ◌∙◌}
use Rattle.std.proofs.lemmas.List.{append-nil}
use Rattle.std.specs.Prelude.{is_some}
use Rattle.std.specs.FinMap as finite
use Rattle.model_database.specs.Histories.{History, Setting}
use Rattle.model_database.specs.Transactions.{Transaction, fresh}
use Rattle.directory_types.specs.declared.DirArgs.{DirArgs}
use Rattle.directory_types.specs.declared.DirKind.{DirKind}
use Rattle.directory_types.specs.declared.DirReply.{DirReply}
use Rattle.directory_types.specs.declared.fault.DirFault.{DirFault}
use Rattle.directory_types.specs.declared.Layer.{Layer}
use Rattle.model_directory.specs.Calls.{effect}
use Rattle.model_directory.specs.Courses.{Reached}
use Rattle.directory.specs.Runs.{AnswersBy, IsAnswered}
use Rattle.fdb_calls.specs.declared.Outcome.{Outcome}
use Rattle.fdb_calls.specs.declared.Reply.{Reply}
use Rattle.conflict_ranges.specs.Writes.{Index}
use Rattle.model_machine.specs.Worlds.{World, HasWords, decide, with_lives, transaction_of, fresh_at_last, next_life, with_new, with_named, called_apart, commit_made}
use Rattle.model_machine.specs.Worlds.{with_drawn, directory_called, directory_reply, directory_named, directory_alone, refusing}
use Rattle.version_store.specs.Versions.{Versions}
use Rattle.txn_core.specs.Stands as txn
use Rattle.client_core.specs.Directories.{Reaches, RepliesTo}
use Rattle.client_core.specs.Lives.{drawn_in, outcome_by}
use Rattle.client_core.specs.Sound.{Took, TookDrawing}
use Rattle.client_core.specs.Stands.{ContentsModel, KeptTransactions, KeepsWorld}
use Rattle.client_core.proofs.Databases.{logged_apart}
use Rattle.client_core.proofs.Named.{AllAlike, alike_inserted, found_stands}
use Rattle.client_core.proofs.Outcomes.{lives_agree}
use Rattle.client_core.proofs.Steps.{and_commit_words}

-- a call that was answered, and replied to, reached what its effect says
pub answer_reaches : (end : Result DirReply DirFault) (its_reply : Reply) (setting : Setting) (stands : Transaction → Type 0)
    (kept : txn.Kept) (words left : ℕ → ℕ) (kind : DirKind) (layer : Layer) (args : DirArgs) (t : Transaction)
    → IsAnswered end setting stands words left kind layer args t → RepliesTo end its_reply
    → ((after : Transaction) → stands after → txn.StandsFor kept after)
    → Reaches its_reply kept words left (effect kind layer args setting words t)
answer_reaches (Ok answer) its_reply setting stands kept words left kind layer args t told replied stood =
    record { reply_is = replied ∙ ap directory_reply (sym told.0); stands = stood _ told.1; left_is = told.2 }
answer_reaches (Err fault) its_reply setting stands kept words left kind layer args t told replied stood =
    let fine = subst (λ short. AnswersBy short (Err fault) setting stands words left kind layer args t) replied.0 told in
    record { reply_is = replied.1 ∙ ap directory_reply (sym fine.0); stands = stood _ fine.1; left_is = fine.2 }

-- the same words, as a world has them
reaches_there : (its_reply : Reply) (kept : txn.Kept) (words left others : ℕ → ℕ) (kind : DirKind) (layer : Layer) (args : DirArgs)
    (setting : Setting) (t : Transaction) → ((place : ℕ) → words place ≡ others place)
    → Reaches its_reply kept words left (effect kind layer args setting words t)
    → Reaches its_reply kept others left (effect kind layer args setting others t)
reaches_there its_reply kept words left others kind layer args setting t has reaches =
    subst (λ (these : ℕ → ℕ). Reaches its_reply kept these left (effect kind layer args setting these t)) (λ i place. has place i) reaches

-- a store and an index keep a history to which no commit was added
keeps_still : (store later : Versions) (index later_index : Index) (setting : Setting) → later ≡ store → later_index ≡ index
    → txn.Keeps store index setting → txn.Keeps later later_index (record setting { history = setting.history ++ [] })
keeps_still store later index later_index setting same same_index keeps =
    subst (λ (h : History). txn.Keeps later later_index (record setting { history = h })) (sym (append-nil setting.history))
    (subst (λ (both : Versions × Index). txn.Keeps both.0 both.1 setting) (λ i. (sym same i, sym same_index i)) keeps)

-- a world in which a name gets a transaction has the same words
pub named_has_words : (world : World) (name : List ℕ) (words : ℕ → ℕ) → HasWords world words → HasWords (with_named world name) words
named_has_words world name words has =
    elim (is_some (finite.get world.transactions name)) as (λ b. HasWords (cond b world (with_new world name)) words)
    [ true ↦ has | false ↦ has ]

-- a call on the transaction of a name, which is there, is the call of the step
pub named_drew : (core after : ContentsModel) (world : World) (name : List ℕ) (kind : DirKind) (layer : Layer) (args : DirArgs) (life : ℕ)
    (outcome : Option Outcome) (before left : txn.Kept) (its_reply : Reply) (words rest : ℕ → ℕ)
    → finite.get core.transactions name ≡ Some before
    → ((setting : Setting) (t : Transaction) → txn.StandsFor before t → txn.Keeps core.store core.index setting
    → Reaches its_reply left words rest (effect kind layer args setting words t))
    → after.options ≡ core.options → after.store ≡ core.store → after.index ≡ core.index
    → after.transactions ≡ finite.insert core.transactions name left
    → life ≡ before.life → outcome ≡ outcome_by life left.life left.phase
    → after.lives ≡ decide life outcome (with_lives core.lives 0)
    → KeepsWorld core world → HasWords world words → TookDrawing its_reply after rest (directory_named world name kind layer args)
named_drew core after world name kind layer args life outcome before left its_reply words rest found reaches options store index transactions is
    becomes lives stands has =
    let its = transaction_of world name in
    let stood = found_stands before (fresh (next_life world)) (finite.get core.transactions name) (finite.get world.transactions name) found
    (stands.transactions name) in
    let reached = effect kind layer args world.setting world.words its in
    let told = reaches_there its_reply left words rest world.words kind layer args world.setting its has
    (reaches world.setting its stood stands.keeps) in
    record {
      took = record {
        reply_is = told.reply_is;
        stands = record {
          options = options ∙ stands.options;
          keeps = keeps_still core.store after.store core.index after.index world.setting store index stands.keeps;
          transactions = subst (λ (m : KeptTransactions). AllAlike m (finite.insert world.transactions name reached.transaction))
              (sym transactions)
              (alike_inserted core.transactions world.transactions name left reached.transaction told.stands stands.transactions);
          lives = lives
              ∙ lives_agree core.lives world.lives life 0 0 outcome left its reached.transaction stands.lives refl (is ∙ stood.life) becomes
              told.stands;
        };
      };
      has_words = told.left_is;
    }

-- the world of a call on a transaction of its own, before its commit
abbrev pub before_commit : World → DirKind → Layer → DirArgs → World
before_commit world kind layer args =
    let reached = effect kind layer args world.setting world.words (fresh_at_last world) in
    called_apart (drawn_in (with_drawn world reached.words)) (fresh_at_last world) (directory_called reached)

-- a call on a transaction of its own, which was drawn before, and its commit
pub alone_drew : (core between after : ContentsModel) (world : World) (kind : DirKind) (layer : Layer) (args : DirArgs) (life : ℕ)
    (outcome : Option Outcome) (begun left : txn.Kept) (its_reply answered : Reply) (words rest : ℕ → ℕ)
    → txn.StandsFor begun (fresh_at_last world) → KeepsWorld core (drawn_in world)
    → ((setting : Setting) (t : Transaction) → txn.StandsFor begun t → txn.Keeps core.store core.index setting
    → Reaches its_reply left words rest (effect kind layer args setting words t))
    → between.options ≡ core.options → between.store ≡ core.store → between.index ≡ core.index → between.transactions ≡ core.transactions
    → life ≡ begun.life → outcome ≡ outcome_by life left.life left.phase
    → between.lives ≡ decide life outcome (with_lives core.lives 0)
    → ((reached : Reached DirReply) → its_reply ≡ directory_reply reached.end → txn.StandsFor left reached.transaction
    → (there : World) → KeepsWorld between there → Took answered after (commit_made there (directory_called reached)))
    → HasWords world words → TookDrawing (refusing answered) after rest (directory_alone world kind layer args)
alone_drew core between after world kind layer args life outcome begun left its_reply answered words rest stood stands reaches options store index
    transactions is becomes lives commits has =
    let before = fresh_at_last world in
    let reached = effect kind layer args world.setting world.words before in
    let told = reaches_there its_reply left words rest world.words kind layer args world.setting before has
    (reaches world.setting before stood stands.keeps) in
    let drawn = drawn_in (with_drawn world reached.words) in
    let stands_drawn : KeepsWorld core drawn = record { options = stands.options; keeps = stands.keeps; transactions = stands.transactions; lives = stands.lives } in
    let took = commits reached told.reply_is told.stands (before_commit world kind layer args)
    (logged_apart core between drawn life outcome left before (directory_called reached) stands_drawn refl refl options store index transactions
    lives becomes (is ∙ stood.life) told.stands) in
    let still = and_commit_words (with_drawn world reached.words) (λ drawn transaction. directory_called reached) in
    record {
      took = record { reply_is = ap refusing took.reply_is; stands = took.stands };
      has_words = λ place. told.left_is place ∙ (λ i. sym still i place);
    }
