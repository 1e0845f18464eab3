-- A layer's call on a core is what the shell's definition says.
use Rattle.std.proofs.Common.{◌≡◌, ◌⊎◌, inl, inr, ℕ, Bool, true, false, List, [], ◌++◌, Option, Some, None, Result, Ok, Err, refl, sym, ap, subst, ◌∙◌}
use Rattle.std.specs.Prelude.{is_some}
use Rattle.std.specs.FinMap as finite
use Rattle.model_database.specs.declared.Code.{Code}
use Rattle.model_database.specs.Databases.{Database}
use Rattle.model_database.specs.Histories.{Setting}
use Rattle.model_database.specs.Transactions.{Transaction, view}
use Rattle.model_allocator.specs.Acts.{Acted, Reads, act_called, all_acted}
use Rattle.fdb_calls.specs.declared.Request.TheVariants as request
use Rattle.fdb_calls.specs.declared.TxnCall.TheVariants as call
use Rattle.fdb_calls.specs.Calling.{Called}
use Rattle.fdb_calls.specs.Calling as calling
use Rattle.model_machine.specs.Worlds.{World, Stepped, next_life, transaction_of, with_named, stepped, step}
use Rattle.client_core.specs.Stands.{CoreModel, StandsFor}
use Rattle.core_tr.specs.Standing.{IsSettled, AreAlikeElse, StandsIn, Stands, Stays, KeepsRest}
use Rattle.core_tr.specs.StandLaws.{alike_still, stands_alike, kept_there}
use Rattle.core_tr.proofs.Calls.{IsPlain, all_plain}
use Rattle.core_tr.proofs.Steps.{step_is, step_named, named_there, named_setting, named_words, left_there, settled_left, both_left, setting_kept}
use Rattle.model_recipes.specs.declared.fault.RecipeFault.{RecipeFault}
use Rattle.model_recipes.specs.Turns.{Turn, Call, acts, acts_behind}
use Rattle.model_shell.specs.Requests.{Did, name, followed, error_line}
use Rattle.model_shell.specs.Recipes.{fault_text, read_of, writes_behind, calls_of, called_each, ended, layered}
use Rattle.shell_recipes.specs.declared.calls.End.{End}
use Rattle.shell_recipes.specs.Running.{text_of, is_stopped, Ends, HasRun}
use Rattle.shell_recipes.proofs.Plain.{ArePlain}
use Rattle.shell_recipes.proofs.Folding.{Folds, read_act, writes_fold, call_folds, stop_text}

-- ---- the world in which the name has a transaction, whose life is settled

-- the request that settles
abbrev pub settling : World → Stepped
settling world = step world (request.On name call.CommittedVersion)

abbrev pub its_own : World → Transaction
its_own world = transaction_of world name

-- what it answers
abbrev asked : World → Called
asked world = calling.committed_version_called (its_own world)

settling_is : (world : World) → settling world ≡ stepped (with_named world name) name (asked world)
unfolding calling.called
settling_is world = step_named world name call.CommittedVersion
    ∙ step_is (with_named world name) name (its_own world) call.CommittedVersion (named_there world name)

asked_plain : (world : World) → IsPlain (its_own world) (asked world)
asked_plain world = all_plain refl refl refl refl

-- all that is known of it
record IsReady (world ready : World) : Type 0 where
  setting : ready.setting ≡ world.setting
  there : finite.get ready.transactions name ≡ Some (its_own world)
  still : IsSettled (its_own world) ready.lives
  words : ready.words ≡ world.words

is_ready : (world : World) → IsReady world (settling world).world
is_ready world =
    let named = with_named world name in
    subst (λ (s : Stepped). IsReady world s.world) (sym (settling_is world)) (record {
      setting = setting_kept named name (its_own world) (asked world) (named_there world name) (asked_plain world) ∙ named_setting world name;
      there = left_there named name (its_own world) (asked world) (named_there world name) (asked_plain world);
      still = settled_left named name (its_own world) (asked world) (named_there world name) (asked_plain world);
      words = named_words world name;
    })

-- ---- the calls of a layer's call

behind_fold : {X : Type 0} (turn : Result (Turn X) RecipeFault) → ArePlain turn → (setting : Setting) (world : World) (t : Transaction)
    → world.setting ≡ setting → finite.get world.transactions name ≡ Some t → IsSettled t world.lives
    → Folds world (all_acted setting (acts_behind turn) t) (called_each (writes_behind turn) world)
behind_fold (Ok turn) plain setting world t same there still = writes_fold turn.writes plain setting world t same there still
behind_fold (Err fault) plain setting world t same there still = writes_fold [] tt setting world t same there still

-- made from the world before, they do what its reads and writes do in the one that is ready
calls_fold : {X : Type 0} (world : World) (its : Call X) → ArePlain its.turn
    → Folds (settling world).world (all_acted (settling world).world.setting (acts its) (its_own world)) (called_each (calls_of its) world)
calls_fold {X} world its plain =
    call_folds ready world t (read_of its.read) (Reads its.read false) (writes_behind its.turn) (acts_behind its.turn) (read_act its.read)
    (stepped named name made) (step_named world name (read_of its.read) ∙ step_is named name t (read_of its.read) (named_there world name)
    ∙ ap (stepped named name) ((read_act its.read).is named.setting (next_life named) t)) (ap (λ (s : Setting). (act_called s t (Reads its.read false)).reply) same)
    (left_there named name t made (named_there world name) made_plain ∙ ap (λ (s : Setting). Some (act_called s t (Reads its.read false)).transaction) same)
    alike
    (named_words world name ∙ sym (is_ready world).words)
    (behind_fold its.turn plain ready.setting (stepped named name made).world (act_called ready.setting t (Reads its.read false)).transaction
    alike.setting
    (left_there named name t made (named_there world name) made_plain ∙ ap (λ (s : Setting). Some (act_called s t (Reads its.read false)).transaction) same)
    (subst (λ (s : Setting). IsSettled (act_called s t (Reads its.read false)).transaction (stepped named name made).world.lives) same
    (settled_left named name t made (named_there world name) made_plain)))
  where
    ready : World
    ready = (settling world).world

    named : World
    named = with_named world name

    t : Transaction
    t = its_own world

    made : Called
    made = act_called named.setting t (Reads its.read false)

    made_plain : IsPlain t made
    made_plain = (read_act its.read).plain named.setting t

    same : named.setting ≡ ready.setting
    same = named_setting world name ∙ sym (is_ready world).setting

    alike : AreAlikeElse name ready (stepped named name made).world
    alike = subst (λ (s : Stepped). AreAlikeElse name s.world (stepped named name made).world) (sym (settling_is world))
        (both_left named name t (asked world) made (named_there world name) (asked_plain world) made_plain)

-- ---- what is printed

module _ {X : Type 0} (said : X → List ℕ) (ready : World) (acted : Acted) (turn : Result (Turn X) RecipeFault) where
  -- the end behind the calls
  record IsEnded (did : Did) : Type 0 where
    refused : did.is_refused ≡ is_stopped acted.refused turn
    text : did.text ≡ text_of said acted.refused turn
    there : finite.get did.world.transactions name ≡ Some acted.transaction
    alike : AreAlikeElse name ready did.world
    words : did.world.words ≡ ready.words

  on_end : (refused : Option Code) (turn_is : Result (Turn X) RecipeFault) → (did : Did) → did.is_refused ≡ is_some refused
      → did.text ≡ stop_text refused
      → ((followed did (ended said turn_is)).is_refused ≡ is_stopped refused turn_is)
      × ((followed did (ended said turn_is)).text ≡ text_of said refused turn_is)
      × ((followed did (ended said turn_is)).world ≡ did.world)
  unfolding followed
  on_end (Some code) turn_is did stops text = rw stops (refl, text, refl)
  on_end None (Ok its) did goes text = rw goes (refl, ap (λ (x : List ℕ). x ++ said its.reply) text, refl)
  on_end None (Err fault) did goes text = rw goes (refl, ap (λ (x : List ℕ). x ++ error_line (fault_text fault)) text, refl)

  ends_so : (did : Did) → Folds ready acted did → IsEnded (followed did (ended said turn))
  ends_so did folds =
      let told = on_end acted.refused turn did folds.refused folds.text in
      record {
        refused = told.0;
        text = told.1;
        there = subst (λ (w : World). finite.get w.transactions name ≡ Some acted.transaction) (sym told.2) folds.there;
        alike = subst (λ (w : World). AreAlikeElse name ready w) (sym told.2) folds.alike;
        words = ap (λ (w : World). w.words) told.2 ∙ folds.words;
      }

-- ---- a call of a layer on a core

-- what the transaction of a core stands for, and all else, is what requests one behind the other leave
stands_folded : (core : CoreModel) (ready : World) (t left : Transaction) (setting : Setting) (did : World)
    → Stays ready name t core → StandsIn core name setting left → AreAlikeElse name ready did
    → finite.get did.transactions name ≡ Some left → StandsFor core did
stands_folded core ready t left setting did stays stood alike there =
    stands_alike core name stays.after did left stays.stands (alike_still name stays.after ready did back alike) there
    (kept_there core name stood.world left stood.stands stood.there)
  where
    back : AreAlikeElse name stays.after ready
    back = record {
      setting = sym stays.alike.setting;
      lives = sym stays.alike.lives;
      started = sym stays.alike.started;
      others = λ other differs. sym (stays.alike.others other differs);
    }

module _ {X : Type 0} (said : X → List ℕ) (layer_call : Database → Call X) (world : World) (end : End) (core settled_core : CoreModel)
    (before after : List ℕ) where
  abbrev its : Call X
  its = layer_call (view world.setting (its_own world))

  abbrev ready : World
  ready = (settling world).world

  abbrev acted : Acted
  acted = all_acted ready.setting (acts its) (its_own world)

  pub has_run : (was_spent : Bool) → ArePlain its.turn → StandsFor settled_core ready → KeepsRest was_spent false settled_core core name name
      → Ends end said ready.setting (Stands false core name ready.setting) (layer_call (view ready.setting (its_own world))) (its_own world) before after
      → HasRun end core before after world (layered layer_call said world)
  unfolding layered
  has_run was_spent plain stands rest ended_so =
      let same : layer_call (view ready.setting (its_own world)) ≡ its = ap (λ (s : Setting). layer_call (view s (its_own world))) (is_ready world).setting in
      let ends = subst (λ (c : Call X). Ends end said ready.setting (Stands false core name ready.setting) c (its_own world) before after) same ended_so in
      by ends ends.left (rest.stays ready (its_own world) stands (is_ready world).there (is_ready world).still)
    where
      told : IsEnded said ready acted its.turn (layered layer_call said world)
      told = ends_so said ready acted its.turn (called_each (calls_of its) world) (calls_fold world its plain)

      by : Ends end said ready.setting (Stands false core name ready.setting) its (its_own world) before after
          → Stands false core name ready.setting acted.transaction → (false ≡ true) ⊎ Stays ready name (its_own world) core
          → HasRun end core before after world (layered layer_call said world)
      by ends (inl spent) stays = absurd cc
      by ends (inr stood) (inl spent) = absurd cc
      by ends (inr stood) (inr stays) = record {
        refused = told.refused ∙ sym ends.is;
        stands = stands_folded core ready (its_own world) acted.transaction ready.setting (layered layer_call said world).world stays stood told.alike told.there;
        words = told.words ∙ (is_ready world).words;
        text = ends.text ∙ ap (λ (x : List ℕ). before ++ x) (sym told.text);
      }

-- the transaction that is called stands in the world that is ready
pub settled_stands : (core : CoreModel) (world : World) → StandsFor core (settling world).world
    → StandsIn core name (settling world).world.setting (its_own world)
settled_stands core world stands = record {
  world = (settling world).world;
  stands = stands;
  setting_is = refl;
  there = (is_ready world).there;
  settled = (is_ready world).still;
}
