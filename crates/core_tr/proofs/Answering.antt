-- What a named transaction of a core answers.
use Rattle.std.proofs.Common.{◌≡◌, ℕ, ◌⊎◌, inl, inr, Bool, true, false, List, Some, None, Result, Ok, Err, refl, sym, ap, subst, ◌∙◌}
use Rattle.std.specs.FinMap as finite
use Rattle.model_database.specs.Histories.{Setting}
use Rattle.model_database.specs.Transactions.{Transaction}
use Rattle.model_allocator.specs.Acts.{refusal}
use Rattle.fdb_calls.specs.declared.fault.TrFault.{TrFault}
use Rattle.fdb_calls.specs.declared.fault.TrFault.TheVariants as fault
use Rattle.fdb_calls.specs.declared.Reply.{Reply}
use Rattle.fdb_calls.specs.declared.Reply.TheVariants as reply
use Rattle.fdb_calls.specs.declared.Request.TheVariants as request
use Rattle.fdb_calls.specs.declared.TxnCall.{TxnCall}
use Rattle.fdb_calls.specs.Answers.{Answered}
use Rattle.fdb_calls.specs.Calling.{Called, called}
use Rattle.model_machine.specs.Worlds.{World, Stepped, HasWords, next_life, stepped, step}
use Rattle.client_core.specs.Stands as core
use Rattle.client_core.specs.Stands.{CoreModel, StandsFor, is_no_memory}
use Rattle.core_tr.specs.Standing.{Splits, Makes, MakesSilently, IsSettled, StandsIn, Stands, Stays, KeepsRest}
use Rattle.core_tr.specs.StandLaws.{settled_still, stays_itself}
use Rattle.core_tr.proofs.Calls.{IsPlain, IsPlainCall, IsLetThrough}
use Rattle.core_tr.proofs.Steps.{step_is, step_apart, with_words, alike_left, left_there}

-- ---- a request

-- what a core answers that isn't want of memory
took : (given : Reply) (after : CoreModel) (words : ℕ → ℕ) (made : Stepped) → is_no_memory given ≡ false
    → core.Answers given after words made → (made.reply ≡ given) × StandsFor after made.world
took reply.Done after words made speaks h = (h.0, h.1)
took (reply.Value value) after words made speaks h = (h.0, h.1)
took (reply.KeyIs key) after words made speaks h = (h.0, h.1)
took (reply.PairsAre pairs) after words made speaks h = (h.0, h.1)
took (reply.Version version) after words made speaks h = (h.0, h.1)
took (reply.Life life) after words made speaks h = (h.0, h.1)
took (reply.Stamp stamp) after words made speaks h = (h.0, h.1)
took reply.NotYet after words made speaks h = (h.0, h.1)
took reply.Empty after words made speaks h = (h.0, h.1)
took (reply.Started machine instructions) after words made speaks h = (h.0, h.1)
took reply.NoMachine after words made speaks h = (h.0, h.1)
took (reply.Dir answer) after words made speaks h = (h.0, h.1)
took (reply.DirFault fault) after words made speaks h = (h.0, h.1)
took (reply.Fault code) after words made speaks h = (h.0, h.1)
took reply.NoMemory after words made speaks h = absurd cc

makes_by : (result : Result Reply TrFault) (is_spent : Bool) (after : CoreModel) (words : ℕ → ℕ) (world : World) (stepped : Stepped)
    (given : Reply) → Splits result given → is_spent ≡ is_no_memory given → core.Answers given after words stepped
    → Makes result is_spent after world stepped
makes_by (Ok its) is_spent after words world stepped given (is, through, speaks) spent answers =
    let told = took its after words stepped speaks (subst (λ (r : Reply). core.Answers r after words stepped) is answers) in
    (sym told.0, through, told.1)
makes_by (Err (fault.Code code)) is_spent after words world stepped given is spent answers =
    let told = took (reply.Fault code) after words stepped refl (subst (λ (r : Reply). core.Answers r after words stepped) is answers) in
    (sym told.0, told.1)
makes_by (Err fault.NoMemory) is_spent after words world stepped given is spent answers = inl (spent ∙ ap is_no_memory is)

-- a core stands for a world whatever its random words are
stands_apart : (core : CoreModel) (world : World) (words : ℕ → ℕ) → StandsFor core world → StandsFor core (with_words world words)
stands_apart core world words stands = record {
  contents = record {
    options = stands.contents.options;
    keeps = stands.contents.keeps;
    transactions = stands.contents.transactions;
    lives = stands.contents.lives;
  };
  started = stands.started;
}

-- a request whose words nobody reads is the request
pub makes_apart : (result : Result Reply TrFault) (is_spent : Bool) (before after : CoreModel) (name : List ℕ) (call : TxnCall)
    (words words_after : ℕ → ℕ) (given : Reply) → Splits result given → is_spent ≡ is_no_memory given
    → ((world : World) → StandsFor before world → HasWords world words
    → core.Answers given after words_after (step world (request.On name call)))
    → (world : World) → StandsFor before world → Makes result is_spent after world (step world (request.On name call))
makes_apart result is_spent before after name call words words_after given splits spent answers world stands =
    by result
    (subst (Makes result is_spent after world) (step_apart world name call words)
    (makes_by result is_spent after words_after world (step (with_words world words) (request.On name call)) given splits spent
    (answers (with_words world words) (stands_apart before world words stands) (λ place. refl))))
  where
    own : Stepped
    own = step world (request.On name call)

    its : Stepped
    its = record own { world = with_words own.world words }

    by : (result : Result Reply TrFault) → Makes result is_spent after world its → Makes result is_spent after world own
    by (Ok value) (is, through, left) = (is, through, stands_apart after its.world own.world.words left)
    by (Err (fault.Code code)) (is, left) = (is, stands_apart after its.world own.world.words left)
    by (Err fault.NoMemory) either = either

-- what a call did on a transaction for which it stood, where this is what the call answers and leaves
abbrev pub Answers : Result Reply TrFault → (is_spent : Bool) → CoreModel → (name : List ℕ) → Setting → Transaction → Called → Type 0
Answers (Ok given) is_spent core name setting t its =
    (given ≡ its.reply) × (refusal given ≡ None) × StandsIn core name setting its.transaction
Answers (Err (fault.Code code)) is_spent core name setting t its =
    (reply.Fault code ≡ its.reply) × StandsIn core name setting its.transaction
Answers (Err fault.NoMemory) is_spent core name setting t its = Stands is_spent core name setting t

abbrev pub AnswersSilently : Result (Unit {0}) TrFault → (is_spent : Bool) → CoreModel → (name : List ℕ) → Setting → Transaction → Called → Type 0
AnswersSilently (Ok done) is_spent core name setting t its = IsLetThrough its × StandsIn core name setting its.transaction
AnswersSilently (Err (fault.Code code)) is_spent core name setting t its =
    (reply.Fault code ≡ its.reply) × StandsIn core name setting its.transaction
AnswersSilently (Err fault.NoMemory) is_spent core name setting t its = Stands is_spent core name setting t

module _ (is_spent : Bool) (before after : CoreModel) (name : List ℕ) (setting : Setting) (t : Transaction) (call : TxnCall) (its : Called)
    (is : (life : ℕ) → called setting life t call ≡ its) (plain : IsPlain t its) (stood : StandsIn before name setting t) where
  step_its : step stood.world (request.On name call) ≡ stepped stood.world name its
  step_its =
      step_is stood.world name t call stood.there
      ∙ ap (stepped stood.world name) (ap (λ (s : Setting). called s (next_life stood.world) t call) stood.setting_is ∙ is (next_life stood.world))

  stands_left : StandsFor after (stepped stood.world name its).world → StandsIn after name setting its.transaction
  stands_left stands =
      let alike = alike_left stood.world name t its stood.there plain stood.settled in
      record {
        world = (stepped stood.world name its).world;
        stands = stands;
        setting_is = alike.setting ∙ stood.setting_is;
        there = left_there stood.world name t its stood.there plain;
        settled = settled_still t its.transaction stood.world.lives (stepped stood.world name its).world.lives plain.life plain.phase alike.lives
            stood.settled;
      }

  still : (is_spent ≡ true) ⊎ StandsFor after stood.world → Stands is_spent after name setting t
  still (inl spent) = inl spent
  still (inr stands) = inr (record {
    world = stood.world;
    stands = stands;
    setting_is = stood.setting_is;
    there = stood.there;
    settled = stood.settled;
  })

  answers_by : (result : Result Reply TrFault) → Makes result is_spent after stood.world (stepped stood.world name its)
      → Answers result is_spent after name setting t its
  answers_by (Ok given) (replied, through, stands) = (replied, through, stands_left stands)
  answers_by (Err (fault.Code code)) (replied, stands) = (replied, stands_left stands)
  answers_by (Err fault.NoMemory) either = still either

  silently_by : (result : Result (Unit {0}) TrFault) → MakesSilently result is_spent after stood.world (stepped stood.world name its)
      → AnswersSilently result is_spent after name setting t its
  silently_by (Ok done) (through, stands) = (through, stands_left stands)
  silently_by (Err (fault.Code code)) (replied, stands) = (replied, stands_left stands)
  silently_by (Err fault.NoMemory) either = still either

module _ (was_spent is_spent : Bool) (before after : CoreModel) (name : List ℕ) (setting : Setting) (t : Transaction) (call : TxnCall)
    (its : Called) (is : (life : ℕ) → called setting life t call ≡ its) (plain : IsPlain t its) where
  pub answers : (result : Result Reply TrFault) → (was_spent ≡ true → (result ≡ Err fault.NoMemory) × (is_spent ≡ true))
      → ((world : World) → StandsFor before world → Makes result is_spent after world (step world (request.On name call)))
      → Stands was_spent before name setting t → Answers result is_spent after name setting t its
  answers result spent makes (inl was) =
      subst (λ (r : Result Reply TrFault). Answers r is_spent after name setting t its) (sym (spent was).0) (inl (spent was).1)
  answers result spent makes (inr stood) =
      answers_by is_spent before after name setting t call its is plain stood result
      (subst (Makes result is_spent after stood.world) (step_its is_spent before after name setting t call its is plain stood)
      (makes stood.world stood.stands))

  pub answers_silently : (result : Result (Unit {0}) TrFault) → (was_spent ≡ true → (result ≡ Err fault.NoMemory) × (is_spent ≡ true))
      → ((world : World) → StandsFor before world → MakesSilently result is_spent after world (step world (request.On name call)))
      → Stands was_spent before name setting t → AnswersSilently result is_spent after name setting t its
  answers_silently result spent makes (inl was) =
      subst (λ (r : Result (Unit {0}) TrFault). AnswersSilently r is_spent after name setting t its) (sym (spent was).0) (inl (spent was).1)
  answers_silently result spent makes (inr stood) =
      silently_by is_spent before after name setting t call its is plain stood result
      (subst (MakesSilently result is_spent after stood.world) (step_its is_spent before after name setting t call its is plain stood)
      (makes stood.world stood.stands))

-- ---- as the trait says it

module _ (is_spent : Bool) (after : CoreModel) (name name_after : List ℕ) (setting : Setting) (t : Transaction) (its : Called)
    (same : name_after ≡ name) where
  abbrev Left : Transaction → Type 0
  Left left = Stands is_spent after name_after setting left

  named : (left : Transaction) → StandsIn after name setting left → Left left
  named left stands = inr (subst (λ (n : List ℕ). StandsIn after n setting left) (sym same) stands)

  still_named : Stands is_spent after name setting t → Left t
  still_named stands = subst (λ (n : List ℕ). Stands is_spent after n setting t) (sym same) stands

  pub said_silently : (IsLetThrough its → reply.Done ≡ its.reply) → (result : Result (Unit {0}) TrFault)
      → AnswersSilently result is_spent after name setting t its → Answered (λ _. reply.Done) result Left t its
  said_silently done (Ok value) (through, stands) = (done through, named its.transaction stands)
  said_silently done (Err (fault.Code code)) (replied, stands) = (replied, named its.transaction stands)
  said_silently done (Err fault.NoMemory) stands = still_named stands

  pub refused_so : {A : Type 0} (replied : A → Reply) (why : TrFault) → Answers (Err why) is_spent after name setting t its
      → Answered replied (Err why) Left t its
  refused_so replied (fault.Code code) (is, stands) = (is, named its.transaction stands)
  refused_so replied fault.NoMemory stands = still_named stands

  pub said_so : {A : Type 0} (replied : A → Reply) (value : A) (given : Reply) → given ≡ replied value
      → Answers (Ok given) is_spent after name setting t its → Answered replied (Ok value) Left t its
  said_so replied value given is (said, through, stands) = (sym is ∙ said, named its.transaction stands)

-- ---- all else

module _ (was_spent is_spent : Bool) (before after : CoreModel) (name name_after : List ℕ) (call : TxnCall) (plain : IsPlainCall call)
    (same : name_after ≡ name) where
  stays_left : (world : World) (t : Transaction) → finite.get world.transactions name ≡ Some t → IsSettled t world.lives
      → StandsFor after (step world (request.On name call)).world → Stays world name t after
  stays_left world t there settled stands =
      let its = called world.setting (next_life world) t call in
      let its_plain = plain world.setting (next_life world) t in
      record {
        after = (stepped world name its).world;
        left = its.transaction;
        stands = subst (λ stepped. StandsFor after stepped.world) (step_is world name t call there) stands;
        there = left_there world name t its there its_plain;
        life = its_plain.life;
        phase = its_plain.phase;
        alike = alike_left world name t its there its_plain settled;
      }

  still_stays : (world : World) (t : Transaction) → finite.get world.transactions name ≡ Some t
      → (is_spent ≡ true) ⊎ StandsFor after world → (is_spent ≡ true) ⊎ Stays world name t after
  still_stays world t there (inl spent) = inl spent
  still_stays world t there (inr stands) = inr (stays_itself after name world t stands there)

  stays_by : (result : Result Reply TrFault) (world : World) (t : Transaction) → finite.get world.transactions name ≡ Some t
      → IsSettled t world.lives → Makes result is_spent after world (step world (request.On name call))
      → (is_spent ≡ true) ⊎ Stays world name t after
  stays_by (Ok given) world t there settled (replied, through, stands) = inr (stays_left world t there settled stands)
  stays_by (Err (fault.Code code)) world t there settled (replied, stands) = inr (stays_left world t there settled stands)
  stays_by (Err fault.NoMemory) world t there settled either = still_stays world t there either

  silently_stays_by : (result : Result (Unit {0}) TrFault) (world : World) (t : Transaction) → finite.get world.transactions name ≡ Some t
      → IsSettled t world.lives → MakesSilently result is_spent after world (step world (request.On name call))
      → (is_spent ≡ true) ⊎ Stays world name t after
  silently_stays_by (Ok done) world t there settled (through, stands) = inr (stays_left world t there settled stands)
  silently_stays_by (Err (fault.Code code)) world t there settled (replied, stands) = inr (stays_left world t there settled stands)
  silently_stays_by (Err fault.NoMemory) world t there settled either = still_stays world t there either

  pub keeps_rest : (result : Result Reply TrFault) → (was_spent ≡ true → (result ≡ Err fault.NoMemory) × (is_spent ≡ true))
      → ((world : World) → StandsFor before world → Makes result is_spent after world (step world (request.On name call)))
      → KeepsRest was_spent is_spent before after name name_after
  keeps_rest result spent makes = record {
    same_name = same;
    spent = λ was. (spent was).1;
    stays = λ world t stands there settled. stays_by result world t there settled (makes world stands);
  }

  pub keeps_rest_silently : (result : Result (Unit {0}) TrFault) → (was_spent ≡ true → (result ≡ Err fault.NoMemory) × (is_spent ≡ true))
      → ((world : World) → StandsFor before world → MakesSilently result is_spent after world (step world (request.On name call)))
      → KeepsRest was_spent is_spent before after name name_after
  keeps_rest_silently result spent makes = record {
    same_name = same;
    spent = λ was. (spent was).1;
    stays = λ world t stands there settled. silently_stays_by result world t there settled (makes world stands);
  }
