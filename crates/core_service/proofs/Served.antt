-- What a service over the core answered in turn are the replies of steps of the world.
use Rattle.std.proofs.Common.{◌≡◌, ◌≢◌, ℕ, suc, List, [], ◌∷◌, length, map, Option, Some, None, refl, sym, ap, subst, ◌∙◌}
use Rattle.std.specs.List.{All}
use Rattle.std.proofs.lemmas.List.Elements.{All-head, All-tail}
use Rattle.fdb_calls.specs.declared.Request.{Request}
use Rattle.fdb_calls.specs.declared.Reply.{Reply}
use Rattle.fdb_calls.specs.declared.Reply.TheVariants as reply
use Rattle.fdb_calls.specs.declared.Reply.TheVariants.{NoMemory}
use Rattle.client_core.specs.Stands.{CoreModel, StandsFor, Answers}
use Rattle.model_machine.specs.Worlds.{World, Stepped, HasWords, step}
use Rattle.network.specs.Serving.{IsRun}
use Rattle.laws_threads.specs.Weaving.{AreSteps, places_over}

-- what a core has answered, where memory lasted
pub stands_after : (given : Reply) (core : CoreModel) (words : ℕ → ℕ) (stepped : Stepped) → given ≢ reply.NoMemory
    → Answers given core words stepped
    → (stepped.reply ≡ given) × StandsFor core stepped.world × HasWords stepped.world words
stands_after reply.Done core words stepped is answers = answers
stands_after (reply.Value value) core words stepped is answers = answers
stands_after (reply.KeyIs key) core words stepped is answers = answers
stands_after (reply.PairsAre pairs) core words stepped is answers = answers
stands_after (reply.Version version) core words stepped is answers = answers
stands_after (reply.Life life) core words stepped is answers = answers
stands_after (reply.Stamp stamp) core words stepped is answers = answers
stands_after reply.NotYet core words stepped is answers = answers
stands_after (reply.Fault code) core words stepped is answers = answers
stands_after reply.Empty core words stepped is answers = answers
stands_after (reply.Started machine instructions) core words stepped is answers = answers
stands_after (reply.Dir answer) core words stepped is answers = answers
stands_after (reply.DirFault fault) core words stepped is answers = answers
stands_after reply.NoMachine core words stepped is answers = answers
stands_after reply.NoMemory core words stepped is answers = absurd (is refl)

-- the replies, and the world that the core stands for behind them
pub record HasServed (world : World) (asked : List (ℕ × Request)) (given : List (Option Reply)) (core : CoreModel) (words : ℕ → ℕ)
    : Type 0 where
  pub replies : List Reply
  pub given_are : given ≡ map Some replies
  pub as_many : length replies ≡ length asked
  pub last : World
  pub steps : AreSteps world (places_over asked replies) last
  pub stands : StandsFor core last
  pub has_words : HasWords last words

module _ {S : Type 0} (answers : S → ℕ → Request → Reply → S → Type 0) (core : S → CoreModel) (words : S → ℕ → ℕ)
    (answered : (before : S) (machine : ℕ) (request : Request) (given : Reply) (after : S) → answers before machine request given after
    → (world : World) → StandsFor (core before) world → HasWords world (words before)
    → Answers given (core after) (words after) (step world request)) where
  one_more : (machine : ℕ) (request : Request) (reply : Reply) (asked : List (ℕ × Request)) (given : List (Option Reply)) (world : World)
      (after : S) → (step world request).reply ≡ reply → HasServed (step world request).world asked given (core after) (words after)
      → HasServed world ((machine, request) ∷ asked) (Some reply ∷ given) (core after) (words after)
  one_more machine request reply asked given world after is later = record {
    replies = reply ∷ later.replies;
    given_are = ap (λ l. Some reply ∷ l) later.given_are;
    as_many = ap suc later.as_many;
    last = later.last;
    steps = (is, later.steps);
    stands = later.stands;
    has_words = later.has_words;
  }

  pub served_steps : (asked : List (ℕ × Request)) (given : List (Option Reply)) (before after : S) (world : World)
      → IsRun answers before asked given after → All (λ (given : Option Reply). given ≢ Some NoMemory) given
      → StandsFor (core before) world → HasWords world (words before) → HasServed world asked given (core after) (words after)
  served_steps [] [] before after world run memory stands has = record {
    replies = [];
    given_are = refl;
    as_many = refl;
    last = world;
    steps = refl;
    stands = subst (λ (s : S). StandsFor (core s) world) (sym run) stands;
    has_words = subst (λ (s : S). HasWords world (words s)) (sym run) has;
  }
  served_steps [] (reply ∷ given) before after world run memory stands has = absurd run
  served_steps (first ∷ asked) [] before after world run memory stands has = absurd run
  served_steps (first ∷ asked) (None ∷ given) before after world run memory stands has = absurd run
  served_steps ((machine, request) ∷ asked) (Some reply ∷ given) before after world run memory stands has =
      let one = answered before machine request reply run.0 run.1 world stands has in
      let taken = stands_after reply (core run.0) (words run.0) (step world request)
      (λ e. All-head (λ (r : Option Reply). r ≢ Some NoMemory) (Some reply) given memory (ap Some e)) one in
      one_more machine request reply asked given world after taken.0
      (served_steps asked given run.0 after (step world request).world run.2
      (All-tail (λ (r : Option Reply). r ≢ Some NoMemory) (Some reply) given memory) taken.1 taken.2)
