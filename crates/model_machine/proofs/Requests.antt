-- What a law holds of a world, each request keeps; and it makes two commits at most.
use Rattle.std.proofs.Common.{◌≡◌, ℕ, ◌+◌, ◌≤◌, inl, inr, Bool, true, false, cond, List, [], ◌∷◌, ◌++◌, length, Option, Some, None, refl, sym, ap, subst, ◌∙◌, length-append, arith}
use Rattle.std.specs.Prelude.{is_some, nat_lt, unwrap_or}
use Rattle.std.specs.FinMap as finite
use Rattle.std.specs.Ordering.{eq_by_cmp}
use Rattle.std.specs.Cmp.Lexicographic.{nat_list_cmp_total}
use Rattle.std.proofs.lemmas.Bool.{cond_both}
use Rattle.std.proofs.lemmas.List.{append-nil}
use Rattle.std.proofs.lemmas.Option.{none-some, same_Some}
use Rattle.key_bytes.specs.Keys.{key_cmp}
use Rattle.model_commands.specs.declared.args.RunArgs.{RunArgs}
use Rattle.model_database.specs.declared.Phase.{Phase}
use Rattle.model_database.specs.declared.Phase.TheVariants as phase
use Rattle.model_database.specs.declared.Tried.TheVariants as tried
use Rattle.model_database.specs.Histories.{Commit, History, Setting, last, loaded}
use Rattle.model_database.specs.Transactions.{Transaction, commit_code, conflict_checks, first_failing, fresh, is_read_only, view, with_version}
use Rattle.directory_types.specs.declared.Layer.{Layer}
use Rattle.directory_types.specs.declared.DirArgs.{DirArgs}
use Rattle.directory_types.specs.declared.DirKind.{DirKind}
use Rattle.model_directory.specs.Calls.{course, effect}
use Rattle.model_directory.proofs.Keeping.{run_keeps}
use Rattle.fdb_calls.specs.declared.Request.{Request}
use Rattle.fdb_calls.specs.declared.Request.TheVariants as request
use Rattle.fdb_calls.specs.declared.TxnCall.{TxnCall}
use Rattle.fdb_calls.specs.declared.TxnCall.TheVariants as call
use Rattle.fdb_calls.specs.Calling.{Called, called, code_of, commit_allowed, commit_at_version, commit_by, commit_called, commit_refused, in_turn, is_fault, logs, next_version}
use Rattle.model_machine.specs.declared.TheConstants.{MACHINES}
use Rattle.model_machine.specs.Worlds.{World, Transactions, and_commit, begun, call_named, called_apart, database_by, directory_called, directory_step, fresh_at_last, next_life, start_by, step, stepped, transaction_of, with_drawn, with_lives, with_named, with_new}
use Rattle.model_machine.specs.Held.{AreHeld, HoldsIn}
use Rattle.model_machine.proofs.Keeping.{IsKept}
use Rattle.model_machine.proofs.Calls.{IsQuiet, act_quiet, called_quiet, logs_quiet}

-- it holds of a world that has so many commits more at most
pub record HoldsAfter (IsGrown : History → Type 0) (IsHeld : History → Transaction → Type 0) (before : World) (most : ℕ) (after : World) : Type 0 where
  pub there : HoldsIn IsGrown IsHeld after
  pub few : last after.setting.history ≤ last before.setting.history + most

-- what a call leaves of it: a transaction of which it is held, and one commit at most, of which it holds behind those before it
record IsGood (IsGrown : History → Type 0) (IsHeld : History → Transaction → Type 0) (before : History) (called : Called) : Type 0 where
  pub held : IsHeld before called.transaction
  pub grown : IsGrown (before ++ called.commits)
  pub few : length called.commits ≤ 1

-- the world at the beginning, where it holds of the loaded pairs
pub begun_holds : (IsGrown : History → Type 0) (IsHeld : History → Transaction → Type 0) (pairs : List (List ℕ × List ℕ))
    (arguments : RunArgs) (words : ℕ → ℕ) → IsGrown (loaded pairs ∷ [])
    → HoldsIn IsGrown IsHeld (record (begun pairs arguments) { words = words })
begun_holds IsGrown IsHeld pairs arguments words grown = record {
  grown = grown;
  held = λ name t found. absurd (none-some t (sym (finite.get-empty key_cmp name) ∙ found));
}

module _ (IsGrown : History → Type 0) (IsHeld : History → Transaction → Type 0) (kept : IsKept IsGrown IsHeld) where
  abbrev Good : History → Called → Type 0
  Good = IsGood IsGrown IsHeld

  abbrev Holds : World → Type 0
  Holds = HoldsIn IsGrown IsHeld

  abbrev After : World → ℕ → World → Type 0
  After = HoldsAfter IsGrown IsHeld

  -- ---- calls

  -- a call that makes no commit
  quiet_good : (before : History) (made : Called) → IsGrown before → IsQuiet (IsHeld before) made → Good before made
  quiet_good before made grown quiet = record {
    held = quiet.kept;
    grown = subst IsGrown (sym (ap (λ commits. before ++ commits) quiet.none ∙ append-nil before)) grown;
    few = subst (λ commits. length commits ≤ 1) (sym quiet.none) (omega arith);
  }

  -- a commit that is refused
  refused_good : (setting : Setting) (phase : Phase) (code : ℕ) (t : Transaction) → IsGrown setting.history → IsHeld setting.history t
      → Good setting.history (commit_refused phase code t)
  refused_good setting phase.Active code t grown held =
      quiet_good setting.history _ grown
      (record { kept = (kept.calls setting grown).phase t (phase.Tried (tried.Refused (code_of code))) held; none = refl })
  refused_good setting phase.Cancelled code t grown held = quiet_good setting.history _ grown (record { kept = held; none = refl })
  refused_good setting (phase.Tried outcome) code t grown held = quiet_good setting.history _ grown (record { kept = held; none = refl })

  -- a commit at its version, by its later checks
  at_version_good : (setting : Setting) (t : Transaction) → IsGrown setting.history → IsHeld setting.history (with_version setting t)
      → Good setting.history (commit_at_version (first_failing (conflict_checks setting (with_version setting t))) setting (with_version setting t))
  at_version_good setting t grown held = by (first_failing (conflict_checks setting (with_version setting t))) refl
    where
      by : (code : Option ℕ) → first_failing (conflict_checks setting (with_version setting t)) ≡ code
          → Good setting.history (commit_at_version code setting (with_version setting t))
      by (Some code) is = refused_good setting t.phase code (with_version setting t) grown held
      by None is = record {
        held = (kept.calls setting grown).phase (with_version setting t) (phase.Tried (tried.Version (next_version setting))) held;
        grown = kept.commit setting t grown is held;
        few = omega arith;
      }

  -- a commit, whatever its checks say, and whether it is read-only or not
  commit_good : (setting : Setting) (t : Transaction) → IsGrown setting.history → IsHeld setting.history t
      → Good setting.history (commit_called setting t)
  commit_good setting t grown held = by (commit_code t.phase (is_read_only t) t.size)
    where
      allowed : (read_only : Bool) → Good setting.history (commit_allowed read_only setting t)
      allowed true = quiet_good setting.history _ grown
          (record { kept = (kept.calls setting grown).phase t (phase.Tried tried.ReadOnly) held; none = refl })
      allowed false = at_version_good setting t grown ((kept.calls setting grown).acts.taken t held)

      by : (code : Option ℕ) → Good setting.history (commit_by code setting t)
      by (Some code) = refused_good setting t.phase code t grown held
      by None = allowed (is_read_only t)

  -- each call
  called_good : (setting : Setting) (life : ℕ) (t : Transaction) (its_call : TxnCall) → IsGrown setting.history → IsHeld setting.history t
      → Good setting.history (called setting life t its_call)
  unfolding called
  called_good setting life t its_call grown held =
      elim (called_quiet setting (IsHeld setting.history) (kept.calls setting grown) life t its_call held) [
        | inl quiet ↦ quiet_good setting.history (called setting life t its_call) grown quiet
        | inr commit ↦ subst (λ asked. Good setting.history (called setting life t asked)) (sym commit) (commit_good setting t grown held)
      ]

  -- a call of a directory layer makes no commit
  directory_good : (setting : Setting) (kind : DirKind) (layer : Layer) (args : DirArgs) (words : ℕ → ℕ) (t : Transaction)
      → IsGrown setting.history → IsHeld setting.history t
      → Good setting.history (directory_called (effect kind layer args setting words t))
  unfolding effect
  directory_good setting kind layer args words t grown held = quiet_good setting.history _ grown (record {
    kept = run_keeps setting (IsHeld setting.history) words (course kind (length (finite.entries (view setting t))) layer args) t
        (λ t act held. (act_quiet setting (IsHeld setting.history) (kept.calls setting grown).acts t act held).kept)
        (kept.allocators setting grown) held;
    none = refl;
  })

  -- ---- named transactions

  -- it is held of them among more commits
  held_more : (history : History) (more : List Commit) (transactions : Transactions) → AreHeld IsHeld history transactions
      → AreHeld IsHeld (history ++ more) transactions
  held_more history more transactions held = λ name t found. kept.later history more t (held name t found)

  -- and of one more
  held_inserted : (history : History) (transactions : Transactions) (name : List ℕ) (t : Transaction)
      → AreHeld IsHeld history transactions → IsHeld history t → AreHeld IsHeld history (finite.insert transactions name t)
  held_inserted history transactions name one held held_one = λ asked t found.
      either (eq_by_cmp key_cmp asked name) (finite.get transactions asked) (held asked) t
      (sym (finite.get-insert nat_list_cmp_total transactions name one asked) ∙ found)
    where
      either : (b : Bool) (other : Option Transaction) → ((t : Transaction) → other ≡ Some t → IsHeld history t)
          → (t : Transaction) → cond b (Some one) other ≡ Some t → IsHeld history t
      either true other others t found = subst (IsHeld history) (same_Some one t found) held_one
      either false other others t found = others t found

  -- it is held of the transaction of a name, which is fresh where the name has none
  named_held : (world : World) (name : List ℕ) → Holds world → IsHeld world.setting.history (transaction_of world name)
  named_held world name there = by (finite.get world.transactions name) (there.held name)
    where
      by : (found : Option Transaction) → ((t : Transaction) → found ≡ Some t → IsHeld world.setting.history t)
          → IsHeld world.setting.history (unwrap_or found (fresh (next_life world)))
      by None held = (kept.calls world.setting there.grown).begun (next_life world)
      by (Some t) held = held t refl

  -- ---- parts of a step

  -- a world with the commits of a good call, and these transactions
  good_after : (world after : World) (made : Called) → Good world.setting.history made
      → after.setting.history ≡ world.setting.history ++ made.commits
      → AreHeld IsHeld (world.setting.history ++ made.commits) after.transactions → After world 1 after
  good_after world after made good is held = record {
    there = record {
      grown = subst IsGrown (sym is) good.grown;
      held = subst (λ history. AreHeld IsHeld history after.transactions) (sym is) held;
    };
    few = subst (λ history. last history ≤ last world.setting.history + 1) (sym is)
        (subst (λ n. n ≤ last world.setting.history + 1) (sym (length-append world.setting.history made.commits)) (omega (arith, good.few)));
  }

  -- what a good call leaves under a name
  stepped_after : (world : World) (name : List ℕ) (made : Called) → Holds world → Good world.setting.history made
      → After world 1 (stepped world name made).world
  stepped_after world name made there good =
      good_after world (stepped world name made).world made good refl
      (held_inserted (world.setting.history ++ made.commits) world.transactions name made.transaction
      (held_more world.setting.history made.commits world.transactions there.held)
      (kept.later world.setting.history made.commits made.transaction good.held))

  -- and what one leaves on a transaction that stands under no name
  apart_after : (world : World) (before : Transaction) (made : Called) → Holds world → Good world.setting.history made
      → After world 1 (called_apart world before made)
  apart_after world before made there good =
      good_after world (called_apart world before made) made good refl
      (held_more world.setting.history made.commits world.transactions there.held)

  -- a name gets a transaction of a new life
  new_after : (world : World) (name : List ℕ) → Holds world → After world 0 (with_new world name)
  new_after world name there = record {
    there = record {
      grown = there.grown;
      held = held_inserted world.setting.history world.transactions name (fresh (next_life world)) there.held
          ((kept.calls world.setting there.grown).begun (next_life world));
    };
    few = omega arith;
  }

  -- one that has none
  named_after : (world : World) (name : List ℕ) → Holds world → After world 0 (with_named world name)
  named_after world name there =
      cond_both (is_some (finite.get world.transactions name)) world (with_new world name) (After world 0)
      (λ is. record { there = there; few = omega arith }) (λ none. new_after world name there)

  -- a call on the transaction of a name
  call_after : (world : World) (name : List ℕ) (its_call : TxnCall) → Holds world → After world 1 (call_named (with_named world name) name its_call).world
  call_after world name its_call there =
      let between = with_named world name in
      let named : After world 0 between = named_after world name there in
      let left = stepped_after between name (called between.setting (next_life between) (transaction_of between name) its_call) named.there
      (called_good between.setting (next_life between) (transaction_of between name) its_call named.there.grown (named_held between name named.there)) in
      record { there = left.there; few = omega (arith, named.few, left.few) }

  -- a transaction of its own
  own_held : (world : World) → Holds world → IsHeld world.setting.history (fresh_at_last world)
  own_held world there =
      let calls = kept.calls world.setting there.grown in
      calls.acts.taken (fresh (next_life world)) (calls.begun (next_life world))

  -- a commit after a call, unless the call was refused
  database_after : (fault : Bool) (world : World) (made committed : Called) → Holds world → Good world.setting.history committed
      → After world 1 (database_by fault world made committed).world
  database_after true world made committed there good = record { there = there; few = omega arith }
  database_after false world made committed there good = apart_after world made.transaction committed there good

  -- a good call on a transaction of its own, and its commit
  and_commit_after : (world : World) (made : World → Transaction → Called) → Holds world
      → Good world.setting.history (made (record world { lives = with_lives world.lives 1 }) (fresh_at_last world))
      → After world 2 (and_commit world made).world
  and_commit_after world made there good =
      let drawn = record world { lives = with_lives world.lives 1 } in
      let first = made drawn (fresh_at_last world) in
      let between = called_apart drawn (fresh_at_last world) first in
      let left = apart_after drawn (fresh_at_last world) first (record { grown = there.grown; held = there.held }) good in
      let second = called between.setting (next_life between) first.transaction call.Commit in
      let after = database_after (is_fault first.reply) between first second left.there
      (called_good between.setting (next_life between) first.transaction call.Commit left.there.grown
      (kept.later world.setting.history first.commits first.transaction good.held)) in
      record { there = after.there; few = omega (arith, left.few, after.few) }

  -- a call of a directory layer on the transaction of a name, and on a transaction of its own
  directory_after : (world : World) (name : Option (List ℕ)) (kind : DirKind) (layer : Layer) (args : DirArgs) → Holds world
      → After world 2 (directory_step world name kind layer args).world
  directory_after world None kind layer args there =
      let made = effect kind layer args world.setting world.words (fresh_at_last world) in
      let left = and_commit_after (with_drawn world made.words) (λ drawn t. directory_called made)
      (record { grown = there.grown; held = there.held })
      (directory_good world.setting kind layer args world.words (fresh_at_last world) there.grown (own_held world there)) in
      record { there = left.there; few = left.few }
  directory_after world (Some name) kind layer args there =
      let between = with_named world name in
      let named : After world 0 between = named_after world name there in
      let made = effect kind layer args between.setting between.words (transaction_of between name) in
      let left = stepped_after between name (directory_called made) named.there
      (directory_good between.setting kind layer args between.words (transaction_of between name) named.there.grown
      (named_held between name named.there)) in
      record {
        there = record { grown = left.there.grown; held = left.there.held };
        few = omega (arith, named.few, left.few);
      }

  -- a machine that is started makes no commit
  start_after : (there_is_room : Bool) (world : World) (prefix : List ℕ) → Holds world → After world 2 (start_by there_is_room world prefix).world
  start_after true world prefix there = record { there = record { grown = there.grown; held = there.held }; few = omega arith }
  start_after false world prefix there = record { there = there; few = omega arith }

  -- ---- requests

  pub request_keeps : (world : World) (given : Request) → Holds world → After world 2 (step world given).world
  unfolding step
  request_keeps world (request.New name) there =
      let left = new_after world name there in record { there = left.there; few = omega (arith, left.few) }
  request_keeps world (request.On name its_call) there =
      let left = call_after world name its_call there in record { there = left.there; few = omega (arith, left.few) }
  request_keeps world (request.Database its_call) there =
      let drawn = record world { lives = with_lives world.lives 1 } in
      and_commit_after world (λ drawn t. called drawn.setting (next_life drawn) t its_call) there
      (called_good world.setting (next_life drawn) (fresh_at_last world) its_call there.grown (own_held world there))
  request_keeps world (request.Directory name layer kind args) there = directory_after world name kind layer args there
  request_keeps world (request.Log prefix entries) there =
      and_commit_after world (λ drawn t. in_turn (logs prefix entries) t) there
      (quiet_good world.setting.history _ there.grown
      (logs_quiet world.setting (IsHeld world.setting.history) (kept.calls world.setting there.grown).acts prefix entries (fresh_at_last world)
      (own_held world there)))
  request_keeps world (request.PollStamp life) there = record { there = there; few = omega arith }
  request_keeps world (request.PollEmpty prefix) there = record { there = there; few = omega arith }
  request_keeps world (request.Start prefix) there = start_after (nat_lt (length world.started) MACHINES) world prefix there
