-- Calls of the transaction one behind the other, by requests, leave what a layer's reads and writes leave.
use Rattle.std.proofs.Common.{◌≡◌, ℕ, true, false, List, [], ◌∷◌, map, Option, Some, None, refl, sym, ap, subst, ◌∙◌}
use Rattle.std.specs.Prelude.{⊤, decimal, is_some}
use Rattle.std.specs.List.{AllByRecursion}
use Rattle.std.specs.FinMap as finite
use Rattle.model_database.specs.declared.Code.{Code}
use Rattle.model_database.specs.Databases.{Mutation, Set, Clear, ClearRange, Atomic}
use Rattle.model_database.specs.Histories.{Setting}
use Rattle.model_database.specs.Reads.{Read, Get, GetKey, GetKeyRange, GetRange}
use Rattle.model_database.specs.Transactions.{Transaction, set_code, clear_code, range_code}
use Rattle.model_allocator.specs.Acts.{Act, Reads, Writes, Acted, act_called, acted_by, all_acted, refusal, words_of}
use Rattle.fdb_calls.specs.declared.Reply.{Reply}
use Rattle.fdb_calls.specs.declared.Reply.TheVariants as reply
use Rattle.fdb_calls.specs.declared.Request.TheVariants as request
use Rattle.fdb_calls.specs.declared.TxnCall.{TxnCall}
use Rattle.fdb_calls.specs.Calling.{Called}
use Rattle.fdb_calls.specs.Calling as calling
use Rattle.model_machine.specs.Worlds.{World, Stepped, next_life, stepped, step}
use Rattle.core_tr.specs.Standing.{IsSettled, AreAlikeElse}
use Rattle.core_tr.specs.StandLaws.{alike_still}
use Rattle.core_tr.proofs.Calls.{IsPlain, read_plain, write_plain}
use Rattle.core_tr.proofs.Steps.{step_is, left_there, alike_left, settled_left}
use Rattle.model_recipes.specs.Turns.{written}
use Rattle.model_shell.specs.Requests.{Did, told, says, silent, name, followed, error_line}
use Rattle.model_shell.specs.Recipes.{read_of, write_of, called_each}

-- what is printed of calls that were made: the code of the one that was refused, if one was
abbrev pub stop_text : Option Code → List ℕ
stop_text None = []
stop_text (Some code) = error_line (decimal code.0)

-- calls by requests did what these acts do on the transaction of the shell's name, and all else is as it was
pub record Folds (world : World) (acted : Acted) (did : Did) : Type 0 where
  pub refused : did.is_refused ≡ is_some acted.refused
  pub text : did.text ≡ stop_text acted.refused
  pub there : finite.get did.world.transactions name ≡ Some acted.transaction
  pub alike : AreAlikeElse name world did.world
  pub words : did.world.words ≡ world.words

-- ---- one call

-- a call is an act
pub record IsActOf (call : TxnCall) (act : Act) : Type 0 where
  pub is : (setting : Setting) (life : ℕ) (t : Transaction) → calling.called setting life t call ≡ act_called setting t act
  pub plain : (setting : Setting) (t : Transaction) → IsPlain t (act_called setting t act)

abbrev stop : Option Code → World → Did
stop None world = says [] world
stop (Some code) world = record { world = world; text = error_line (decimal code.0); is_refused = true }

told_by : (world : World) (given : Reply) → told silent world given ≡ stop (refusal given) world
told_by world reply.Done = refl
told_by world (reply.Value value) = refl
told_by world (reply.KeyIs key) = refl
told_by world (reply.PairsAre pairs) = refl
told_by world (reply.Version version) = refl
told_by world (reply.Life life) = refl
told_by world (reply.Stamp stamp) = refl
told_by world reply.NotYet = refl
told_by world reply.Empty = refl
told_by world (reply.Started machine instructions) = refl
told_by world reply.NoMachine = refl
told_by world (reply.Dir answer) = refl
told_by world (reply.DirFault fault) = refl
told_by world (reply.Fault code) = refl
told_by world reply.NoMemory = refl

-- what stands behind one call, and the rest behind it, where this is what the first one left
module _ (before world : World) (t : Transaction) (words : ℕ) (next : World → Did) (others : Acted) where
  stop_folds : (refused : Option Code) → finite.get world.transactions name ≡ Some t → AreAlikeElse name before world
      → world.words ≡ before.words → Folds world others (next world)
      → Folds before (acted_by refused t words others) (followed (stop refused world) next)
  unfolding followed
  stop_folds (Some code) there alike same rest = record { refused = refl; text = refl; there = there; alike = alike; words = same }
  stop_folds None there alike same rest = record {
    refused = rest.refused;
    text = rest.text;
    there = rest.there;
    alike = alike_still name before world (next world).world alike rest.alike;
    words = rest.words ∙ same;
  }

-- a call on a transaction that is there, and those behind it: `before` is a world like the one in which it is made
pub call_folds : (before world : World) (t : Transaction) (call : TxnCall) (act : Act) (calls : List TxnCall) (acts : List Act)
    → IsActOf call act → (left : Stepped) → step world (request.On name call) ≡ left
    → left.reply ≡ (act_called before.setting t act).reply
    → finite.get left.world.transactions name ≡ Some (act_called before.setting t act).transaction
    → AreAlikeElse name before left.world → left.world.words ≡ before.words
    → Folds left.world (all_acted before.setting acts (act_called before.setting t act).transaction) (called_each calls left.world)
    → Folds before (all_acted before.setting (act ∷ acts) t) (called_each (call ∷ calls) world)
unfolding called_each all_acted
call_folds before world t call act calls acts of left step_is replied there alike words rest =
    let made : Called = act_called before.setting t act in
    subst (λ (did : Did). Folds before (all_acted before.setting (act ∷ acts) t) (followed did (called_each calls)))
    (sym (ap (λ (s : Stepped). told silent s.world s.reply) step_is ∙ told_by left.world left.reply
    ∙ ap (λ (given : Reply). stop (refusal given) left.world) replied))
    (stop_folds before left.world made.transaction (words_of act) (called_each calls)
    (all_acted before.setting acts made.transaction) (refusal made.reply) there alike words rest)

-- ---- writes

abbrev pub IsPlainWrite : Mutation → Type 0
IsPlainWrite (Atomic op key operand) = ⊥
IsPlainWrite _ = ⊤

pub write_act : (mutation : Mutation) → IsPlainWrite mutation → IsActOf (write_of mutation) (Writes mutation)
unfolding calling.called
write_act (Set key value) plain = record {
  is = λ setting life t. refl;
  plain = λ setting t. write_plain (set_code t.phase key value) t (Set key value);
}
write_act (Clear key) plain = record {
  is = λ setting life t. refl;
  plain = λ setting t. write_plain (clear_code t.phase key) t (Clear key);
}
write_act (ClearRange begin end) plain = record {
  is = λ setting life t. refl;
  plain = λ setting t. write_plain (range_code t.phase begin end) t (ClearRange begin end);
}
write_act (Atomic op key operand) plain = absurd plain

pub read_act : (read : Read) → IsActOf (read_of read) (Reads read false)
unfolding calling.called
read_act (Get key) = record { is = λ setting life t. refl; plain = λ setting t. read_plain setting t false false (Get key) }
read_act (GetKey selector) = record { is = λ setting life t. refl; plain = λ setting t. read_plain setting t false false (GetKey selector) }
read_act (GetKeyRange begin end limit reverse) = record {
  is = λ setting life t. refl;
  plain = λ setting t. read_plain setting t false false (GetKeyRange begin end limit reverse);
}
read_act (GetRange begin end limit reverse) = record {
  is = λ setting life t. refl;
  plain = λ setting t. read_plain setting t false false (GetRange begin end limit reverse);
}

pub writes_fold : (mutations : List Mutation) → AllByRecursion IsPlainWrite mutations → (setting : Setting) (world : World) (t : Transaction)
    → world.setting ≡ setting → finite.get world.transactions name ≡ Some t → IsSettled t world.lives
    → Folds world (all_acted setting (written mutations) t) (called_each (map write_of mutations) world)
unfolding called_each all_acted
writes_fold [] plain setting world t same there still = record {
  refused = refl;
  text = refl;
  there = there;
  alike = record { setting = refl; lives = refl; started = refl; others = λ other differs. refl };
  words = refl;
}
writes_fold (mutation ∷ mutations) plain setting world t same there still =
    subst (λ (s : Setting). Folds world (all_acted s (written (mutation ∷ mutations)) t) (called_each (map write_of (mutation ∷ mutations)) world)) same
    (call_folds world world t (write_of mutation) (Writes mutation) (map write_of mutations) (written mutations) of (stepped world name made)
    (step_is world name t (write_of mutation) there ∙ ap (stepped world name) (of.is world.setting (next_life world) t)) refl
    (left_there world name t made there its) alike refl
    (writes_fold mutations plain.1 world.setting (stepped world name made).world made.transaction alike.setting
    (left_there world name t made there its) (settled_left world name t made there its)))
  where
    of : IsActOf (write_of mutation) (Writes mutation)
    of = write_act mutation plain.0

    made : Called
    made = act_called world.setting t (Writes mutation)

    its : IsPlain t made
    its = of.plain world.setting t

    alike : AreAlikeElse name world (stepped world name made).world
    alike = alike_left world name t made there its still
