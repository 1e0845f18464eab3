-- Calls of push and pop leave scripts of the queue.
use Rattle.std.proofs.Common.{◌≡◌, ℕ, Bool, true, false, List, [], ◌∷◌, ◌++◌, Option, Some, None, Result, Ok, Err, refl, sym, ap, ◌∙◌, subst, append_assoc}
use Rattle.std.specs.Prelude.{not}
use Rattle.std.proofs.lemmas.List.{append-nil}
use Rattle.model_database.specs.Databases.{Mutation, Set, Clear, ClearRange, Atomic}
use Rattle.model_database.specs.Histories.{Script, Entry, Wrote, HasRead, Setting}
use Rattle.model_database.specs.Reads.{Read, PairsAre, answer}
use Rattle.model_database.specs.Slices.{Entries, slice}
use Rattle.model_database.specs.Transactions.{Transaction, view, with_version, first_failing, late_checks, read_code, set_code, clear_code, range_code, op_code}
use Rattle.fdb_calls.specs.Calling.{read_by, read_at_version, write_by}
use Rattle.model_allocator.specs.Acts.{Reads, Writes, act_called, all_acted, refusal}
use Rattle.model_recipes.specs.declared.fault.RecipeFault.{RecipeFault}
use Rattle.model_recipes.specs.Turns.{Call, ending, first_pair, space_begin, space_end, turned_by, writing}
use Rattle.model_recipes.specs.Queues.{next_key, popping, push_call, pop_call}
use Rattle.model_recipes.proofs.Calling.{each_through, none_acted}
use Rattle.laws_queue.specs.Scripts.{CallsGoOn, IsElsewhere, IsLetThrough, IsOfQueue, script_after, added_by, first_read, last_read, taken_by}

-- ---- the script after a read and a write

late_script : (setting : Setting) (t : Transaction) (later : Option ℕ) (read : Read)
    → refusal (read_at_version later setting t false read).reply ≡ None
    → (read_at_version later setting t false read).transaction.script ≡ t.script ++ HasRead read (answer read (view setting t)) ∷ []
late_script setting t (Some code) read passed = absurd cc
late_script setting t None read passed = refl

pub read_script : (setting : Setting) (t : Transaction) (first : Option ℕ) (read : Read) → refusal (read_by first setting t false read).reply ≡ None
    → (read_by first setting t false read).transaction.script ≡ t.script ++ HasRead read (answer read (view setting t)) ∷ []
read_script setting t (Some code) read passed = absurd cc
read_script setting t None read passed =
    let taken = with_version setting t in late_script setting taken (first_failing (late_checks setting taken read)) read passed

write_script : (t : Transaction) (code : Option ℕ) (mutation : Mutation) → refusal (write_by code t mutation).reply ≡ None
    → (write_by code t mutation).transaction.script ≡ t.script ++ Wrote mutation (not t.skips_write_conflict) ∷ []
write_script t (Some code) mutation passed = absurd cc
write_script t None mutation passed = refl

pub wrote_script : (setting : Setting) (t : Transaction) (mutation : Mutation) → refusal (act_called setting t (Writes mutation)).reply ≡ None
    → (act_called setting t (Writes mutation)).transaction.script ≡ t.script ++ Wrote mutation (not t.skips_write_conflict) ∷ []
wrote_script setting t (Set key value) passed = write_script t (set_code t.phase key value) (Set key value) passed
wrote_script setting t (Clear key) passed = write_script t (clear_code t.phase key) (Clear key) passed
wrote_script setting t (ClearRange begin end) passed = write_script t (range_code t.phase begin end) (ClearRange begin end) passed
wrote_script setting t (Atomic op key operand) passed = write_script t (op_code t.phase op key operand) (Atomic op key operand) passed

-- after a read alone
pub read_alone : (setting : Setting) (t : Transaction) (read : Read) → (all_acted setting (Reads read false ∷ []) t).refused ≡ None
    → (all_acted setting (Reads read false ∷ []) t).transaction.script ≡ t.script ++ HasRead read (answer read (view setting t)) ∷ []
read_alone setting t read none =
    let first = each_through setting (Reads read false) [] t none in
    let after = (act_called setting t (Reads read false)).transaction in
    ap (λ (u : Transaction). u.script) (first.left ∙ (none_acted setting after).1)
    ∙ read_script setting t (read_code t.phase false read) read first.passed

-- whether the write behind a read adds a write conflict range
abbrev pub adds_behind : Setting → Transaction → Read → Bool
adds_behind setting t read = not (act_called setting t (Reads read false)).transaction.skips_write_conflict

pub read_and_write : (setting : Setting) (t : Transaction) (read : Read) (mutation : Mutation)
    → (all_acted setting (Reads read false ∷ Writes mutation ∷ []) t).refused ≡ None
    → (all_acted setting (Reads read false ∷ Writes mutation ∷ []) t).transaction.script
    ≡ t.script ++ (HasRead read (answer read (view setting t)) ∷ Wrote mutation (adds_behind setting t read) ∷ [])
read_and_write setting t read mutation none =
    let first = each_through setting (Reads read false) (Writes mutation ∷ []) t none in
    let between = (act_called setting t (Reads read false)).transaction in
    let second = each_through setting (Writes mutation) [] between first.others in
    let after = (act_called setting between (Writes mutation)).transaction in
    ap (λ (u : Transaction). u.script) (first.left ∙ second.left ∙ (none_acted setting after).1)
    ∙ wrote_script setting between mutation second.passed
    ∙ ap (λ script. script ++ Wrote mutation (adds_behind setting t read) ∷ []) (read_script setting t (read_code t.phase false read) read first.passed)
    ∙ append_assoc t.script (HasRead read (answer read (view setting t)) ∷ []) (Wrote mutation (adds_behind setting t read) ∷ [])

-- ---- one script behind another

then : (space : List ℕ) (script : Script) (pushed popped : List (List ℕ)) → IsOfQueue space script pushed popped
    → (more : Script) (more_pushed more_popped : List (List ℕ)) → IsOfQueue space more more_pushed more_popped
    → IsOfQueue space (script ++ more) (pushed ++ more_pushed) (popped ++ more_popped)
then space _ _ _ IsOfQueue.ends more more_pushed more_popped behind = behind
then space _ _ _ (IsOfQueue.pushes given key value adds_conflict script pushed popped is others) more more_pushed more_popped behind =
    IsOfQueue.pushes given key value adds_conflict (script ++ more) (pushed ++ more_pushed) (popped ++ more_popped) is
    (then space script pushed popped others more more_pushed more_popped behind)
then space _ _ _ (IsOfQueue.pops given key value adds_conflict script pushed popped is others) more more_pushed more_popped behind =
    IsOfQueue.pops given key value adds_conflict (script ++ more) (pushed ++ more_pushed) (popped ++ more_popped) is
    (then space script pushed popped others more more_pushed more_popped behind)
then space _ _ _ (IsOfQueue.does entry script pushed popped alone others) more more_pushed more_popped behind =
    IsOfQueue.does entry (script ++ more) (pushed ++ more_pushed) (popped ++ more_popped) alone
    (then space script pushed popped others more more_pushed more_popped behind)

module _ (setting : Setting) (space : List ℕ) (t : Transaction) (pushed popped : List (List ℕ)) (before : IsOfQueue space t.script pushed popped) where
  -- with entries that pushed these values more, or popped these
  pushed_more : (after more : Script) (values : List (List ℕ)) → after ≡ t.script ++ more → IsOfQueue space more values []
      → IsOfQueue space after (pushed ++ values) popped
  pushed_more after more values is behind =
      subst (λ all. IsOfQueue space after (pushed ++ values) all) (append-nil popped)
      (subst (λ script. IsOfQueue space script (pushed ++ values) (popped ++ [])) (sym is) (then space t.script pushed popped before more values [] behind))

  popped_more : (after more : Script) (values : List (List ℕ)) → after ≡ t.script ++ more → IsOfQueue space more [] values
      → IsOfQueue space after pushed (popped ++ values)
  popped_more after more values is behind =
      subst (λ all. IsOfQueue space after all (popped ++ values)) (append-nil pushed)
      (subst (λ script. IsOfQueue space script (pushed ++ []) (popped ++ values)) (sym is) (then space t.script pushed popped before more [] values behind))

  other_goes_on : (entry : Entry) → IsElsewhere space entry → IsOfQueue space (t.script ++ entry ∷ []) pushed popped
  other_goes_on entry alone =
      subst (λ all. IsOfQueue space (t.script ++ entry ∷ []) all popped) (append-nil pushed)
      (pushed_more (t.script ++ entry ∷ []) (entry ∷ []) [] refl (IsOfQueue.does entry [] [] [] alone IsOfQueue.ends))

  -- ---- push

  abbrev pushing : (value : List ℕ) → Result (List ℕ) RecipeFault → Call (Unit {0})
  pushing value found = record { read = last_read space; turn = turned_by (λ key. writing (Set key value) tt) found }

  push_goes_on : (value : List ℕ) → IsLetThrough setting (push_call space value (view setting t)) t
      → IsOfQueue space (script_after setting (push_call space value (view setting t)) t)
      (pushed ++ added_by value (ending (push_call space value (view setting t)).turn)) popped
  unfolding push_call answer
  push_goes_on value none = by (next_key space (first_pair given)) refl none
    where
      given : Entries
      given = slice (view setting t) (space_begin space) (space_end space) 1 true

      by : (found : Result (List ℕ) RecipeFault) → next_key space (first_pair given) ≡ found
          → IsLetThrough setting (pushing value found) t
          → IsOfQueue space (script_after setting (pushing value found) t)
          (pushed ++ added_by value (ending (pushing value found).turn)) popped
      by (Err fault) is none =
          pushed_more _ (HasRead (last_read space) (PairsAre given) ∷ []) [] (read_alone setting t (last_read space) none)
          (IsOfQueue.does _ [] [] [] tt IsOfQueue.ends)
      by (Ok key) is none =
          pushed_more _ (HasRead (last_read space) (PairsAre given) ∷ Wrote (Set key value) (adds_behind setting t (last_read space)) ∷ []) (value ∷ [])
          (read_and_write setting t (last_read space) (Set key value) none)
          (IsOfQueue.pushes given key value _ [] [] [] is IsOfQueue.ends)

  -- ---- pop

  abbrev taking : Entries → Call (Option (List ℕ))
  taking given = record { read = first_read space; turn = Ok (popping (first_pair given)) }

  pop_goes_on : IsLetThrough setting (pop_call space (view setting t)) t
      → IsOfQueue space (script_after setting (pop_call space (view setting t)) t)
      pushed (popped ++ taken_by (ending (pop_call space (view setting t)).turn))
  unfolding pop_call answer
  pop_goes_on none = by (slice (view setting t) (space_begin space) (space_end space) 1 false) refl none
    where
      by : (given : Entries) → slice (view setting t) (space_begin space) (space_end space) 1 false ≡ given
          → IsLetThrough setting (taking given) t
          → IsOfQueue space (script_after setting (taking given) t) pushed (popped ++ taken_by (ending (taking given).turn))
      by [] is none =
          popped_more _ (HasRead (first_read space) _ ∷ []) [] (read_alone setting t (first_read space) none)
          (IsOfQueue.does _ [] [] [] tt IsOfQueue.ends)
      by (pair ∷ pairs) is none =
          popped_more _ (HasRead (first_read space) (PairsAre (pair ∷ pairs)) ∷ Wrote (Clear pair.0) (adds_behind setting t (first_read space)) ∷ []) (pair.1 ∷ [])
          (read_and_write setting t (first_read space) (Clear pair.0) none
          ∙ ap (λ pairs. t.script ++ (HasRead (first_read space) (PairsAre pairs) ∷ Wrote (Clear pair.0) (adds_behind setting t (first_read space)) ∷ [])) is)
          (IsOfQueue.pops (pair ∷ pairs) pair.0 pair.1 _ [] [] [] refl IsOfQueue.ends)

pub calls_go_on : CallsGoOn
calls_go_on setting space t pushed popped before = record {
  push = push_goes_on setting space t pushed popped before;
  pop = pop_goes_on setting space t pushed popped before;
  other = other_goes_on setting space t pushed popped before;
}
