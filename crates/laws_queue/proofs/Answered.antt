-- A call is, at its commit, the one that it would be on the database that the commits before left.
use Rattle.std.proofs.Common.{◌≡◌, ℕ, List, [], ◌∷◌, ◌++◌, take, Option, None, Result, Ok, Err, refl, sym, ap, ◌∙◌, subst, append_assoc}
use Rattle.std.specs.Prelude.{not, false, true, length, map}
use Rattle.std.specs.FinMap as finite
use Rattle.std.proofs.lemmas.List.{append-nil}
use Rattle.model_database.specs.Databases.{Database, Mutation, Set}
use Rattle.model_database.specs.Histories.{Script, Wrote, HasRead, Granted, Setting, written}
use Rattle.model_database.specs.Reads.{Read, Get, GetKeyRange, Answer, ValueIs, PairsAre, answer}
use Rattle.model_database.specs.Slices.{Entries, slice}
use Rattle.model_database.specs.States.{seen}
use Rattle.model_database.specs.Transactions.{Transaction, view, read_code}
use Rattle.model_allocator.specs.Acts.{Reads, Writes, act_called, all_acted}
use Rattle.laws_history.specs.Whole.{EachRead, RunsWhole}
use Rattle.model_recipes.specs.declared.fault.RecipeFault.{RecipeFault}
use Rattle.model_recipes.specs.Turns as turns
use Rattle.model_recipes.specs.Turns.{Turn, Call, acts_behind, ending, first_pair, pairs_of, space_begin, space_end, turned_by, writing, replying}
use Rattle.model_recipes.specs.Queues.{next_key, popping, push_call, pop_call}
use Rattle.model_recipes.specs.Multimaps.{pair_key, count_at, one_more, sets_count, add_call, there, lowers, subtract_call, key_space, counts_in, values_call}
use Rattle.model_recipes.specs.Blobs.{reads_all, bytes_in, part, put_in, sets_piece, size_call, read_call, write_call}
use Rattle.model_recipes.proofs.Calling.{each_through, none_acted}
use Rattle.laws_queue.specs.Answered.{IsTheCallAtCommit, AreTheCallsAtCommit, AreNonePopped}
use Rattle.laws_queue.specs.Scripts.{IsLetThrough, first_read, last_read, script_after}
use Rattle.laws_queue.proofs.Calls.{read_script, wrote_script}

-- ---- the script that a call leaves

writes_script : (setting : Setting) (mutations : List Mutation) (t : Transaction) → (all_acted setting (turns.written mutations) t).refused ≡ None
    → (more : Script) × ((all_acted setting (turns.written mutations) t).transaction.script ≡ t.script ++ more)
writes_script setting [] t none =
    ([], ap (λ (u : Transaction). u.script) (none_acted setting t).1 ∙ sym (append-nil t.script))
writes_script setting (mutation ∷ mutations) t none =
    let first = each_through setting (Writes mutation) (turns.written mutations) t none in
    let after = (act_called setting t (Writes mutation)).transaction in
    let later = writes_script setting mutations after first.others in
    let entry = Wrote mutation (not t.skips_write_conflict) in (
      entry ∷ later.0,
      ap (λ (u : Transaction). u.script) first.left ∙ later.1
          ∙ ap (λ (script : Script). script ++ later.0) (wrote_script setting t mutation first.passed)
          ∙ append_assoc t.script (entry ∷ []) later.0,
    )

behind_script : {X : Type 0} (setting : Setting) (turn : Result (Turn X) RecipeFault) (t : Transaction)
    → (all_acted setting (acts_behind turn) t).refused ≡ None
    → (more : Script) × ((all_acted setting (acts_behind turn) t).transaction.script ≡ t.script ++ more)
behind_script setting (Ok turn) t none = writes_script setting turn.writes t none
behind_script setting (Err fault) t none = writes_script setting [] t none

-- it begins with the call's read, as it was answered
read_first : {X : Type 0} (setting : Setting) (call : Call X) (t : Transaction) → IsLetThrough setting call t
    → (more : Script) × (script_after setting call t ≡ t.script ++ (HasRead call.read (answer call.read (view setting t)) ∷ more))
read_first setting call t none =
    let first = each_through setting (Reads call.read false) (acts_behind call.turn) t none in
    let after = (act_called setting t (Reads call.read false)).transaction in
    let later = behind_script setting call.turn after first.others in
    let entry = HasRead call.read (answer call.read (view setting t)) in (
      later.0,
      ap (λ (u : Transaction). u.script) first.left ∙ later.1
          ∙ ap (λ (script : Script). script ++ later.0) (read_script setting t (read_code t.phase false call.read) call.read first.passed)
          ∙ append_assoc t.script (entry ∷ []) later.0,
    )

-- what holds of a read among the entries of a script
holds_at : (holds : List Mutation → Read → Answer → Type 0) (before : List Mutation) (front : Script) (read : Read) (given : Answer) (back : Script)
    → EachRead holds before (front ++ HasRead read given ∷ back) → holds (before ++ written front) read given
holds_at holds before [] read given back each = subst (λ writes. holds writes read given) (sym (append-nil before)) each.0
holds_at holds before (Wrote mutation adds_conflict ∷ front) read given back each =
    subst (λ writes. holds writes read given) (append_assoc before (mutation ∷ []) (written front))
    (holds_at holds (before ++ mutation ∷ []) front read given back each)
holds_at holds before (HasRead other found ∷ front) read given back each = holds_at holds before front read given back each.1
holds_at holds before (Granted space number from ∷ front) read given back each = holds_at holds before front read given back each

-- a call goes by the answer of its read alone
abbrev GoesByAnswer : {X : Type 0} → (call : Database → Call X) → Type 0
GoesByAnswer call = (one other : Database) → answer (call one).read one ≡ answer (call one).read other → call one ≡ call other

at_commit : {X : Type 0} (call : Database → Call X) → GoesByAnswer call → IsTheCallAtCommit call
at_commit call by_answer setting t more database none whole =
    let made = call (view setting t) in
    let given = answer made.read (view setting t) in
    let first = read_first setting made t none in
    let script_is : script_after setting made t ++ more ≡ t.script ++ (HasRead made.read given ∷ (first.0 ++ more)) =
    ap (λ (script : Script). script ++ more) first.1 ∙ append_assoc t.script (HasRead made.read given ∷ first.0) more in
    by_answer (view setting t) (seen (written t.script) database)
    (holds_at (λ before read given. given ≡ answer read (seen before database)) [] t.script made.read given (first.0 ++ more)
    (subst (RunsWhole database) script_is whole))

-- ---- each call

same_pairs : (one other : Entries) → PairsAre one ≡ PairsAre other → one ≡ other
same_pairs one other same = cc

same_value : (one other : Option (List ℕ)) → ValueIs one ≡ ValueIs other → one ≡ other
same_value one other same = cc

push_by : (space value : List ℕ) → GoesByAnswer (push_call space value)
unfolding push_call answer
push_by space value one other same =
    ap (λ (pairs : Entries). record { read = last_read space; turn = turned_by (λ key. writing (Set key value) tt) (next_key space (first_pair pairs)) })
    (same_pairs (slice one (space_begin space) (space_end space) 1 true) (slice other (space_begin space) (space_end space) 1 true) same)

pop_by : (space : List ℕ) → GoesByAnswer (pop_call space)
unfolding pop_call answer
pop_by space one other same =
    ap (λ (pairs : Entries). record { read = first_read space; turn = Ok (popping (first_pair pairs)) })
    (same_pairs (slice one (space_begin space) (space_end space) 1 false) (slice other (space_begin space) (space_end space) 1 false) same)

add_by : (space key value : List ℕ) → GoesByAnswer (add_call space key value)
unfolding add_call answer
add_by space key value one other same =
    let at = pair_key space key value in
    ap (λ (found : Option (List ℕ)). record { read = Get at; turn = turned_by (sets_count at) (one_more at (count_at found)) })
    (same_value (finite.get one at) (finite.get other at) same)

subtract_by : (space key value : List ℕ) → GoesByAnswer (subtract_call space key value)
unfolding subtract_call answer
subtract_by space key value one other same =
    let at = pair_key space key value in
    ap (λ (found : Option (List ℕ)). record { read = Get at; turn = turned_by (lowers at) (there at (count_at found)) })
    (same_value (finite.get one at) (finite.get other at) same)

values_by : (space key : List ℕ) → GoesByAnswer (values_call space key)
unfolding values_call answer
values_by space key one other same =
    let front = key_space space key in
    ap (λ (pairs : Entries). record {
      read = GetKeyRange (space_begin front) (space_end front) 0 false;
      turn = turned_by (λ counts. replying counts) (counts_in front pairs);
    }) (same_pairs (slice one (space_begin front) (space_end front) 0 false) (slice other (space_begin front) (space_end front) 0 false) same)

size_by : (space : List ℕ) → GoesByAnswer (size_call space)
unfolding size_call answer
size_by space one other same =
    ap (λ (pairs : Entries). record { read = reads_all space; turn = turned_by (λ bytes. replying (length bytes)) (bytes_in space pairs) })
    (same_pairs (slice one (space_begin space) (space_end space) 0 false) (slice other (space_begin space) (space_end space) 0 false) same)

read_by : (space : List ℕ) (from most : ℕ) → GoesByAnswer (read_call space from most)
unfolding read_call answer
read_by space from most one other same =
    ap (λ (pairs : Entries). record { read = reads_all space; turn = turned_by (λ bytes. replying (part from most bytes)) (bytes_in space pairs) })
    (same_pairs (slice one (space_begin space) (space_end space) 0 false) (slice other (space_begin space) (space_end space) 0 false) same)

write_by : (space : List ℕ) (at : ℕ) (piece : List ℕ) → GoesByAnswer (write_call space at piece)
unfolding write_call answer
write_by space at piece one other same =
    ap (λ (pairs : Entries). record { read = reads_all space; turn = turned_by (sets_piece space at (length piece)) (put_in at piece (bytes_in space pairs)) })
    (same_pairs (slice one (space_begin space) (space_end space) 0 false) (slice other (space_begin space) (space_end space) 0 false) same)

pub calls_at_commit : AreTheCallsAtCommit
calls_at_commit = record {
  push = λ space value. at_commit (push_call space value) (push_by space value);
  pop = λ space. at_commit (pop_call space) (pop_by space);
  add = λ space key value. at_commit (add_call space key value) (add_by space key value);
  subtract = λ space key value. at_commit (subtract_call space key value) (subtract_by space key value);
  values = λ space key. at_commit (values_call space key) (values_by space key);
  size = λ space. at_commit (size_call space) (size_by space);
  read = λ space from most. at_commit (read_call space from most) (read_by space from most);
  write = λ space at piece. at_commit (write_call space at piece) (write_by space at piece);
}

-- ---- a pop of an empty queue

abbrev values_in : Entries → List (List ℕ)
values_in pairs = map (λ (pair : List ℕ × List ℕ). pair.1) pairs

some_first : (pairs : Entries) → ending (Ok (popping (first_pair (take 1 pairs)))) ≡ Ok None → pairs ≡ []
some_first [] is = refl
some_first (pair ∷ pairs) is = absurd cc

no_pair : (pairs : Entries) → values_in pairs ≡ [] → pairs ≡ []
no_pair [] is = refl
no_pair (pair ∷ pairs) is = absurd cc

pub none_popped : AreNonePopped
unfolding pop_call
none_popped space database = (
  λ is. ap (λ (pairs : Entries). values_in pairs) (some_first (pairs_of space database) is),
  λ is. ap (λ (pairs : Entries). ending (Ok (popping (first_pair (take 1 pairs))))) (no_pair (pairs_of space database) is),
)
