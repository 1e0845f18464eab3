-- What a script of pushes and pops makes of the queue, where each of its reads has the answer that it gets over one database.
use Rattle.std.proofs.Common.{◌≡◌, ℕ, true, false, cond, List, [], ◌∷◌, ◌++◌, take, reverse, Option, Some, None, Ok, refl, sym, ap, ◌∙◌, subst, append_assoc}
use Rattle.std.specs.Prelude.{not, ◌&&◌, ◌||◌, map}
use Rattle.std.specs.FinMap as finite
use Rattle.std.proofs.Math.Bool.{or-false}
use Rattle.std.proofs.lemmas.List.{append-nil}
use Rattle.std.proofs.lemmas.Option.{same_Some}
use Rattle.model_database.specs.Databases.{Database, Mutation, Set, Clear, do_all}
use Rattle.model_database.specs.Histories.{Script, Wrote, HasRead, Granted, Commit, stamp_of, written}
use Rattle.model_database.specs.KeyByKey.{at_key, at_keys, modifies}
use Rattle.model_database.specs.Reads.{PairsAre, answer}
use Rattle.model_database.specs.Slices.{Entries}
use Rattle.model_database.specs.States.{all_filled, covers, seen, unreadable, unreadable_by}
use Rattle.model_database.proofs.KeyByKey.{get-do_all, at_keys-append}
use Rattle.model_database.proofs.States.{covers-unreadable-append}
use Rattle.model_allocator.proofs.Viewing.{get-seen, get-seen_more, itself}
use Rattle.laws_history.specs.Whole.{EachRead, RunsWhole}
use Rattle.model_recipes.specs.Turns.{is_inside, pairs_of, first_pair}
use Rattle.model_recipes.specs.Queues.{next_key, queue_of}
use Rattle.model_recipes.proofs.Pairs.{pairs_same, pairs_cleared}
use Rattle.model_recipes.proofs.Queueing.{next_is, queue_set, first_inside}
use Rattle.laws_queue.specs.Laws.{ComeOnce, DidItsScript}
use Rattle.laws_queue.specs.Scripts.{IsOfQueue, LeavesAlone, first_read, last_read}
use Rattle.laws_queue.proofs.Stamps.{unmodified, filled_unmodified}

-- ---- one write more

hidden_more : (writes : List Mutation) (mutation : Mutation) (q : List ℕ) → covers (unreadable_by mutation) q ≡ false
    → covers (unreadable (writes ++ mutation ∷ [])) q ≡ covers (unreadable writes) q
hidden_more writes mutation q readable =
    covers-unreadable-append writes (mutation ∷ []) q
    ∙ ap (λ ranges. covers (unreadable writes) q || covers ranges q) (append-nil (unreadable_by mutation))
    ∙ ap (λ hidden. covers (unreadable writes) q || hidden) readable
    ∙ or-false (covers (unreadable writes) q)

-- what is seen of a key that a mutation leaves alone stays as it is
pub seen_same : (writes : List Mutation) (mutation : Mutation) (database : Database) (q : List ℕ) → modifies q mutation ≡ false
    → covers (unreadable_by mutation) q ≡ false
    → finite.get (seen (writes ++ mutation ∷ []) database) q ≡ finite.get (seen writes database) q
seen_same writes mutation database q apart readable =
    get-seen (writes ++ mutation ∷ []) database q
    ∙ ap (λ hidden. cond (not hidden) (finite.get (do_all (writes ++ mutation ∷ []) database) q) None) (hidden_more writes mutation q readable)
    ∙ ap (λ value. cond (not (covers (unreadable writes) q)) value None)
    (get-do_all (writes ++ mutation ∷ []) database q
    ∙ at_keys-append writes (mutation ∷ []) q (finite.get database q)
    ∙ unmodified mutation q (at_keys writes q (finite.get database q)) apart
    ∙ sym (get-do_all writes database q))
    ∙ sym (get-seen writes database q)

-- each key of the subspace can be read behind these writes
abbrev pub AllReadable : (space : List ℕ) → List Mutation → Type 0
AllReadable space writes = (q : List ℕ) → is_inside space q ≡ true → covers (unreadable writes) q ≡ false

-- from these writes to those the queue had these values pushed, and these popped
record Leaves (space : List ℕ) (database : Database) (before after : List Mutation) (pushed popped : List (List ℕ)) : Type 0 where
  once : ComeOnce space (seen before database) (seen after database) pushed popped
  readable : AllReadable space after

pub readable_more : (space : List ℕ) (writes : List Mutation) (mutation : Mutation) → AllReadable space writes
    → ((q : List ℕ) → is_inside space q ≡ true → covers (unreadable_by mutation) q ≡ false) → AllReadable space (writes ++ mutation ∷ [])
readable_more space writes mutation readable none q inside = hidden_more writes mutation q (none q inside) ∙ readable q inside

-- ---- one after the other

pub once_then : (space : List ℕ) (first second last : Database) (pushed popped more_pushed more_popped : List (List ℕ))
    → ComeOnce space first second pushed popped → ComeOnce space second last more_pushed more_popped
    → ComeOnce space first last (pushed ++ more_pushed) (popped ++ more_popped)
once_then space first second last pushed popped more_pushed more_popped one other =
    append_assoc popped more_popped (queue_of space last)
    ∙ ap (λ values. popped ++ values) other
    ∙ sym (append_assoc popped (queue_of space second) more_pushed)
    ∙ ap (λ values. values ++ more_pushed) one
    ∙ append_assoc (queue_of space first) pushed more_pushed

-- a write, and the writes of the rest of the script
leaves_then : (space : List ℕ) (database : Database) (before : List Mutation) (mutation : Mutation) (script : Script)
    (pushed popped more_pushed more_popped : List (List ℕ)) → Leaves space database before (before ++ mutation ∷ []) pushed popped
    → Leaves space database (before ++ mutation ∷ []) (before ++ mutation ∷ [] ++ written script) more_pushed more_popped
    → Leaves space database before (before ++ (mutation ∷ written script)) (pushed ++ more_pushed) (popped ++ more_popped)
leaves_then space database before mutation script pushed popped more_pushed more_popped one others =
    let after = before ++ mutation ∷ [] in
    subst (λ writes. Leaves space database before writes (pushed ++ more_pushed) (popped ++ more_popped))
    (append_assoc before (mutation ∷ []) (written script))
    (record {
      once = once_then space (seen before database) (seen after database) (seen (after ++ written script) database) pushed popped
          more_pushed more_popped one.once others.once;
      readable = others.readable;
    })

-- ---- push, pop and other writes

same_pairs : (one other : Entries) → PairsAre one ≡ PairsAre other → one ≡ other
same_pairs one other same = cc

push_leaves : (space : List ℕ) (database : Database) (before : List Mutation) (given : Entries) (key value : List ℕ)
    → AllReadable space before → PairsAre given ≡ answer (last_read space) (seen before database)
    → next_key space (first_pair given) ≡ Ok key → Leaves space database before (before ++ Set key value ∷ []) (value ∷ []) []
unfolding answer
push_leaves space database before given key value readable answered is =
    let map = seen before database in
    let old = finite.get (do_all before database) key in
    let given_is = same_pairs given (take 1 (reverse (pairs_of space map))) answered in
    let next = next_is space map key (pairs_of space map) refl (ap (λ pairs. next_key space (first_pair pairs)) (sym given_is) ∙ is) in
    record {
      once = queue_set space map (seen (before ++ Set key value ∷ []) database) key value next
          (get-seen_more before (Set key value) database key refl
          ∙ ap (λ hidden. cond (not hidden) (at_key (Set key value) key old) None) (readable key next.inside)
          ∙ ap (λ touched. cond touched (Some value) old) (itself key))
          (λ q other. seen_same before (Set key value) database q (ap (λ touched. touched && true) other) refl);
      readable = readable_more space before (Set key value) readable (λ q inside. refl);
    }

abbrev values_in : Entries → List (List ℕ)
values_in pairs = map (λ (pair : List ℕ × List ℕ). pair.1) pairs

clear_first : (space : List ℕ) (database : Database) (before : List Mutation) (pair : List ℕ × List ℕ) (pairs : Entries)
    → AllReadable space before → pairs_of space (seen before database) ≡ pair ∷ pairs
    → queue_of space (seen before database) ≡ pair.1 ∷ queue_of space (seen (before ++ Clear pair.0 ∷ []) database)
clear_first space database before pair pairs readable are =
    let old = finite.get (do_all before database) pair.0 in
    ap values_in are
    ∙ ap (λ others. pair.1 ∷ values_in others) (sym
    (pairs_cleared space (seen before database) (seen (before ++ Clear pair.0 ∷ []) database) pair pairs are
    (get-seen_more before (Clear pair.0) database pair.0 refl
    ∙ ap (λ hidden. cond (not hidden) (at_key (Clear pair.0) pair.0 old) None)
    (readable pair.0 (first_inside space (seen before database) pair pairs are))
    ∙ ap (λ touched. cond touched None old) (itself pair.0))
    (λ q other. seen_same before (Clear pair.0) database q (ap (λ touched. touched && true) other) refl)))

pop_leaves : (space : List ℕ) (database : Database) (before : List Mutation) (given : Entries) (key value : List ℕ)
    → AllReadable space before → PairsAre given ≡ answer (first_read space) (seen before database)
    → first_pair given ≡ Some (key, value) → Leaves space database before (before ++ Clear key ∷ []) [] (value ∷ [])
unfolding answer
pop_leaves space database before given key value readable answered is = record {
  once = sym (by (pairs_of space (seen before database)) refl (ap first_pair (sym (same_pairs given _ answered)) ∙ is))
      ∙ sym (append-nil (queue_of space (seen before database)));
  readable = readable_more space before (Clear key) readable (λ q inside. refl);
}
  where
    by : (pairs : Entries) → pairs_of space (seen before database) ≡ pairs → first_pair (take 1 pairs) ≡ Some (key, value)
        → queue_of space (seen before database) ≡ value ∷ queue_of space (seen (before ++ Clear key ∷ []) database)
    by [] are is = absurd cc
    by (pair ∷ pairs) are is =
        subst (λ (p : List ℕ × List ℕ). queue_of space (seen before database) ≡ p.1 ∷ queue_of space (seen (before ++ Clear p.0 ∷ []) database))
        (same_Some pair (key, value) is) (clear_first space database before pair pairs readable are)

other_leaves : (space : List ℕ) (database : Database) (before : List Mutation) (mutation : Mutation) → AllReadable space before
    → LeavesAlone space mutation → Leaves space database before (before ++ mutation ∷ []) [] []
other_leaves space database before mutation readable alone = record {
  once = ap values_in (pairs_same space (seen before database) (seen (before ++ mutation ∷ []) database)
      (λ q inside. seen_same before mutation database q (alone.unwritten q inside) (alone.readable q inside)))
      ∙ sym (append-nil (queue_of space (seen before database)));
  readable = readable_more space before mutation readable alone.readable;
}

-- ---- scripts

script_leaves : (space : List ℕ) (database : Database) (script : Script) (pushed popped : List (List ℕ)) → IsOfQueue space script pushed popped
    → (before : List Mutation) → AllReadable space before
    → EachRead (λ writes read given. given ≡ answer read (seen writes database)) before script
    → Leaves space database before (before ++ written script) pushed popped
script_leaves space database _ _ _ IsOfQueue.ends before readable whole =
    subst (λ after. Leaves space database before after [] []) (sym (append-nil before))
    (record { once = sym (append-nil (queue_of space (seen before database))); readable = readable })
script_leaves space database _ _ _ (IsOfQueue.pushes given key value adds_conflict script pushed popped is others) before readable whole =
    let one = push_leaves space database before given key value readable whole.0 is in
    leaves_then space database before (Set key value) script (value ∷ []) [] pushed popped one
    (script_leaves space database script pushed popped others (before ++ Set key value ∷ []) one.readable whole.1)
script_leaves space database _ _ _ (IsOfQueue.pops given key value adds_conflict script pushed popped is others) before readable whole =
    let one = pop_leaves space database before given key value readable whole.0 is in
    leaves_then space database before (Clear key) script [] (value ∷ []) pushed popped one
    (script_leaves space database script pushed popped others (before ++ Clear key ∷ []) one.readable whole.1)
script_leaves space database _ _ _ (IsOfQueue.does (Wrote mutation adds_conflict) script pushed popped alone others) before readable whole =
    let one = other_leaves space database before mutation readable alone in
    leaves_then space database before mutation script [] [] pushed popped one
    (script_leaves space database script pushed popped others (before ++ mutation ∷ []) one.readable whole)
script_leaves space database _ _ _ (IsOfQueue.does (HasRead read given) script pushed popped alone others) before readable whole =
    script_leaves space database script pushed popped others before readable whole.1
script_leaves space database _ _ _ (IsOfQueue.does (Granted other number from) script pushed popped alone others) before readable whole =
    script_leaves space database script pushed popped others before readable whole

-- a versionstamp that is filled in makes no difference to a key of the subspace
filled_same : (space : List ℕ) (version : ℕ) (q : List ℕ) → is_inside space q ≡ true → (script : Script) (pushed popped : List (List ℕ))
    → IsOfQueue space script pushed popped → (old : Option (List ℕ))
    → at_keys (all_filled (stamp_of version) (written script)) q old ≡ at_keys (written script) q old
filled_same space version q inside _ _ _ IsOfQueue.ends old = refl
filled_same space version q inside _ _ _ (IsOfQueue.pushes given key value adds_conflict script pushed popped is others) old =
    filled_same space version q inside script pushed popped others (at_key (Set key value) q old)
filled_same space version q inside _ _ _ (IsOfQueue.pops given key value adds_conflict script pushed popped is others) old =
    filled_same space version q inside script pushed popped others (at_key (Clear key) q old)
filled_same space version q inside _ _ _ (IsOfQueue.does (Wrote mutation adds_conflict) script pushed popped alone others) old =
    ap (at_keys (all_filled (stamp_of version) (written script)) q)
    (filled_unmodified version mutation q old (alone.unwritten q inside) (alone.readable q inside)
    ∙ sym (unmodified mutation q old (alone.unwritten q inside)))
    ∙ filled_same space version q inside script pushed popped others (at_key mutation q old)
filled_same space version q inside _ _ _ (IsOfQueue.does (HasRead read given) script pushed popped alone others) old =
    filled_same space version q inside script pushed popped others old
filled_same space version q inside _ _ _ (IsOfQueue.does (Granted other number from) script pushed popped alone others) old =
    filled_same space version q inside script pushed popped others old

-- ---- a commit

-- a commit that ran whole, of such a script
pub commit_once : (space : List ℕ) (database : Database) (commit : Commit) (pushed popped : List (List ℕ))
    → IsOfQueue space commit.script pushed popped → DidItsScript commit → RunsWhole database commit.script
    → ComeOnce space database (do_all commit.mutations database) pushed popped
commit_once space database commit pushed popped of_queue did whole =
    ap (λ pairs. popped ++ values_in pairs) last
    ∙ leaves.once
    ∙ ap (λ pairs. values_in pairs ++ pushed) (pairs_same space database (seen [] database) (λ q inside. get-seen [] database q))
  where
    writes : List Mutation
    writes = written commit.script

    leaves : Leaves space database [] writes pushed popped
    leaves = script_leaves space database commit.script pushed popped of_queue [] (λ q inside. refl) whole

    same : (q : List ℕ) → is_inside space q ≡ true → finite.get (do_all commit.mutations database) q ≡ finite.get (seen writes database) q
    same q inside =
        ap (λ mutations. finite.get (do_all mutations database) q) did.is
        ∙ get-do_all (all_filled (stamp_of did.version) writes) database q
        ∙ filled_same space did.version q inside commit.script pushed popped of_queue (finite.get database q)
        ∙ sym (get-do_all writes database q)
        ∙ sym (get-seen writes database q ∙ ap (λ hidden. cond (not hidden) (finite.get (do_all writes database) q) None) (leaves.readable q inside))

    last : pairs_of space (do_all commit.mutations database) ≡ pairs_of space (seen writes database)
    last = pairs_same space (seen writes database) (do_all commit.mutations database) same
