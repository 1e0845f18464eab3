-- What the queue is after a push and after a pop.
use Rattle.std.proofs.Common.{◌≡◌, ℕ, ◌+◌, ◌<◌, ◌^◌, T, Bool, true, false, cond, not, List, [], ◌∷◌, ◌++◌, map, take, reverse, length, Option, Some, None, Result, Ok, Err, refl, sym, ap, ◌∙◌, subst, arith}
use Rattle.std.specs.Prelude.{◌==◌, bytes_eq, OnOk, IfOk}
use Rattle.std.specs.FinMap as finite
use Rattle.std.specs.FinMap.Entries.{is_sorted}
use Rattle.std.specs.List.{list_all, filter}
use Rattle.std.proofs.lemmas.Bool.{and_parts, and_from, eqb-false}
use Rattle.std.proofs.lemmas.List.{length-reverse, reverse-append, take-append-le, map-append}
use Rattle.key_bytes.specs.Keys.{key_cmp, key_lt, within}
use Rattle.key_bytes.proofs.Orders.{above_not_below}
use Rattle.model_database.specs.Databases.{Database, Set, Clear}
use Rattle.model_database.specs.Histories.{Setting}
use Rattle.model_database.specs.Intervals.{interval, slice_interval, last_key}
use Rattle.model_database.specs.Reads.{GetKeyRange}
use Rattle.model_database.specs.Slices.{Entries, slice}
use Rattle.model_database.specs.States.{covers, range_from}
use Rattle.model_database.specs.Transactions.{Transaction, view}
use Rattle.model_database.proofs.Ranges.{covers_single}
use Rattle.model_allocator.specs.Acts.{Act, Reads, Writes, act_called, all_acted}
use Rattle.model_allocator.proofs.Viewing.{after_read, spared, spares}
use Rattle.model_recipes.specs.declared.fault.RecipeFault.{RecipeFault}
use Rattle.model_recipes.specs.declared.fault.RecipeFault.TheVariants as fault
use Rattle.model_recipes.specs.declared.TheConstants.{GREATEST_INDEX}
use Rattle.model_recipes.specs.Turns.{Turn, Call, writing, replying, turned_by, acts, acts_behind, ending, IsAnswered, view_after, is_inside, space_begin, space_end, pairs_of, first_pair, KeepsOthers}
use Rattle.model_recipes.specs.Queues.{queue_of, index_key, index_in, key_behind, next_key, push_call, popping, pop_call, IsFirst, IsPushed, IsPopped}
use Rattle.model_recipes.proofs.Seeing.{readable_after, set_value, clear_value}
use Rattle.model_recipes.proofs.Pairs.{AllBelow, below_last, put_last, SameBut, pairs_sorted, pairs_set, pairs_cleared}
use Rattle.model_recipes.proofs.Calling.{each_through, none_acted, SpareOutside, others_kept, apart}
use Rattle.model_recipes.proofs.Indexes.{index_lt, index_inside, index_in_is}

-- ---- the last pair

-- the last of two or more pairs is the last without the first
last_behind : (e f : List ℕ × List ℕ) (es : Entries) → take 1 (reverse (e ∷ f ∷ es)) ≡ take 1 (reverse (f ∷ es))
last_behind e f es =
    ap (take 1) (reverse-append (e ∷ []) (f ∷ es))
    ∙ take-append-le 1 (reverse (f ∷ es)) (e ∷ []) (omega (arith, length-reverse (f ∷ es)))

-- of some pairs there is a last one
record HasLast (pair : List ℕ × List ℕ) (pairs : Entries) : Type 0 where
  last : List ℕ × List ℕ
  taken : take 1 (reverse (pair ∷ pairs)) ≡ last ∷ []
  its_key : last_key pair.0 pairs ≡ last.0

has_last : (pair : List ℕ × List ℕ) (pairs : Entries) → HasLast pair pairs
has_last pair [] = record { last = pair; taken = refl; its_key = refl }
has_last pair (next ∷ pairs) =
    let others = has_last next pairs in
    record { last = others.last; taken = last_behind pair next pairs ∙ others.taken; its_key = others.its_key }

-- ---- the key of the next item

-- it lies in the subspace, above each key of it, and the read of the last pair rests on it
pub record IsNext (space : List ℕ) (database : Database) (key : List ℕ) : Type 0 where
  pub inside : is_inside space key ≡ true
  pub above : AllBelow (pairs_of space database) key
  pub rested : covers (interval (GetKeyRange (space_begin space) (space_end space) 1 true) database) key ≡ true

same_found : (found : Result (List ℕ) RecipeFault) (x y : List ℕ) → found ≡ Ok x → found ≡ Ok y → x ≡ y
same_found found x y one other = cc

-- by the index of the last pair
next_by : (space last key : List ℕ) (index : Option ℕ) → index_in space last ≡ index → key_behind space last index ≡ Ok key
    → (is_inside space key ≡ true) × (key_lt last key ≡ true)
next_by space last key None found is = absurd cc
next_by space last key (Some index) found is = by (index == GREATEST_INDEX) refl is
  where
    by : (is_greatest : Bool) → (index == GREATEST_INDEX) ≡ is_greatest
        → cond is_greatest (Err fault.IndexEnd) (Ok (index_key space (index + 1))) ≡ Ok key
        → (is_inside space key ≡ true) × (key_lt last key ≡ true)
    by true greatest is = absurd cc
    by false greatest is =
        let read = index_in_is space last index found in
        let differ = eqb-false index GREATEST_INDEX greatest in
        let small : index + 1 < 2 ^ 63 = omega (arith, read.1) in
        let key_is = same_found (Ok (index_key space (index + 1))) (index_key space (index + 1)) key refl is in (
          ap (is_inside space) (sym key_is) ∙ index_inside space (index + 1) small,
          ap (key_lt last) (sym key_is) ∙ ap (λ k. key_lt k (index_key space (index + 1))) read.0
              ∙ index_lt space index (index + 1) (omega arith) small,
        )

pub next_is : (space : List ℕ) (database : Database) (key : List ℕ) (pairs : Entries) → pairs_of space database ≡ pairs
    → next_key space (first_pair (take 1 (reverse pairs))) ≡ Ok key → IsNext space database key
next_is space database key [] none is =
    let key_is = same_found (Ok (index_key space 0)) (index_key space 0) key refl is in
    let inside = ap (is_inside space) (sym key_is) ∙ index_inside space 0 (omega arith) in
    record {
      inside = inside;
      above = subst (λ pairs. AllBelow pairs key) (sym none) tt;
      rested =
          ap (λ (pairs : Entries). covers (slice_interval (space_begin space) (space_end space) 1 true (take 1 (reverse pairs)) ∷ []) key) none
          ∙ covers_single (range_from (space_begin space) (space_end space)) key ∙ inside;
    }
next_is space database key (pair ∷ pairs) some is =
    let ends = has_last pair pairs in
    let found = next_by space ends.last.0 key (index_in space ends.last.0) refl (ap (λ taken. next_key space (first_pair taken)) (sym ends.taken) ∙ is) in
    let ordered = subst (λ list. T (is_sorted key_cmp list)) some (pairs_sorted space database) in
    let parts = and_parts _ (key_lt key (space_end space)) found.0 in
    record {
      inside = found.0;
      above = subst (λ list. AllBelow list key) (sym some)
          (below_last pair pairs key ordered (ap (λ last. key_lt last key) ends.its_key ∙ found.1));
      rested =
          ap (λ (pairs : Entries). covers (slice_interval (space_begin space) (space_end space) 1 true (take 1 (reverse pairs)) ∷ []) key) some
          ∙ ap (λ (taken : Entries). covers (slice_interval (space_begin space) (space_end space) 1 true taken ∷ []) key) ends.taken
          ∙ covers_single (range_from ends.last.0 (space_end space)) key
          ∙ and_from _ _ (ap not (above_not_below ends.last.0 key found.1)) parts.1;
    }

-- ---- push

-- a set of it, where each other key stays as it is, puts the value at the end
pub queue_set : (space : List ℕ) (before after : Database) (key value : List ℕ) → IsNext space before key
    → finite.get after key ≡ Some value → SameBut key before after → queue_of space after ≡ queue_of space before ++ value ∷ []
queue_set space before after key value next has others =
    ap (map (λ (pair : List ℕ × List ℕ). pair.1))
    (pairs_set space before after key value next.inside has others ∙ put_last (pairs_of space before) key value next.above)
    ∙ map-append (λ (pair : List ℕ × List ℕ). pair.1) (pairs_of space before) ((key, value) ∷ [])

abbrev read_last : (space : List ℕ) → Act
read_last space = Reads (GetKeyRange (space_begin space) (space_end space) 1 true) false

-- a set of the next key that is let through behind the read
set_next : (space key value : List ℕ) (setting : Setting) (t : Transaction) → IsNext space (view setting t) key
    → (all_acted setting (read_last space ∷ Writes (Set key value) ∷ []) t).refused ≡ None
    → queue_of space (view setting (all_acted setting (read_last space ∷ Writes (Set key value) ∷ []) t).transaction)
    ≡ queue_of space (view setting t) ++ value ∷ []
set_next space key value setting t next none =
    let read = GetKeyRange (space_begin space) (space_end space) 1 true in
    let first = each_through setting (read_last space) (Writes (Set key value) ∷ []) t none in
    let t1 = (act_called setting t (read_last space)).transaction in
    let second = each_through setting (Writes (Set key value)) [] t1 first.others in
    let t2 = (act_called setting t1 (Writes (Set key value))).transaction in
    let same = after_read setting t read false in
    let readable = readable_after setting t false read key first.passed next.rested in
    ap (λ u. queue_of space (view setting u)) (first.left ∙ second.left ∙ (none_acted setting t2).1)
    ∙ queue_set space (view setting t1) (view setting t2) key value (subst (λ m. IsNext space m key) (sym same) next)
    (set_value setting t1 key value readable second.passed) (λ q other. spared setting (Writes (Set key value)) t1 q (ap not other))
    ∙ ap (λ m. queue_of space m ++ value ∷ []) same

-- a push by the key that was found
abbrev pushing : (space value : List ℕ) → Result (List ℕ) RecipeFault → Call (Unit {0})
pushing space value found = record {
  read = GetKeyRange (space_begin space) (space_end space) 1 true;
  turn = turned_by (λ key. writing (Set key value) tt) found;
}

-- a push that was let through has its item at the end
pub push_queue : (space value : List ℕ) (setting : Setting) (t : Transaction) (done : Unit {0})
    → (all_acted setting (acts (push_call space value (view setting t))) t).refused ≡ None
    → ending (push_call space value (view setting t)).turn ≡ Ok done
    → queue_of space (view_after setting (push_call space value (view setting t)) t) ≡ queue_of space (view setting t) ++ value ∷ []
unfolding push_call
push_queue space value setting t done none ends = by (next_key space (first_pair (slice (view setting t) (space_begin space) (space_end space) 1 true))) refl none ends
  where
    by : (found : Result (List ℕ) RecipeFault)
        → next_key space (first_pair (slice (view setting t) (space_begin space) (space_end space) 1 true)) ≡ found
        → (all_acted setting (acts (pushing space value found)) t).refused ≡ None → ending (pushing space value found).turn ≡ Ok done
        → queue_of space (view_after setting (pushing space value found) t) ≡ queue_of space (view setting t) ++ value ∷ []
    by (Err fault) is none ends = absurd cc
    by (Ok key) is none ends = set_next space key value setting t (next_is space (view setting t) key (pairs_of space (view setting t)) refl is) none

-- a push spares each key outside
push_spares : (space value : List ℕ) (setting : Setting) (t : Transaction) → SpareOutside space (acts (push_call space value (view setting t)))
unfolding push_call
push_spares space value setting t q outside = by (next_key space (first_pair (slice (view setting t) (space_begin space) (space_end space) 1 true))) refl
  where
    by : (found : Result (List ℕ) RecipeFault)
        → next_key space (first_pair (slice (view setting t) (space_begin space) (space_end space) 1 true)) ≡ found
        → list_all (spares q) (acts_behind (turned_by (λ key. writing {X = Unit {0}} (Set key value) tt) found)) ≡ true
    by (Err fault) is = refl
    by (Ok key) is =
        let next = next_is space (view setting t) key (pairs_of space (view setting t)) refl is in
        and_from _ _ (ap not (apart space q key outside next.inside)) refl

queue_pushed : (result : Result (Unit {0}) RecipeFault) (setting : Setting) (stands : Transaction → Type 0) (space value : List ℕ) (t : Transaction)
    → IsAnswered result setting stands (push_call space value (view setting t)) t
    → OnOk result (queue_of space (view_after setting (push_call space value (view setting t)) t) ≡ queue_of space (view setting t) ++ value ∷ [])
queue_pushed (Ok done) setting stands space value t answered = push_queue space value setting t done answered.0 answered.1
queue_pushed (Err fault) setting stands space value t answered = tt

-- a push by what it answers
pub pushed : (result : Result (Unit {0}) RecipeFault) (setting : Setting) (stands : Transaction → Type 0) (space value : List ℕ) (t : Transaction)
    → IsAnswered result setting stands (push_call space value (view setting t)) t → IsPushed result setting stands space value t
pushed result setting stands space value t answered = record {
  answered = answered;
  queue = queue_pushed result setting stands space value t answered;
  others = others_kept space setting _ t (push_spares space value setting t);
}

-- ---- pop

abbrev read_first : (space : List ℕ) → Act
read_first space = Reads (GetKeyRange (space_begin space) (space_end space) 1 false) false

chosen_first : (p : List ℕ → Bool) (es : Entries) (pair : List ℕ × List ℕ) (pairs : Entries) → filter (λ e. p e.0) es ≡ pair ∷ pairs
    → p pair.0 ≡ true
chosen_first p [] pair pairs is = absurd cc
chosen_first p (e ∷ es) pair pairs is = by (p e.0) refl is (λ is. chosen_first p es pair pairs is)
  where
    by : (takes : Bool) → p e.0 ≡ takes → cond takes (e ∷ filter (λ e. p e.0) es) (filter (λ e. p e.0) es) ≡ pair ∷ pairs
        → (filter (λ e. p e.0) es ≡ pair ∷ pairs → p pair.0 ≡ true) → p pair.0 ≡ true
    by true takes is others = let same : e ≡ pair = cc in ap (λ (x : List ℕ × List ℕ). p x.0) (sym same) ∙ takes
    by false takes is others = others is

-- the first key lies in the subspace
pub first_inside : (space : List ℕ) (database : Database) (pair : List ℕ × List ℕ) (pairs : Entries) → pairs_of space database ≡ pair ∷ pairs
    → is_inside space pair.0 ≡ true
first_inside space database pair pairs is = chosen_first (is_inside space) (finite.entries database) pair pairs is

-- a clear of the first key that is let through behind the read
clear_first : (space : List ℕ) (setting : Setting) (t : Transaction) (pair : List ℕ × List ℕ) (pairs : Entries)
    → pairs_of space (view setting t) ≡ pair ∷ pairs
    → (all_acted setting (read_first space ∷ Writes (Clear pair.0) ∷ []) t).refused ≡ None
    → pairs_of space (view setting (all_acted setting (read_first space ∷ Writes (Clear pair.0) ∷ []) t).transaction) ≡ pairs
clear_first space setting t pair pairs are none =
    let read = GetKeyRange (space_begin space) (space_end space) 1 false in
    let first = each_through setting (read_first space) (Writes (Clear pair.0) ∷ []) t none in
    let t1 = (act_called setting t (read_first space)).transaction in
    let second = each_through setting (Writes (Clear pair.0)) [] t1 first.others in
    let t2 = (act_called setting t1 (Writes (Clear pair.0))).transaction in
    let same = after_read setting t read false in
    ap (λ u. pairs_of space (view setting u)) (first.left ∙ second.left ∙ (none_acted setting t2).1)
    ∙ pairs_cleared space (view setting t1) (view setting t2) pair pairs (ap (pairs_of space) same ∙ are)
    (clear_value setting t1 pair.0 second.passed) (λ q other. spared setting (Writes (Clear pair.0)) t1 q (ap not other))

-- a read alone that is let through leaves the pairs as they were
read_alone : (space : List ℕ) (setting : Setting) (t : Transaction) → (all_acted setting (read_first space ∷ []) t).refused ≡ None
    → pairs_of space (view setting (all_acted setting (read_first space ∷ []) t).transaction) ≡ pairs_of space (view setting t)
read_alone space setting t none =
    let first = each_through setting (read_first space) [] t none in
    let t1 = (act_called setting t (read_first space)).transaction in
    ap (λ u. pairs_of space (view setting u)) (first.left ∙ (none_acted setting t1).1)
    ∙ ap (pairs_of space) (after_read setting t (GetKeyRange (space_begin space) (space_end space) 1 false) false)

abbrev values_in : Entries → List (List ℕ)
values_in pairs = map (λ (pair : List ℕ × List ℕ). pair.1) pairs

-- a pop by the pairs that are there
abbrev taking : (space : List ℕ) → Entries → Call (Option (List ℕ))
taking space pairs = record {
  read = GetKeyRange (space_begin space) (space_end space) 1 false;
  turn = Ok (popping (first_pair (take 1 pairs)));
}

-- a pop that was let through answers the first item, and leaves the others
pub pop_queue : (space : List ℕ) (setting : Setting) (t : Transaction) (value : Option (List ℕ))
    → (all_acted setting (acts (pop_call space (view setting t))) t).refused ≡ None
    → ending (pop_call space (view setting t)).turn ≡ Ok value
    → IsFirst value (queue_of space (view setting t)) (queue_of space (view_after setting (pop_call space (view setting t)) t))
unfolding pop_call
pop_queue space setting t value none ends = by (pairs_of space (view setting t)) refl none ends
  where
    by : (pairs : Entries) → pairs_of space (view setting t) ≡ pairs
        → (all_acted setting (acts (taking space pairs)) t).refused ≡ None → ending (taking space pairs).turn ≡ Ok value
        → IsFirst value (values_in pairs) (queue_of space (view_after setting (taking space pairs) t))
    by [] are none ends =
        let value_is : None ≡ value = cc in
        subst (λ value. IsFirst value [] (queue_of space (view_after setting (taking space []) t))) value_is
        (refl, ap values_in (read_alone space setting t none ∙ are))
    by (pair ∷ pairs) are none ends =
        let value_is : Some pair.1 ≡ value = cc in
        subst (λ value. IsFirst value (values_in (pair ∷ pairs)) (queue_of space (view_after setting (taking space (pair ∷ pairs)) t))) value_is
        (ap (λ (others : Entries). pair.1 ∷ values_in others) (sym (clear_first space setting t pair pairs are none)))

pop_spares : (space : List ℕ) (setting : Setting) (t : Transaction) → SpareOutside space (acts (pop_call space (view setting t)))
unfolding pop_call
pop_spares space setting t q outside = by (pairs_of space (view setting t)) refl
  where
    by : (pairs : Entries) → pairs_of space (view setting t) ≡ pairs
        → list_all (spares q) (acts_behind {X = Option (List ℕ)} (Ok (popping (first_pair (take 1 pairs))))) ≡ true
    by [] are = refl
    by (pair ∷ pairs) are = and_from _ _ (ap not (apart space q pair.0 outside (first_inside space (view setting t) pair pairs are))) refl

queue_popped : (result : Result (Option (List ℕ)) RecipeFault) (setting : Setting) (stands : Transaction → Type 0) (space : List ℕ) (t : Transaction)
    → IsAnswered result setting stands (pop_call space (view setting t)) t
    → IfOk result (λ value. IsFirst value (queue_of space (view setting t)) (queue_of space (view_after setting (pop_call space (view setting t)) t)))
queue_popped (Ok value) setting stands space t answered = pop_queue space setting t value answered.0 answered.1
queue_popped (Err fault) setting stands space t answered = tt

-- a pop by what it answers
pub popped : (result : Result (Option (List ℕ)) RecipeFault) (setting : Setting) (stands : Transaction → Type 0) (space : List ℕ) (t : Transaction)
    → IsAnswered result setting stands (pop_call space (view setting t)) t → IsPopped result setting stands space t
popped result setting stands space t answered = record {
  answered = answered;
  queue = queue_popped result setting stands space t answered;
  others = others_kept space setting _ t (pop_spares space setting t);
}
