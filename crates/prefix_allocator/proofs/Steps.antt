-- What several calls did, from what each of them did.
use Rattle.std.proofs.Common.{◌≡◌, List, [], ◌∷◌, ◌++◌, Option, Some, None, Result, Ok, Err, refl, sym, ap, subst, ◌∙◌, inl, inr}
use Rattle.model_database.specs.declared.Code.{Code}
use Rattle.model_database.specs.Histories.{Setting}
use Rattle.model_database.specs.Transactions.{Transaction}
use Rattle.fdb_calls.specs.declared.Reply.{Reply}
use Rattle.fdb_calls.specs.declared.fault.TrFault.{TrFault}
use Rattle.fdb_calls.specs.declared.fault.TrFault.TheVariants as fault
use Rattle.fdb_calls.specs.Answers.{Answered}
use Rattle.fdb_calls.specs.Calling.{Called}
use Rattle.model_allocator.specs.Acts.{Act, Acted, act_called, acted_by, all_acted, refusal, words_of}
use Rattle.model_allocator.proofs.Acting.{passed-append, refused-append}
use Rattle.prefix_allocator.specs.Allocates.{StopsIn}
use Rattle.prefix_allocator.specs.Doing.{Done}

-- ---- one call

-- acts behind one that was let through
pub passed : {A : Type 0} (good : A → Type 0) (result : Result A TrFault) (setting : Setting) (stands : Transaction → Type 0) (act : Act)
    (acts : List Act)
    (t : Transaction) → refusal (act_called setting t act).reply ≡ None
    → Done good result setting stands acts (act_called setting t act).transaction → Done good result setting stands (act ∷ acts) t
unfolding all_acted
passed good (Ok value) setting stands act acts t let_through done =
    let called = act_called setting t act in
    let others = all_acted setting acts called.transaction in
    subst (λ (refused : Option Code). ((acted_by refused called.transaction (words_of act) others).refused ≡ None) × good value × stands
    (acted_by refused called.transaction (words_of act) others).transaction)
    (sym let_through) done
passed good (Err (fault.Code code)) setting stands act acts t let_through done =
    let called = act_called setting t act in
    let others = all_acted setting acts called.transaction in
    subst (λ (refused : Option Code). ((acted_by refused called.transaction (words_of act) others).refused ≡ Some code) × stands
    (acted_by refused called.transaction (words_of act) others).transaction)
    (sym let_through) done
passed good (Err fault.NoMemory) setting stands act acts t let_through done = inr (let_through, done)

-- a call with a fault is the last
pub refused : {A B : Type 0} (good : A → Type 0) (replied : B → Reply) (f : TrFault) (setting : Setting) (stands : Transaction → Type 0)
    (act : Act) (acts : List Act)
    (t : Transaction) → Answered replied (Err f) stands t (act_called setting t act) → Done good (Err f) setting stands (act ∷ acts) t
unfolding all_acted
refused good replied (fault.Code code) setting stands act acts t answered =
    let called = act_called setting t act in
    let others = all_acted setting acts called.transaction in
    subst (λ (refused : Option Code). ((acted_by refused called.transaction (words_of act) others).refused ≡ Some code) × stands
    (acted_by refused called.transaction (words_of act) others).transaction)
    (ap refusal answered.0) (refl, answered.1)
refused good replied fault.NoMemory setting stands act acts t answered = inl answered

-- memory ran out before the first
pub stopped : (setting : Setting) (stands : Transaction → Type 0) (acts : List Act) (t : Transaction) → stands t
    → StopsIn setting stands acts t
stopped setting stands [] t is = is
stopped setting stands (act ∷ acts) t is = inl is

-- ---- several

stops_behind : (setting : Setting) (stands : Transaction → Type 0) (first second : List Act) (t : Transaction)
    → (all_acted setting first t).refused ≡ None
    → StopsIn setting stands second (all_acted setting first t).transaction → StopsIn setting stands (first ++ second) t
unfolding all_acted
stops_behind setting stands [] second t let_through stops = stops
stops_behind setting stands (act ∷ first) second t let_through stops =
    by (refusal called.reply) refl let_through stops (stops_behind setting stands first second called.transaction)
  where
    called : Called
    called = act_called setting t act

    others : Acted
    others = all_acted setting first called.transaction

    by : (refused : Option Code) → refusal called.reply ≡ refused → (acted_by refused called.transaction (words_of act) others).refused
        ≡ None
        → StopsIn setting stands second (acted_by refused called.transaction (words_of act) others).transaction
        → (others.refused ≡ None → StopsIn setting stands second others.transaction
        → StopsIn setting stands (first ++ second) called.transaction)
        → StopsIn setting stands (act ∷ (first ++ second)) t
    by (Some code) is let_through stops on = absurd cc
    by None is let_through stops on = inr (is, on let_through stops)

-- acts behind some that were let through
pub more_done : {A : Type 0} (good : A → Type 0) (result : Result A TrFault) (setting : Setting) (stands : Transaction → Type 0)
    (first second : List Act)
    (t : Transaction) → (all_acted setting first t).refused ≡ None
    → Done good result setting stands second (all_acted setting first t).transaction
    → Done good result setting stands (first ++ second) t
more_done good (Ok value) setting stands first second t let_through done =
    subst (λ acted. (acted.refused ≡ None) × good value × stands acted.transaction)
    (sym (passed-append setting first second t let_through)) done
more_done good (Err (fault.Code code)) setting stands first second t let_through done =
    subst (λ acted. (acted.refused ≡ Some code) × stands acted.transaction) (sym (passed-append setting first second t let_through)) done
more_done good (Err fault.NoMemory) setting stands first second t let_through done = stops_behind setting stands first second t
    let_through done

stops_before : (setting : Setting) (stands : Transaction → Type 0) (first second : List Act) (t : Transaction)
    → StopsIn setting stands first t → StopsIn setting stands (first ++ second) t
stops_before setting stands [] second t is = stopped setting stands second t is
stops_before setting stands (act ∷ first) second t (inl is) = inl is
stops_before setting stands (act ∷ first) second t (inr (let_through, stops)) =
    inr (let_through, stops_before setting stands first second (act_called setting t act).transaction stops)

-- a fault of the first ends all
pub stopped_done : {A B : Type 0} (good : A → Type 0) (other : B → Type 0) (f : TrFault) (setting : Setting) (stands : Transaction
    → Type 0) (first second : List Act)
    (t : Transaction) → Done good (Err f) setting stands first t → Done other (Err f) setting stands (first ++ second) t
stopped_done good other (fault.Code code) setting stands first second t done =
    subst (λ acted. (acted.refused ≡ Some code) × stands acted.transaction) (sym (refused-append setting first second t code done.0)) done
stopped_done good other fault.NoMemory setting stands first second t done = stops_before setting stands first second t done

-- a call alone
pub one_done : {A : Type 0} (good : A → Type 0) (replied : A → Reply) (result : Result A TrFault) (setting : Setting)
    (stands : Transaction → Type 0) (act : Act)
    (t : Transaction) → ((value : A) → refusal (replied value) ≡ None)
    → ((value : A) → replied value ≡ (act_called setting t act).reply → good value)
    → Answered replied result stands t (act_called setting t act) → Done good result setting stands (act ∷ []) t
unfolding all_acted
one_done good replied (Ok value) setting stands act t no_fault is_good answered =
    passed good (Ok value) setting stands act [] t (ap refusal (sym answered.0) ∙ no_fault value)
    (refl, is_good value answered.0, answered.1)
one_done good replied (Err f) setting stands act t no_fault is_good answered = refused good replied f setting stands act [] t answered

-- behind a call that was let through
pub then_done : {A B : Type 0} (good : A → Type 0) (replied : B → Reply) (value : B) (result : Result A TrFault) (setting : Setting)
    (first stands : Transaction → Type 0)
    (act : Act) (acts : List Act) (t : Transaction) → ((value : B) → refusal (replied value) ≡ None)
    → Answered replied (Ok value) first t (act_called setting t act)
    → ((u : Transaction) → first u → Done good result setting stands acts u) → Done good result setting stands (act ∷ acts) t
then_done good replied value result setting first stands act acts t no_fault answered others =
    passed good result setting stands act acts t (ap refusal (sym answered.0) ∙ no_fault value)
    (others (act_called setting t act).transaction answered.1)

-- after the last call
pub ended : {A : Type 0} (good : A → Type 0) (value : A) (setting : Setting) (stands : Transaction → Type 0) (t : Transaction)
    → good value → stands t → Done good (Ok value) setting stands [] t
unfolding all_acted
ended good value setting stands t is after = (refl, is, after)

-- ---- what is answered

-- what is good is good otherwise too
pub other_good : {A B : Type 0} (good : A → Type 0) (other : B → Type 0) (value : A) (answered : B) (setting : Setting)
    (stands : Transaction → Type 0) (acts : List Act)
    (t : Transaction) → (good value → other answered) → Done good (Ok value) setting stands acts t
    → Done other (Ok answered) setting stands acts t
other_good good other value answered setting stands acts t is done = (done.0, is done.1, done.2)

-- of a fault nothing is asked of the answer
pub other_fault : {A B : Type 0} (good : A → Type 0) (other : B → Type 0) (f : TrFault) (setting : Setting) (stands : Transaction
    → Type 0) (acts : List Act)
    (t : Transaction) → Done good (Err f) setting stands acts t → Done other (Err f) setting stands acts t
other_fault good other (fault.Code code) setting stands acts t done = done
other_fault good other fault.NoMemory setting stands acts t done = done
