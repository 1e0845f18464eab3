-- Each step on a cell's table keeps the rule.
use Rattle.std.proofs.Common.{◌≡◌, ◌≢◌, ℕ, zero, suc, ◌+◌, ◌<◌, ◌==◌, Bool, true, false, List, [], ◌∷◌, ◌++◌, replicate, get_or, set, sym, refl, ap, ◌∙◌, subst, arith, Some, None, MatchBool, eq-eqb, ne_eqb}
use mathlib.Core.Option.{some, some-injective, some-ne-none}
use mathlib.Core.Logic.{dite}
use native.Mathlib.Decide.{ℕ_discrete}
use lib.ListN.{get_elem?}
use prog.Atomic.{either}
use Rattle.atomic_table.specs.Table.{State, Act, keeps, takes, gives, chain, Valid, stepped, carried_after, Allows, Splits, Joins, Final, Seen, rest}
use Rattle.atomic_table.proofs.Lists.{set_again}
use Rattle.atomic_table.specs.Seated.{TableId}
use Rattle.future_cell.specs.declared.stage.Item.TheVariants.{Value, Callback}
use Rattle.future_cell.specs.declared.stage.SetterStage.{SetterStage}
use Rattle.future_cell.specs.declared.stage.SetterStage.TheVariants.{Unset, Filling, Running, Finished}
use Rattle.future_cell.specs.declared.stage.Known.{Known}
use Rattle.future_cell.specs.declared.stage.Known.TheVariants.{Unseen, Taking, Taken}
use Rattle.future_cell.specs.declared.stage.CallbackStage.{CallbackStage}
use Rattle.future_cell.specs.declared.stage.CallbackStage.TheVariants.{Unregistered, Laying, Lies, Refused, Returned}
use Rattle.future_cell.specs.declared.stage.WaiterStage.{WaiterStage}
use Rattle.future_cell.specs.declared.stage.View.{View}
use Rattle.future_cell.specs.declared.stage.View.TheVariants.{Unsplit, Sets, Waits, Meets, Over, Spent}
use Rattle.future_cell.specs.Rule.{IsSized, Slot, Phase, unsplit, shared, joined, over, words_of, homes_of, views_of, state_of, Agree, ValuesAgree, CallbacksAgree, IsSound, Ruled, word_before}
use Rattle.future_cell.specs.Plays.{Place, Reached, Published, PublishedIn, HasFinished, Looked, looked_at, Kept, Reserved, Parked, ParkedIn, Restored, Emptied, emptied_hand, is_known, Closed, setter_in, waiter_in, ran_in, value_in_hand, callback_in_hand, waiter_stage, is_settled, fresh, setter_part, waiter_part, meeting, is_resting}

abbrev St : Type 0 → Type 0 → Type 0
St V C = State (Slot V C) (View V C)

-- a test of a number chooses between two facts
pub chosen : (n k : ℕ) (P Q : Type 0) → (n ≡ k → P) → (n ≢ k → Q) → MatchBool (n == k) P Q
chosen n k P Q hit miss =
    dite (ℕ_discrete n k) (λ e. subst (λ b. MatchBool b P Q) (sym (eq-eqb n k e)) (hit e)) (λ ne. subst (λ b. MatchBool b P Q) (sym (ne_eqb n k ne)) (miss ne))

module _ {A : Type 0} where
  one_more : (n : ℕ) (x : A) → replicate n x ++ x ∷ [] ≡ replicate (suc n) x
  one_more zero x = refl
  one_more (suc n) x = ap (λ (xs : List A). x ∷ xs) (one_more n x)

module _ {C : Type 0} where
  not_set : (k : CallbackStage C) → word_before k ≢ 2
  not_set Unregistered e = absurd (omega arith)
  not_set Laying e = absurd (omega arith)
  not_set (Lies c) e = absurd (omega arith)
  not_set Refused e = absurd (omega arith)
  not_set Returned e = absurd (omega arith)

-- a seat of a cell's table is at the table that is lent, which has a word
pub fits : (z lent seat : TableId) → IsSized z → lent ≡ z → seat ≡ z → (seat ≡ lent) × (0 < lent.words)
fits z lent seat sized e f = (f ∙ sym e, (let one : lent.words ≡ 1 = ap (λ t. t.words) e ∙ sized.0 in omega arith))

module _ {V C : Type 0} where
  abbrev At : Phase V C → ℕ → View V C → Type 0
  At phase id v = get_elem? (views_of phase) id ≡ some v

  abbrev item_in : Slot V C → List (ℕ × Slot V C) → Slot V C
  item_in d [] = d
  item_in d (x ∷ xs) = x.1

  over_at : (n id : ℕ) (v : View V C) → get_elem? (replicate n Over) id ≡ some v → v ≡ Over
  over_at zero id v e = absurd (some-ne-none v (sym e))
  over_at (suc n) zero v e = sym (some-injective Over v e)
  over_at (suc n) (suc id) v e = over_at n id v e

  pub setter_seat : (phase : Phase V C) (id : ℕ) (p : SetterStage V) → At phase id (Sets p)
      → (id ≡ 0) × ((w : WaiterStage V C) × (phase ≡ shared p w))
  setter_seat unsplit zero p e = cc
  setter_seat unsplit (suc id) p e = cc
  setter_seat (shared q w) zero p e = (refl, (w, ap (λ v. shared (setter_in v) w) (some-injective (Sets q) (Sets p) e)))
  setter_seat (shared q w) (suc zero) p e = cc
  setter_seat (shared q w) (suc (suc id)) p e = cc
  setter_seat (joined q w) zero p e = cc
  setter_seat (joined q w) (suc zero) p e = cc
  setter_seat (joined q w) (suc (suc id)) p e = cc
  setter_seat (over n) zero p e = cc
  setter_seat (over n) (suc zero) p e = cc
  setter_seat (over n) (suc (suc id)) p e = let is = over_at n id (Sets p) e in cc

  pub waiter_seat : (phase : Phase V C) (id : ℕ) (w : WaiterStage V C) → At phase id (Waits w)
      → (id ≡ 1) × ((p : SetterStage V) × (phase ≡ shared p w))
  waiter_seat unsplit zero w e = cc
  waiter_seat unsplit (suc id) w e = cc
  waiter_seat (shared p u) zero w e = cc
  waiter_seat (shared p u) (suc zero) w e = (refl, (p, ap (λ v. shared p (waiter_in v)) (some-injective (Waits u) (Waits w) e)))
  waiter_seat (shared p u) (suc (suc id)) w e = cc
  waiter_seat (joined p u) zero w e = cc
  waiter_seat (joined p u) (suc zero) w e = cc
  waiter_seat (joined p u) (suc (suc id)) w e = cc
  waiter_seat (over n) zero w e = cc
  waiter_seat (over n) (suc zero) w e = cc
  waiter_seat (over n) (suc (suc id)) w e = let is = over_at n id (Waits w) e in cc

  pub joined_seat : (phase : Phase V C) (id : ℕ) (p : SetterStage V) (w : WaiterStage V C) → At phase id (Meets p w)
      → (id ≡ 0) × (phase ≡ joined p w)
  joined_seat unsplit zero p w e = cc
  joined_seat unsplit (suc id) p w e = cc
  joined_seat (shared q u) zero p w e = cc
  joined_seat (shared q u) (suc zero) p w e = cc
  joined_seat (shared q u) (suc (suc id)) p w e = cc
  joined_seat (joined q u) zero p w e = (refl, ap (λ v. joined (setter_in v) (waiter_in v)) (some-injective (Meets q u) (Meets p w) e))
  joined_seat (joined q u) (suc zero) p w e = cc
  joined_seat (joined q u) (suc (suc id)) p w e = cc
  joined_seat (over n) zero p w e = cc
  joined_seat (over n) (suc zero) p w e = cc
  joined_seat (over n) (suc (suc id)) p w e = let is = over_at n id (Meets p w) e in cc

  -- what a step of the seat id owes at the state s, as it is asked by `Allows`
  abbrev Steps : ℕ → Place V C → (ℕ → ℕ) → (ℕ → Place V C → Type 0) → St V C → Type 0
  Steps id m f then s =
      (w : View V C) × (a : Act (Slot V C)) × Valid s.homes m.1 a × Ruled (stepped s 0 (f (get_or s.words 0 0)) id m.1 w a) × then (get_or s.words 0 0) (w, carried_after m.1 a)

  setter_steps : (n id : ℕ) (m : Place V C) (f : ℕ → ℕ) (then : ℕ → Place V C → Type 0) (p : SetterStage V) → m.0 ≡ Sets p
      → ((w : WaiterStage V C) → Agree p w → Steps 0 m f then (state_of (shared p w))) → Allows Ruled n id m 0 f then
  setter_steps n id m f then p is each s r wide at fits =
      let seat : At r.0 id (Sets p) = subst (λ (t : St V C). get_elem? t.views id ≡ some (Sets p)) r.2 (at ∙ ap some is) in
      let here = setter_seat r.0 id p seat in
      let w = here.1.0 in
      let sound : Agree p w = subst IsSound here.1.1 r.1 in
      let same : state_of (shared p w) ≡ s = sym (r.2 ∙ ap state_of here.1.1) in
      subst (λ (t : ℕ × St V C). Steps t.0 m f then t.1) (λ i. (sym here.0 i, same i)) (each w sound)

  waiter_steps : (n id : ℕ) (m : Place V C) (f : ℕ → ℕ) (then : ℕ → Place V C → Type 0) (w : WaiterStage V C) → m.0 ≡ Waits w
      → ((p : SetterStage V) → Agree p w → Steps 1 m f then (state_of (shared p w))) → Allows Ruled n id m 0 f then
  waiter_steps n id m f then w is each s r wide at fits =
      let seat : At r.0 id (Waits w) = subst (λ (t : St V C). get_elem? t.views id ≡ some (Waits w)) r.2 (at ∙ ap some is) in
      let here = waiter_seat r.0 id w seat in
      let p = here.1.0 in
      let sound : Agree p w = subst IsSound here.1.1 r.1 in
      let same : state_of (shared p w) ≡ s = sym (r.2 ∙ ap state_of here.1.1) in
      subst (λ (t : ℕ × St V C). Steps t.0 m f then t.1) (λ i. (sym here.0 i, same i)) (each p sound)

  joined_steps : (n id : ℕ) (m : Place V C) (f : ℕ → ℕ) (then : ℕ → Place V C → Type 0) (p : SetterStage V) (w : WaiterStage V C)
      → m.0 ≡ Meets p w
      → (Agree p w → Steps 0 m f then (state_of (joined p w))) → Allows Ruled n id m 0 f then
  joined_steps n id m f then p w is each s r wide at fits =
      let seat : At r.0 id (Meets p w) = subst (λ (t : St V C). get_elem? t.views id ≡ some (Meets p w)) r.2 (at ∙ ap some is) in
      let here = joined_seat r.0 id p w seat in
      let sound : Agree p w = subst IsSound here.1 r.1 in
      let same : state_of (joined p w) ≡ s = sym (r.2 ∙ ap state_of here.1) in
      subst (λ (t : ℕ × St V C). Steps t.0 m f then t.1) (λ i. (sym here.0 i, same i)) (each sound)

  -- the setter takes slot 0
  pub reaches : (n id : ℕ) (m : Place V C) → m ≡ (Sets Unset, []) → Allows Ruled n id m 0 (λ n. n) (λ _ after. Reached after)
  reaches n id m is = subst (λ (x : Place V C). Allows Ruled n id x 0 (λ n. n) (λ _ after. Reached after)) (sym is)
      (setter_steps n id (Sets Unset, []) (λ n. n) (λ _ after. Reached after) Unset refl
      (λ w sound. (Sets Filling, takes 0 None, refl, (shared Filling w, sound, refl), refl)))

  publish_at : (v : V) (known : Known V) (k : CallbackStage C) (l f : ℕ) → ValuesAgree Filling known → CallbacksAgree {V = V} Filling k
      → Steps 0 (Sets Filling, (0, Some (Value v)) ∷ []) (λ _. 2) (Published v) (state_of (shared Filling (waiter_stage known k l f)))
  publish_at v Unseen Unregistered l f a b =
      (Sets (Finished v false), gives, tt, (shared (Finished v false) (waiter_stage Unseen Unregistered l f), (tt, refl), refl), ((λ e. absurd (omega arith)), λ _. refl))
  publish_at v Unseen Laying l f a b =
      (Sets (Finished v false), gives, tt, (shared (Finished v false) (waiter_stage Unseen Laying l f), (tt, refl), refl), ((λ e. absurd (omega arith)), λ _. refl))
  publish_at v Unseen (Lies c) l f a b =
      (Sets (Running v), chain gives (takes 1 (Some (Callback c))), (tt, refl), (shared (Running v) (waiter_stage Unseen (Lies c) l f), (tt, refl), refl), ((λ _. (c, refl)), λ n. absurd (n refl)))
  publish_at v Unseen Refused l f a b = cc
  publish_at v Unseen Returned l f a b = cc
  publish_at v (Taking x) k l f a b = cc
  publish_at v (Taken x) k l f a b = cc

  -- the value is out
  pub publishes : (n id : ℕ) (m : Place V C) (v : V) → m ≡ (Sets Filling, (0, Some (Value v)) ∷ [])
      → Allows Ruled n id m 0 (λ _. 2) (λ n after. PublishedIn (value_in_hand m.1) n after)
  publishes n id m v is =
      subst (λ (x : Place V C). Allows Ruled n id x 0 (λ _. 2) (λ n after. PublishedIn (value_in_hand x.1) n after)) (sym is)
      (setter_steps n id (Sets Filling, (0, Some (Value v)) ∷ []) (λ _. 2) (λ n after. Published v n after) Filling refl
      (λ w sound. publish_at v w.known w.callback w.looks w.found sound.0 sound.1))

  finish_at : (v : V) (known : Known V) (k : CallbackStage C) (l f : ℕ) → ValuesAgree (Running v) known
      → CallbacksAgree {V = V} (Running v) k
      → Steps 0 (Sets (Running v), (1, None) ∷ []) (λ n. n) (λ _ after. HasFinished (Running v) after) (state_of (shared (Running v) (waiter_stage known k l f)))
  finish_at v known Unregistered l f a b = cc
  finish_at v known Laying l f a b = cc
  finish_at v known (Lies c) l f a b =
      (Sets (Finished v true), gives, tt, (shared (Finished v true) (waiter_stage known (Lies c) l f), (a, refl), refl), refl)
  finish_at v known Refused l f a b = cc
  finish_at v known Returned l f a b = cc

  -- the setter gives slot 1 back
  pub finishes : (n id : ℕ) (m : Place V C) (v : V) → m ≡ (Sets (Running v), (1, None) ∷ [])
      → Allows Ruled n id m 0 (λ n. n) (λ _ after. HasFinished (setter_in m.0) after)
  finishes n id m v is = subst (λ (x : Place V C). Allows Ruled n id x 0 (λ n. n) (λ _ after. HasFinished (setter_in x.0) after)) (sym is)
      (setter_steps n id (Sets (Running v), (1, None) ∷ []) (λ n. n) (λ _ after. HasFinished (Running v) after) (Running v) refl
      (λ w sound. finish_at v w.known w.callback w.looks w.found sound.0 sound.1))

  look_at : (p : SetterStage V) (k : CallbackStage C) (l f : ℕ) → ValuesAgree p Unseen → CallbacksAgree p k
      → Steps 1 (Waits (waiter_stage Unseen k l f), []) (λ n. n) (Looked (waiter_stage Unseen k l f)) (state_of (shared p (waiter_stage Unseen k l f)))
  look_at Unset k l f a b = let w = looked_at (waiter_stage Unseen k l f) (word_before k) in
      (Waits w, keeps, tt, (shared Unset w, (a, b), refl), ((λ e. absurd (not_set k e)), λ _. (refl, b)))
  look_at Filling k l f a b = let w = looked_at (waiter_stage Unseen k l f) (word_before k) in
      (Waits w, keeps, tt, (shared Filling w, (a, b), refl), ((λ e. absurd (not_set k e)), λ _. (refl, b)))
  look_at (Running v) k l f a b = let w = waiter_stage (Taking v) k (l + 1) 2 in
      (Waits w, takes 0 (Some (Value v)), refl, (shared (Running v) w, (refl, b), refl), ((λ _. (v, refl)), λ n. absurd (n refl)))
  look_at (Finished v ran) k l f a b = let w = waiter_stage (Taking v) k (l + 1) 2 in
      (Waits w, takes 0 (Some (Value v)), refl, (shared (Finished v ran) w, (refl, b), refl), ((λ _. (v, refl)), λ n. absurd (n refl)))

  -- the waiter, which has no value, looks at the word
  pub looks : (n id : ℕ) (m : Place V C) (w : WaiterStage V C) → m ≡ (Waits w, []) → w.known ≡ Unseen
      → Allows Ruled n id m 0 (λ n. n) (λ n after. Looked (waiter_in m.0) n after)
  looks n id m w is unseen =
      let u = waiter_stage Unseen w.callback w.looks w.found in
      let is' : m ≡ (Waits u, []) = is ∙ ap (λ known. (Waits (waiter_stage known w.callback w.looks w.found), [])) unseen in
      subst (λ (x : Place V C). Allows Ruled n id x 0 (λ n. n) (λ n after. Looked (waiter_in x.0) n after)) (sym is')
      (waiter_steps n id (Waits u, []) (λ n. n) (Looked u) u refl (λ p sound. look_at p w.callback w.looks w.found sound.0 sound.1))

  keep_at : (p : SetterStage V) (v : V) (k : CallbackStage C) (l f : ℕ) → ValuesAgree p (Taking v) → CallbacksAgree p k
      → Steps 1 (Waits (waiter_stage (Taking v) k l f), (0, None) ∷ []) (λ n. n) (λ _ after. Kept (waiter_stage (Taking v) k l f) after) (state_of (shared p (waiter_stage (Taking v) k l f)))
  keep_at Unset v k l f a b = cc
  keep_at Filling v k l f a b = cc
  keep_at (Running u) v k l f a b = let w = waiter_stage (Taken v) k l f in (Waits w, gives, tt, (shared (Running u) w, (a, b), refl), refl)
  keep_at (Finished u ran) v k l f a b =
      let w = waiter_stage (Taken v) k l f in (Waits w, gives, tt, (shared (Finished u ran) w, (a, b), refl), refl)

  -- the waiter keeps the value, and gives slot 0 back
  pub keeps_value : (n id : ℕ) (m : Place V C) (w : WaiterStage V C) (v : V) → m ≡ (Waits w, (0, None) ∷ []) → w.known ≡ Taking v
      → Allows Ruled n id m 0 (λ n. n) (λ _ after. Kept (waiter_in m.0) after)
  keeps_value n id m w v is taking =
      let u = waiter_stage (Taking v) w.callback w.looks w.found in
      let is' : m ≡ (Waits u, (0, None) ∷ []) = is ∙ ap (λ known. (Waits (waiter_stage known w.callback w.looks w.found), (0, None) ∷ [])) taking in
      subst (λ (x : Place V C). Allows Ruled n id x 0 (λ n. n) (λ _ after. Kept (waiter_in x.0) after)) (sym is')
      (waiter_steps n id (Waits u, (0, None) ∷ []) (λ n. n) (λ _ after. Kept u after) u refl (λ p sound. keep_at p v w.callback w.looks w.found sound.0 sound.1))

  reserve_at : (p : SetterStage V) (known : Known V) (l f : ℕ) → ValuesAgree p known → CallbacksAgree {C = C} p Unregistered
      → Steps 1 (Waits (waiter_stage known Unregistered l f), []) (λ n. n) (λ _ after. Reserved (waiter_stage known Unregistered l f) after) (state_of (shared p (waiter_stage known Unregistered l f)))
  reserve_at Unset known l f a b =
      let w = waiter_stage known Laying l f in (Waits w, takes 1 None, refl, (shared Unset w, (a, b), refl), refl)
  reserve_at Filling known l f a b =
      let w = waiter_stage known Laying l f in (Waits w, takes 1 None, refl, (shared Filling w, (a, b), refl), refl)
  reserve_at (Running u) known l f a b = cc
  reserve_at (Finished u ran) known l f a b =
      let w = waiter_stage known Laying l f in (Waits w, takes 1 None, refl, (shared (Finished u ran) w, (a, b), refl), refl)

  -- the waiter takes slot 1
  pub reserves : (n id : ℕ) (m : Place V C) (w : WaiterStage V C) → m ≡ (Waits w, []) → w.callback ≡ Unregistered
      → Allows Ruled n id m 0 (λ n. n) (λ _ after. Reserved (waiter_in m.0) after)
  reserves n id m w is none_yet =
      let u = waiter_stage w.known Unregistered w.looks w.found in
      let is' : m ≡ (Waits u, []) = is ∙ ap (λ k. (Waits (waiter_stage w.known k w.looks w.found), [])) none_yet in
      subst (λ (x : Place V C). Allows Ruled n id x 0 (λ n. n) (λ _ after. Reserved (waiter_in x.0) after)) (sym is')
      (waiter_steps n id (Waits u, []) (λ n. n) (λ _ after. Reserved u after) u refl (λ p sound. reserve_at p w.known w.looks w.found sound.0 sound.1))

  park_at : (p : SetterStage V) (c : C) (known : Known V) (l f : ℕ) → ValuesAgree p known → CallbacksAgree {C = C} p Laying
      → Steps 1 (Waits (waiter_stage known Laying l f), (1, Some (Callback c)) ∷ []) (λ n. either (n == 0) 1 n) (Parked c (waiter_stage known Laying l f)) (state_of (shared p (waiter_stage known Laying l f)))
  park_at Unset c known l f a b =
      let w = waiter_stage known (Lies c) (l + 1) 0 in (Waits w, gives, tt, (shared Unset w, (a, refl), refl), ((λ _. refl), λ n. absurd (n refl)))
  park_at Filling c known l f a b =
      let w = waiter_stage known (Lies c) (l + 1) 0 in (Waits w, gives, tt, (shared Filling w, (a, refl), refl), ((λ _. refl), λ n. absurd (n refl)))
  park_at (Running u) c known l f a b = cc
  park_at (Finished u ran) c known l f a b =
      let w = waiter_stage known Refused (l + 1) 2 in (Waits w, keeps, tt, (shared (Finished u ran) w, (a, b), refl), ((λ e. absurd (omega arith)), λ _. (refl, refl)))

  -- the callback is parked where the word was 0
  pub parks : (n id : ℕ) (m : Place V C) (w : WaiterStage V C) (c : C) → m ≡ (Waits w, (1, Some (Callback c)) ∷ []) → w.callback ≡ Laying
      → Allows Ruled n id m 0 (λ n. either (n == 0) 1 n) (λ n after. ParkedIn (callback_in_hand m.1) (waiter_in m.0) n after)
  parks n id m w c is laying =
      let u = waiter_stage w.known Laying w.looks w.found in
      let is' : m ≡ (Waits u, (1, Some (Callback c)) ∷ []) = is ∙ ap (λ k. (Waits (waiter_stage w.known k w.looks w.found), (1, Some (Callback c)) ∷ [])) laying in
      subst (λ (x : Place V C). Allows Ruled n id x 0 (λ n. either (n == 0) 1 n) (λ n after. ParkedIn (callback_in_hand x.1) (waiter_in x.0) n after)) (sym is')
      (waiter_steps n id (Waits u, (1, Some (Callback c)) ∷ []) (λ n. either (n == 0) 1 n) (Parked c u) u refl (λ p sound. park_at p c w.known w.looks w.found sound.0 sound.1))

  restore_at : (p : SetterStage V) (known : Known V) (l f : ℕ) → ValuesAgree p known → CallbacksAgree {C = C} p Refused
      → Steps 1 (Waits (waiter_stage known Refused l f), (1, None) ∷ []) (λ n. n) (λ _ after. Restored (waiter_stage known Refused l f) after) (state_of (shared p (waiter_stage known Refused l f)))
  restore_at Unset known l f a b = cc
  restore_at Filling known l f a b = cc
  restore_at (Running u) known l f a b = cc
  restore_at (Finished u ran) known l f a b =
      let w = waiter_stage known Returned l f in (Waits w, gives, tt, (shared (Finished u ran) w, (a, b), refl), refl)

  -- the waiter gives slot 1 back
  pub restores : (n id : ℕ) (m : Place V C) (w : WaiterStage V C) → m ≡ (Waits w, (1, None) ∷ []) → w.callback ≡ Refused
      → Allows Ruled n id m 0 (λ n. n) (λ _ after. Restored (waiter_in m.0) after)
  restores n id m w is refused =
      let u = waiter_stage w.known Refused w.looks w.found in
      let is' : m ≡ (Waits u, (1, None) ∷ []) = is ∙ ap (λ k. (Waits (waiter_stage w.known k w.looks w.found), (1, None) ∷ [])) refused in
      subst (λ (x : Place V C). Allows Ruled n id x 0 (λ n. n) (λ _ after. Restored (waiter_in x.0) after)) (sym is')
      (waiter_steps n id (Waits u, (1, None) ∷ []) (λ n. n) (λ _ after. Restored u after) u refl (λ p sound. restore_at p w.known w.looks w.found sound.0 sound.1))

  -- the joined seat takes the value that was set
  pub empties : (n id : ℕ) (m : Place V C) (v : V) (ran : Bool) (w : WaiterStage V C) → m ≡ (Meets (Finished v ran) w, [])
      → w.known ≡ Unseen
      → Allows Ruled n id m 0 (λ n. n) (λ _ after. Emptied (setter_in m.0) (waiter_in m.0) after)
  empties n id m v ran w is unseen =
      let u = waiter_stage Unseen w.callback w.looks w.found in
      let taking = waiter_stage (Taking v) w.callback w.looks w.found in
      let is' : m ≡ (Meets (Finished v ran) u, []) = is ∙ ap (λ known. (Meets (Finished v ran) (waiter_stage known w.callback w.looks w.found), [])) unseen in
      subst (λ (x : Place V C). Allows Ruled n id x 0 (λ n. n) (λ _ after. Emptied (setter_in x.0) (waiter_in x.0) after)) (sym is')
      (joined_steps n id (Meets (Finished v ran) u, []) (λ n. n) (λ _ after. Emptied (Finished v ran) u after) (Finished v ran) u refl
      (λ sound. (Meets (Finished v ran) taking, takes 0 (Some (Value v)), refl, (joined (Finished v ran) taking, (refl, sound.1), refl), refl)))

  close_at : (v : V) (ran : Bool) (known : Known V) (k : CallbackStage C) (l f : ℕ) → is_known known ≡ true → is_settled k ≡ true
      → Agree (Finished v ran) (waiter_stage known k l f)
      → Steps 0 (Meets (Finished v ran) (waiter_stage known k l f), emptied_hand known) (λ n. n) (λ _ after. Closed (Finished v ran) (waiter_stage known k l f) after) (state_of (joined (Finished v ran) (waiter_stage known k l f)))
  close_at v ran Unseen k l f h s a = cc
  close_at v ran (Taking x) Unregistered l f h s a = (Over, gives, tt, (over 0, tt, refl), (refl, a))
  close_at v ran (Taking x) Laying l f h s a = cc
  close_at v ran (Taking x) (Lies c) l f h s a = (Over, gives, tt, (over 0, tt, refl), (refl, a))
  close_at v ran (Taking x) Refused l f h s a = cc
  close_at v ran (Taking x) Returned l f h s a = (Over, gives, tt, (over 0, tt, refl), (refl, a))
  close_at v ran (Taken x) Unregistered l f h s a = (Over, keeps, tt, (over 0, tt, refl), (refl, a))
  close_at v ran (Taken x) Laying l f h s a = cc
  close_at v ran (Taken x) (Lies c) l f h s a = (Over, keeps, tt, (over 0, tt, refl), (refl, a))
  close_at v ran (Taken x) Refused l f h s a = cc
  close_at v ran (Taken x) Returned l f h s a = (Over, keeps, tt, (over 0, tt, refl), (refl, a))

  -- the joined seat leaves both slots empty
  pub closes : (n id : ℕ) (m : Place V C) (v : V) (ran : Bool) (w : WaiterStage V C) → m ≡ (Meets (Finished v ran) w, emptied_hand w.known)
      → is_known w.known ≡ true → is_settled w.callback ≡ true
      → Allows Ruled n id m 0 (λ n. n) (λ _ after. Closed (setter_in m.0) (waiter_in m.0) after)
  closes n id m v ran w is known settled =
      subst (λ (x : Place V C). Allows Ruled n id x 0 (λ n. n) (λ _ after. Closed (setter_in x.0) (waiter_in x.0) after)) (sym is)
      (joined_steps n id (Meets (Finished v ran) w, emptied_hand w.known) (λ n. n) (λ _ after. Closed (Finished v ran) w after) (Finished v ran) w refl
      (λ sound. close_at v ran w.known w.callback w.looks w.found known settled sound))

  unsplit_seat : (phase : Phase V C) (id : ℕ) → At phase id Unsplit → (id ≡ 0) × (phase ≡ unsplit)
  unsplit_seat unsplit zero e = (refl, refl)
  unsplit_seat unsplit (suc id) e = cc
  unsplit_seat (shared q u) zero e = cc
  unsplit_seat (shared q u) (suc zero) e = cc
  unsplit_seat (shared q u) (suc (suc id)) e = cc
  unsplit_seat (joined q u) zero e = cc
  unsplit_seat (joined q u) (suc zero) e = cc
  unsplit_seat (joined q u) (suc (suc id)) e = cc
  unsplit_seat (over n) zero e = cc
  unsplit_seat (over n) (suc zero) e = cc
  unsplit_seat (over n) (suc (suc id)) e = let is = over_at n id Unsplit e in cc

  over_seat : (phase : Phase V C) (id : ℕ) → At phase id Over → (n : ℕ) × (phase ≡ over n)
  over_seat unsplit zero e = cc
  over_seat unsplit (suc id) e = cc
  over_seat (shared q u) zero e = cc
  over_seat (shared q u) (suc zero) e = cc
  over_seat (shared q u) (suc (suc id)) e = cc
  over_seat (joined q u) zero e = cc
  over_seat (joined q u) (suc zero) e = cc
  over_seat (joined q u) (suc (suc id)) e = cc
  over_seat (over n) id e = (n, refl)

  -- the one seat of a new table becomes two
  pub parts : (id : ℕ) (v : View V C) → v ≡ Unsplit → Splits Ruled id v (setter_part v) (waiter_part v)
  parts id v is s r at =
      let seat : At r.0 id Unsplit = subst (λ (t : St V C). get_elem? t.views id ≡ some Unsplit) r.2 (at ∙ ap some is) in
      let here = unsplit_seat r.0 id seat in
      let same : state_of unsplit ≡ s = sym (r.2 ∙ ap state_of here.1) in
      subst (λ (t : ℕ × St V C). Ruled record { words = t.1.words; homes = t.1.homes; views = set t.1.views t.0 (Sets Unset) ++ Waits fresh ∷ [] }) (λ i. (sym here.0 i, same i))
      (shared Unset fresh, (refl, refl), refl)

  -- a further seat at a table with empty slots
  pub doubles : (id : ℕ) (v : View V C) → v ≡ Over → Splits Ruled id v Over Over
  doubles id v is s r at =
      let here : At r.0 id Over = subst (λ (t : St V C). get_elem? t.views id ≡ some Over) r.2 (at ∙ ap some is) in
      let phase = over_seat r.0 id here in
      let n = phase.0 in
      let same : state_of (over n) ≡ s = sym (r.2 ∙ ap state_of phase.1) in
      let here' : At (over n) id Over = subst (λ p. At p id Over) phase.1 here in
      subst (λ (t : St V C). Ruled record { words = t.words; homes = t.homes; views = set t.views id Over ++ Over ∷ [] }) same
      (over (suc n), tt, ap (λ vs. record { words = 2 ∷ []; homes = some None ∷ some None ∷ []; views = vs }) (ap (λ vs. vs ++ Over ∷ []) (set_again (views_of (over n)) id Over here') ∙ ap (λ vs. Over ∷ Spent ∷ vs) (one_more n Over)))

  meet_at : (p : SetterStage V) (u w : WaiterStage V C) (other : ℕ) → Agree p u → ¬ (other ≡ 0)
      → get_elem? (Meets p w ∷ Waits u ∷ []) other ≡ some (Waits w)
      → Ruled record { words = words_of (shared p u); homes = homes_of (shared p u); views = set (Meets p w ∷ Waits u ∷ []) other Spent }
  meet_at p u w zero sound apart e = absurd (apart refl)
  meet_at p u w (suc zero) sound apart e =
      (joined p u, sound, ap (λ v. record { words = words_of (shared p u); homes = homes_of (shared p u); views = Meets p (waiter_in v) ∷ Spent ∷ [] }) (sym (some-injective (Waits u) (Waits w) e)))
  meet_at p u w (suc (suc other)) sound apart e = cc

  -- the setter's seat takes the waiter's in
  pub meets : (id : ℕ) (v : View V C) (other : ℕ) (v' : View V C) (p : SetterStage V) (w : WaiterStage V C) → v ≡ Sets p → v' ≡ Waits w
      → Joins Ruled id v other v' (meeting v v') Spent
  meets id v other v' p w is is' =
      subst (λ (t : View V C × View V C). Joins Ruled id t.0 other t.1 (meeting t.0 t.1) Spent) (λ i. (sym is i, sym is' i))
      (λ s r at apart there.
      let seat : At r.0 id (Sets p) = subst (λ (t : St V C). get_elem? t.views id ≡ some (Sets p)) r.2 at in
      let here = setter_seat r.0 id p seat in
      let u = here.1.0 in
      let sound : Agree p u = subst IsSound here.1.1 r.1 in
      let same : s ≡ state_of (shared p u) = r.2 ∙ ap state_of here.1.1 in
      let there' : get_elem? (Meets p w ∷ Waits u ∷ []) other ≡ some (Waits w) = subst (λ (t : ℕ × St V C). get_elem? (set t.1.views t.0 (Meets p w)) other ≡ some (Waits w)) (λ i. (here.0 i, same i)) there in
      subst (λ (t : ℕ × St V C). Ruled record { words = t.1.words; homes = t.1.homes; views = set (set t.1.views t.0 (Meets p w)) other Spent }) (λ i. (sym here.0 i, sym same i))
      (meet_at p u w other sound (subst (λ k. ¬ (other ≡ k)) here.0 apart) there'))

  resting_at : (phase : Phase V C) (id : ℕ) (v : View V C) → At phase id v → is_resting v ≡ true
      → homes_of phase ≡ some None ∷ some None ∷ []
  resting_at unsplit id v e r = refl
  resting_at (over n) id v e r = refl
  resting_at (shared p w) zero v e r = let is : Sets p ≡ v = some-injective _ _ e in let no : false ≡ true = ap is_resting is ∙ r in cc
  resting_at (shared p w) (suc zero) v e r =
      let is : Waits w ≡ v = some-injective _ _ e in let no : false ≡ true = ap is_resting is ∙ r in cc
  resting_at (shared p w) (suc (suc id)) v e r = cc
  resting_at (joined p w) zero v e r = let is : Meets p w ≡ v = some-injective _ _ e in let no : false ≡ true = ap is_resting is ∙ r in cc
  resting_at (joined p w) (suc zero) v e r = let is : Spent ≡ v = some-injective _ _ e in let no : false ≡ true = ap is_resting is ∙ r in cc
  resting_at (joined p w) (suc (suc id)) v e r = cc

  -- the slots of a table at the end, where a seat at it rests
  pub rests : (id : ℕ) (v : View V C) (words : List ℕ) (slots : List (Slot V C)) → Final (Seen Ruled id v) words slots → is_resting v ≡ true
      → (get_elem? slots 0 ≡ some None) × (get_elem? slots 1 ≡ some None)
  rests id v words slots f r =
      let s = f.0 in
      let rule = f.1.0 in
      let seat : At rule.0 id v = subst (λ (t : St V C). get_elem? t.views id ≡ some v) rule.2 f.1.1 in
      let homes : s.homes ≡ some None ∷ some None ∷ [] = ap (λ t. t.homes) rule.2 ∙ resting_at rule.0 id v seat r in
      (f.4 0 None (ap (λ hs. get_elem? hs 0) homes), f.4 1 None (ap (λ hs. get_elem? hs 1) homes))

  -- a write into the slot that was taken last
  pub written : (before after : Place V C) (v : View V C) (k : ℕ) (old new : Slot V C) → before ≡ (v, (k, old) ∷ [])
      → after ≡ (before.0, (k, new) ∷ rest before.1) → after ≡ (v, (k, new) ∷ [])
  written before after v k old new is e = e ∙ ap (λ (m : Place V C). (m.0, (k, new) ∷ rest m.1)) is

  pub holding : (m : Place V C) (v : View V C) (k : ℕ) (x : Slot V C) → m ≡ (v, (k, x) ∷ []) → m.1 ≡ (k, x) ∷ rest m.1
  holding m v k x is = ap (λ (y : Place V C). y.1) is ∙ ap (λ (y : Place V C). (k, x) ∷ rest y.1) (sym is)

  -- what was read from it
  pub found : (before : Place V C) (v : View V C) (k : ℕ) (old got : Slot V C) → before ≡ (v, (k, old) ∷ [])
      → before.1 ≡ (k, got) ∷ rest before.1 → got ≡ old
  found before v k old got is e = ap (item_in None) (sym e ∙ ap (λ (m : Place V C). m.1) is)

  finished_view : (v : View V C) (ran : Bool) → ran_in v ≡ Some ran → (x : V) × (v ≡ Sets (Finished x ran))
  finished_view Unsplit ran e = cc
  finished_view (Sets Unset) ran e = cc
  finished_view (Sets Filling) ran e = cc
  finished_view (Sets (Running x)) ran e = cc
  finished_view (Sets (Finished x r)) ran e = let same : r ≡ ran = cc in (x, ap (λ b. Sets (Finished x b)) same)
  finished_view (Waits w) ran e = cc
  finished_view (Meets p w) ran e = cc
  finished_view Over ran e = cc
  finished_view Spent ran e = cc

  -- a setter that tells whether it ran a callback has put the value out
  pub finished : (m : Place V C) (ran : Bool) → ran_in m.0 ≡ Some ran → m.1 ≡ [] → (x : V) × ((r : Bool) × (m ≡ (Sets (Finished x r), [])))
  finished m ran e bare = let view = finished_view m.0 ran e in (view.0, (ran, λ i. (view.1 i, bare i)))

  -- what a slot holds is one value, or one callback
  pub same_value : (item : Slot V C) (x y : V) → item ≡ Some (Value x) → item ≡ Some (Value y) → x ≡ y
  same_value item x y e f = cc

  pub same_callback : (item : Slot V C) (x y : C) → item ≡ Some (Callback x) → item ≡ Some (Callback y) → x ≡ y
  same_callback item x y e f = cc
