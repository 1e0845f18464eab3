-- Watches that are as a history says stay so, and end as it says.
use Rattle.std.proofs.Common.{◌≡◌, ◌≢◌, ◌↔◌, ℕ, ◌+◌, ◌<◌, ◌≤◌, ◌⊎◌, inl, inr, arith, Bool, true, false, cond, List, [], ◌∷◌, ◌++◌, map, Option, Some, None, refl, sym, ap, subst, ◌∙◌}
use Rattle.std.proofs.lemmas.Bool.{cases_lt, cases_order, false≢true}
use Rattle.std.proofs.lemmas.List.Elements.{All-map, All-weaker, All-push}
use Rattle.std.proofs.lemmas.Option.{none-some, same_Some}
use Rattle.std.specs.Cmp.Lexicographic.{same_text, other_text, nat_list_eq_equiv}
use Rattle.std.specs.FinMap as finite
use Rattle.std.specs.List.{All}
use Rattle.atomic_table.specs.Seated.{TableId}
use Rattle.model_database.specs.Databases.{Database}
use Rattle.watch_core.specs.declared.ending.WatchEnd.{WatchEnd}
use Rattle.watch_core.specs.declared.ending.WatchEnd.TheVariants.{Changed, Cancelled}
use Rattle.watch_core.specs.Firing.{FiresAt, StaysTo}
use Rattle.watch_core.specs.Watching.{Ended, Watched, Watching, is_same, ended_as, after_commit, all_ended, AgreesOn, AreCurrent, AreRight, IsCurrent, IsRight, IsSettledBy}

-- what the test of two values tells
pub same_value : (a b : Option (List ℕ)) → is_same a b ≡ true → a ≡ b
same_value None None e = refl
same_value None (Some b) e = cc
same_value (Some a) None e = cc
same_value (Some a) (Some b) e = ap Some (same_text a b (sym e))

pub value_is_same : (a : Option (List ℕ)) → is_same a a ≡ true
value_is_same None = refl
value_is_same (Some a) = nat_list_eq_equiv.refl a

pub other_value : (a b : Option (List ℕ)) → is_same a b ≡ false → a ≢ b
other_value None None e = cc
other_value None (Some b) e = λ q. none-some b q
other_value (Some a) None e = λ q. none-some a (sym q)
other_value (Some a) (Some b) e = λ q. other_text a b (sym e) (same_Some a b q)

-- a key that stayed up to one version, and has its value at the next, stays up to this one
stays_next : (history : ℕ → Database) (key : List ℕ) (v seen : ℕ) → StaysTo history key v seen
    → finite.get (history (seen + 1)) key ≡ finite.get (history v) key → StaysTo history key v (seen + 1)
stays_next history key v seen stays here u later upto = by_case (cases_lt seen u)
  where
    by_case : (seen < u) ⊎ (u ≤ seen) → finite.get (history u) key ≡ finite.get (history v) key
    by_case (inl above) = let e : u ≡ seen + 1 = omega arith in ap (λ t. finite.get (history t) key) e ∙ here
    by_case (inr below) = stays u later below

-- where the value of the next version is another, the watch fires there
fires_next : (history : ℕ → Database) (key : List ℕ) (v seen : ℕ) → v ≤ seen → StaysTo history key v seen
    → finite.get (history (seen + 1)) key ≢ finite.get (history v) key → FiresAt history key v (seen + 1)
fires_next history key v seen made stays other =
    record { later = omega arith; differs = other; least = λ u later before. stays u later (omega arith) }

-- a watch of these parts
abbrev pub watch_of : List ℕ → ℕ → Option (List ℕ) → TableId → Option Ended → Watched
watch_of key made value cell ended = record { key = key; made = made; value = value; cell = cell; ended = ended }

module _ (history : ℕ → Database) where
  -- a watch that has ended stays as it is when a version more was seen
  right_later : (seen later : ℕ) → seen ≤ later → (key : List ℕ) (made : ℕ) (value : Option (List ℕ)) (cell : TableId) (ended : Ended)
      → IsRight history seen (watch_of key made value cell (Some ended)) → IsRight history later (watch_of key made value cell (Some ended))
  right_later seen later upto key made value cell ended right =
      let before : made ≤ seen = right.made in
      record { made = omega arith; value = right.value; so_far = right.so_far }

  commit_by : (seen : ℕ) (database : Database) → history (seen + 1) ≡ database
      → (key : List ℕ) (made : ℕ) (value : Option (List ℕ)) (cell : TableId) (ended : Option Ended) (same : Bool)
      → is_same (finite.get database key) value ≡ same
      → IsRight history seen (watch_of key made value cell ended)
      → IsRight history (seen + 1) (cond same (watch_of key made value cell ended)
      (ended_as (Changed (seen + 1)) (seen + 1) (watch_of key made value cell ended)))
  commit_by seen database is key made value cell (Some ended) true tested right =
      right_later seen (seen + 1) (omega arith) key made value cell ended right
  commit_by seen database is key made value cell (Some ended) false tested right =
      right_later seen (seen + 1) (omega arith) key made value cell ended right
  commit_by seen database is key made value cell None true tested right =
      let before : made ≤ seen = right.made in
      let here : finite.get (history (seen + 1)) key ≡ finite.get (history made) key =
      ap (λ d. finite.get d key) is ∙ (same_value (finite.get database key) value tested ∙ right.value) in
      record { made = omega arith; value = right.value; so_far = stays_next history key made seen right.so_far here }
  commit_by seen database is key made value cell None false tested right =
      let before : made ≤ seen = right.made in
      let other : finite.get (history (seen + 1)) key ≢ finite.get (history made) key =
      λ e. other_value (finite.get database key) value tested (sym (ap (λ d. finite.get d key) is) ∙ (e ∙ sym right.value)) in
      record {
        made = omega arith;
        value = right.value;
        so_far = (fires_next history key made seen right.made right.so_far other, omega arith);
      }

  -- a watch is as the history says after the next version came
  right_commit : (seen : ℕ) (database : Database) → history (seen + 1) ≡ database → (watch : Watched)
      → IsRight history seen watch → IsRight history (seen + 1) (after_commit (seen + 1) database watch)
  right_commit seen database is watch right =
      commit_by seen database is watch.key watch.made watch.value watch.cell watch.ended
      (is_same (finite.get database watch.key) watch.value) refl right

  cancel_by : (seen : ℕ) (key : List ℕ) (made : ℕ) (value : Option (List ℕ)) (cell : TableId) (ended : Option Ended)
      → IsRight history seen (watch_of key made value cell ended)
      → IsRight history seen (ended_as Cancelled seen (watch_of key made value cell ended))
  cancel_by seen key made value cell (Some ended) right = right
  cancel_by seen key made value cell None right = record { made = right.made; value = right.value; so_far = right.so_far }

  -- a watch is as the history says after it was cancelled
  pub right_cancel : (seen : ℕ) (watch : Watched) → IsRight history seen watch → IsRight history seen (ended_as Cancelled seen watch)
  right_cancel seen watch right = cancel_by seen watch.key watch.made watch.value watch.cell watch.ended right

  -- watches are as the history says after the next version came
  pub all_right_commit : (seen last : ℕ) (database : Database) → last ≡ seen + 1 → history last ≡ database → (watches : List Watched)
      → All (IsRight history seen) watches → All (IsRight history last) (map (after_commit last database) watches)
  all_right_commit seen last database next is watches right =
      let P : ℕ → Type 0 = λ v. history v ≡ database → All (IsRight history v) (map (after_commit v database) watches) in
      subst P (sym next)
      (λ is. All-map (IsRight history (seen + 1)) (after_commit (seen + 1) database) watches
      (All-weaker (IsRight history seen) (λ watch. IsRight history (seen + 1) (after_commit (seen + 1) database watch))
      (λ watch. right_commit seen database is watch) watches right))
      is

  -- so is one that was made just now
  pub all_right_made : (seen last : ℕ) (database : Database) → seen ≡ last → history last ≡ database → (watches : List Watched)
      (key : List ℕ) (made : ℕ) (value : Option (List ℕ)) (cell : TableId) → made ≡ last → value ≡ finite.get database key
      → All (IsRight history seen) watches → All (IsRight history seen) (watches ++ watch_of key made value cell None ∷ [])
  all_right_made seen last database current is watches key made value cell now had right =
      All-push (IsRight history seen) watches (watch_of key made value cell None) right
      (record {
        made = omega arith;
        value = had ∙ sym (ap (λ v. finite.get (history v) key) now ∙ ap (λ d. finite.get d key) is);
        so_far = λ u later upto. absurd (omega arith);
      })

-- a watch that is as a history says, and is pending, has the value that its key has at the version seen
right_current_by : (history : ℕ → Database) (seen : ℕ) (key : List ℕ) (made : ℕ) (value : Option (List ℕ)) (cell : TableId) (ended : Option Ended)
    → IsRight history seen (watch_of key made value cell ended) → IsCurrent (history seen) (watch_of key made value cell ended)
right_current_by history seen key made value cell (Some ended) right pending = absurd (false≢true pending)
right_current_by history seen key made value cell None right pending = right.value ∙ by_place (cases_lt made seen)
  where
    by_place : (made < seen) ⊎ (seen ≤ made) → finite.get (history made) key ≡ finite.get (history seen) key
    by_place (inl before) = sym (right.so_far seen before (omega arith))
    by_place (inr now) =
        let upto : made ≤ seen = right.made in
        let same : made ≡ seen = omega arith in
        ap (λ v. finite.get (history v) key) same

-- watches that are as a history says have the values that their keys have at the version seen
pub right_current : (history : ℕ → Database) (watching : Watching) → AreRight history watching
    → AreCurrent (history watching.seen) watching.watches
right_current history watching right =
    All-weaker (IsRight history watching.seen) (IsCurrent (history watching.seen))
    (λ watch r. right_current_by history watching.seen watch.key watch.made watch.value watch.cell watch.ended r)
    watching.watches right

-- two versions at which a watch fires are one
fires_once : (history : ℕ → Database) (key : List ℕ) (v a b : ℕ) → FiresAt history key v a → FiresAt history key v b → a ≡ b
fires_once history key v a b first second = by_order (cases_order a b)
  where
    by_order : (a ≡ b) ⊎ ((a < b) ⊎ (b < a)) → a ≡ b
    by_order (inl same) = same
    by_order (inr (inl lower)) = absurd (first.differs (second.least a first.later lower))
    by_order (inr (inr higher)) = absurd (second.differs (first.least b second.later higher))

-- an end with which a history agrees is Changed at the version at which the watch fires, where this had been seen
settled_by : (history : ℕ → Database) (key : List ℕ) (made seen : ℕ) (end : WatchEnd) → AgreesOn history key made seen end
    → (w : ℕ) → (end ≡ Changed w) ↔ (FiresAt history key made w × (w ≤ seen))
settled_by history key made seen (Changed v) agrees w = (
  (λ e. let same : v ≡ w = cc in subst (λ t. FiresAt history key made t × (t ≤ seen)) same agrees),
  (λ fires. ap Changed (fires_once history key made v w agrees.0 fires.0)),
)
settled_by history key made seen Cancelled agrees w = (
  (λ e. absurd cc),
  (λ fires. absurd (fires.0.differs (agrees w fires.0.later fires.1))),
)

right_settled : (history : ℕ → Database) (seen : ℕ) (key : List ℕ) (made : ℕ) (value : Option (List ℕ)) (cell : TableId) (ended : Option Ended)
    → IsRight history seen (watch_of key made value cell ended) → IsSettledBy history (watch_of key made value cell ended)
right_settled history seen key made value cell None right = tt
right_settled history seen key made value cell (Some ended) right = settled_by history key made ended.seen ended.end right.so_far

-- after all that were pending are cancelled, each watch is settled by the history
pub all_settled : (history : ℕ → Database) (watching : Watching) → AreRight history watching
    → All (IsSettledBy history) (all_ended watching)
all_settled history watching right =
    All-map (IsSettledBy history) (ended_as Cancelled watching.seen) watching.watches
    (All-weaker (IsRight history watching.seen) (λ watch. IsSettledBy history (ended_as Cancelled watching.seen watch))
    (λ watch r. let w : Watched = ended_as Cancelled watching.seen watch in
    right_settled history watching.seen w.key w.made w.value w.cell w.ended (right_cancel history watching.seen watch r))
    watching.watches right)
