-- How watches end is when they fire.
use Rattle.std.proofs.Common.{◌≡◌, ℕ, zero, suc, ◌+◌, ◌<◌, ◌≤◌, ◌⊎◌, inl, inr, true, false, cond, List, [], ◌∷◌, length, map, get_or, Option, Some, None, option_map, refl, sym, ap, subst, ◌∙◌, arith}
use Rattle.std.proofs.lemmas.Bool.{cases_lt}
use Rattle.std.proofs.lemmas.List.{length-map}
use Rattle.std.proofs.lemmas.List.Elements.{All-head, All-tail}
use Rattle.std.proofs.lemmas.Option.{same_Some}
use Rattle.std.specs.List.{All, zip}
use mathlib.Core.List.{head-eq_of_cons-eq, tail-eq_of_cons-eq}
use Rattle.std.specs.FinMap as finite
use Rattle.atomic_table.specs.Seated.{TableId}
use Rattle.model_database.specs.Databases.{Database}
use Rattle.model_events.specs.declared.event.Event.{Event}
use Rattle.future_cell.specs.declared.waiter.Waiter.{Waiter}
use Rattle.future_cell.specs.Cells.{receipt_cell, value_set, waiter_cell}
use Rattle.watch_core.specs.declared.ending.Ending.{Ending}
use Rattle.watch_core.specs.declared.ending.WatchEnd.{WatchEnd}
use Rattle.watch_core.specs.declared.ending.WatchEnd.TheVariants.{Changed, Cancelled}
use Rattle.watch_core.specs.Firing.{FiresAt}
use Rattle.watch_core.specs.Watches.{Told, told_by, told_from}
use Rattle.watch_core.specs.Watching.{Ended, Watched, Watching, all_ended, ended_as, is_pending, AgreesOn, IsRight}
use Rattle.text_commands.specs.declared.scene.Quiet.{Quiet}
use Rattle.text_commands.specs.declared.scene.Scene.{Scene}
use Rattle.text_commands.specs.Firings.{Made, commits_of, history_of, made_from, AreFirings, FiresAs}
use Rattle.text_commands.specs.Scenes.{firing_of, made_of, IsUncancelled, StandsAt}
use Rattle.text_commands.proofs.Commits.{history_stays}

-- ---- what is told of endings

abbrev pub cell_of : Watched → TableId
cell_of watch = watch.cell

abbrev pub end_of : Watched → Option WatchEnd
end_of watch = option_map (λ (ended : Ended). ended.end) watch.ended

abbrev some_ended : WatchEnd → ℕ → Option Ended
some_ended its_end seen = Some (record { end = its_end; seen = seen })

abbrev pub some_end : WatchEnd → Option WatchEnd
some_end its_end = Some its_end

abbrev told_cell : Told → TableId
told_cell told = told.1

abbrev told_end : Told → Option WatchEnd
told_end told = told.2

cells_told : (number : ℕ) (watches : List Watched) → map told_cell (told_from number watches) ≡ map cell_of watches
cells_told number [] = refl
cells_told number (watch ∷ watches) = ap (λ (xs : List TableId). cell_of watch ∷ xs) (cells_told (number + 1) watches)

ends_told : (number : ℕ) (watches : List Watched) → map told_end (told_from number watches) ≡ map end_of watches
ends_told number [] = refl
ends_told number (watch ∷ watches) = ap (λ (xs : List (Option WatchEnd)). end_of watch ∷ xs) (ends_told (number + 1) watches)

told_cells : (endings : List (Ending Quiet)) → map told_cell (map told_by endings) ≡ map (λ (e : Ending Quiet). receipt_cell e.receipt) endings
told_cells [] = refl
told_cells (ending ∷ endings) = ap (λ (xs : List TableId). receipt_cell ending.receipt ∷ xs) (told_cells endings)

told_ends : (endings : List (Ending Quiet)) → map told_end (map told_by endings) ≡ map (λ (e : Ending Quiet). value_set e.receipt) endings
told_ends [] = refl
told_ends (ending ∷ endings) = ap (λ (xs : List (Option WatchEnd)). value_set ending.receipt ∷ xs) (told_ends endings)

ended_cell : (seen : ℕ) (watch : Watched) → cell_of (ended_as Cancelled seen watch) ≡ cell_of watch
ended_cell seen watch =
    elim (is_pending watch) as (λ p. cell_of (cond p (record watch { ended = Some (record { end = Cancelled; seen = seen }) }) watch) ≡ cell_of watch) [
      | true ↦ refl
      | false ↦ refl
    ]

ended_cells : (seen : ℕ) (watches : List Watched) → map cell_of (map (ended_as Cancelled seen) watches) ≡ map cell_of watches
ended_cells seen [] = refl
ended_cells seen (watch ∷ watches) =
    ap (λ (x : TableId). x ∷ map cell_of (map (ended_as Cancelled seen) watches)) (ended_cell seen watch)
    ∙ ap (λ (xs : List TableId). cell_of watch ∷ xs) (ended_cells seen watches)

-- the cells of the endings are those of the watches, in order
pub cells_are : (endings : List (Ending Quiet)) (watching : Watching) → map told_by endings ≡ told_from 0 (all_ended watching)
    → map (λ (e : Ending Quiet). receipt_cell e.receipt) endings ≡ map cell_of watching.watches
cells_are endings watching told =
    sym (told_cells endings) ∙ ap (map told_cell) told ∙ cells_told 0 (all_ended watching) ∙ ended_cells watching.seen watching.watches

-- and the ends are those of the watches
pub ends_are : (endings : List (Ending Quiet)) (watching : Watching) → map told_by endings ≡ told_from 0 (all_ended watching)
    → map (λ (e : Ending Quiet). value_set e.receipt) endings ≡ map end_of (all_ended watching)
ends_are endings watching told = sym (told_ends endings) ∙ ap (map told_end) told ∙ ends_told 0 (all_ended watching)

-- ---- when they fire

module _ (history : ℕ → Database) (last : ℕ) (stays : (version : ℕ) → last ≤ version → history version ≡ history last) where
  -- the value of a key that stayed up to the last version stays
  never : (key : List ℕ) (made : ℕ) → made ≤ last
      → ((u : ℕ) → made < u → u ≤ last → finite.get (history u) key ≡ finite.get (history made) key)
      → (version : ℕ) → FiresAt history key made version → ⊥
  never key made before so_far version fires = by (cases_lt last version)
    where
      at_last : (made < last) ⊎ (last ≤ made) → finite.get (history last) key ≡ finite.get (history made) key
      at_last (inl later) = so_far last later (omega arith)
      at_last (inr same) = let e : last ≡ made = omega arith in ap (λ (v : ℕ). finite.get (history v) key) e

      by : (last < version) ⊎ (version ≤ last) → ⊥
      by (inl past) =
          fires.differs (ap (λ d. finite.get d key) (stays version (omega arith)) ∙ at_last (cases_lt made last))
      by (inr within) = fires.differs (so_far version fires.later within)

  fire_ended : (key : List ℕ) (made : ℕ) (its_end : WatchEnd) (seen : ℕ) → AgreesOn history key made seen its_end
      → ((other : ℕ) → some_ended its_end seen ≡ some_ended Cancelled other → ⊥)
      → FiresAs history (key, made) (firing_of its_end)
  fire_ended key made (Changed version) seen agrees uncancelled = agrees.0
  fire_ended key made Cancelled seen agrees uncancelled = absurd (uncancelled seen refl)

  fire_by : (key : List ℕ) (made : ℕ) (value : Option (List ℕ)) (cell : TableId) (ended : Option Ended) (its_end : WatchEnd)
      → IsRight history last (record { key = key; made = made; value = value; cell = cell; ended = ended })
      → ((seen : ℕ) → ended ≡ some_ended Cancelled seen → ⊥)
      → end_of (ended_as Cancelled last (record { key = key; made = made; value = value; cell = cell; ended = ended })) ≡ Some its_end
      → FiresAs history (key, made) (firing_of its_end)
  fire_by key made value cell None its_end right uncancelled e =
      subst (λ (x : WatchEnd). FiresAs history (key, made) (firing_of x)) (same_Some Cancelled its_end e)
      (never key made right.made right.so_far)
  fire_by key made value cell (Some ended) its_end right uncancelled e =
      subst (λ (x : WatchEnd). FiresAs history (key, made) (firing_of x)) (same_Some ended.end its_end e)
      (fire_ended key made ended.end ended.seen right.so_far uncancelled)

  fires_all : (watches : List Watched) (ends : List WatchEnd) → map some_end ends ≡ map end_of (map (ended_as Cancelled last) watches)
      → All (IsRight history last) watches → All IsUncancelled watches → AreFirings history (map made_of watches) (map firing_of ends)
  fires_all [] [] same right uncancelled = tt
  fires_all [] (its_end ∷ ends) same right uncancelled = absurd cc
  fires_all (watch ∷ watches) [] same right uncancelled = absurd cc
  fires_all (watch ∷ watches) (its_end ∷ ends) same right uncancelled =
      let first : Some its_end ≡ end_of (ended_as Cancelled last watch) = cc in
      let others : map some_end ends ≡ map end_of (map (ended_as Cancelled last) watches) = cc in (
        fire_by watch.key watch.made watch.value watch.cell watch.ended its_end (All-head (IsRight history last) watch watches right)
            (All-head IsUncancelled watch watches uncancelled) (sym first),
        fires_all watches ends others (All-tail (IsRight history last) watch watches right) (All-tail IsUncancelled watch watches uncancelled),
      )

-- where all events have happened, each watch ends as it fires
pub ends_fire : (events : List Event) (scene : Scene) (ends : List WatchEnd) → StandsAt events events scene
    → map some_end ends ≡ map end_of (all_ended scene.watches)
    → AreFirings (history_of events) (made_from 0 events) (map firing_of ends)
ends_fire events scene ends stands same =
    let at_end : scene.watches.seen ≡ length (commits_of events) = stands.seen ∙ stands.last in
    subst (λ (made : List Made). AreFirings (history_of events) made (map firing_of ends)) stands.made
    (fires_all (history_of events) scene.watches.seen
    (λ version past. history_stays events version (omega (arith, at_end)) ∙ ap (history_of events) (sym at_end))
    scene.watches.watches ends same stands.right stands.uncancelled)

-- ---- endings and waiters, settled one beside the other

abbrev pub Both : Type 0
Both = Ending Quiet × Waiter WatchEnd Quiet

abbrev pub ending_cell : Ending Quiet → TableId
ending_cell ending = receipt_cell ending.receipt

abbrev pub ending_value : Ending Quiet → Option WatchEnd
ending_value ending = value_set ending.receipt

pub as_many : (endings : List (Ending Quiet)) (waiters : List (Waiter WatchEnd Quiet)) → map ending_cell endings ≡ map waiter_cell waiters
    → length endings ≡ length waiters
as_many endings waiters cells = sym (length-map endings ending_cell) ∙ ap length cells ∙ length-map waiters waiter_cell

pub cells_at : (endings : List (Ending Quiet)) (waiters : List (Waiter WatchEnd Quiet)) (k : ℕ) (both : Both)
    → map ending_cell endings ≡ map waiter_cell waiters → k < length (zip endings waiters) → both ≡ get_or (zip endings waiters) k both
    → ending_cell both.0 ≡ waiter_cell both.1
cells_at [] waiters k both cells h at = absurd (omega (arith, h))
cells_at (ending ∷ endings) [] k both cells h at = absurd (omega (arith, h))
cells_at (ending ∷ endings) (waiter ∷ waiters) zero both cells h at =
    subst (λ (it : Both). ending_cell it.0 ≡ waiter_cell it.1) (sym at) (head-eq_of_cons-eq cells)
cells_at (ending ∷ endings) (waiter ∷ waiters) (suc k) both cells h at =
    cells_at endings waiters k both (tail-eq_of_cons-eq cells) (omega (arith, h)) at

-- the endings of a list beside as long a one
pub firsts_of : (endings : List (Ending Quiet)) (waiters : List (Waiter WatchEnd Quiet)) → length endings ≡ length waiters
    → map (λ (both : Both). ending_value both.0) (zip endings waiters) ≡ map ending_value endings
firsts_of [] [] same = refl
firsts_of [] (waiter ∷ waiters) same = absurd (omega (arith, same))
firsts_of (ending ∷ endings) [] same = absurd (omega (arith, same))
firsts_of (ending ∷ endings) (waiter ∷ waiters) same =
    ap (λ (xs : List (Option WatchEnd)). ending_value ending ∷ xs) (firsts_of endings waiters (omega (arith, same)))
