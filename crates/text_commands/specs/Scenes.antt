-- A store and the watches on it, while events happen.
use Rattle.std.specs.Prelude.{◌≡◌, ℕ, ◌+◌, ◌^◌, ◌<◌, List, [], ◌∷◌, ◌++◌, length, map, Option, Some, None}
use Rattle.std.specs.List.{All}
use Rattle.model_database.specs.Databases.{Database, put}
use Rattle.model_events.specs.declared.event.Event.{Event}
use Rattle.model_events.specs.declared.event.Event.TheVariants as event
use Rattle.atomic_table.specs.Seated.{TableId}
use Rattle.future_cell.specs.Cells.{waiter_cell}
use Rattle.version_store.specs.Versions.{at, last_of}
use Rattle.watch_core.specs.declared.ending.WatchEnd.{WatchEnd}
use Rattle.watch_core.specs.declared.ending.WatchEnd.TheVariants.{Changed, Cancelled}
use Rattle.watch_core.specs.Watching.{Watched, after_commit, made_now, pending_count, AreRight}
use Rattle.text_commands.specs.declared.scene.Scene.{Scene}
use Rattle.text_commands.specs.Firings.{Made, commits_of, made_from, history_of}

-- the version that an end names, if it fired
abbrev pub firing_of : WatchEnd → Option ℕ
firing_of (Changed version) = Some version
firing_of Cancelled = None

abbrev pub made_of : Watched → Made
made_of watch = (watch.key, watch.made)

-- a watch that was not cancelled
abbrev pub IsUncancelled : Watched → Type 0
IsUncancelled watch = (seen : ℕ) → watch.ended ≡ Some (record { end = Cancelled; seen = seen }) → ⊥

-- some events have happened: the store has their commits, and the watches are theirs
pub record StandsAt (events front : List Event) (scene : Scene) : Type 0 where
  pub last : last_of scene.store ≡ length (commits_of front)
  pub database : at scene.store (last_of scene.store) ≡ history_of events (last_of scene.store)
  pub seen : scene.watches.seen ≡ last_of scene.store
  pub right : AreRight (history_of events) scene.watches
  pub made : map made_of scene.watches.watches ≡ made_from 0 front
  pub cells : map waiter_cell scene.waiters.items ≡ map (λ (w : Watched). w.cell) scene.watches.watches
  pub uncancelled : All IsUncancelled scene.watches.watches

-- there is a watch left, or a version
abbrev pub HasRoomFor : Event → Scene → Type 0
HasRoomFor (event.Watch key) scene = pending_count scene.watches.watches < 10000
HasRoomFor (event.Clear key) scene = last_of scene.store + 1 < 2 ^ 63
HasRoomFor (event.Put pair) scene = last_of scene.store + 1 < 2 ^ 63

-- a key was watched, to be awaited in this cell
pub record HasWatched (key : List ℕ) (before after : Scene) : Type 0 where
  pub cell : TableId
  pub store : after.store ≡ before.store
  pub watches : after.watches ≡ record before.watches {
    watches = before.watches.watches ++ made_now key (last_of before.store) (at before.store (last_of before.store)) cell ∷ [];
  }
  pub cells : map waiter_cell after.waiters.items ≡ map waiter_cell before.waiters.items ++ cell ∷ []
  pub right : (history : ℕ → Database) → history (last_of before.store) ≡ at before.store (last_of before.store)
      → AreRight history before.watches → AreRight history after.watches

-- a key has this value from the next version on, or none, and the watches have looked at that version
pub record HasCommitted (key : List ℕ) (value : Option (List ℕ)) (before after : Scene) : Type 0 where
  pub last : last_of after.store ≡ last_of before.store + 1
  pub database : at after.store (last_of after.store) ≡ put (at before.store (last_of before.store)) key value
  pub seen : after.watches.seen ≡ last_of after.store
  pub watches : after.watches.watches
      ≡ map (after_commit (last_of after.store) (at after.store (last_of after.store))) before.watches.watches
  pub waiters : after.waiters.items ≡ before.waiters.items
  pub right : (history : ℕ → Database) → history (last_of after.store) ≡ at after.store (last_of after.store)
      → AreRight history before.watches → AreRight history after.watches
