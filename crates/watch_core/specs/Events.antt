-- What happens to watches, by turns, over a history.
use Rattle.std.specs.Prelude.{ℕ, ◌+◌, List, [], ◌∷◌, ◌++◌, map}
use Rattle.std.specs.List.{All}
use Rattle.atomic_table.specs.Seated.{TableId}
use Rattle.model_database.specs.Databases.{Database}
use Rattle.watch_core.specs.declared.ending.WatchEnd.TheVariants.{Cancelled}
use Rattle.watch_core.specs.Watching.{Watching, made_now, after_commit, ended_at, all_ended, IsSettledBy}

-- a version is installed, a key is watched, to be awaited in a cell, or the watch of a number is cancelled
pub data Event : Type 0 where
  Installs : Event
  Watches : (key : List ℕ) (cell : TableId) → Event
  Cancels : (number : ℕ) → Event

-- The watches after an event: what `committed`, `watch` and `cancel` make of them where the store agrees with the history
abbrev pub after_event : (ℕ → Database) → Event → Watching → Watching
after_event history Installs watching =
    record {
      seen = watching.seen + 1;
      watches = map (after_commit (watching.seen + 1) (history (watching.seen + 1))) watching.watches;
    }
after_event history (Watches key cell) watching =
    record watching { watches = watching.watches ++ made_now key watching.seen (history watching.seen) cell ∷ [] }
after_event history (Cancels number) watching =
    record watching { watches = ended_at number Cancelled watching.seen watching.watches }

-- the watches after events, in their order
abbrev pub after_events : (ℕ → Database) → List Event → Watching → Watching
after_events history [] watching = watching
after_events history (event ∷ events) watching = after_events history events (after_event history event watching)

-- no watch is made yet, and this version was seen
abbrev pub none_at : ℕ → Watching
none_at seen = record { seen = seen; watches = [] }

-- whatever happens, in the end each watch is settled as the history says
abbrev pub EventsSettle : Type 0
EventsSettle =
    (history : ℕ → Database) (seen : ℕ) (events : List Event)
    → All (IsSettledBy history) (all_ended (after_events history events (none_at seen)))
