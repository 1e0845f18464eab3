-- Whatever happens, watches are as a history says.
use Rattle.std.proofs.Common.{◌≡◌, ℕ, ◌+◌, List, [], ◌∷◌, Option, Some, None, refl, subst}
use Rattle.std.proofs.lemmas.List.Elements.{All-nil, All-set}
use Rattle.std.proofs.lemmas.Option.{slice_get_within, get_or_from_slice_get}
use Rattle.std.specs.List.{All, slice_get}
use Rattle.std.specs.Option.{option_map_or}
use Rattle.std.specs.FinMap as finite
use Rattle.std.specs.Prelude.{slice_set}
use Rattle.model_database.specs.Databases.{Database}
use Rattle.watch_core.specs.declared.ending.WatchEnd.TheVariants.{Cancelled}
use Rattle.watch_core.specs.Watching.{Watched, Watching, ended_as, AreRight, IsRight}
use Rattle.watch_core.specs.Events.{Event, Installs, Watches, Cancels, after_event, after_events, none_at, EventsSettle}
use Rattle.watch_core.proofs.Firings.{right_cancel, all_right_commit, all_right_made, all_settled}

module _ (history : ℕ → Database) where
  cancelled_by : (seen number : ℕ) (watches : List Watched) (found : Option Watched) → slice_get watches number ≡ found
      → All (IsRight history seen) watches
      → All (IsRight history seen) (option_map_or (λ watch. slice_set watches number (ended_as Cancelled seen watch)) found watches)
  cancelled_by seen number watches None e right = right
  cancelled_by seen number watches (Some watch) e right =
      let its : IsRight history seen watch =
      subst (IsRight history seen) (get_or_from_slice_get watches number watch watch e)
      (right number watch (slice_get_within watches number watch e)) in
      All-set (IsRight history seen) watches number (ended_as Cancelled seen watch) (right_cancel history seen watch its) right

  after_one : (event : Event) (watching : Watching) → AreRight history watching → AreRight history (after_event history event watching)
  after_one Installs watching right =
      all_right_commit history watching.seen (watching.seen + 1) (history (watching.seen + 1)) refl refl watching.watches right
  after_one (Watches key cell) watching right =
      all_right_made history watching.seen watching.seen (history watching.seen) refl refl watching.watches key watching.seen
      (finite.get (history watching.seen) key) cell refl refl right
  after_one (Cancels number) watching right =
      cancelled_by watching.seen number watching.watches (slice_get watching.watches number) refl right

  after_all : (events : List Event) (watching : Watching) → AreRight history watching → AreRight history (after_events history events watching)
  after_all [] watching right = right
  after_all (event ∷ events) watching right = after_all events (after_event history event watching) (after_one event watching right)

pub events_settle : EventsSettle
events_settle history seen events =
    all_settled history (after_events history events (none_at seen))
    (after_all history events (none_at seen) (All-nil (IsRight history seen)))
