-- What `watch` makes of its input: when each watch fires, over the database that the commits make.
use Rattle.std.specs.Prelude.{◌≡◌, ℕ, ◌+◌, List, [], ◌∷◌, ◌++◌, take, codes, decimal, Option, Some, None}
use Rattle.std.specs.FinMap as finite
use Rattle.model_database.specs.Databases.{Database, Mutation, Set, Clear, do_all}
use Rattle.model_lines.specs.Printing as printing
use Rattle.model_events.specs.declared.event.Event.{Event}
use Rattle.model_events.specs.declared.event.Event.TheVariants as event
use Rattle.model_events.specs.Events.{AreEventsOf}
use Rattle.watch_core.specs.Firing.{FiresAt}

-- the commits among events, in their order, each of one mutation
abbrev pub commits_of : List Event → List Mutation
commits_of [] = []
commits_of (event.Watch key ∷ events) = commits_of events
commits_of (event.Clear key ∷ events) = Clear key ∷ commits_of events
commits_of (event.Put pair ∷ events) = Set pair.key pair.value ∷ commits_of events

-- the database at each version: what so many first commits make of the empty one
abbrev pub history_of : List Event → ℕ → Database
history_of events version = do_all (take version (commits_of events)) finite.empty

-- a watch: its key, and the version that it is made at
abbrev pub Made : Type 0
Made = List ℕ × ℕ

-- the watches among events, from this version on; each commit makes the next version
abbrev pub made_from : ℕ → List Event → List Made
made_from version [] = []
made_from version (event.Watch key ∷ events) = (key, version) ∷ made_from version events
made_from version (event.Clear key ∷ events) = made_from (version + 1) events
made_from version (event.Put pair ∷ events) = made_from (version + 1) events

-- a watch fires at this version, or never
abbrev pub FiresAs : (ℕ → Database) → Made → Option ℕ → Type 0
FiresAs history made (Some version) = FiresAt history made.0 made.1 version
FiresAs history made None = (version : ℕ) → FiresAt history made.0 made.1 version → ⊥

-- each watch fires so
abbrev pub AreFirings : (ℕ → Database) → List Made → List (Option ℕ) → Type 0
AreFirings history [] [] = Unit {0}
AreFirings history (made ∷ others) (firing ∷ firings) = FiresAs history made firing × AreFirings history others firings
AreFirings history [] (firing ∷ firings) = ⊥
AreFirings history (made ∷ others) [] = ⊥

-- a version, or a dash for none
abbrev pub firing_text : Option ℕ → List ℕ
firing_text (Some version) = decimal version
firing_text None = codes "-"

-- the lines of watches, whose numbers rise from this one
abbrev pub firing_lines : ℕ → List (Option ℕ) → List ℕ
firing_lines number [] = []
firing_lines number (firing ∷ firings) =
    printing.line (codes "F" ∷ decimal number ∷ firing_text firing ∷ []) ++ firing_lines (number + 1) firings

-- the bytes are lines of events, and the lines say for each watch among them when it fires
pub record IsWatched (bytes lines : List ℕ) : Type 0 where
  pub events : List Event
  pub are_events : AreEventsOf bytes events
  pub firings : List (Option ℕ)
  pub are_firings : AreFirings (history_of events) (made_from 0 events) firings
  pub lines_are : lines ≡ firing_lines 0 firings
