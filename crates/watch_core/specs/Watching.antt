-- What contracts see of watches.
use Rattle.std.specs.Prelude.{◌≡◌, ℕ, ◌≤◌, Bool, true, false, if◌then◌else◌, List, map, Option, Some, None, is_none, slice_get, slice_set, count_by, nat_eq, ◌↔◌, ◌⊎◌}
use Rattle.std.specs.List.{All, AllZip, Contains}
use Rattle.std.specs.Option.{option_map_or, IfSome, MatchOption}
use Rattle.std.specs.Cmp.Lexicographic.{pointwise}
use Rattle.std.specs.FinMap as finite
use Rattle.atomic_table.specs.Seated.{TableId}
use Rattle.model_database.specs.Databases.{Database}
use Rattle.watch_core.specs.declared.ending.WatchEnd.{WatchEnd}
use Rattle.watch_core.specs.declared.ending.WatchEnd.TheVariants.{Changed, Cancelled}
use Rattle.watch_core.specs.Firing.{FiresAt, StaysTo}

-- how a watch ended, and the last version that was seen then
pub record Ended : Type 0 where
  pub end : WatchEnd
  pub seen : ℕ

-- A watch: its key, the version that it was made at, the key's value then, the cell in which it is awaited, and how it ended, if
-- it has
pub record Watched : Type 0 where
  pub key : List ℕ
  pub made : ℕ
  pub value : Option (List ℕ)
  pub cell : TableId
  pub ended : Option Ended

-- the last version that was seen, and the watches, each at the place of its number
pub record Watching : Type 0 where
  pub seen : ℕ
  pub watches : List Watched

abbrev pub is_pending : Watched → Bool
is_pending watch = is_none watch.ended

-- how many watches are pending
abbrev pub pending_count : List Watched → ℕ
pending_count watches = count_by is_pending watches

-- whether there is a watch of this number, and it is pending
abbrev pub is_pending_at : ℕ → List Watched → Bool
is_pending_at number watches = option_map_or is_pending (slice_get watches number) false

-- a watch that was made just now, at the last version
abbrev pub made_now : List ℕ → ℕ → Database → TableId → Watched
made_now key last database cell =
    record { key = key; made = last; value = finite.get database key; cell = cell; ended = None }

-- the watch, ended where it was pending
abbrev pub ended_as : WatchEnd → ℕ → Watched → Watched
ended_as end seen watch =
    if is_pending watch then (record watch { ended = Some (record { end = end; seen = seen }) }) else watch

-- the watches, of which the one of this number ended where it was pending
abbrev pub ended_at : ℕ → WatchEnd → ℕ → List Watched → List Watched
ended_at number end seen watches =
    option_map_or (λ watch. slice_set watches number (ended_as end seen watch)) (slice_get watches number) watches

-- whether two values are the same, absence included
abbrev pub is_same : Option (List ℕ) → Option (List ℕ) → Bool
is_same None None = true
is_same None (Some b) = false
is_same (Some a) None = false
is_same (Some a) (Some b) = pointwise nat_eq a b

-- the watch after a version came: a pending one fires where its key has another value than when it was made
abbrev pub after_commit : ℕ → Database → Watched → Watched
after_commit last database watch =
    if is_same (finite.get database watch.key) watch.value then watch else ended_as (Changed last) last watch

-- a watch that is pending has the value that its key has in a database
abbrev pub IsCurrent : Database → Watched → Type 0
IsCurrent database watch = is_pending watch ≡ true → watch.value ≡ finite.get database watch.key

-- each watch that is pending has the value that its key has in a database
abbrev pub AreCurrent : Database → List Watched → Type 0
AreCurrent database watches = All (IsCurrent database) watches

-- so has each that is pending on a key that isn't among these
abbrev pub AreCurrentBut : List (List ℕ) → Database → List Watched → Type 0
AreCurrentBut keys database watches = All (λ watch. (Contains keys watch.key → ⊥) → IsCurrent database watch) watches

-- a watch has looked at a version, or it is as it was, and isn't pending on one of these keys
abbrev pub HasLooked : ℕ → Database → List (List ℕ) → Watched → Watched → Type 0
HasLooked last database keys old new =
    (new ≡ after_commit last database old) ⊎ ((new ≡ old) × (is_pending old ≡ true → Contains keys old.key → ⊥))

-- the watches that are pending on one of these keys have looked at a version, and any other has, or is as it was
abbrev pub HaveLooked : ℕ → Database → List (List ℕ) → List Watched → List Watched → Type 0
HaveLooked last database keys olds news = AllZip (HasLooked last database keys) olds news

-- the watches after all that were pending are cancelled
abbrev pub all_ended : Watching → List Watched
all_ended watching = map (ended_as Cancelled watching.seen) watching.watches

-- A history agrees with the end of a watch on a key, made at a version, where `seen` was the last version seen then: it changed at the
-- version at which it fires, and this had been seen; or it was cancelled, and until then the value stayed.
abbrev pub AgreesOn : (ℕ → Database) → List ℕ → ℕ → ℕ → WatchEnd → Type 0
AgreesOn history key made seen (Changed w) = FiresAt history key made w × (w ≤ seen)
AgreesOn history key made seen Cancelled = StaysTo history key made seen

-- A watch is as a history says whose versions were seen up to this one: the value that it keeps is that of its version, a pending one has
-- seen no other value, and a history agrees with the end of one that has ended.
pub record IsRight (history : ℕ → Database) (seen : ℕ) (watch : Watched) : Type 0 where
  pub made : watch.made ≤ seen
  pub value : watch.value ≡ finite.get (history watch.made) watch.key
  pub so_far : MatchOption watch.ended (StaysTo history watch.key watch.made seen)
      (λ ended. AgreesOn history watch.key watch.made ended.seen ended.end)

-- each watch is as a history says
abbrev pub AreRight : (ℕ → Database) → Watching → Type 0
AreRight history watching = All (IsRight history watching.seen) watching.watches

-- a watch that has ended, did so as Changed at w exactly where w is the version at which it fires and had been seen then
abbrev pub IsSettledBy : (ℕ → Database) → Watched → Type 0
IsSettledBy history watch =
    IfSome watch.ended (λ ended. (w : ℕ) → (ended.end ≡ Changed w) ↔ (FiresAt history watch.key watch.made w × (w ≤ ended.seen)))
