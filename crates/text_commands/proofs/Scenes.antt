-- A store and the watches on it stand where the events so far leave them.
use Rattle.std.proofs.Common.{◌≡◌, ℕ, ◌+◌, ◌^◌, ◌<◌, ◌≤◌, true, false, cond, List, [], ◌∷◌, ◌++◌, length, map, count_by, Option, Some, None, refl, sym, ap, subst, ◌∙◌, arith}
use Rattle.std.proofs.lemmas.List.{append-nil, length-append, length-map, map-append}
use Rattle.std.proofs.lemmas.List.Elements.{All-map, All-push, All-weaker}
use Rattle.std.proofs.lemmas.List.Sums.{count_by-le-length}
use Rattle.std.proofs.lemmas.Option.{same_Some}
use Rattle.std.specs.List.{All}
use Rattle.std.specs.FinMap as finite
use Rattle.atomic_table.specs.Seated.{TableId}
use Rattle.model_database.specs.Databases.{Database, Mutation, Set, Clear, put, do_one}
use Rattle.model_events.specs.declared.event.Event.{Event}
use Rattle.model_events.specs.declared.event.Event.TheVariants as event
use Rattle.model_events.specs.Events.{is_watch_event}
use Rattle.key_bytes.specs.declared.pairs.Pair.{Pair}
use Rattle.future_cell.specs.Cells.{waiter_cell}
use Rattle.version_store.specs.Versions.{at, last_of}
use Rattle.watch_core.specs.declared.ending.WatchEnd.{WatchEnd}
use Rattle.watch_core.specs.declared.ending.WatchEnd.TheVariants.{Changed, Cancelled}
use Rattle.watch_core.specs.Watching.{Watched, Watching, Ended, after_commit, ended_as, is_pending, is_same, made_now, AreCurrent}
use Rattle.watch_core.proofs.Firings.{right_current}
use Rattle.text_commands.specs.declared.scene.Scene.{Scene}
use Rattle.text_commands.specs.Firings.{Made, commits_of, history_of, made_from}
use Rattle.text_commands.specs.Scenes.{made_of, HasCommitted, HasRoomFor, HasWatched, IsUncancelled, StandsAt}
use Rattle.text_commands.proofs.Commits.{commits-append, history_next, length-commits, length-made, made-append, watches_left}

-- ---- a watch after a commit

abbrev cell_of : Watched → TableId
cell_of watch = watch.cell

abbrev some_ended : WatchEnd → ℕ → Option Ended
some_ended its_end seen = Some (record { end = its_end; seen = seen })

-- what holds of a watch that is as it was or fired, holds after a commit
after_by : (P : Watched → Type 0) (last : ℕ) (database : Database) (watch : Watched) → P watch
    → P (record watch { ended = Some (record { end = Changed last; seen = last }) }) → P (after_commit last database watch)
after_by P last database watch same fired =
    elim (is_same (finite.get database watch.key) watch.value) as (λ s. P (cond s watch (ended_as (Changed last) last watch))) [
      | true ↦ same
      | false ↦
          elim (is_pending watch) as (λ p. P (cond p (record watch { ended = Some (record { end = Changed last; seen = last }) }) watch)) [
            | true ↦ fired
            | false ↦ same
          ]
    ]

commit_keeps_made : (last : ℕ) (database : Database) (watch : Watched) → made_of (after_commit last database watch) ≡ made_of watch
commit_keeps_made last database watch = after_by (λ (w : Watched). made_of w ≡ made_of watch) last database watch refl refl

commit_keeps_cell : (last : ℕ) (database : Database) (watch : Watched) → cell_of (after_commit last database watch) ≡ cell_of watch
commit_keeps_cell last database watch = after_by (λ (w : Watched). cell_of w ≡ cell_of watch) last database watch refl refl

fired_is_uncancelled : (last seen other : ℕ)
    → some_ended (Changed last) seen ≡ some_ended Cancelled other → ⊥
fired_is_uncancelled last seen other e =
    let fired : Ended = record { end = Changed last; seen = seen } in
    let cancelled : Ended = record { end = Cancelled; seen = other } in
    let inner : fired ≡ cancelled = same_Some fired cancelled e in
    let ends : Changed last ≡ Cancelled = ap (λ (x : Ended). x.end) inner in
    cc

commit_uncancelled : (last : ℕ) (database : Database) (watch : Watched) → IsUncancelled watch → IsUncancelled (after_commit last database watch)
commit_uncancelled last database watch so_far =
    after_by IsUncancelled last database watch so_far (λ other e. fired_is_uncancelled last last other e)

all_made : (last : ℕ) (database : Database) (watches : List Watched) → map made_of (map (after_commit last database) watches) ≡ map made_of watches
all_made last database [] = refl
all_made last database (watch ∷ watches) =
    ap (λ (x : Made). x ∷ map made_of (map (after_commit last database) watches)) (commit_keeps_made last database watch)
    ∙ ap (λ (xs : List Made). made_of watch ∷ xs) (all_made last database watches)

all_cells : (last : ℕ) (database : Database) (watches : List Watched) → map cell_of (map (after_commit last database) watches) ≡ map cell_of watches
all_cells last database [] = refl
all_cells last database (watch ∷ watches) =
    ap (λ (x : TableId). x ∷ map cell_of (map (after_commit last database) watches)) (commit_keeps_cell last database watch)
    ∙ ap (λ (xs : List TableId). cell_of watch ∷ xs) (all_cells last database watches)

-- ---- after an event

pub stands_watched : (events front : List Event) (key : List ℕ) (before after : Scene) → StandsAt events front before
    → HasWatched key before after → StandsAt events (front ++ event.Watch key ∷ []) after
stands_watched events front key before after stands watched =
    let watches = before.watches.watches in
    let newest = at before.store (last_of before.store) in
    let new : Watched = made_now key (last_of before.store) newest watched.cell in
    let same : last_of after.store ≡ last_of before.store = ap last_of watched.store in
    let added : after.watches.watches ≡ watches ++ new ∷ [] = ap (λ (w : Watching). w.watches) watched.watches in
    let commits : commits_of (front ++ event.Watch key ∷ []) ≡ commits_of front =
    commits-append front (event.Watch key ∷ []) ∙ append-nil (commits_of front) in
    record {
      last = same ∙ stands.last ∙ ap length (sym commits);
      database = subst (λ s. at s (last_of s) ≡ history_of events (last_of s)) (sym watched.store) stands.database;
      seen = ap (λ (w : Watching). w.seen) watched.watches ∙ stands.seen ∙ sym same;
      right = watched.right (history_of events) (sym stands.database) stands.right;
      made = ap (map made_of) added ∙ map-append made_of watches (new ∷ [])
          ∙ ap (λ (xs : List Made). xs ++ (key, last_of before.store) ∷ []) stands.made
          ∙ ap (λ (v : ℕ). made_from 0 front ++ (key, v) ∷ []) stands.last
          ∙ ap (λ (v : ℕ). made_from 0 front ++ (key, v) ∷ []) (sym (zero_first (length (commits_of front))))
          ∙ sym (made-append 0 front (event.Watch key ∷ []));
      cells = watched.cells ∙ ap (λ (xs : List TableId). xs ++ watched.cell ∷ []) stands.cells
          ∙ sym (map-append cell_of watches (new ∷ [])) ∙ ap (map cell_of) (sym added);
      uncancelled = subst (All IsUncancelled) (sym added) (All-push IsUncancelled watches new stands.uncancelled (λ seen e. cc));
    }
  where
    zero_first : (n : ℕ) → 0 + n ≡ n
    zero_first n = omega arith

-- a commit of a mutation, which is no watch
pub stands_committed : (events front rest : List Event) (one : Event) (mutation : Mutation) (key : List ℕ) (value : Option (List ℕ))
    (before after : Scene) → events ≡ front ++ one ∷ rest
    → ((others : List Event) → commits_of (one ∷ others) ≡ mutation ∷ commits_of others) → ((version : ℕ) → made_from version (one ∷ []) ≡ [])
    → ((database : Database) → put database key value ≡ do_one mutation database)
    → StandsAt events front before → HasCommitted key value before after → StandsAt events (front ++ one ∷ []) after
stands_committed events front rest one mutation key value before after is commits none puts stands committed =
    let watches = before.watches.watches in
    let last = last_of after.store in
    let newest = at after.store last in
    let here : last_of before.store ≡ length (commits_of front) = stands.last in
    let longer : length (commits_of (front ++ one ∷ [])) ≡ length (commits_of front) + 1 =
    ap length (commits-append front (one ∷ []) ∙ ap (λ (x : List Mutation). commits_of front ++ x) (commits []))
    ∙ length-append (commits_of front) (mutation ∷ []) in
    let database : newest ≡ history_of events last =
    committed.database ∙ puts (at before.store (last_of before.store)) ∙ ap (do_one mutation) (stands.database ∙ ap (history_of events) here)
    ∙ sym (history_next events front rest one mutation is (commits rest))
    ∙ ap (λ (n : ℕ). history_of events (n + 1)) (sym here) ∙ ap (history_of events) (sym committed.last) in
    record {
      last = omega (arith, committed.last, here, longer);
      database = database;
      seen = committed.seen;
      right = committed.right (history_of events) (sym database) stands.right;
      made = ap (map made_of) committed.watches ∙ all_made last newest watches ∙ stands.made ∙ sym (append-nil (made_from 0 front))
          ∙ ap (λ (xs : List Made). made_from 0 front ++ xs) (sym (none (0 + length (commits_of front))))
          ∙ sym (made-append 0 front (one ∷ []));
      cells = ap (map waiter_cell) committed.waiters ∙ stands.cells ∙ sym (all_cells last newest watches) ∙ ap (map cell_of) (sym committed.watches);
      uncancelled =
          subst (All IsUncancelled) (sym committed.watches)
          (All-map IsUncancelled (after_commit last newest) watches
          (All-weaker IsUncancelled (λ w. IsUncancelled (after_commit last newest w)) (λ w. commit_uncancelled last newest w) watches stands.uncancelled));
    }

-- ---- before an event

-- each watch that is pending has the value that its key has
pub values_are : (events front : List Event) (scene : Scene) → StandsAt events front scene
    → AreCurrent (at scene.store (last_of scene.store)) scene.watches.watches
values_are events front scene stands =
    subst (λ d. AreCurrent d scene.watches.watches) (ap (history_of events) stands.seen ∙ sym stands.database)
    (right_current (history_of events) scene.watches stands.right)

-- there is room for the next event
pub room_for : (events front rest : List Event) (one : Event) (scene : Scene) → events ≡ front ++ one ∷ rest → StandsAt events front scene
    → count_by is_watch_event events ≤ 10000 → length events + 1 < 2 ^ 63 → HasRoomFor one scene
room_for events front rest (event.Watch key) scene is stands watches versions =
    let few = watches_left front rest key 10000 (subst (λ (x : List Event). count_by is_watch_event x ≤ 10000) is watches) in
    let long : length scene.watches.watches ≡ count_by is_watch_event front =
    sym (length-map scene.watches.watches made_of) ∙ ap length stands.made ∙ length-made 0 front in
    omega (arith, count_by-le-length is_pending scene.watches.watches)
room_for events front rest (event.Clear key) scene is stands watches versions =
    omega (arith, length-commits front, stands.last, ap length is, length-append front (event.Clear key ∷ rest))
room_for events front rest (event.Put pair) scene is stands watches versions =
    omega (arith, length-commits front, stands.last, ap length is, length-append front (event.Put pair ∷ rest))

-- ---- the events one by one

pub stands_watched_by : (events front : List Event) (key : List ℕ) (one : Event) (before after : Scene) → one ≡ event.Watch key
    → StandsAt events front before → HasWatched key before after → StandsAt events (front ++ one ∷ []) after
stands_watched_by events front key one before after one_is stands watched =
    subst (λ (e : Event). StandsAt events (front ++ e ∷ []) after) (sym one_is) (stands_watched events front key before after stands watched)

pub stands_cleared : (events front rest : List Event) (key : List ℕ) (one : Event) (its_key : List ℕ) (its_value : Option (List ℕ))
    (before after : Scene) → one ≡ event.Clear key → its_key ≡ key → its_value ≡ None → events ≡ front ++ one ∷ rest
    → StandsAt events front before → HasCommitted its_key its_value before after → StandsAt events (front ++ one ∷ []) after
stands_cleared events front rest key one its_key its_value before after one_is key_is value_is is stands committed =
    subst (λ (e : Event). StandsAt events (front ++ e ∷ []) after) (sym one_is)
    (stands_committed events front rest (event.Clear key) (Clear key) its_key its_value before after
    (is ∙ ap (λ (e : Event). front ++ e ∷ rest) one_is) (λ others. refl) (λ version. refl)
    (λ database. ap (λ (x : List ℕ). put database x its_value) key_is ∙ ap (λ (x : Option (List ℕ)). put database key x) value_is)
    stands committed)

pub stands_put : (events front rest : List Event) (pair : Pair) (one : Event) (its_key : List ℕ) (its_value : Option (List ℕ))
    (before after : Scene) → one ≡ event.Put pair → its_key ≡ pair.key → its_value ≡ Some pair.value → events ≡ front ++ one ∷ rest
    → StandsAt events front before → HasCommitted its_key its_value before after → StandsAt events (front ++ one ∷ []) after
stands_put events front rest pair one its_key its_value before after one_is key_is value_is is stands committed =
    subst (λ (e : Event). StandsAt events (front ++ e ∷ []) after) (sym one_is)
    (stands_committed events front rest (event.Put pair) (Set pair.key pair.value) its_key its_value before after
    (is ∙ ap (λ (e : Event). front ++ e ∷ rest) one_is) (λ others. refl) (λ version. refl)
    (λ database. ap (λ (x : List ℕ). put database x its_value) key_is ∙ ap (λ (x : Option (List ℕ)). put database pair.key x) value_is)
    stands committed)
