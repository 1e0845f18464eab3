-- The commits and the watches among events, one event after the other.
use Rattle.std.proofs.Common.{◌≡◌, ℕ, ◌+◌, ◌<◌, ◌≤◌, cond, List, [], ◌∷◌, ◌++◌, length, take, drop, get_or, count_by, refl, sym, ap, ◌∙◌, append_assoc, arith}
use Rattle.std.proofs.Math.Seq.{take-append_seam, take-append-add}
use Rattle.std.proofs.lemmas.List.{take-append-drop, take_all, take_more}
use Rattle.std.proofs.lemmas.List.Sums.{sum_by-append, sum_by-cons}
use Rattle.std.specs.FinMap as finite
use Rattle.model_database.specs.Databases.{Database, Mutation, Set, Clear, do_one, do_all}
use Rattle.model_events.specs.declared.event.Event.{Event}
use Rattle.model_events.specs.declared.event.Event.TheVariants as event
use Rattle.model_events.specs.Events.{is_watch_event}
use Rattle.text_commands.specs.Firings.{Made, commits_of, history_of, made_from}

-- ---- commits

pub commits-append : (front rest : List Event) → commits_of (front ++ rest) ≡ commits_of front ++ commits_of rest
commits-append [] rest = refl
commits-append (event.Watch key ∷ front) rest = commits-append front rest
commits-append (event.Clear key ∷ front) rest = ap (λ (x : List Mutation). Clear key ∷ x) (commits-append front rest)
commits-append (event.Put pair ∷ front) rest = ap (λ (x : List Mutation). Set pair.key pair.value ∷ x) (commits-append front rest)

pub length-commits : (events : List Event) → length (commits_of events) ≤ length events
length-commits [] = omega arith
length-commits (event.Watch key ∷ events) = omega (arith, length-commits events)
length-commits (event.Clear key ∷ events) = omega (arith, length-commits events)
length-commits (event.Put pair ∷ events) = omega (arith, length-commits events)

do_all-append : (first second : List Mutation) (database : Database) → do_all (first ++ second) database ≡ do_all second (do_all first database)
do_all-append [] second database = refl
do_all-append (mutation ∷ first) second database = do_all-append first second (do_one mutation database)

-- the database after the commits of some first events
pub history_here : (events front rest : List Event) → events ≡ front ++ rest
    → history_of events (length (commits_of front)) ≡ do_all (commits_of front) finite.empty
history_here events front rest is =
    let parts : commits_of events ≡ commits_of front ++ commits_of rest = ap commits_of is ∙ commits-append front rest in
    ap (λ (x : List Mutation). do_all x finite.empty)
    (ap (take (length (commits_of front))) parts ∙ take-append_seam (commits_of front) (commits_of rest))

-- the next commit makes the next version
pub history_next : (events front rest : List Event) (one : Event) (mutation : Mutation) → events ≡ front ++ one ∷ rest
    → commits_of (one ∷ rest) ≡ mutation ∷ commits_of rest
    → history_of events (length (commits_of front) + 1) ≡ do_one mutation (history_of events (length (commits_of front)))
history_next events front rest one mutation is commits =
    let before = commits_of front in
    let parts : commits_of events ≡ before ++ mutation ∷ commits_of rest =
    ap commits_of is ∙ commits-append front (one ∷ rest) ∙ ap (λ (x : List Mutation). before ++ x) commits in
    let taken : take (length before + 1) (commits_of events) ≡ before ++ mutation ∷ [] =
    ap (take (length before + 1)) parts ∙ take-append-add before (mutation ∷ commits_of rest) 1 in
    ap (λ (x : List Mutation). do_all x finite.empty) taken ∙ do_all-append before (mutation ∷ []) finite.empty
    ∙ ap (do_one mutation) (sym (history_here events front (one ∷ rest) is))

-- behind the last commit nothing changes
pub history_stays : (events : List Event) (version : ℕ) → length (commits_of events) ≤ version
    → history_of events version ≡ history_of events (length (commits_of events))
history_stays events version past =
    ap (λ (x : List Mutation). do_all x finite.empty)
    (take_all version (commits_of events) past ∙ sym (take_all (length (commits_of events)) (commits_of events) (omega arith)))

-- ---- watches

pub made-append : (version : ℕ) (front rest : List Event)
    → made_from version (front ++ rest) ≡ made_from version front ++ made_from (version + length (commits_of front)) rest
made-append version [] rest = ap (λ (v : ℕ). made_from v rest) (omega arith)
made-append version (event.Watch key ∷ front) rest = ap (λ (x : List Made). (key, version) ∷ x) (made-append version front rest)
made-append version (event.Clear key ∷ front) rest =
    made-append (version + 1) front rest
    ∙ ap (λ (v : ℕ). made_from (version + 1) front ++ made_from v rest) (omega arith)
made-append version (event.Put pair ∷ front) rest =
    made-append (version + 1) front rest
    ∙ ap (λ (v : ℕ). made_from (version + 1) front ++ made_from v rest) (omega arith)

-- one more event counts where it is a watch
counted : (one : Event) (events : List Event) → count_by is_watch_event (one ∷ events) ≡ cond (is_watch_event one) 1 0 + count_by is_watch_event events
counted one events = sum_by-cons (λ (e : Event). cond (is_watch_event e) 1 0) one events

pub length-made : (version : ℕ) (events : List Event) → length (made_from version events) ≡ count_by is_watch_event events
length-made version [] = refl
length-made version (event.Watch key ∷ events) = omega (arith, length-made version events, counted (event.Watch key) events)
length-made version (event.Clear key ∷ events) = omega (arith, length-made (version + 1) events, counted (event.Clear key) events)
length-made version (event.Put pair ∷ events) = omega (arith, length-made (version + 1) events, counted (event.Put pair) events)

-- where a watch comes, fewer than may be came before
pub watches_left : (front rest : List Event) (key : List ℕ) (limit : ℕ) → count_by is_watch_event (front ++ event.Watch key ∷ rest) ≤ limit
    → count_by is_watch_event front < limit
watches_left front rest key limit within =
    let both : count_by is_watch_event (front ++ event.Watch key ∷ rest) ≡ count_by is_watch_event front + count_by is_watch_event (event.Watch key ∷ rest) =
    sum_by-append (λ (e : Event). cond (is_watch_event e) 1 0) front (event.Watch key ∷ rest) in
    omega (arith, both, counted (event.Watch key) rest)

-- a list around the event at a place
pub parted_at : (events : List Event) (i : ℕ) (one : Event) → i < length events → one ≡ get_or events i one
    → (events ≡ take i events ++ one ∷ drop (i + 1) events) × (take (i + 1) events ≡ take i events ++ one ∷ [])
parted_at events i one within is =
    let more : take (i + 1) events ≡ take i events ++ one ∷ [] =
    take_more events i one within ∙ ap (λ (e : Event). take i events ++ e ∷ []) (sym is) in (
      sym (take-append-drop (i + 1) events) ∙ ap (λ (x : List Event). x ++ drop (i + 1) events) more
          ∙ append_assoc (take i events) (one ∷ []) (drop (i + 1) events),
      more,
    )
