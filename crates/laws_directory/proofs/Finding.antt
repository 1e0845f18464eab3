-- What a search for a directory found is what is found in the database that the transaction saw, and the search changes nothing there.
use Rattle.std.proofs.Common.{◌≡◌, ℕ, suc, Bool, true, false, List, [], ◌∷◌, length, Option, Some, None, refl, sym, ap, subst, ◌∙◌}
use Rattle.std.specs.Prelude.{◌==◌, if◌then◌else◌, unwrap_or}
use Rattle.std.specs.FinMap as finite
use Rattle.model_database.specs.Databases.{Database}
use Rattle.model_database.specs.Histories.{Setting}
use Rattle.model_database.specs.Reads.{Get, answer}
use Rattle.model_database.specs.States.{covers, unreadable}
use Rattle.model_database.specs.Transactions.{Transaction, view, writes_of}
use Rattle.model_allocator.specs.Acts.{Reads, act_called}
use Rattle.model_allocator.proofs.Reading.{readable}
use Rattle.model_allocator.proofs.Viewing.{after_read}
use Rattle.directory_types.specs.declared.Layer.{Layer}
use Rattle.directory_types.specs.declared.fault.DirFault.{DirFault}
use Rattle.model_directory.specs.declared.Directory.{Directory}
use Rattle.model_directory.specs.declared.Lookup.{Lookup}
use Rattle.model_directory.specs.Courses.{Course, Gives, Refuses, Asks, Does, Allocates, ◌>>=◌, Done, done, value_of}
use Rattle.model_directory.specs.Nodes.{node_of, entry_of, layer_key, is_partition}
use Rattle.model_directory.specs.Steps.{refuse_where, there, directory, root, below, directory_at, child_of, Found, found_at, find_from, find, admits, Place, place, or_inside, arrives, front, last_name}
use Rattle.laws_directory.specs.Found.{directory_in, child_in, found_from, found_in, StaysFrom, StaysInLayer, whole, AreFoundInLayer}
use Rattle.laws_directory.proofs.Going.{Goes, went, parts}
use Rattle.laws_directory.proofs.Growing.{Only}
use Rattle.laws_directory.proofs.Writing.{child_of_none, find_from_none}

-- ---- steps without a write

abbrev pub Quiet : {X : Type 0} → Course X → Type 0
Quiet course = Only (λ mutation. false) (λ space. ⊥) course

-- they leave what is seen as it is
pub quiet_seen : {X : Type 0} (setting : Setting) (course : Course X) (t : Transaction) (value : X) (after : Transaction) → Quiet course
    → Goes setting course t value after → view setting after ≡ view setting t
quiet_seen setting (Gives given) t value after quiet (is, left) = ap (view setting) (sym left)
quiet_seen setting (Refuses fault) t value after quiet goes = absurd goes
quiet_seen setting (Asks read snapshot next) t value after quiet (passed, goes) =
    quiet_seen setting (next (answer read (view setting t))) (act_called setting t (Reads read snapshot)).transaction value after
    (quiet (answer read (view setting t))) goes ∙ after_read setting t read snapshot
quiet_seen setting (Does mutation next) t value after (allowed, quiet) goes = absurd cc
quiet_seen setting (Allocates space next) t value after (none, quiet) goes = absurd none

-- ---- each step

-- a step that could have refused did not
pub not_refused : (setting : Setting) (refuses : Bool) (fault : DirFault) (t : Transaction) (value : Done) (after : Transaction)
    → Goes setting (refuse_where refuses fault) t value after → (refuses ≡ false) × (t ≡ after)
not_refused setting true fault t value after goes = absurd goes
not_refused setting false fault t value after (is, left) = (refl, left)

pub was_there : {X : Type 0} (setting : Setting) (fault : DirFault) (found : Option X) (t : Transaction) (value : X) (after : Transaction)
    → Goes setting (there fault found) t value after → (found ≡ Some value) × (t ≡ after)
was_there setting fault None t value after goes = absurd goes
was_there setting fault (Some found) t value after (is, left) = (ap Some is, left)

-- a value that was read is what is seen, and the key may be read
pub value_seen : (setting : Setting) (snapshot : Bool) (key : List ℕ) (t : Transaction) (value : Option (List ℕ)) (after : Transaction)
    → Goes setting (value_of snapshot key) t value after
    → (value ≡ finite.get (view setting t) key) × (view setting after ≡ view setting t) × (covers (unreadable (writes_of t)) key ≡ false)
unfolding value_of answer
value_seen setting snapshot key t value after (passed, (is, left)) =
    (sym is, ap (view setting) (sym left) ∙ after_read setting t (Get key) snapshot, readable setting t snapshot key passed)

directory_seen : (setting : Setting) (snapshot : Bool) (layer : Layer) (prefix : List ℕ) (t : Transaction) (value : Option Directory)
    (after : Transaction) → Goes setting (directory_at snapshot layer prefix) t value after
    → value ≡ directory_in (view setting t) layer (Some prefix)
unfolding directory_at
directory_seen setting snapshot layer prefix t value after goes =
    let first = parts setting (value_of snapshot (layer_key (node_of layer prefix))) _ t value after goes in
    let seen = value_seen setting snapshot (layer_key (node_of layer prefix)) t first.0 first.1 first.2 in
    sym first.3.0 ∙ ap (λ layer_name. Some (directory prefix (unwrap_or layer_name []))) seen.0

below_seen : (setting : Setting) (snapshot : Bool) (layer : Layer) (entry : Option (List ℕ)) (t : Transaction) (value : Option Directory)
    (after : Transaction) → Goes setting (below entry (directory_at snapshot layer)) t value after
    → value ≡ directory_in (view setting t) layer entry
below_seen setting snapshot layer None t value after (is, left) = sym is
below_seen setting snapshot layer (Some prefix) t value after goes = directory_seen setting snapshot layer prefix t value after goes

-- the directory of an entry; and the entry may be read
pub child_seen : (setting : Setting) (snapshot : Bool) (layer : Layer) (found : Directory) (name : List ℕ) (t : Transaction)
    (value : Option Directory)
    (after : Transaction) → Goes setting (child_of snapshot layer found name) t value after
    → (value ≡ child_in (view setting t) layer (Some found) name)
    × (covers (unreadable (writes_of t)) (entry_of (node_of layer found.prefix) name) ≡ false)
unfolding child_of
child_seen setting snapshot layer found name t value after goes =
    let key = entry_of (node_of layer found.prefix) name in
    let first = parts setting (value_of snapshot key) _ t value after goes in
    let seen = value_seen setting snapshot key t first.0 first.1 first.2 in (
      below_seen setting snapshot layer first.0 first.1 value after first.3
          ∙ ap (λ database. directory_in database layer first.0) seen.1 ∙ ap (directory_in (view setting t) layer) seen.0,
      seen.2,
    )

-- ---- a path

-- from none on there is none
pub none_from : (database : Database) (layer : Layer) (names : List (List ℕ)) → found_from database layer None names ≡ None
none_from database layer [] = refl
none_from database layer (name ∷ names) = none_from database layer names

-- from a directory that isn't a partition the next name is followed
pub goes_on : {X : Type 0} (setting : Setting) (stops : Bool) (here others : Course X) (t : Transaction) (value : X) (after : Transaction)
    → stops ≡ false → Goes setting (if stops then here else others) t value after → Goes setting others t value after
goes_on setting true here others t value after is goes = absurd cc
goes_on setting false here others t value after is goes = goes

pub from_seen : (setting : Setting) (snapshot : Bool) (layer : Layer) (found : Directory) (names : List (List ℕ)) (t : Transaction)
    (value : Option Found) (after : Transaction) → StaysFrom (view setting t) layer (Some found) names
    → Goes setting (find_from snapshot layer found names) t value after
    → value ≡ whole (found_from (view setting t) layer (Some found) names)
unfolding find_from
from_seen setting snapshot layer found [] t value after stays (is, left) = sym is
from_seen setting snapshot layer found (name ∷ names) t value after stays goes =
    let further = child_of snapshot layer found name >>= (λ child. below child (λ next. find_from snapshot layer next names)) in
    let first = parts setting (child_of snapshot layer found name) _ t value after
    (goes_on setting (is_partition found.layer) (Gives (Some (found_at found (name ∷ names)))) further t value after stays.0 goes) in
    let seen = child_seen setting snapshot layer found name t first.0 first.1 first.2 in
    let same = quiet_seen setting (child_of snapshot layer found name) t first.0 first.1
    (child_of_none (λ mutation. false) (λ space. ⊥) snapshot layer found name) first.2 in
    by first.0 first.1 (λ next. from_seen setting snapshot layer next names first.1 value after)
    (subst (λ database. StaysFrom database layer first.0 names) (sym same)
    (subst (λ child. StaysFrom (view setting t) layer child names) (sym seen.0) stays.1)) first.3
    ∙ ap (λ database. whole (found_from database layer first.0 names)) same
    ∙ ap (λ child. whole (found_from (view setting t) layer child names)) seen.0
  where
    by : (child : Option Directory) (u : Transaction)
        → ((next : Directory) → StaysFrom (view setting u) layer (Some next) names → Goes setting (find_from snapshot layer next names) u value after
        → value ≡ whole (found_from (view setting u) layer (Some next) names))
        → StaysFrom (view setting u) layer child names
        → Goes setting (below child (λ next. find_from snapshot layer next names)) u value after
        → value ≡ whole (found_from (view setting u) layer child names)
    by None u on stays (is, left) = sym is ∙ ap whole (sym (none_from (view setting u) layer names))
    by (Some next) u on stays goes = on next stays goes

-- what a search found, and what it left
pub find_seen : (setting : Setting) (snapshot : Bool) (layer : Layer) (path : List (List ℕ)) (t : Transaction) (value : Option Found)
    (after : Transaction) → StaysInLayer (view setting t) layer path → Goes setting (find snapshot layer path) t value after
    → (value ≡ whole (found_in (view setting t) layer path)) × (view setting after ≡ view setting t)
unfolding find
find_seen setting snapshot layer path t value after stays goes = (
  from_seen setting snapshot layer (root layer) path t value after stays goes,
  quiet_seen setting (find_from snapshot layer (root layer) path) t value after
      (find_from_none (λ mutation. false) (λ space. ⊥) snapshot layer (root layer) path) goes,
)

pub found_in_layer : AreFoundInLayer
found_in_layer snapshot layer path setting words t found end stays =
    (find_seen setting snapshot layer path t found _ stays (went setting words (find snapshot layer path) t found end)).0

-- ---- where a path ends

ends_whole : (layer : Layer) (path : List (List ℕ)) (found : Option Directory) (again : Layer → List (List ℕ) → Course Place)
    → or_inside layer path (whole found) again ≡ Gives (place layer path found)
ends_whole layer path None again = refl
ends_whole layer path (Some found) again = refl

-- where it stays in one layer, it ends there; and what led there are the checks of the call and one search
pub arrived : (setting : Setting) (bound : ℕ) (lookup : Lookup) (layer : Layer) (path : List (List ℕ)) (t : Transaction) (at : Place)
    (after : Transaction)
    → ((u : Transaction) → Goes setting (admits lookup layer path) t done u → StaysInLayer (view setting u) layer path)
    → Goes setting (arrives (suc bound) lookup layer path) t at after
    → (u : Transaction)
    × Goes setting (admits lookup layer path) t done u
    × Goes setting (find lookup.snapshot layer path) u (whole (found_in (view setting u) layer path)) after
    × (at ≡ place layer path (found_in (view setting u) layer path))
unfolding arrives
arrived setting bound lookup layer path t at after stays goes =
    let again = λ (layer : Layer) (names : List (List ℕ)). arrives bound lookup layer names in
    let first = parts setting (admits lookup layer path) _ t at after goes in
    let second = parts setting (find lookup.snapshot layer path) _ first.1 at after first.3 in
    let found = found_in (view setting first.1) layer path in
    let seen = find_seen setting lookup.snapshot layer path first.1 second.0 second.1 (stays first.1 first.2) second.2 in
    let ends : Goes setting (Gives (place layer path found)) second.1 at after =
    subst (λ (course : Course Place). Goes setting course second.1 at after) (ends_whole layer path found again)
    (subst (λ value. Goes setting (or_inside layer path value again) second.1 at after) seen.0 second.3) in (
      first.1,
      first.2,
      subst (λ u. Goes setting (find lookup.snapshot layer path) first.1 (whole found) u) ends.1
          (subst (λ value. Goes setting (find lookup.snapshot layer path) first.1 value second.1) seen.0 second.2),
      sym ends.0,
    )

-- ---- the last name

last_from : (database : Database) (layer : Layer) (found : Option Directory) (name : List ℕ) (names : List (List ℕ))
    → found_from database layer found (name ∷ names)
    ≡ child_in database layer (found_from database layer found (front (name ∷ names))) (last_name (name ∷ names))
last_from database layer found name [] = refl
last_from database layer found name (next ∷ names) = last_from database layer (child_in database layer found name) next names

-- the directory of a path is that of its last name in the directory of the others
pub last_step : (database : Database) (layer : Layer) (found : Option Directory) (path : List (List ℕ)) → (length path == 0) ≡ false
    → found_from database layer found path ≡ child_in database layer (found_from database layer found (front path)) (last_name path)
last_step database layer found [] some = absurd cc
last_step database layer found (name ∷ names) some = last_from database layer found name names

-- ---- two databases

-- an entry that one has the other has
abbrev pub EntriesKept : Layer → (one other : Database) → Type 0
EntriesKept layer one other = (prefix name value : List ℕ) → finite.get one (entry_of (node_of layer prefix) name) ≡ Some value
    → finite.get other (entry_of (node_of layer prefix) name) ≡ Some value

-- what is found in one is found in the other, with the same prefix
pub prefixes_kept : (layer : Layer) (one other : Database) (found same : Directory) (names : List (List ℕ)) (end : Directory)
    → same.prefix ≡ found.prefix → EntriesKept layer one other → found_from one layer (Some found) names ≡ Some end
    → (kept : Directory) × (found_from other layer (Some same) names ≡ Some kept) × (kept.prefix ≡ end.prefix)
prefixes_kept layer one other found same [] end alike each is =
    (same, refl, alike ∙ ap (λ (directory : Directory). directory.prefix) (let is_end : found ≡ end = cc in is_end))
prefixes_kept layer one other found same (name ∷ names) end alike each is =
    by (finite.get one (entry_of (node_of layer found.prefix) name)) refl
    (λ next kept_next same. prefixes_kept layer one other next kept_next names end same each) is
  where
    by : (entry : Option (List ℕ)) → finite.get one (entry_of (node_of layer found.prefix) name) ≡ entry
        → ((next kept_next : Directory) → kept_next.prefix ≡ next.prefix → found_from one layer (Some next) names ≡ Some end
        → (kept : Directory) × (found_from other layer (Some kept_next) names ≡ Some kept) × (kept.prefix ≡ end.prefix))
        → found_from one layer (directory_in one layer entry) names ≡ Some end
        → (kept : Directory) × (found_from other layer (child_in other layer (Some same) name) names ≡ Some kept)
        × (kept.prefix ≡ end.prefix)
    by None entered on is = absurd (let none = none_from one layer names in cc)
    by (Some prefix) entered further is =
        let there : finite.get other (entry_of (node_of layer same.prefix) name) ≡ Some prefix =
        ap (λ above. finite.get other (entry_of (node_of layer above) name)) alike ∙ each found.prefix name prefix entered in
        let next = directory prefix (unwrap_or (finite.get one (layer_key (node_of layer prefix))) []) in
        let kept_next = directory prefix (unwrap_or (finite.get other (layer_key (node_of layer prefix))) []) in
        let on = further next kept_next refl is in
        (on.0, ap (λ entry. found_from other layer (directory_in other layer entry) names) there ∙ on.1, on.2)
