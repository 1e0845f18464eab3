-- A directory that was opened or created is found by its path, where its parent was there.
use Rattle.std.proofs.Common.{◌≡◌, ℕ, zero, suc, ◌+◌, ◌≤◌, Bool, true, false, cond, List, [], ◌∷◌, length, Option, Some, None, Ok, Err, refl, sym, ap, subst, ◌∙◌, arith}
use Rattle.std.specs.Prelude.{not, ◌&&◌, ◌==◌, if◌then◌else◌, unwrap_or, is_some, bytes_eq}
use Rattle.std.specs.FinMap as finite
use Rattle.std.specs.Cmp.Lexicographic.{same_text}
use Rattle.model_database.specs.Databases.{Database, Set, do_all}
use Rattle.model_database.specs.Histories.{Setting}
use Rattle.model_database.specs.KeyByKey.{is_plain}
use Rattle.model_database.specs.States.{covers, unreadable}
use Rattle.model_database.specs.Transactions.{Transaction, view, writes_of, map_below}
use Rattle.model_allocator.proofs.Viewing.{get-seen, get-seen_more, itself}
use Rattle.directory_types.specs.declared.Layer.{Layer}
use Rattle.directory_types.specs.declared.DirArgs.{DirArgs}
use Rattle.directory_types.specs.declared.DirKind.TheVariants as kind
use Rattle.directory_types.specs.declared.DirReply.TheVariants as reply
use Rattle.directory_types.specs.declared.fault.DirFault.TheVariants as fault
use Rattle.model_directory.specs.declared.Directory.{Directory}
use Rattle.model_directory.specs.declared.OpenOptions.{OpenOptions}
use Rattle.model_directory.specs.Courses.{Course, Gives, Done, done, ◌>>=◌, given, does}
use Rattle.model_directory.specs.Nodes.{node_of, entry_of, layer_key, allocator_of, is_partition}
use Rattle.model_directory.specs.Steps.{refuse_where, check, directory, root, below, child_of, found_at, find_from, find, admits, Place, place, arrives, front, last_name, sets_entry}
use Rattle.model_directory.specs.Calls.{to_create, to_create_or_open, to_open, found_opened, judged, to_look, looks, takes_prefix, enters, or_else, or_root, makes, opening, effect}
use Rattle.laws_directory.specs.Found.{directory_in, child_in, found_from, found_in, StaysFrom, StaysInLayer, whole, AreOpenedFound}
use Rattle.laws_directory.proofs.Going.{Goes, went, parts}
use Rattle.laws_directory.proofs.Growing.{AllocatorsMay, goes_grown}
use Rattle.laws_directory.proofs.Planning.{planned}
use Rattle.laws_directory.proofs.Writing.{IsPlain, check_none, looks_none, child_of_none, takes_only, makes_plain, root_plain, allocators_plain}
use Rattle.laws_directory.proofs.Seeing.{spares, spared_seen}
use Rattle.laws_directory.proofs.Keys.{entry_is_no_layer, IsOfNode, entry_of_node, version_spares, allocator_spares}
use Rattle.laws_directory.proofs.StayingInLayer.{stays_kept, stays_above}
use Rattle.laws_directory.proofs.Finding.{quiet_seen, not_refused, child_seen, none_from, goes_on, find_seen, arrived, last_step, EntriesKept, prefixes_kept}
use Rattle.laws_directory.proofs.Removing.{does_wrote}
use Rattle.laws_directory.proofs.Freeing.{Readable, still_readable, readable_before, taken_readable}

-- ---- a key that is set

-- it is seen, where it may be read
set_there : (setting : Setting) (key value : List ℕ) (t : Transaction) (done : Done) (after : Transaction)
    → Goes setting (does (Set key value)) t done after → Readable t key → finite.get (view setting after) key ≡ Some value
set_there setting key value t done after goes readable =
    let old = finite.get (do_all (writes_of t) (map_below setting t)) key in
    ap (λ database. finite.get database key) (does_wrote setting (Set key value) t done after goes)
    ∙ get-seen_more (writes_of t) (Set key value) (map_below setting t) key refl
    ∙ ap (λ (hidden : Bool). cond (not hidden) (cond (bytes_eq key key) (Some value) old) None) readable
    ∙ ap (λ (same : Bool). cond same (Some value) old) (itself key)

-- and every other key is seen as before
set_elsewhere : (setting : Setting) (key value q : List ℕ) (t : Transaction) (done : Done) (after : Transaction)
    → Goes setting (does (Set key value)) t done after → bytes_eq q key ≡ false
    → finite.get (view setting after) q ≡ finite.get (view setting t) q
set_elsewhere setting key value q t done after goes other =
    let old = finite.get (do_all (writes_of t) (map_below setting t)) q in
    ap (λ database. finite.get database q) (does_wrote setting (Set key value) t done after goes)
    ∙ get-seen_more (writes_of t) (Set key value) (map_below setting t) q refl
    ∙ ap (λ (same : Bool). cond (not (covers (unreadable (writes_of t)) q)) (cond same (Some value) old) None) other
    ∙ sym (get-seen (writes_of t) (map_below setting t) q)

does_plain : (key value : List ℕ) → IsPlain (does (Set key value))
unfolding does
does_plain key value = (refl, tt)

-- ---- the entry of a path that is not found

-- it may be read: the search read it
entry_readable_from : (setting : Setting) (snapshot : Bool) (layer : Layer) (found : Directory) (name : List ℕ) (names : List (List ℕ))
    (t after : Transaction) (parent : Directory) → StaysFrom (view setting t) layer (Some found) (name ∷ names)
    → Goes setting (find_from snapshot layer found (name ∷ names)) t None after
    → found_from (view setting t) layer (Some found) (front (name ∷ names)) ≡ Some parent
    → Readable t (entry_of (node_of layer parent.prefix) (last_name (name ∷ names)))
unfolding find_from
entry_readable_from setting snapshot layer found name [] t after parent stays goes there =
    let first = parts setting (child_of snapshot layer found name) _ t None after
    (goes_on setting (is_partition found.layer) (Gives (Some (found_at found (name ∷ []))))
    (child_of snapshot layer found name >>= (λ child. below child (λ next. find_from snapshot layer next []))) t None after stays.0 goes) in
    let same : found ≡ parent = cc in
    subst (λ (above : Directory). Readable t (entry_of (node_of layer above.prefix) name)) same
    (child_seen setting snapshot layer found name t first.0 first.1 first.2).1
entry_readable_from setting snapshot layer found name (next ∷ names) t after parent stays goes there =
    let first = parts setting (child_of snapshot layer found name) _ t None after
    (goes_on setting (is_partition found.layer) (Gives (Some (found_at found (name ∷ next ∷ names))))
    (child_of snapshot layer found name >>= (λ child. below child (λ child. find_from snapshot layer child (next ∷ names)))) t None after
    stays.0 goes) in
    let seen = child_seen setting snapshot layer found name t first.0 first.1 first.2 in
    let same = quiet_seen setting (child_of snapshot layer found name) t first.0 first.1
    (child_of_none (λ mutation. false) (λ space. ⊥) snapshot layer found name) first.2 in
    readable_before setting (child_of snapshot layer found name) t first.0 first.1
    (entry_of (node_of layer parent.prefix) (last_name (next ∷ names)))
    (child_of_none is_plain (AllocatorsMay is_plain) snapshot layer found name) first.2
    (by first.0 first.1 (λ child. entry_readable_from setting snapshot layer child next names first.1 after parent)
    (subst (λ database. StaysFrom database layer first.0 (next ∷ names)) (sym same)
    (subst (λ child. StaysFrom (view setting t) layer child (next ∷ names)) (sym seen.0) stays.1)) first.3
    (ap (λ database. found_from database layer first.0 (front (next ∷ names))) same
    ∙ ap (λ child. found_from (view setting t) layer child (front (next ∷ names))) seen.0 ∙ there))
  where
    by : (child : Option Directory) (u : Transaction)
        → ((child : Directory) → StaysFrom (view setting u) layer (Some child) (next ∷ names)
        → Goes setting (find_from snapshot layer child (next ∷ names)) u None after
        → found_from (view setting u) layer (Some child) (front (next ∷ names)) ≡ Some parent
        → Readable u (entry_of (node_of layer parent.prefix) (last_name (next ∷ names))))
        → StaysFrom (view setting u) layer child (next ∷ names)
        → Goes setting (below child (λ child. find_from snapshot layer child (next ∷ names))) u None after
        → found_from (view setting u) layer child (front (next ∷ names)) ≡ Some parent
        → Readable u (entry_of (node_of layer parent.prefix) (last_name (next ∷ names)))
    by None u on stays goes there = absurd (let missing = none_from (view setting u) layer (front (next ∷ names)) in cc)
    by (Some child) u on stays goes there = on child stays goes there

entry_readable : (setting : Setting) (snapshot : Bool) (layer : Layer) (path : List (List ℕ)) (t after : Transaction) (parent : Directory)
    → (length path == 0) ≡ false → StaysInLayer (view setting t) layer path → Goes setting (find snapshot layer path) t None after
    → found_in (view setting t) layer (front path) ≡ Some parent → Readable t (entry_of (node_of layer parent.prefix) (last_name path))
unfolding find
entry_readable setting snapshot layer [] t after parent some stays goes there = absurd cc
entry_readable setting snapshot layer (name ∷ names) t after parent some stays goes there =
    entry_readable_from setting snapshot layer (root layer) name names t after parent stays goes there

-- ---- looking for a directory

judged_is : (setting : Setting) (options : OpenOptions) (layer_name : Option (List ℕ)) (found : Option Directory) (t : Transaction)
    (value : Option Directory) (after : Transaction) → Goes setting (given (judged options layer_name found)) t value after
    → (found ≡ value) × (t ≡ after)
unfolding found_opened
judged_is setting options layer_name None t value after goes = by options.may_create goes
  where
    by : (may : Bool) → Goes setting (given (if may then Ok None else Err fault.Missing)) t value after → (None ≡ value) × (t ≡ after)
    by true goes = goes
    by false goes = absurd goes
judged_is setting options layer_name (Some found) t value after goes =
    by (not options.may_open) (not (length (unwrap_or layer_name []) == 0) && not (bytes_eq (unwrap_or layer_name []) found.layer)) goes
  where
    by : (one other : Bool)
        → Goes setting (given (if one then Err fault.Exists else if other then Err fault.LayerDiffers else Ok (Some found))) t value after
        → (Some found ≡ value) × (t ≡ after)
    by true other goes = absurd goes
    by false true goes = absurd goes
    by false false (is, left) = (is, left)

-- what looking for a directory tells, where the path stays in one layer
record Looked (setting : Setting) (layer : Layer) (path : List (List ℕ)) (t : Transaction) (at : Place) (after : Transaction) : Type 0 where
  some : (length path == 0) ≡ false
  at_is : at ≡ place layer path (found_in (view setting t) layer path)
  same : view setting after ≡ view setting t
  readable : (parent : Directory) → found_in (view setting t) layer path ≡ None → found_in (view setting t) layer (front path) ≡ Some parent
      → Readable t (entry_of (node_of layer parent.prefix) (last_name path))

-- what is checked before changes nothing, and the root is refused
record Admitted (setting : Setting) (path : List (List ℕ)) (t u : Transaction) : Type 0 where
  some : (length path == 0) ≡ false
  same : view setting u ≡ view setting t
  before : (key : List ℕ) → Readable u key → Readable t key

admitted : (setting : Setting) (options : OpenOptions) (prefix : Option (List ℕ)) (layer : Layer) (path : List (List ℕ)) (t u : Transaction)
    → Goes setting (admits (to_look options prefix) layer path) t done u → Admitted setting path t u
unfolding admits
admitted setting options prefix layer path t u goes =
    let first = parts setting (check false options.snapshot layer) _ t done u goes in
    let second = parts setting (refuse_where (is_some prefix && not layer.manual) fault.ManualNotAllowed) _ first.1 done u first.3 in
    let allowed = not_refused setting (is_some prefix && not layer.manual) fault.ManualNotAllowed first.1 second.0 second.1 second.2 in
    let named = not_refused setting (length path == 0) fault.EmptyPath second.1 done u second.3 in
    let left : first.1 ≡ u = allowed.1 ∙ named.1 in
    record {
      some = named.0;
      same = ap (view setting) (sym left) ∙ quiet_seen setting (check false options.snapshot layer) t first.0 first.1
          (check_none (λ mutation. false) (λ space. ⊥) options.snapshot layer) first.2;
      before = λ key readable.
          readable_before setting (check false options.snapshot layer) t first.0 first.1 key
          (check_none is_plain (AllocatorsMay is_plain) options.snapshot layer) first.2
          (subst (λ u. Readable u key) (sym left) readable);
    }

looked : (setting : Setting) (options : OpenOptions) (layer : Layer) (path : List (List ℕ)) (layer_name prefix : Option (List ℕ))
    (t : Transaction) (at : Place) (after : Transaction) → StaysInLayer (view setting t) layer path
    → Goes setting (looks options layer path layer_name prefix) t at after → Looked setting layer path t at after
unfolding looks
looked setting options layer path layer_name prefix t at after stays goes =
    let lookup = to_look options prefix in
    let first = parts setting (arrives (length path + 1) lookup layer path) _ t at after goes in
    let second = parts setting (given (judged options layer_name first.0.found)) _ first.1 at after first.3 in
    let opened = judged_is setting options layer_name first.0.found first.1 second.0 second.1 second.2 in
    let one_more : length path + 1 ≡ suc (length path) = omega arith in
    let reached = arrived setting (length path) lookup layer path t first.0 first.1
    (λ u checked. subst (λ database. StaysInLayer database layer path) (sym (admitted setting options prefix layer path t u checked).same) stays)
    (subst (λ bound. Goes setting (arrives bound lookup layer path) t first.0 first.1) one_more first.2) in
    let u = reached.0 in
    let before = admitted setting options prefix layer path t u reached.1 in
    let stays_there : StaysInLayer (view setting u) layer path = subst (λ database. StaysInLayer database layer path) (sym before.same) stays in
    let seen = find_seen setting options.snapshot layer path u (whole (found_in (view setting u) layer path)) first.1 stays_there reached.2 in
    let left : first.1 ≡ after = opened.1 ∙ second.3.1 in
    record {
      some = before.some;
      at_is = sym second.3.0 ∙ ap (λ found. place first.0.layer first.0.path found) (sym opened.0) ∙ reached.3
          ∙ ap (λ database. place layer path (found_in database layer path)) before.same;
      same = ap (view setting) (sym left) ∙ seen.1 ∙ before.same;
      readable = λ parent none_there there.
          before.before (entry_of (node_of layer parent.prefix) (last_name path))
          (entry_readable setting options.snapshot layer path u first.1 parent before.some stays_there
          (subst (λ found. Goes setting (find options.snapshot layer path) u (whole found) first.1)
          (ap (λ database. found_in database layer path) before.same ∙ none_there) reached.2)
          (ap (λ database. found_in database layer (front path)) before.same ∙ there));
    }

-- ---- the parent

-- the keys of nodes stay while a prefix is taken
taken_kept : (setting : Setting) (layer : Layer) (prefix : Option (List ℕ)) (t : Transaction) (own : List ℕ)
    (after : Transaction) → Goes setting (takes_prefix layer prefix) t own after → (key : List ℕ) → IsOfNode layer key
    → finite.get (view setting after) key ≡ finite.get (view setting t) key
taken_kept setting layer prefix t own after goes key other =
    spared_seen setting t after key (goes_grown setting (spares key) (takes_prefix layer prefix) t own after
    (takes_only (spares key) (AllocatorsMay (spares key)) layer prefix (version_spares layer key other)
    (planned (spares key) (allocator_of layer) (allocator_spares layer key other))) goes)

or_found : (setting : Setting) (found : Option Directory) (others : Course Directory) (one : Directory) (t : Transaction)
    (value : Directory)
    (after : Transaction) → found ≡ Some one → Goes setting (or_else found others) t value after → (one ≡ value) × (t ≡ after)
or_found setting None others one t value after is goes = absurd cc
or_found setting (Some found) others one t value after is (gave, left) = (let same : found ≡ one = cc in sym same ∙ gave, left)

-- a parent that is there is found again, and nothing is written
parent_made : (setting : Setting) (bound : ℕ) (layer : Layer) (above : List (List ℕ)) (t : Transaction) (value : Directory)
    (after : Transaction)
    (parent : Directory) → length above ≤ bound → StaysInLayer (view setting t) layer above → found_in (view setting t) layer above ≡ Some parent
    → Goes setting (or_root layer above (makes bound to_create_or_open layer above None None)) t value after
    → (value ≡ parent) × (view setting after ≡ view setting t)
unfolding makes
parent_made setting bound layer [] t value after parent enough stays there (is, left) =
    let same : root layer ≡ parent = cc in
    (sym is ∙ same, ap (view setting) (sym left))
parent_made setting zero layer (name ∷ names) t value after parent enough stays there goes = absurd (omega (arith, enough))
parent_made setting (suc bound) layer (name ∷ names) t value after parent enough stays there goes =
    let above = name ∷ names in
    let first = parts setting (looks to_create_or_open layer above None None) _ t value after goes in
    let seen = looked setting to_create_or_open layer above None None t first.0 first.1 stays first.2 in
    let gave = or_found setting first.0.found _ parent first.1 value after (ap (λ (at : Place). at.found) seen.at_is ∙ there) first.3 in
    (sym gave.0, ap (view setting) (sym gave.1) ∙ seen.same)

-- ---- the new directory

-- a path is found whose parent was, where its entry and its layer name are as they were set
entered_found : (layer : Layer) (before after : Database) (path : List (List ℕ)) (parent : Directory) (own layer_name : List ℕ)
    → (length path == 0) ≡ false → found_in before layer (front path) ≡ Some parent → EntriesKept layer before after
    → finite.get after (entry_of (node_of layer parent.prefix) (last_name path)) ≡ Some own
    → finite.get after (layer_key (node_of layer own)) ≡ Some layer_name → found_in after layer path ≡ Some (directory own layer_name)
entered_found layer before after path parent own layer_name some there kept entered named =
    let on = prefixes_kept layer before after (root layer) (root layer) (front path) parent refl kept there in
    last_step after layer (Some (root layer)) path some
    ∙ ap (λ found. child_in after layer found (last_name path)) on.1
    ∙ ap (directory_in after layer)
    (ap (λ above. finite.get after (entry_of (node_of layer above) (last_name path))) on.2 ∙ entered)
    ∙ ap (λ value. Some (directory own (unwrap_or value []))) named

-- a value that was there stays, where the key that was set had none
present_stays : (before after : Database) (entry key prefix : List ℕ) → finite.get before entry ≡ None → finite.get before key ≡ Some prefix
    → (bytes_eq key entry ≡ false → finite.get after key ≡ Some prefix) → finite.get after key ≡ Some prefix
present_stays before after entry key prefix absent is on = by (bytes_eq key entry) refl
  where
    by : (same : Bool) → bytes_eq key entry ≡ same → finite.get after key ≡ Some prefix
    by true same =
        let one : key ≡ entry = same_text key entry (sym same) in
        absurd (let nothing : finite.get before key ≡ None = ap (finite.get before) one ∙ absent in cc)
    by false other = on other

-- the entry of a path that isn't found has no value
no_entry : (database : Database) (layer : Layer) (path : List (List ℕ)) (parent : Directory) → (length path == 0) ≡ false
    → found_in database layer (front path) ≡ Some parent → found_in database layer path ≡ None
    → finite.get database (entry_of (node_of layer parent.prefix) (last_name path)) ≡ None
no_entry database layer path parent some there missing =
    by (finite.get database (entry_of (node_of layer parent.prefix) (last_name path)))
    (ap (λ found. child_in database layer found (last_name path)) (sym there)
    ∙ sym (last_step database layer (Some (root layer)) path some) ∙ missing)
  where
    by : (entry : Option (List ℕ)) → directory_in database layer entry ≡ None → entry ≡ None
    by None is = refl
    by (Some prefix) is = absurd cc

-- two sets: of the entry, which had no value, and of the layer name
created_found : (setting : Setting) (layer : Layer) (path : List (List ℕ)) (parent : Directory) (own layer_name : List ℕ) (t : Transaction)
    (value : Directory) (after : Transaction) → (length path == 0) ≡ false → found_in (view setting t) layer (front path) ≡ Some parent
    → finite.get (view setting t) (entry_of (node_of layer parent.prefix) (last_name path)) ≡ None
    → Readable t (entry_of (node_of layer parent.prefix) (last_name path)) → Readable t (layer_key (node_of layer own))
    → Goes setting (enters layer parent (last_name path) own layer_name) t value after
    → found_in (view setting after) layer path ≡ Some value
unfolding enters sets_entry
created_found setting layer path parent own layer_name t value after some there absent entry_may layer_may goes =
    let entry = entry_of (node_of layer parent.prefix) (last_name path) in
    let named = layer_key (node_of layer own) in
    let first = parts setting (does (Set entry own)) _ t value after goes in
    let second = parts setting (does (Set named layer_name)) _ first.1 value after first.3 in
    let entered : finite.get (view setting second.1) entry ≡ Some own =
    set_elsewhere setting named layer_name entry first.1 second.0 second.1 second.2
    (entry_is_no_layer layer parent.prefix own (last_name path))
    ∙ set_there setting entry own t first.0 first.1 first.2 entry_may in
    let layered : finite.get (view setting second.1) named ≡ Some layer_name =
    set_there setting named layer_name first.1 second.0 second.1 second.2
    (still_readable setting (does (Set entry own)) t first.0 first.1 named (does_plain entry own) first.2 layer_may) in
    let each : EntriesKept layer (view setting t) (view setting second.1) =
    λ above name prefix is. present_stays (view setting t) (view setting second.1) entry (entry_of (node_of layer above) name) prefix
    absent is
    (λ other. set_elsewhere setting named layer_name (entry_of (node_of layer above) name) first.1 second.0 second.1 second.2
    (entry_is_no_layer layer above own name)
    ∙ set_elsewhere setting entry own (entry_of (node_of layer above) name) t first.0 first.1 first.2 other ∙ is) in
    ap (λ (u : Transaction). found_in (view setting u) layer path) (sym second.3.1)
    ∙ entered_found layer (view setting t) (view setting second.1) path parent own layer_name some there each entered layered
    ∙ ap Some second.3.0

-- ---- a call

-- what the steps behind the search make, where the directory isn't there
abbrev creates : (bound : ℕ) → Layer → (path : List (List ℕ)) → (layer_name prefix : Option (List ℕ)) → Course Directory
creates bound layer path layer_name prefix = do
  own ← takes_prefix layer prefix
  parent ← or_root layer (front path) (makes bound to_create_or_open layer (front path) None None)
  enters layer parent (last_name path) own (unwrap_or layer_name [])

front_shorter : (path : List (List ℕ)) → length (front path) ≤ length path
front_shorter [] = omega arith
front_shorter (name ∷ []) = omega arith
front_shorter (name ∷ next ∷ names) = omega (arith, front_shorter (next ∷ names))

new_found : (setting : Setting) (bound : ℕ) (layer : Layer) (path : List (List ℕ)) (layer_name prefix : Option (List ℕ)) (t : Transaction)
    (value : Directory) (after : Transaction) (parent : Directory) → length path ≤ bound → (length path == 0) ≡ false
    → StaysInLayer (view setting t) layer path
    → found_in (view setting t) layer (front path) ≡ Some parent → found_in (view setting t) layer path ≡ None
    → Readable t (entry_of (node_of layer parent.prefix) (last_name path))
    → Goes setting (creates bound layer path layer_name prefix) t value after → found_in (view setting after) layer path ≡ Some value
new_found setting bound layer path layer_name prefix t value after parent enough some stays there missing readable goes =
    let taking = takes_prefix layer prefix in
    let first = parts setting taking _ t value after goes in
    let own = first.0 in
    let making = or_root layer (front path) (makes bound to_create_or_open layer (front path) None None) in
    let second = parts setting making _ first.1 value after first.3 in
    let same = taken_kept setting layer prefix t own first.1 first.2 in
    let kept = prefixes_kept layer (view setting t) (view setting first.1) (root layer) (root layer) (front path) parent refl
    (λ above name value is. same (entry_of (node_of layer above) name) (entry_of_node layer above name) ∙ is) there in
    let fewer : length (front path) ≤ bound = omega (arith, front_shorter path, enough) in
    let above_stays : StaysInLayer (view setting first.1) layer (front path) =
    stays_kept layer (view setting t) (view setting first.1) same (Some (root layer)) (front path)
    (stays_above (view setting t) layer (Some (root layer)) path stays) in
    let again = parent_made setting bound layer (front path) first.1 second.0 second.1 kept.0 fewer above_stays kept.1 second.2 in
    let entry = entry_of (node_of layer parent.prefix) (last_name path) in
    let prefix_is : second.0.prefix ≡ parent.prefix = ap (λ (directory : Directory). directory.prefix) again.0 ∙ kept.2 in
    let making_plain = root_plain layer (front path) (makes bound to_create_or_open layer (front path) None None)
    (makes_plain bound to_create_or_open layer (front path) None None) in
    let taking_plain = takes_only is_plain (AllocatorsMay is_plain) layer prefix refl (allocators_plain (allocator_of layer)) in
    created_found setting layer path second.0 own (unwrap_or layer_name []) second.1 value after some
    (ap (λ database. found_in database layer (front path)) again.1 ∙ kept.1 ∙ ap Some (sym again.0))
    (ap (λ above. finite.get (view setting second.1) (entry_of (node_of layer above) (last_name path))) prefix_is
    ∙ ap (λ database. finite.get database entry) again.1 ∙ same entry (entry_of_node layer parent.prefix (last_name path))
    ∙ no_entry (view setting t) layer path parent some there missing)
    (subst (λ above. Readable second.1 (entry_of (node_of layer above) (last_name path))) (sym prefix_is)
    (still_readable setting making first.1 second.0 second.1 entry making_plain second.2
    (still_readable setting taking t own first.1 entry taking_plain first.2 readable)))
    (still_readable setting making first.1 second.0 second.1 (layer_key (node_of layer own)) making_plain second.2
    (taken_readable setting layer prefix t own first.1 first.2))
    second.3

made_found : (setting : Setting) (bound : ℕ) (options : OpenOptions) (layer : Layer) (path : List (List ℕ)) (layer_name prefix : Option (List ℕ))
    (t : Transaction) (value : Directory) (after : Transaction) (parent : Directory) → length path ≤ bound
    → StaysInLayer (view setting t) layer path
    → found_in (view setting t) layer (front path) ≡ Some parent
    → Goes setting (makes (suc bound) options layer path layer_name prefix) t value after
    → found_in (view setting after) layer path ≡ Some value
unfolding makes
made_found setting bound options layer path layer_name prefix t value after parent enough stays there goes =
    let looking = looks options layer path layer_name prefix in
    let first = parts setting looking _ t value after goes in
    let seen = looked setting options layer path layer_name prefix t first.0 first.1 stays first.2 in
    let found = found_in (view setting t) layer path in
    by found refl first.1 seen.same
    (λ none_there. still_readable setting looking t first.0 first.1 (entry_of (node_of layer parent.prefix) (last_name path))
    (looks_none is_plain (AllocatorsMay is_plain) options layer path layer_name prefix) first.2 (seen.readable parent none_there there))
    seen.some
    (subst (λ (at : Place). Goes setting (or_else at.found (creates bound at.layer at.path layer_name prefix)) first.1 value after) seen.at_is
    first.3)
  where
    by : (found : Option Directory) → found ≡ found_in (view setting t) layer path → (u : Transaction) → view setting u ≡ view setting t
        → (found ≡ None → Readable u (entry_of (node_of layer parent.prefix) (last_name path))) → (length path == 0) ≡ false
        → Goes setting (or_else found (creates bound layer path layer_name prefix)) u value after
        → found_in (view setting after) layer path ≡ Some value
    by (Some found) is u same readable some (gave, left) =
        ap (λ (u : Transaction). found_in (view setting u) layer path) (sym left) ∙ ap (λ database. found_in database layer path) same
        ∙ sym is ∙ ap Some gave
    by None is u same readable some goes =
        new_found setting bound layer path layer_name prefix u value after parent enough some
        (subst (λ database. StaysInLayer database layer path) (sym same) stays)
        (ap (λ database. found_in database layer (front path)) same ∙ there) (ap (λ database. found_in database layer path) same ∙ sym is)
        (readable refl) goes

opening_found : (setting : Setting) (options : OpenOptions) (layer : Layer) (args : DirArgs) (t : Transaction)
    (parent : Directory)
    (prefix : List ℕ) (path : List (List ℕ)) (layer_name : List ℕ) (after : Transaction) → StaysInLayer (view setting t) layer args.path
    → found_in (view setting t) layer (front args.path) ≡ Some parent
    → Goes setting (opening options layer args) t (reply.Opened prefix path layer_name) after
    → (path ≡ args.path) × (found_in (view setting after) layer args.path ≡ Some (directory prefix layer_name))
unfolding opening
opening_found setting options layer args t parent prefix path layer_name after stays there goes =
    let bound : length args.path + 1 ≡ suc (length args.path) = omega arith in
    let first = parts setting (makes (length args.path + 1) options layer args.path args.layer args.prefix) _ t
    (reply.Opened prefix path layer_name) after goes in
    let making = subst (λ bound. Goes setting (makes bound options layer args.path args.layer args.prefix) t first.0 first.1) bound
    first.2 in
    let made = made_found setting (length args.path) options layer args.path args.layer args.prefix t first.0 first.1 parent (omega arith)
    stays there making in
    let answer : reply.Opened first.0.prefix args.path first.0.layer ≡ reply.Opened prefix path layer_name = first.3.0 in
    let prefix_is : first.0.prefix ≡ prefix = cc in
    let path_is : args.path ≡ path = cc in
    let layer_is : first.0.layer ≡ layer_name = cc in (
      sym path_is,
      ap (λ (u : Transaction). found_in (view setting u) layer args.path) (sym first.3.1) ∙ made
          ∙ ap (λ prefix. Some (directory prefix first.0.layer)) prefix_is ∙ ap (λ layer_name. Some (directory prefix layer_name)) layer_is,
    )

pub opened_is_found : AreOpenedFound
unfolding effect
opened_is_found kind.Create layer args setting words t parent prefix path layer_name is end stays there =
    opening_found setting to_create layer args t parent prefix path layer_name _ stays there
    (went setting words (opening to_create layer args) t (reply.Opened prefix path layer_name) end)
opened_is_found kind.CreateOrOpen layer args setting words t parent prefix path layer_name is end stays there =
    opening_found setting to_create_or_open layer args t parent prefix path layer_name _ stays there
    (went setting words (opening to_create_or_open layer args) t (reply.Opened prefix path layer_name) end)
opened_is_found kind.Open layer args setting words t parent prefix path layer_name is end stays there =
    opening_found setting (to_open args.snapshot) layer args t parent prefix path layer_name _ stays there
    (went setting words (opening (to_open args.snapshot) layer args) t (reply.Opened prefix path layer_name) end)
opened_is_found _ layer args setting words t parent prefix path layer_name is end stays there = absurd cc
