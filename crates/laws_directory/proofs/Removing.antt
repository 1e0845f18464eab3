-- A directory that was removed is found no more by its path.
use Rattle.std.proofs.Common.{◌≡◌, ℕ, zero, suc, ◌+◌, Bool, true, false, cond, List, [], ◌∷◌, ◌++◌, length, Option, Some, None, refl, sym, ap, subst, ◌∙◌, arith}
use Rattle.std.specs.Prelude.{◌==◌, ◌&&◌, not, unwrap_or}
use Rattle.std.specs.FinMap as finite
use Rattle.key_bytes.specs.Successors.{strinc}
use Rattle.model_database.specs.Databases.{Database, Mutation, Set, Clear, ClearRange, Atomic, do_all}
use Rattle.model_database.specs.Histories.{Setting}
use Rattle.model_database.specs.Reads.{answer}
use Rattle.model_database.specs.States.{touches, covers, unreadable, seen}
use Rattle.model_database.specs.Transactions.{Transaction, view, writes_of, map_below, set_code, clear_code, range_code, op_code}
use Rattle.model_database.proofs.AddingConflicts.{written_wrote}
use Rattle.fdb_calls.specs.Calling.{write_by}
use Rattle.model_allocator.specs.Acts.{Reads, Writes, act_called, refusal}
use Rattle.model_allocator.proofs.Viewing.{after_read, get-seen, get-seen_more, itself}
use Rattle.directory_types.specs.declared.Layer.{Layer}
use Rattle.directory_types.specs.declared.DirReply.{DirReply}
use Rattle.directory_types.specs.declared.DirReply.TheVariants as reply
use Rattle.directory_types.specs.declared.DirKind.TheVariants as kind
use Rattle.directory_types.specs.declared.fault.DirFault.TheVariants as fault
use Rattle.model_directory.specs.declared.Directory.{Directory}
use Rattle.model_directory.specs.Courses.{Course, Gives, Refuses, Asks, Does, Allocates, Done, done, does}
use Rattle.model_directory.specs.Nodes.{node_of, entry_of, layer_key, is_partition}
use Rattle.model_directory.specs.Steps.{refuse_where, there, check, directory, root, find, admits, Place, arrives, front, last_name, children, clears_entry}
use Rattle.model_directory.specs.Calls.{clears_one, clears_all, leaves, removes_one, removes_found, to_remove, removing, effect}
use Rattle.laws_directory.specs.Found.{directory_in, child_in, found_in, StaysFrom, StaysInLayer, whole, AreRemovedGone}
use Rattle.laws_directory.proofs.Going.{Goes, went, parts}
use Rattle.laws_directory.proofs.Growing.{Only, both_only, AllocatorsMay, goes_grown}
use Rattle.laws_directory.proofs.Writing.{check_only, children_none, there_none}
use Rattle.laws_directory.proofs.Seeing.{spares, spared_seen}
use Rattle.laws_directory.proofs.Keys.{IsOfNode, version_spares}
use Rattle.laws_directory.proofs.StayingInLayer.{stays_kept, stays_above}
use Rattle.laws_directory.proofs.Finding.{not_refused, find_seen, arrived, last_step, EntriesKept, prefixes_kept}

-- ---- a write

wrote_by : (setting : Setting) (t : Transaction) (code : Option ℕ) (mutation : Mutation) → refusal (write_by code t mutation).reply ≡ None
    → view setting (write_by code t mutation).transaction ≡ seen (writes_of t ++ mutation ∷ []) (map_below setting t)
wrote_by setting t (Some code) mutation passed = absurd cc
wrote_by setting t None mutation passed =
    ap (λ writes. seen writes (map_below setting t)) (written_wrote t.script mutation (not t.skips_write_conflict))

-- what is seen after a write that was let through
pub wrote : (setting : Setting) (t : Transaction) (mutation : Mutation) → refusal (act_called setting t (Writes mutation)).reply ≡ None
    → view setting (act_called setting t (Writes mutation)).transaction ≡ seen (writes_of t ++ mutation ∷ []) (map_below setting t)
wrote setting t (Set key value) passed = wrote_by setting t (set_code t.phase key value) (Set key value) passed
wrote setting t (Clear key) passed = wrote_by setting t (clear_code t.phase key) (Clear key) passed
wrote setting t (ClearRange begin end) passed = wrote_by setting t (range_code t.phase begin end) (ClearRange begin end) passed
wrote setting t (Atomic op key operand) passed = wrote_by setting t (op_code t.phase op key operand) (Atomic op key operand) passed

-- where a step that writes was let through
pub does_wrote : (setting : Setting) (mutation : Mutation) (t : Transaction) (value : Done) (after : Transaction)
    → Goes setting (does mutation) t value after → view setting after ≡ seen (writes_of t ++ mutation ∷ []) (map_below setting t)
unfolding does
does_wrote setting mutation t value after (passed, (is, left)) = ap (view setting) (sym left) ∙ wrote setting t mutation passed

-- ---- an entry that is cleared

-- it is seen no more, readable or not
cleared_none : (writes : List Mutation) (m : Database) (key : List ℕ) → finite.get (seen (writes ++ Clear key ∷ []) m) key ≡ None
cleared_none writes m key =
    get-seen_more writes (Clear key) m key refl
    ∙ ap (λ (same : Bool). cond (not (covers (unreadable writes) key)) (cond same None (finite.get (do_all writes m) key)) None)
    (itself key)
    ∙ by (covers (unreadable writes) key) None
  where
    by : (hidden : Bool) (missing : Option (List ℕ)) → cond (not hidden) missing missing ≡ missing
    by true missing = refl
    by false missing = refl

-- a mutation that takes values away
abbrev clears : Mutation → Bool
clears (Clear key) = true
clears (ClearRange begin end) = true
clears _ = false

-- what is seen behind one was seen before
cleared_before : (writes : List Mutation) (m : Database) (mutation : Mutation) (q value : List ℕ) → clears mutation ≡ true
    → finite.get (seen (writes ++ mutation ∷ []) m) q ≡ Some value
    → finite.get (seen writes m) q ≡ Some value
cleared_before writes m mutation q value clearing is = by mutation clearing is
  where
    left : (hidden touched : Bool) (old : Option (List ℕ)) → cond (not hidden) (cond touched None old) None ≡ Some value
        → cond (not hidden) old None ≡ Some value
    left true touched old is = absurd cc
    left false true old is = absurd cc
    left false false old is = is

    by : (mutation : Mutation) → clears mutation ≡ true → finite.get (seen (writes ++ mutation ∷ []) m) q ≡ Some value
        → finite.get (seen writes m) q ≡ Some value
    by (Set key other) clearing is = absurd cc
    by (Clear key) clearing is =
        get-seen writes m q
        ∙ left (covers (unreadable writes) q) (touches (Clear key) q) (finite.get (do_all writes m) q)
        (sym (get-seen_more writes (Clear key) m q refl) ∙ is)
    by (ClearRange begin end) clearing is =
        get-seen writes m q
        ∙ left (covers (unreadable writes) q) (touches (ClearRange begin end) q) (finite.get (do_all writes m) q)
        (sym (get-seen_more writes (ClearRange begin end) m q refl) ∙ is)
    by (Atomic op key operand) clearing is = absurd cc

-- and so behind a course that only takes values away
only_cleared : {X : Type 0} (setting : Setting) (course : Course X) (t : Transaction) (value : X) (after : Transaction)
    → Only clears (λ space. ⊥) course → Goes setting course t value after → (key bytes : List ℕ)
    → finite.get (view setting after) key ≡ Some bytes → finite.get (view setting t) key ≡ Some bytes
only_cleared setting (Gives given) t value after may (is, left) key bytes there =
    ap (λ (u : Transaction). finite.get (view setting u) key) left ∙ there
only_cleared setting (Refuses fault) t value after may goes key bytes there = absurd goes
only_cleared setting (Asks read snapshot next) t value after may (passed, goes) key bytes there =
    sym (ap (λ database. finite.get database key) (after_read setting t read snapshot))
    ∙ only_cleared setting (next (answer read (view setting t))) (act_called setting t (Reads read snapshot)).transaction value after
    (may (answer read (view setting t))) goes key bytes there
only_cleared setting (Does mutation next) t value after may (passed, goes) key bytes there =
    cleared_before (writes_of t) (map_below setting t) mutation key bytes may.0
    (sym (ap (λ database. finite.get database key) (wrote setting t mutation passed))
    ∙ only_cleared setting next (act_called setting t (Writes mutation)).transaction value after may.1 goes key bytes there)
only_cleared setting (Allocates space next) t value after may goes key bytes there = absurd may.0

clears_one_only : (layer : Layer) (prefix : List ℕ) → Only clears (λ space. ⊥) (clears_one layer prefix)
unfolding clears_one does
clears_one_only layer prefix =
    both_only clears (λ space. ⊥) (children false layer prefix) _ (children_none clears (λ space. ⊥) false layer prefix)
    (λ found. both_only clears (λ space. ⊥) (there fault.NoSuccessor (strinc prefix)) _
    (there_none clears (λ space. ⊥) fault.NoSuccessor (strinc prefix)) (λ end. (refl, (refl, tt))))

clears_all_only : (bound : ℕ) (layer : Layer) (prefixes : List (List ℕ)) → Only clears (λ space. ⊥) (clears_all bound layer prefixes)
unfolding clears_all
clears_all_only zero layer [] = tt
clears_all_only (suc bound) layer [] = tt
clears_all_only zero layer (prefix ∷ prefixes) = tt
clears_all_only (suc bound) layer (prefix ∷ prefixes) =
    both_only clears (λ space. ⊥) (clears_one layer prefix) _ (clears_one_only layer prefix) (λ found. clears_all_only bound layer _)

-- ---- a path stays in one layer

none_stays : (database : Database) (layer : Layer) (names : List (List ℕ)) → StaysFrom database layer None names
none_stays database layer [] = tt
none_stays database layer (name ∷ names) = tt

-- where values were taken away: the same prefixes are met, as far as they are
stays_cleared : (layer : Layer) (one other : Database)
    → ((key bytes : List ℕ) → finite.get other key ≡ Some bytes → finite.get one key ≡ Some bytes)
    → (found same : Directory) (names : List (List ℕ)) → same.prefix ≡ found.prefix
    → (is_partition found.layer ≡ false → is_partition same.layer ≡ false)
    → StaysFrom one layer (Some found) names → StaysFrom other layer (Some same) names
stays_cleared layer one other before found same [] alike plain stays = tt
stays_cleared layer one other before found same (name ∷ names) alike plain stays = (
  plain stays.0,
  by (finite.get other (entry_of (node_of layer same.prefix) name)) refl
      (λ next next_same. stays_cleared layer one other before next next_same names),
)
  where
    plain_too : (prefix : List ℕ) (value : Option (List ℕ)) → finite.get other (layer_key (node_of layer prefix)) ≡ value
        → is_partition (unwrap_or (finite.get one (layer_key (node_of layer prefix))) []) ≡ false → is_partition (unwrap_or value []) ≡ false
    plain_too prefix None is was = refl
    plain_too prefix (Some value) is was =
        sym (ap (λ value. is_partition (unwrap_or value [])) (before (layer_key (node_of layer prefix)) value is)) ∙ was

    by : (entry : Option (List ℕ)) → finite.get other (entry_of (node_of layer same.prefix) name) ≡ entry
        → ((next next_same : Directory) → next_same.prefix ≡ next.prefix
        → (is_partition next.layer ≡ false → is_partition next_same.layer ≡ false)
        → StaysFrom one layer (Some next) names → StaysFrom other layer (Some next_same) names)
        → StaysFrom other layer (child_in other layer (Some same) name) names
    by None is on = subst (λ entry. StaysFrom other layer (directory_in other layer entry) names) (sym is) (none_stays other layer names)
    by (Some prefix) is on =
        let next = directory prefix (unwrap_or (finite.get one (layer_key (node_of layer prefix))) []) in
        let next_same = directory prefix (unwrap_or (finite.get other (layer_key (node_of layer prefix))) []) in
        let was : finite.get one (entry_of (node_of layer found.prefix) name) ≡ Some prefix =
        ap (λ above. finite.get one (entry_of (node_of layer above) name)) (sym alike)
        ∙ before (entry_of (node_of layer same.prefix) name) prefix is in
        subst (λ entry. StaysFrom other layer (directory_in other layer entry) names) (sym is)
        (on next next_same refl (plain_too prefix (finite.get other (layer_key (node_of layer prefix))) refl)
        (subst (λ entry. StaysFrom one layer (directory_in one layer entry) names) was stays.1))

-- the path of an entry that was cleared is found no more
gone_after : (layer : Layer) (before after : Database) (path : List (List ℕ)) (parent : Directory) → (length path == 0) ≡ false
    → found_in before layer (front path) ≡ Some parent → EntriesKept layer after before
    → finite.get after (entry_of (node_of layer parent.prefix) (last_name path)) ≡ None → found_in after layer path ≡ None
gone_after layer before after path parent some there kept gone =
    last_step after layer (Some (root layer)) path some ∙ by (found_in after layer (front path)) refl
  where
    by : (found : Option Directory) → found_in after layer (front path) ≡ found → child_in after layer found (last_name path) ≡ None
    by None is = refl
    by (Some found) is =
        let on = prefixes_kept layer after before (root layer) (root layer) (front path) found refl kept is in
        let same : on.0 ≡ parent = let both : Some on.0 ≡ Some parent = sym on.1 ∙ there in cc in
        let prefix : found.prefix ≡ parent.prefix = sym on.2 ∙ ap (λ (directory : Directory). directory.prefix) same in
        ap (directory_in after layer)
        (ap (λ above. finite.get after (entry_of (node_of layer above) (last_name path))) prefix ∙ gone)

-- ---- the steps of a removal

cleared_gone : (setting : Setting) (layer : Layer) (path : List (List ℕ)) (parent : Option Directory) (t : Transaction) (value : Done)
    (after : Transaction) → (length path == 0) ≡ false → parent ≡ found_in (view setting t) layer (front path)
    → Goes setting (clears_entry layer (whole parent) (last_name path)) t value after → found_in (view setting after) layer path ≡ None
unfolding clears_entry
cleared_gone setting layer path None t value after some is (gave, left) =
    ap (λ (u : Transaction). found_in (view setting u) layer path) (sym left)
    ∙ last_step (view setting t) layer (Some (root layer)) path some
    ∙ ap (λ found. child_in (view setting t) layer found (last_name path)) (sym is)
cleared_gone setting layer path (Some parent) t value after some is goes =
    let key = entry_of (node_of layer parent.prefix) (last_name path) in
    let left = does_wrote setting (Clear key) t value after goes in
    gone_after layer (view setting t) (view setting after) path parent some (sym is)
    (λ prefix name value there. cleared_before (writes_of t) (map_below setting t) (Clear key) (entry_of (node_of layer prefix) name) value refl
    (sym (ap (λ database. finite.get database (entry_of (node_of layer prefix) name)) left) ∙ there))
    (ap (λ database. finite.get database key) left ∙ cleared_none (writes_of t) (map_below setting t) key)

left_gone : (setting : Setting) (layer : Layer) (path : List (List ℕ)) (t : Transaction) (value : Done) (after : Transaction)
    → (length path == 0) ≡ false → StaysInLayer (view setting t) layer (front path)
    → Goes setting (leaves layer (front path) (last_name path)) t value after
    → found_in (view setting after) layer path ≡ None
unfolding leaves
left_gone setting layer path t value after some stays goes =
    let first = parts setting (find false layer (front path)) _ t value after goes in
    let seen = find_seen setting false layer (front path) t first.0 first.1 stays first.2 in
    cleared_gone setting layer path (found_in (view setting t) layer (front path)) first.1 value after some
    (ap (λ database. found_in database layer (front path)) (sym seen.1))
    (subst (λ parent. Goes setting (clears_entry layer parent (last_name path)) first.1 value after) seen.0 first.3)

one_gone : (setting : Setting) (bound : ℕ) (layer : Layer) (path : List (List ℕ)) (found : Directory) (t : Transaction) (value : DirReply)
    (after : Transaction) → (length path == 0) ≡ false → StaysInLayer (view setting t) layer (front path)
    → Goes setting (removes_one bound layer (front path) (last_name path) found) t value after
    → found_in (view setting after) layer path ≡ None
unfolding removes_one
one_gone setting bound layer path found t value after some stays goes =
    let first = parts setting (clears_all bound layer (found.prefix ∷ [])) _ t value after goes in
    let second = parts setting (leaves layer (front path) (last_name path)) _ first.1 value after first.3 in
    let still : StaysInLayer (view setting first.1) layer (front path) =
    stays_cleared layer (view setting t) (view setting first.1)
    (only_cleared setting (clears_all bound layer (found.prefix ∷ [])) t first.0 first.1 (clears_all_only bound layer (found.prefix ∷ [])) first.2)
    (root layer) (root layer) (front path) refl (λ plain. plain) stays in
    ap (λ (u : Transaction). found_in (view setting u) layer path) (sym second.3.1)
    ∙ left_gone setting layer path first.1 second.0 second.1 some still second.2

found_gone : (setting : Setting) (bound : ℕ) (must_exist : Bool) (layer : Layer) (path : List (List ℕ)) (found : Option Directory)
    (t : Transaction) (value : DirReply) (after : Transaction) → (length path == 0) ≡ false → StaysInLayer (view setting t) layer (front path)
    → found ≡ found_in (view setting t) layer path
    → Goes setting (removes_found bound must_exist layer path found) t value after → found_in (view setting after) layer path ≡ None
found_gone setting bound true layer path None t value after some stays is goes = absurd goes
found_gone setting bound false layer path None t value after some stays is (gave, left) =
    ap (λ (u : Transaction). found_in (view setting u) layer path) (sym left) ∙ sym is
found_gone setting bound true layer path (Some found) t value after some stays is goes =
    one_gone setting bound layer path found t value after some stays goes
found_gone setting bound false layer path (Some found) t value after some stays is goes =
    one_gone setting bound layer path found t value after some stays goes

-- ---- what is checked before

-- it leaves the keys of nodes as they were, and the root is refused
admitted : (setting : Setting) (layer : Layer) (path : List (List ℕ)) (t u : Transaction) → Goes setting (admits to_remove layer path) t done u
    → ((length path == 0) ≡ false)
    × ((key : List ℕ) → IsOfNode layer key → finite.get (view setting u) key ≡ finite.get (view setting t) key)
unfolding admits
admitted setting layer path t u goes =
    let first = parts setting (check true false layer) _ t done u goes in
    let last = λ (allowed : Done). refuse_where (true && length path == 0) fault.EmptyPath in
    let second = parts setting (refuse_where (false && not layer.manual) fault.ManualNotAllowed) last first.1 done u first.3 in
    let allowed = not_refused setting (false && not layer.manual) fault.ManualNotAllowed first.1 second.0 second.1 second.2 in
    let named = not_refused setting (length path == 0) fault.EmptyPath second.1 done u second.3 in (
      named.0,
      λ key other.
          ap (λ (u : Transaction). finite.get (view setting u) key) (sym (allowed.1 ∙ named.1))
          ∙ spared_seen setting t first.1 key (goes_grown setting (spares key) (check true false layer) t first.0 first.1
          (check_only (spares key) (AllocatorsMay (spares key)) true false layer (version_spares layer key other)) first.2),
    )

removed_gone : (setting : Setting) (bound : ℕ) (must_exist : Bool) (layer : Layer) (path : List (List ℕ)) (t : Transaction)
    (value : DirReply)
    (after : Transaction) → StaysInLayer (view setting t) layer path → Goes setting (removing bound must_exist layer path) t value after
    → found_in (view setting after) layer path ≡ None
unfolding removing
removed_gone setting bound must_exist layer path t value after stays goes =
    let first = parts setting (arrives (length path + 1) to_remove layer path) _ t value after goes in
    let one_more : length path + 1 ≡ suc (length path) = omega arith in
    let reached = arrived setting (length path) to_remove layer path t first.0 first.1
    (λ u checked. stays_kept layer (view setting t) (view setting u) (admitted setting layer path t u checked).1 (Some (root layer)) path stays)
    (subst (λ bound. Goes setting (arrives bound to_remove layer path) t first.0 first.1) one_more first.2) in
    let u = reached.0 in
    let before = admitted setting layer path t u reached.1 in
    let there = stays_kept layer (view setting t) (view setting u) before.1 (Some (root layer)) path stays in
    let seen = find_seen setting false layer path u (whole (found_in (view setting u) layer path)) first.1 there reached.2 in
    found_gone setting bound must_exist layer path (found_in (view setting u) layer path) first.1 value after before.0
    (subst (λ database. StaysInLayer database layer (front path)) (sym seen.1) (stays_above (view setting u) layer (Some (root layer)) path there))
    (ap (λ database. found_in database layer path) (sym seen.1))
    (subst (λ (at : Place). Goes setting (removes_found bound must_exist at.layer at.path at.found) first.1 value after) reached.3 first.3)

pub removed_is_gone : AreRemovedGone
unfolding effect
removed_is_gone kind.Remove layer args setting words t removal end stays =
    let bound = length (finite.entries (view setting t)) + length args.path + 2 in
    removed_gone setting bound true layer args.path t reply.Done _ stays
    (went setting words (removing bound true layer args.path) t reply.Done end)
removed_is_gone kind.RemoveIfExists layer args setting words t removal end stays =
    let bound = length (finite.entries (view setting t)) + length args.path + 2 in
    removed_gone setting bound false layer args.path t reply.Done _ stays
    (went setting words (removing bound false layer args.path) t reply.Done end)
removed_is_gone _ layer args setting words t removal end stays = absurd cc
