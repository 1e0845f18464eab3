-- Where Find leaves names, a call does what was done before, and then the same call on the partition's layer.
use Rattle.std.proofs.Common.{◌≡◌, ◌⊎◌, inl, inr, ℕ, zero, suc, ◌+◌, ◌<◌, ◌≤◌, Bool, true, false, cond, List, [], ◌∷◌, ◌++◌, length, map, Option, Some, None, Result, Ok, Err, refl, sym, ap, subst, ◌∙◌, arith}
use Rattle.std.specs.Prelude.{is_some, bytes_eq}
use Rattle.std.proofs.Math.Path.{fun_ext}
use Rattle.std.proofs.lemmas.List.{length-append, length-map}
use Rattle.model_database.specs.Histories.{Setting}
use Rattle.model_database.specs.Transactions.{Transaction}
use Rattle.model_allocator.proofs.Viewing.{itself}
use Rattle.directory_types.specs.declared.Layer.{Layer}
use Rattle.directory_types.specs.declared.DirArgs.{DirArgs}
use Rattle.directory_types.specs.declared.DirKind.{DirKind}
use Rattle.directory_types.specs.declared.DirKind.TheVariants as kind
use Rattle.directory_types.specs.declared.DirReply.{DirReply}
use Rattle.directory_types.specs.declared.DirReply.TheVariants as reply
use Rattle.directory_types.specs.declared.fault.DirFault.{DirFault}
use Rattle.directory_types.specs.declared.fault.DirFault.TheVariants as fault
use Rattle.model_directory.specs.declared.Child.{Child}
use Rattle.model_directory.specs.declared.Directory.{Directory}
use Rattle.model_directory.specs.declared.Lookup.{Lookup}
use Rattle.model_directory.specs.declared.OpenOptions.{OpenOptions}
use Rattle.model_directory.specs.Courses.{Course, Gives, ◌>>=◌, Done, given, Reached, drawing, run}
use Rattle.model_directory.specs.Steps.{there, Found, found_at, find, inside, admits, Place, place, or_inside, arrives, front, last_name}
use Rattle.model_directory.specs.Calls.{opened, to_create, to_create_or_open, to_open, judged, to_look, looks, makes, opening, moving, Move, moves_in, finds_moved, enters_moved, leaves, clears_one, clears_all, removes_one, removes_found, to_remove, removing, to_see, lists, names_below, is_there, course, effect}
use Rattle.directory.proofs.Counting.{seen_keys}
use Rattle.directory.proofs.Emptying.{keys_cleared}
use Rattle.directory_nodes.proofs.Following.{behind, and_then, followed, run-then}
use Rattle.laws_directory.specs.Remaining.{lookup_of, looks_for, looks_for_both, in_front, all_in_front, both_done, AreDoneInside, AreMovedInside}
use Rattle.laws_directory.proofs.Values.{Every, every-behind, every_ended, same-then, in_three, Sets, sets-behind, keys_set}
use Rattle.laws_directory.proofs.Leaving.{AreLeft, find_left, arrives-enough, IsNoLonger, arrives_no_longer, admits_sets, find_sets, arrives_sets, made_at, same_made, makes-enough, moves_from, finds_in_two, AreBothLeft, both_left, moved-enough}

-- ---- names in front of an answer

abbrev fronted : (names : List (List ℕ)) → DirReply → Course DirReply
fronted names answer = Gives (in_front names answer)

ended_in_front : (setting : Setting) (words : ℕ → ℕ) (names : List (List ℕ)) (end : Result DirReply DirFault) (reached : Reached DirReply)
    → and_then end reached (λ value. run setting (behind words reached.words) (fronted names value) reached.transaction)
    ≡ record { transaction = reached.transaction; words = reached.words; end = all_in_front names end }
unfolding run
ended_in_front setting words names (Ok answer) reached =
    ap (λ (drawn : ℕ). record { transaction = reached.transaction; words = drawn; end = Ok (in_front names answer) }) (omega arith)
ended_in_front setting words names (Err fault) reached = refl

run_in_front : (setting : Setting) (words : ℕ → ℕ) (names : List (List ℕ)) (call : Course DirReply) (t : Transaction)
    → run setting words (call >>= fronted names) t
    ≡ record (run setting words call t) { end = all_in_front names (run setting words call t).end }
run_in_front setting words names call t =
    run-then setting words call (fronted names) t
    ∙ ended_in_front setting words names (run setting words call t).end (run setting words call t)

-- ---- a second part that does the same

same_behind : {X Y : Type 0} (setting : Setting) (words : ℕ → ℕ) (one other : X → Course Y) (first : Reached X) (end : Result X DirFault)
    → ((value : X) (left : ℕ → ℕ) → end ≡ Ok value → run setting left (one value) first.transaction ≡ run setting left (other value) first.transaction)
    → and_then end first (λ value. run setting (behind words first.words) (one value) first.transaction)
    ≡ and_then end first (λ value. run setting (behind words first.words) (other value) first.transaction)
same_behind setting words one other first (Ok value) same = ap (drawing first.words) (same value (behind words first.words) refl)
same_behind setting words one other first (Err fault) same = refl

same_second : {X Y : Type 0} (setting : Setting) (words : ℕ → ℕ) (course : Course X) (one other : X → Course Y) (t : Transaction)
    → ((value : X) (left : ℕ → ℕ) → (run setting words course t).end ≡ Ok value
    → run setting left (one value) (run setting words course t).transaction ≡ run setting left (other value) (run setting words course t).transaction)
    → run setting words (course >>= one) t ≡ run setting words (course >>= other) t
same_second setting words course one other t same =
    run-then setting words course one t
    ∙ same_behind setting words one other (run setting words course t) (run setting words course t).end same
    ∙ sym (run-then setting words course other t)

-- where the first part gave a value
behind_first : {X Y : Type 0} (setting : Setting) (words : ℕ → ℕ) (course : Course X) (next : X → Course Y) (t : Transaction) (value : X)
    → (run setting words course t).end ≡ Ok value
    → run setting words (course >>= next) t
    ≡ drawing (run setting words course t).words
    (run setting (behind words (run setting words course t).words) (next value) (run setting words course t).transaction)
behind_first setting words course next t value ends =
    let first = run setting words course t in
    run-then setting words course next t
    ∙ ap (λ end. and_then end first (λ value. run setting (behind words first.words) (next value) first.transaction)) ends

-- ---- a path that leads into a partition

arrives_in_two : (lookup : Lookup) (layer : Layer) (path : List (List ℕ))
    → arrives (length path + 1) lookup layer path
    ≡ looks_for lookup layer path >>= (λ found. or_inside layer path found (λ inner names. arrives (length path) lookup inner names))
unfolding arrives
arrives_in_two lookup layer path =
    let one_more : length path + 1 ≡ suc (length path) = omega arith in
    ap (λ bound. arrives bound lookup layer path) one_more
    ∙ sym (in_three (admits lookup layer path) (λ may. find lookup.snapshot layer path)
    (λ found. or_inside layer path found (λ inner names. arrives (length path) lookup inner names)))

pub looked_left : (lookup : Lookup) (layer : Layer) (path : List (List ℕ)) → Every (AreLeft path) (looks_for lookup layer path)
looked_left lookup layer path =
    every-behind (AreLeft path) (admits lookup layer path) _ (λ may. find_left lookup.snapshot layer path)

pub looked_sets : (lookup : Lookup) (layer : Layer) (path : List (List ℕ)) → Sets 1 (looks_for lookup layer path)
looked_sets lookup layer path =
    sets-behind 1 0 (admits lookup layer path) _ (admits_sets lookup layer path) (λ may. find_sets lookup.snapshot layer path)

-- what a call does at a place is what the call inside does there, with names in front of its answer
abbrev AreAlike : Setting → (names rest : List (List ℕ)) → (most : ℕ) → (outer inner : Place → Course DirReply) → Type 0
AreAlike setting names rest most outer inner = (at : Place) (words : ℕ → ℕ) (t : Transaction) → length at.path ≤ length rest
    → seen_keys setting t ≤ most → run setting words (outer at) t ≡ run setting words (inner at >>= fronted names) t

-- a call that begins with the way of its path
begun : (setting : Setting) (words : ℕ → ℕ) (lookup : Lookup) (layer : Layer) (path : List (List ℕ)) (t : Transaction)
    (partition : Directory)
    (name : List ℕ) (names before : List (List ℕ)) (outer inner : Place → Course DirReply)
    → (run setting words (looks_for lookup layer path) t).end ≡ Ok (Some (found_at partition (name ∷ names)))
    → length (name ∷ names) < length path
    → AreAlike setting before (name ∷ names)
    (seen_keys setting (run setting words (looks_for lookup layer path) t).transaction + (length (name ∷ names) + 1)) outer inner
    → run setting words (arrives (length path + 1) lookup layer path >>= outer) t
    ≡ both_done (run setting words (looks_for lookup layer path) t) before
    (run setting (behind words (run setting words (looks_for lookup layer path) t).words)
    (arrives (length (name ∷ names) + 1) lookup (inside partition.prefix) (name ∷ names) >>= inner)
    (run setting words (looks_for lookup layer path) t).transaction)
begun setting words lookup layer path t partition name names before outer inner ends fewer alike =
    let first = run setting words (looks_for lookup layer path) t in
    let rest = name ∷ names in
    let left = behind words first.words in
    let goes = λ (found : Option Found). or_inside layer path found (λ inner names. arrives (length path) lookup inner names) in
    let way = arrives (length rest + 1) lookup (inside partition.prefix) rest in
    ap (λ way. run setting words (way >>= outer) t) (arrives_in_two lookup layer path)
    ∙ ap (λ call. run setting words call t) (in_three (looks_for lookup layer path) goes outer)
    ∙ behind_first setting words (looks_for lookup layer path) (λ found. goes found >>= outer) t (Some (found_at partition rest)) ends
    ∙ ap (λ way. drawing first.words (run setting left (way >>= outer) first.transaction))
    (arrives-enough (length path) (length rest + 1) lookup (inside partition.prefix) rest fewer (omega arith))
    ∙ ap (drawing first.words) (same_second setting left way outer (λ at. inner at >>= fronted before) first.transaction
    (λ at words is. alike at words (run setting left way first.transaction).transaction
    (every_ended (IsNoLonger rest) setting left way first.transaction at
    (arrives_no_longer (length rest + 1) lookup (inside partition.prefix) rest) is)
    (keys_set setting left (length rest + 1) way first.transaction
    (arrives_sets (length rest + 1) lookup (inside partition.prefix) rest)))
    ∙ ap (λ call. run setting left call first.transaction) (sym (in_three way inner (fronted before)))
    ∙ run_in_front setting left before (way >>= inner) first.transaction)

-- ---- create, create_or_open, open

-- what is done at a place by a call with this path, where a parent is made by this bound
abbrev opens_at : OpenOptions → (layer_name prefix : Option (List ℕ)) → (bound : ℕ) → (path : List (List ℕ)) → Place → Course DirReply
opens_at options layer_name prefix bound path at =
    ((given (judged options layer_name at.found) >>= (λ found. Gives (place at.layer at.path found)))
    >>= made_at bound layer_name prefix) >>= (λ found. Gives (opened path found))

opening_is : (options : OpenOptions) (layer : Layer) (args : DirArgs)
    → opening options layer args
    ≡ arrives (length args.path + 1) (to_look options args.prefix) layer args.path
    >>= opens_at options args.layer args.prefix (length args.path) args.path
unfolding opening makes looks
opening_is options layer args =
    let way = arrives (length args.path + 1) (to_look options args.prefix) layer args.path in
    let judge = λ (at : Place). given (judged options args.layer at.found) >>= (λ found. Gives (place at.layer at.path found)) in
    let one_more : length args.path + 1 ≡ suc (length args.path) = omega arith in
    ap (λ bound. makes bound options layer args.path args.layer args.prefix >>= (λ found. Gives (opened args.path found))) one_more
    ∙ ap (λ made. made >>= (λ found. Gives (opened args.path found)))
    (in_three way judge (made_at (length args.path) args.layer args.prefix))
    ∙ in_three way (λ at. judge at >>= made_at (length args.path) args.layer args.prefix) (λ found. Gives (opened args.path found))

opens_alike : (setting : Setting) (options : OpenOptions) (layer_name prefix : Option (List ℕ)) (path before rest : List (List ℕ)) (most : ℕ)
    → path ≡ before ++ rest → length rest < length path
    → AreAlike setting before rest most (opens_at options layer_name prefix (length path) path)
    (opens_at options layer_name prefix (length rest) rest)
opens_alike setting options layer_name prefix path before rest most is fewer at words t le few =
    let judge : Course Place = given (judged options layer_name at.found) >>= (λ found. Gives (place at.layer at.path found)) in
    let same : judge >>= made_at (length path) layer_name prefix ≡ judge >>= made_at (length rest) layer_name prefix =
    same-then (IsNoLonger rest) judge (made_at (length path) layer_name prefix) (made_at (length rest) layer_name prefix)
    (every-behind (IsNoLonger rest) (given (judged options layer_name at.found)) _ (λ found. le))
    (λ there le. same_made (length path) (length rest) layer_name prefix there
    (λ names less. makes-enough (length path) (length rest) to_create_or_open there.layer names None None (omega (arith, le, less, fewer))
    (omega (arith, le, less)))) in
    ap (λ call. run setting words call t)
    (ap (λ made. made >>= (λ found. Gives (opened path found))) same
    ∙ ap (λ whole. (judge >>= made_at (length rest) layer_name prefix) >>= (λ found. Gives (opened whole found))) is
    ∙ sym (in_three (judge >>= made_at (length rest) layer_name prefix) (λ found. Gives (opened rest found)) (fronted before)))

-- ---- remove, remove_if_exists

-- as many rounds as there are prefixes and keys are enough
clears-enough : (setting : Setting) (words : ℕ → ℕ) (one other : ℕ) (layer : Layer) (prefixes : List (List ℕ)) (t : Transaction)
    → seen_keys setting t + length prefixes ≤ one → seen_keys setting t + length prefixes ≤ other
    → run setting words (clears_all one layer prefixes) t ≡ run setting words (clears_all other layer prefixes) t
unfolding clears_all
clears-enough setting words zero zero layer [] t few many = refl
clears-enough setting words zero (suc other) layer [] t few many = refl
clears-enough setting words (suc one) zero layer [] t few many = refl
clears-enough setting words (suc one) (suc other) layer [] t few many = refl
clears-enough setting words zero other layer (prefix ∷ prefixes) t few many = absurd (omega arith)
clears-enough setting words (suc one) zero layer (prefix ∷ prefixes) t few many = absurd (omega arith)
clears-enough setting words (suc one) (suc other) layer (prefix ∷ prefixes) t few many =
    same_second setting words (clears_one layer prefix)
    (λ found. clears_all one layer (prefixes ++ map (λ child. child.prefix) found))
    (λ found. clears_all other layer (prefixes ++ map (λ child. child.prefix) found)) t
    (λ found left is.
    let fewer = keys_cleared setting words layer prefix t found is in
    let all : length (prefixes ++ map (λ (child : Child). child.prefix) found) ≡ length prefixes + length found =
    length-append prefixes (map (λ (child : Child). child.prefix) found)
    ∙ ap (λ n. length prefixes + n) (length-map found (λ (child : Child). child.prefix)) in
    clears-enough setting left one other layer (prefixes ++ map (λ child. child.prefix) found)
    (run setting words (clears_one layer prefix) t).transaction (omega (arith, fewer, all)) (omega (arith, fewer, all)))

one_removed : (layer : Layer) (above before : List (List ℕ)) (name : List ℕ) (bound : ℕ) (found : Directory)
    → removes_one bound layer above name found >>= fronted before ≡ removes_one bound layer above name found
unfolding removes_one
one_removed layer above before name bound found =
    in_three (clears_all bound layer (found.prefix ∷ [])) (λ cleared. leaves layer above name >>= (λ entry. Gives reply.Done)) (fronted before)
    ∙ ap (λ (then : Done → Course DirReply). clears_all bound layer (found.prefix ∷ []) >>= then)
    (fun_ext (λ cleared. in_three (leaves layer above name) (λ entry. Gives reply.Done) (fronted before)))

same_removed : (setting : Setting) (words : ℕ → ℕ) (one other : ℕ) (layer : Layer) (above : List (List ℕ)) (name : List ℕ) (found : Directory)
    (t : Transaction) → seen_keys setting t + 1 ≤ one → seen_keys setting t + 1 ≤ other
    → run setting words (removes_one one layer above name found) t ≡ run setting words (removes_one other layer above name found) t
unfolding removes_one
same_removed setting words one other layer above name found t few many =
    let next = λ (cleared : Done). leaves layer above name >>= (λ entry. Gives reply.Done) in
    run-then setting words (clears_all one layer (found.prefix ∷ [])) next t
    ∙ ap (followed setting words next) (clears-enough setting words one other layer (found.prefix ∷ []) t (omega (arith, few)) (omega (arith, many)))
    ∙ sym (run-then setting words (clears_all other layer (found.prefix ∷ [])) next t)

removed_alike : (setting : Setting) (words : ℕ → ℕ) (one other : ℕ) (must_exist : Bool) (layer : Layer) (path before : List (List ℕ))
    (found : Option Directory) (t : Transaction) → seen_keys setting t + 1 ≤ one → seen_keys setting t + 1 ≤ other
    → run setting words (removes_found one must_exist layer path found) t
    ≡ run setting words (removes_found other must_exist layer path found >>= fronted before) t
removed_alike setting words one other true layer path before None t few many = refl
removed_alike setting words one other false layer path before None t few many = refl
removed_alike setting words one other true layer path before (Some found) t few many =
    same_removed setting words one other layer (front path) (last_name path) found t few many
    ∙ ap (λ call. run setting words call t) (sym (one_removed layer (front path) before (last_name path) other found))
removed_alike setting words one other false layer path before (Some found) t few many =
    same_removed setting words one other layer (front path) (last_name path) found t few many
    ∙ ap (λ call. run setting words call t) (sym (one_removed layer (front path) before (last_name path) other found))

removing_inside : (setting : Setting) (words : ℕ → ℕ) (must_exist : Bool) (layer : Layer) (path : List (List ℕ)) (t : Transaction)
    (partition : Directory) (name : List ℕ) (names before : List (List ℕ))
    → (run setting words (looks_for to_remove layer path) t).end ≡ Ok (Some (found_at partition (name ∷ names)))
    → length (name ∷ names) < length path
    → run setting words (removing (seen_keys setting t + length path + 2) must_exist layer path) t
    ≡ both_done (run setting words (looks_for to_remove layer path) t) before
    (run setting (behind words (run setting words (looks_for to_remove layer path) t).words)
    (removing (seen_keys setting (run setting words (looks_for to_remove layer path) t).transaction + length (name ∷ names) + 2) must_exist
    (inside partition.prefix) (name ∷ names)) (run setting words (looks_for to_remove layer path) t).transaction)
unfolding removing
removing_inside setting words must_exist layer path t partition name names before ends fewer =
    let first = run setting words (looks_for to_remove layer path) t in
    let grown = keys_set setting words 1 (looks_for to_remove layer path) t (looked_sets to_remove layer path) in
    let one = seen_keys setting t + length path + 2 in
    let other = seen_keys setting first.transaction + length (name ∷ names) + 2 in
    begun setting words to_remove layer path t partition name names before
    (λ at. removes_found one must_exist at.layer at.path at.found) (λ at. removes_found other must_exist at.layer at.path at.found) ends fewer
    (λ at words u le few. removed_alike setting words one other must_exist at.layer at.path before at.found u
    (omega (arith, few, grown, fewer)) (omega (arith, few)))

-- ---- list, exists

abbrev lists_at : (snapshot : Bool) → Place → Course DirReply
lists_at snapshot at =
    (there fault.Missing at.found >>= (λ one. lists snapshot at.layer one >>= (λ below. Gives (map (λ child. child.name) below))))
    >>= (λ names. Gives (reply.Names names))

listing_is : (snapshot : Bool) (layer : Layer) (path : List (List ℕ))
    → names_below snapshot layer path >>= (λ names. Gives (reply.Names names))
    ≡ arrives (length path + 1) (to_see snapshot) layer path >>= lists_at snapshot
unfolding names_below
listing_is snapshot layer path =
    in_three (arrives (length path + 1) (to_see snapshot) layer path)
    (λ at. there fault.Missing at.found >>= (λ one. lists snapshot at.layer one >>= (λ below. Gives (map (λ child. child.name) below))))
    (λ names. Gives (reply.Names names))

lists_alike : (setting : Setting) (snapshot : Bool) (before rest : List (List ℕ)) (most : ℕ)
    → AreAlike setting before rest most (lists_at snapshot) (lists_at snapshot)
lists_alike setting snapshot before rest most at words t le few =
    ap (λ call. run setting words call t)
    (sym (in_three (there fault.Missing at.found >>= (λ one. lists snapshot at.layer one >>= (λ below. Gives (map (λ child. child.name) below))))
    (λ names. Gives (reply.Names names)) (fronted before)))

abbrev sees_at : Place → Course DirReply
sees_at at = Gives (reply.Is (is_some at.found))

seeing_is : (snapshot : Bool) (layer : Layer) (path : List (List ℕ))
    → is_there snapshot layer path >>= (λ is. Gives (reply.Is is)) ≡ arrives (length path + 1) (to_see snapshot) layer path >>= sees_at
unfolding is_there
seeing_is snapshot layer path =
    in_three (arrives (length path + 1) (to_see snapshot) layer path) (λ at. Gives (is_some at.found)) (λ is. Gives (reply.Is is))

-- ---- each call

-- what every case shows, by the names before those that remain
abbrev IsDoneInside : DirKind → Lookup → Layer → DirArgs → Setting → (words : ℕ → ℕ) → Transaction → Directory → (before rest : List (List ℕ)) → Type 0
IsDoneInside its_kind lookup layer args setting words t partition before rest =
    effect its_kind layer args setting words t
    ≡ both_done (run setting words (looks_for lookup layer args.path) t) before
    (effect its_kind (inside partition.prefix) (record args { path = rest }) setting
    (λ place. words ((run setting words (looks_for lookup layer args.path) t).words + place))
    (run setting words (looks_for lookup layer args.path) t).transaction)

opened_inside : (options : OpenOptions) (layer : Layer) (args : DirArgs) (setting : Setting) (words : ℕ → ℕ) (t : Transaction)
    (partition : Directory) (name : List ℕ) (names before : List (List ℕ)) → args.path ≡ before ++ name ∷ names
    → length (name ∷ names) < length args.path
    → (run setting words (looks_for (to_look options args.prefix) layer args.path) t).end ≡ Ok (Some (found_at partition (name ∷ names)))
    → run setting words (opening options layer args) t
    ≡ both_done (run setting words (looks_for (to_look options args.prefix) layer args.path) t) before
    (run setting (behind words (run setting words (looks_for (to_look options args.prefix) layer args.path) t).words)
    (opening options (inside partition.prefix) (record args { path = name ∷ names }))
    (run setting words (looks_for (to_look options args.prefix) layer args.path) t).transaction)
opened_inside options layer args setting words t partition name names before is fewer ends =
    let lookup = to_look options args.prefix in
    let first = run setting words (looks_for lookup layer args.path) t in
    ap (λ call. run setting words call t) (opening_is options layer args)
    ∙ begun setting words lookup layer args.path t partition name names before
    (opens_at options args.layer args.prefix (length args.path) args.path)
    (opens_at options args.layer args.prefix (length (name ∷ names)) (name ∷ names)) ends fewer
    (opens_alike setting options args.layer args.prefix args.path before (name ∷ names) _ is fewer)
    ∙ ap (λ call. both_done first before (run setting (behind words first.words) call first.transaction))
    (sym (opening_is options (inside partition.prefix) (record args { path = name ∷ names })))

listed_inside : (snapshot : Bool) (layer : Layer) (path : List (List ℕ)) (setting : Setting) (words : ℕ → ℕ) (t : Transaction)
    (partition : Directory) (name : List ℕ) (names before : List (List ℕ)) → length (name ∷ names) < length path
    → (run setting words (looks_for (to_see snapshot) layer path) t).end ≡ Ok (Some (found_at partition (name ∷ names)))
    → run setting words (names_below snapshot layer path >>= (λ names. Gives (reply.Names names))) t
    ≡ both_done (run setting words (looks_for (to_see snapshot) layer path) t) before
    (run setting (behind words (run setting words (looks_for (to_see snapshot) layer path) t).words)
    (names_below snapshot (inside partition.prefix) (name ∷ names) >>= (λ names. Gives (reply.Names names)))
    (run setting words (looks_for (to_see snapshot) layer path) t).transaction)
listed_inside snapshot layer path setting words t partition name names before fewer ends =
    let first = run setting words (looks_for (to_see snapshot) layer path) t in
    ap (λ call. run setting words call t) (listing_is snapshot layer path)
    ∙ begun setting words (to_see snapshot) layer path t partition name names before (lists_at snapshot) (lists_at snapshot) ends fewer
    (lists_alike setting snapshot before (name ∷ names) _)
    ∙ ap (λ call. both_done first before (run setting (behind words first.words) call first.transaction))
    (sym (listing_is snapshot (inside partition.prefix) (name ∷ names)))

seen_inside : (snapshot : Bool) (layer : Layer) (path : List (List ℕ)) (setting : Setting) (words : ℕ → ℕ) (t : Transaction)
    (partition : Directory) (name : List ℕ) (names before : List (List ℕ)) → length (name ∷ names) < length path
    → (run setting words (looks_for (to_see snapshot) layer path) t).end ≡ Ok (Some (found_at partition (name ∷ names)))
    → run setting words (is_there snapshot layer path >>= (λ is. Gives (reply.Is is))) t
    ≡ both_done (run setting words (looks_for (to_see snapshot) layer path) t) before
    (run setting (behind words (run setting words (looks_for (to_see snapshot) layer path) t).words)
    (is_there snapshot (inside partition.prefix) (name ∷ names) >>= (λ is. Gives (reply.Is is)))
    (run setting words (looks_for (to_see snapshot) layer path) t).transaction)
seen_inside snapshot layer path setting words t partition name names before fewer ends =
    let first = run setting words (looks_for (to_see snapshot) layer path) t in
    ap (λ call. run setting words call t) (seeing_is snapshot layer path)
    ∙ begun setting words (to_see snapshot) layer path t partition name names before sees_at sees_at ends fewer (λ at words u le few. refl)
    ∙ ap (λ call. both_done first before (run setting (behind words first.words) call first.transaction))
    (sym (seeing_is snapshot (inside partition.prefix) (name ∷ names)))

-- the lookup of a kind is the one
the_lookup : (one other : Lookup) → Some one ≡ Some other → one ≡ other
the_lookup one other is = cc

by_kind : (its_kind : DirKind) (lookup : Lookup) (layer : Layer) (args : DirArgs) (setting : Setting) (words : ℕ → ℕ) (t : Transaction)
    (partition : Directory) (name : List ℕ) (names before : List (List ℕ)) → lookup_of its_kind args ≡ Some lookup
    → (run setting words (looks_for lookup layer args.path) t).end ≡ Ok (Some (found_at partition (name ∷ names)))
    → args.path ≡ before ++ name ∷ names → length (name ∷ names) < length args.path
    → IsDoneInside its_kind lookup layer args setting words t partition before (name ∷ names)
unfolding effect
by_kind kind.Create lookup layer args setting words t partition name names before asked ends is fewer =
    subst (λ lookup. (run setting words (looks_for lookup layer args.path) t).end ≡ Ok (Some (found_at partition (name ∷ names)))
    → IsDoneInside kind.Create lookup layer args setting words t partition before (name ∷ names)) (the_lookup _ lookup asked)
    (opened_inside to_create layer args setting words t partition name names before is fewer) ends
by_kind kind.CreateOrOpen lookup layer args setting words t partition name names before asked ends is fewer =
    subst (λ lookup. (run setting words (looks_for lookup layer args.path) t).end ≡ Ok (Some (found_at partition (name ∷ names)))
    → IsDoneInside kind.CreateOrOpen lookup layer args setting words t partition before (name ∷ names)) (the_lookup _ lookup asked)
    (opened_inside to_create_or_open layer args setting words t partition name names before is fewer) ends
by_kind kind.Open lookup layer args setting words t partition name names before asked ends is fewer =
    subst (λ lookup. (run setting words (looks_for lookup layer args.path) t).end ≡ Ok (Some (found_at partition (name ∷ names)))
    → IsDoneInside kind.Open lookup layer args setting words t partition before (name ∷ names)) (the_lookup _ lookup asked)
    (opened_inside (to_open args.snapshot) layer args setting words t partition name names before is fewer) ends
by_kind kind.MoveTo lookup layer args setting words t partition name names before asked ends is fewer = absurd cc
by_kind kind.Remove lookup layer args setting words t partition name names before asked ends is fewer =
    subst (λ lookup. (run setting words (looks_for lookup layer args.path) t).end ≡ Ok (Some (found_at partition (name ∷ names)))
    → IsDoneInside kind.Remove lookup layer args setting words t partition before (name ∷ names)) (the_lookup _ lookup asked)
    (λ ends. removing_inside setting words true layer args.path t partition name names before ends fewer) ends
by_kind kind.RemoveIfExists lookup layer args setting words t partition name names before asked ends is fewer =
    subst (λ lookup. (run setting words (looks_for lookup layer args.path) t).end ≡ Ok (Some (found_at partition (name ∷ names)))
    → IsDoneInside kind.RemoveIfExists lookup layer args setting words t partition before (name ∷ names)) (the_lookup _ lookup asked)
    (λ ends. removing_inside setting words false layer args.path t partition name names before ends fewer) ends
by_kind kind.List lookup layer args setting words t partition name names before asked ends is fewer =
    subst (λ lookup. (run setting words (looks_for lookup layer args.path) t).end ≡ Ok (Some (found_at partition (name ∷ names)))
    → IsDoneInside kind.List lookup layer args setting words t partition before (name ∷ names)) (the_lookup _ lookup asked)
    (listed_inside args.snapshot layer args.path setting words t partition name names before fewer) ends
by_kind kind.Exists lookup layer args setting words t partition name names before asked ends is fewer =
    subst (λ lookup. (run setting words (looks_for lookup layer args.path) t).end ≡ Ok (Some (found_at partition (name ∷ names)))
    → IsDoneInside kind.Exists lookup layer args setting words t partition before (name ∷ names)) (the_lookup _ lookup asked)
    (seen_inside args.snapshot layer args.path setting words t partition name names before fewer) ends
by_kind kind.Log lookup layer args setting words t partition name names before asked ends is fewer = absurd cc

fewer_than : (names path : List (List ℕ)) (name : List ℕ) → (length (name ∷ names) ≡ 0) ⊎ (length (name ∷ names) < length path)
    → length (name ∷ names) < length path
fewer_than names path name (inl none) = absurd (omega arith)
fewer_than names path name (inr less) = less

pub done_inside : AreDoneInside
done_inside its_kind lookup layer args setting words t partition name names asked ends =
    let left = every_ended (AreLeft args.path) setting words (looks_for lookup layer args.path) t (Some (found_at partition (name ∷ names)))
    (looked_left lookup layer args.path) ends in
    let fewer = fewer_than names args.path name left.1 in
    (left.0.0, left.0.1, by_kind its_kind lookup layer args setting words t partition name names left.0.0 asked ends left.0.1 fewer)

-- ---- move_to

-- what is done with what is moved
abbrev moves_at : (new_path : List (List ℕ)) → Move → Course DirReply
moves_at new_path at = enters_moved at.layer (front at.new_path) (last_name at.new_path) at.moved
    >>= (λ entry. leaves at.layer (front at.path) (last_name at.path) >>= (λ cleared. Gives (opened new_path at.moved)))

moves_in_front : (before rest : List (List ℕ)) (at : Move) → moves_at (before ++ rest) at ≡ moves_at rest at >>= fronted before
moves_in_front before rest at =
    let enter = enters_moved at.layer (front at.new_path) (last_name at.new_path) at.moved in
    let leave = leaves at.layer (front at.path) (last_name at.path) in
    sym (in_three enter (λ entry. leave >>= (λ cleared. Gives (opened rest at.moved))) (fronted before)
    ∙ ap (λ (then : Done → Course DirReply). enter >>= then)
    (fun_ext (λ entry. in_three leave (λ cleared. Gives (opened rest at.moved)) (fronted before))))

-- where both lead to one partition
goes_inside : (bound : ℕ) (layer : Layer) (path new_path : List (List ℕ)) (partition same : Directory) (name new_name : List ℕ)
    (names new_names : List (List ℕ)) → partition.prefix ≡ same.prefix
    → moves_from bound layer path new_path (Some (found_at partition (name ∷ names)), Some (found_at same (new_name ∷ new_names)))
    ≡ finds_moved bound (inside partition.prefix) (name ∷ names) (new_name ∷ new_names)
goes_inside bound layer path new_path partition same name new_name names new_names is =
    let one : bytes_eq partition.prefix same.prefix ≡ true =
    subst (λ prefix. bytes_eq partition.prefix prefix ≡ true) is (itself partition.prefix) in
    ap (λ b. given (cond b (Ok (Some (new_name ∷ new_names))) (Err fault.AcrossPartitions))
    >>= (λ further. moves_in layer path new_path (found_at partition (name ∷ names)) further
    (λ inner names new_names. finds_moved bound inner names new_names))) one

pub moved_inside : AreMovedInside
unfolding effect moving
moved_inside layer args setting words t partition same name new_name names new_names prefix ends =
    let both = looks_for_both layer args.path args.new_path in
    let first = run setting words both t in
    let rest = name ∷ names in
    let new_rest = new_name ∷ new_names in
    let left = every_ended (AreBothLeft args.path args.new_path) setting words both t (Some (found_at partition rest), Some (found_at same new_rest))
    (both_left layer args.path args.new_path) ends in
    let fewer = fewer_than names args.path name left.0 in
    let before = left.1.0 in
    let words_left = behind words first.words in
    let next = moves_from (length args.path) layer args.path args.new_path in
    let one_more : length args.path + 1 ≡ suc (length args.path) = omega arith in
    let way = finds_moved (length rest + 1) (inside partition.prefix) rest new_rest in (
      before,
      left.1.1,
      ap (λ bound. run setting words (finds_moved bound layer args.path args.new_path >>= moves_at args.new_path) t) one_more
          ∙ ap (λ found. run setting words (found >>= moves_at args.new_path) t) (finds_in_two (length args.path) layer args.path args.new_path)
          ∙ ap (λ call. run setting words call t) (in_three both next (moves_at args.new_path))
          ∙ behind_first setting words both (λ found. next found >>= moves_at args.new_path) t
          (Some (found_at partition rest), Some (found_at same new_rest)) ends
          ∙ ap (λ found. drawing first.words (run setting words_left (found >>= moves_at args.new_path) first.transaction))
          (goes_inside (length args.path) layer args.path args.new_path partition same name new_name names new_names prefix
          ∙ moved-enough (length args.path) (length rest + 1) (inside partition.prefix) rest new_rest fewer (omega arith))
          ∙ ap (λ path. drawing first.words (run setting words_left (way >>= moves_at path) first.transaction)) left.1.1
          ∙ ap (λ (then : Move → Course DirReply). drawing first.words (run setting words_left (way >>= then) first.transaction))
          (fun_ext (moves_in_front before new_rest))
          ∙ ap (λ call. drawing first.words (run setting words_left call first.transaction))
          (sym (in_three way (moves_at new_rest) (fronted before)))
          ∙ ap (drawing first.words) (run_in_front setting words_left before (way >>= moves_at new_rest) first.transaction),
    )
