-- What names Find leaves, and that as many rounds as there are names are enough, whatever the bound.
use Rattle.std.proofs.Common.{◌≡◌, ◌⊎◌, inl, inr, ℕ, zero, suc, ◌+◌, ◌<◌, ◌≤◌, Bool, true, false, cond, List, [], ◌∷◌, ◌++◌, length, Option, Some, None, Result, Ok, Err, refl, sym, ap, ◌∙◌, arith}
use Rattle.std.specs.Prelude.{⊤, not, ◌&&◌, ◌==◌, bytes_eq, unwrap_or}
use Rattle.std.proofs.Math.Path.{fun_ext}
use Rattle.std.proofs.lemmas.List.{length-append}
use Rattle.std.specs.List.{starts_with}
use Rattle.directory_types.specs.declared.Layer.{Layer}
use Rattle.directory_types.specs.declared.fault.DirFault.{DirFault}
use Rattle.directory_types.specs.declared.fault.DirFault.TheVariants as fault
use Rattle.model_directory.specs.declared.Directory.{Directory}
use Rattle.model_directory.specs.declared.Lookup.{Lookup}
use Rattle.model_directory.specs.declared.OpenOptions.{OpenOptions}
use Rattle.model_directory.specs.Courses.{Course, Gives, ◌>>=◌, Done, given, does, value_in, value_of}
use Rattle.model_directory.specs.Nodes.{version_key, is_partition}
use Rattle.model_directory.specs.Steps.{refuse_where, version_read, version_checked, there, check, root, below, directory_at, child_of, Found, found_at, find_from, find, inside, admits, Place, or_inside, arrives, front, last_name}
use Rattle.model_directory.specs.Calls.{to_create_or_open, to_look, judged, looks, takes_prefix, enters, or_else, or_root, makes, Move, moves_on, moves_in, finds_moved}
use Rattle.laws_directory.specs.Remaining.{looks_for_both}
use Rattle.laws_directory.proofs.Values.{Every, every-then, every-behind, every_more, same-then, same-behind, in_three, Sets, sets_more, sets-then, sets-behind}

-- ---- the names that Find leaves

-- they are the last names of the path
abbrev pub AreLast : (names : List (List ℕ)) → Option Found → Type 0
AreLast names None = ⊤
AreLast names (Some found) = (before : List (List ℕ)) × (names ≡ before ++ found.rest)

one_before : (name : List ℕ) (names : List (List ℕ)) (found : Option Found) → AreLast names found → AreLast (name ∷ names) found
one_before name names None last = tt
one_before name names (Some found) last = (name ∷ last.0, ap (λ list. name ∷ list) last.1)

from_last : (snapshot : Bool) (layer : Layer) (at : Directory) (names : List (List ℕ)) → Every (AreLast names) (find_from snapshot layer at names)
unfolding find_from
from_last snapshot layer at [] = ([], refl)
from_last snapshot layer at (name ∷ names) = by (is_partition at.layer) (λ next. from_last snapshot layer next names)
  where
    behind : (child : Option Directory) → ((next : Directory) → Every (AreLast names) (find_from snapshot layer next names))
        → Every (AreLast (name ∷ names)) (below child (λ next. find_from snapshot layer next names))
    behind None on = tt
    behind (Some next) on =
        every_more (AreLast names) (AreLast (name ∷ names)) (find_from snapshot layer next names) (one_before name names) (on next)

    by : (is : Bool) → ((next : Directory) → Every (AreLast names) (find_from snapshot layer next names))
        → Every (AreLast (name ∷ names)) (cond is (Gives (Some (found_at at (name ∷ names))))
        (child_of snapshot layer at name >>= (λ child. below child (λ next. find_from snapshot layer next names))))
    by true on = ([], refl)
    by false on =
        every-behind (AreLast (name ∷ names)) (child_of snapshot layer at name)
        (λ child. below child (λ next. find_from snapshot layer next names)) (λ child. behind child on)

-- names that remain are fewer than those of the path, since the root is no partition
abbrev pub AreFewer : (path : List (List ℕ)) → Option Found → Type 0
AreFewer path None = ⊤
AreFewer path (Some found) = (length found.rest ≡ 0) ⊎ (length found.rest < length path)

abbrev pub AreLeft : (path : List (List ℕ)) → Option Found → Type 0
AreLeft path found = AreLast path found × AreFewer path found

left_behind_root : (name : List ℕ) (names : List (List ℕ)) (found : Option Found) → AreLast names found → AreLeft (name ∷ names) found
left_behind_root name names None last = (tt, tt)
left_behind_root name names (Some found) last = (
  (name ∷ last.0, ap (λ list. name ∷ list) last.1),
  inr (omega (arith, ap length last.1, length-append last.0 found.rest)),
)

pub find_left : (snapshot : Bool) (layer : Layer) (path : List (List ℕ)) → Every (AreLeft path) (find snapshot layer path)
unfolding find find_from
find_left snapshot layer [] = (([], refl), inl refl)
find_left snapshot layer (name ∷ names) =
    every-behind (AreLeft (name ∷ names)) (child_of snapshot layer (root layer) name)
    (λ child. below child (λ next. find_from snapshot layer next names)) behind
  where
    behind : (child : Option Directory) → Every (AreLeft (name ∷ names)) (below child (λ next. find_from snapshot layer next names))
    behind None = (tt, tt)
    behind (Some next) =
        every_more (AreLast names) (AreLeft (name ∷ names)) (find_from snapshot layer next names) (left_behind_root name names)
        (from_last snapshot layer next names)

-- ---- where a path ends

-- names are looked for in the partition's layer by one bound or another
same_inside : (layer : Layer) (path : List (List ℕ)) (one other : Layer → List (List ℕ) → Course Place) (found : Option Found)
    → AreFewer path found
    → ((inner : Layer) (names : List (List ℕ)) → length names < length path → one inner names ≡ other inner names)
    → or_inside layer path found one ≡ or_inside layer path found other
same_inside layer path one other None fewer same = refl
same_inside layer path one other (Some found) fewer same = by found.directory found.rest fewer
  where
    by : (at : Directory) (rest : List (List ℕ)) → (length rest ≡ 0) ⊎ (length rest < length path)
        → or_inside layer path (Some (found_at at rest)) one ≡ or_inside layer path (Some (found_at at rest)) other
    by at [] fewer = refl
    by at (name ∷ names) (inl none) = absurd (omega arith)
    by at (name ∷ names) (inr less) = same (inside at.prefix) (name ∷ names) less

pub arrives-enough : (one other : ℕ) (lookup : Lookup) (layer : Layer) (path : List (List ℕ)) → length path < one → length path < other
    → arrives one lookup layer path ≡ arrives other lookup layer path
unfolding arrives
arrives-enough zero other lookup layer path few many = absurd (omega arith)
arrives-enough (suc one) zero lookup layer path few many = absurd (omega arith)
arrives-enough (suc one) (suc other) lookup layer path few many =
    same-behind (admits lookup layer path) _ _
    (λ may. same-then (AreLeft path) (find lookup.snapshot layer path) _ _ (find_left lookup.snapshot layer path)
    (λ found left. same_inside layer path (λ inner names. arrives one lookup inner names) (λ inner names. arrives other lookup inner names)
    found left.1 (λ inner names less. arrives-enough one other lookup inner names (omega arith) (omega arith))))

-- the path in the layer where it ends is no longer
abbrev pub IsNoLonger : (path : List (List ℕ)) → Place → Type 0
IsNoLonger path at = length at.path ≤ length path

inside_no_longer : (bound : ℕ) (lookup : Lookup) (layer : Layer) (path : List (List ℕ)) (found : Option Found) → AreFewer path found
    → ((inner : Layer) (names : List (List ℕ)) → Every (IsNoLonger names) (arrives bound lookup inner names))
    → Every (IsNoLonger path) (or_inside layer path found (λ inner names. arrives bound lookup inner names))
inside_no_longer bound lookup layer path None fewer on = omega arith
inside_no_longer bound lookup layer path (Some found) fewer on = by found.directory found.rest fewer
  where
    by : (at : Directory) (rest : List (List ℕ)) → (length rest ≡ 0) ⊎ (length rest < length path)
        → Every (IsNoLonger path) (or_inside layer path (Some (found_at at rest)) (λ inner names. arrives bound lookup inner names))
    by at [] fewer = omega arith
    by at (name ∷ names) (inl none) = absurd (omega arith)
    by at (name ∷ names) (inr less) =
        every_more (IsNoLonger (name ∷ names)) (IsNoLonger path) (arrives bound lookup (inside at.prefix) (name ∷ names))
        (λ place le. omega (arith, le, less)) (on (inside at.prefix) (name ∷ names))

pub arrives_no_longer : (bound : ℕ) (lookup : Lookup) (layer : Layer) (path : List (List ℕ))
    → Every (IsNoLonger path) (arrives bound lookup layer path)
unfolding arrives
arrives_no_longer zero lookup layer path = omega arith
arrives_no_longer (suc bound) lookup layer path =
    every-behind (IsNoLonger path) (admits lookup layer path) _
    (λ may. every-then (AreLeft path) (IsNoLonger path) (find lookup.snapshot layer path) _ (find_left lookup.snapshot layer path)
    (λ found left. inside_no_longer bound lookup layer path found left.1 (λ inner names. arrives_no_longer bound lookup inner names)))

-- ---- each layer on the way sets its version at most

refuse_sets : (refuses : Bool) (fault : DirFault) → Sets 0 (refuse_where refuses fault)
refuse_sets true fault = tt
refuse_sets false fault = tt

given_sets : {X : Type 0} (result : Result X DirFault) → Sets 0 (given result)
given_sets (Ok value) = tt
given_sets (Err fault) = tt

checked_sets : (layer : Layer) (writes : Bool) (value : Option (List ℕ)) → Sets 1 (version_checked layer writes value)
unfolding version_checked does
checked_sets layer true None = (omega arith, tt)
checked_sets layer false None = tt
checked_sets layer true (Some value) =
    sets_more 0 1 (given (version_read (version_key layer) true value)) (omega arith) (given_sets (version_read (version_key layer) true value))
checked_sets layer false (Some value) =
    sets_more 0 1 (given (version_read (version_key layer) false value)) (omega arith) (given_sets (version_read (version_key layer) false value))

check_sets : (writes snapshot : Bool) (layer : Layer) → Sets 1 (check writes snapshot layer)
unfolding check value_of
check_sets writes snapshot layer = λ answer. checked_sets layer writes (value_in answer)

pub admits_sets : (lookup : Lookup) (layer : Layer) (path : List (List ℕ)) → Sets 1 (admits lookup layer path)
unfolding admits
admits_sets lookup layer path =
    sets-behind 1 0 (check lookup.writes lookup.snapshot layer) _ (check_sets lookup.writes lookup.snapshot layer)
    (λ checked. sets-behind 0 0 (refuse_where (lookup.has_prefix && not layer.manual) fault.ManualNotAllowed) _
    (refuse_sets (lookup.has_prefix && not layer.manual) fault.ManualNotAllowed)
    (λ allowed. refuse_sets (not lookup.may_be_root && length path == 0) fault.EmptyPath))

from_sets : (snapshot : Bool) (layer : Layer) (at : Directory) (names : List (List ℕ)) → Sets 0 (find_from snapshot layer at names)
unfolding find_from child_of directory_at value_of
from_sets snapshot layer at [] = tt
from_sets snapshot layer at (name ∷ names) = by (is_partition at.layer) (λ next. from_sets snapshot layer next names)
  where
    child_sets : (entry : Option (List ℕ)) → Sets 0 (below entry (directory_at snapshot layer))
    child_sets None = tt
    child_sets (Some prefix) = λ answer. tt

    behind : (child : Option Directory) → ((next : Directory) → Sets 0 (find_from snapshot layer next names))
        → Sets 0 (below child (λ next. find_from snapshot layer next names))
    behind None on = tt
    behind (Some next) on = on next

    by : (is : Bool) → ((next : Directory) → Sets 0 (find_from snapshot layer next names)) → Sets 0 (cond is (Gives (Some (found_at at (name ∷ names))))
        (child_of snapshot layer at name >>= (λ child. below child (λ next. find_from snapshot layer next names))))
    by true on = tt
    by false on =
        sets-behind 0 0 (child_of snapshot layer at name) (λ child. below child (λ next. find_from snapshot layer next names))
        (λ answer. child_sets (value_in answer)) (λ child. behind child on)

pub find_sets : (snapshot : Bool) (layer : Layer) (path : List (List ℕ)) → Sets 0 (find snapshot layer path)
unfolding find
find_sets snapshot layer path = from_sets snapshot layer (root layer) path

inside_sets : (bound : ℕ) (lookup : Lookup) (layer : Layer) (path : List (List ℕ)) (found : Option Found) → AreFewer path found
    → ((inner : Layer) (names : List (List ℕ)) → Sets (length names + 1) (arrives bound lookup inner names))
    → Sets (length path) (or_inside layer path found (λ inner names. arrives bound lookup inner names))
inside_sets bound lookup layer path None fewer on = tt
inside_sets bound lookup layer path (Some found) fewer on = by found.directory found.rest fewer
  where
    by : (at : Directory) (rest : List (List ℕ)) → (length rest ≡ 0) ⊎ (length rest < length path)
        → Sets (length path) (or_inside layer path (Some (found_at at rest)) (λ inner names. arrives bound lookup inner names))
    by at [] fewer = tt
    by at (name ∷ names) (inl none) = absurd (omega arith)
    by at (name ∷ names) (inr less) =
        sets_more (length (name ∷ names) + 1) (length path) (arrives bound lookup (inside at.prefix) (name ∷ names)) (omega (arith, less))
        (on (inside at.prefix) (name ∷ names))

pub arrives_sets : (bound : ℕ) (lookup : Lookup) (layer : Layer) (path : List (List ℕ)) → Sets (length path + 1) (arrives bound lookup layer path)
unfolding arrives
arrives_sets zero lookup layer path = tt
arrives_sets (suc bound) lookup layer path =
    sets_more (1 + (0 + length path)) (length path + 1) (arrives (suc bound) lookup layer path) (omega arith)
    (sets-behind 1 (0 + length path) (admits lookup layer path) _ (admits_sets lookup layer path)
    (λ may. sets-then (AreLeft path) 0 (length path) (find lookup.snapshot layer path) _ (find_sets lookup.snapshot layer path)
    (find_left lookup.snapshot layer path)
    (λ found left. inside_sets bound lookup layer path found left.1 (λ inner names. arrives_sets bound lookup inner names))))

-- ---- what is made

pub looks_no_longer : (options : OpenOptions) (layer : Layer) (path : List (List ℕ)) (layer_name prefix : Option (List ℕ))
    → Every (IsNoLonger path) (looks options layer path layer_name prefix)
unfolding looks
looks_no_longer options layer path layer_name prefix =
    every-then (IsNoLonger path) (IsNoLonger path) (arrives (length path + 1) (to_look options prefix) layer path) _
    (arrives_no_longer (length path + 1) (to_look options prefix) layer path)
    (λ at le. every-behind (IsNoLonger path) (given (judged options layer_name at.found)) _ (λ found. le))

shorter_front : (name : List ℕ) (names : List (List ℕ)) → length (front (name ∷ names)) < length (name ∷ names)
shorter_front name [] = omega arith
shorter_front name (next ∷ names) = omega (arith, shorter_front next names)

fewer_in_front : (path : List (List ℕ)) (name : List ℕ) (names : List (List ℕ)) → front path ≡ name ∷ names
    → length (name ∷ names) < length path
fewer_in_front [] name names is = absurd (let no : [] ≡ name ∷ names = is in cc)
fewer_in_front (first ∷ others) name names is = omega (arith, shorter_front first others, ap length is)

-- what is made at a place, where its parent is made by this bound
abbrev pub made_at : (bound : ℕ) → (layer_name prefix : Option (List ℕ)) → Place → Course Directory
made_at bound layer_name prefix at =
    or_else at.found (takes_prefix at.layer prefix >>= (λ own.
    (or_root at.layer (front at.path) (makes bound to_create_or_open at.layer (front at.path) None None))
    >>= (λ parent. enters at.layer parent (last_name at.path) own (unwrap_or layer_name []))))

same_root : (layer : Layer) (path : List (List ℕ)) (one other : Course Directory)
    → ((name : List ℕ) (names : List (List ℕ)) → path ≡ name ∷ names → one ≡ other) → or_root layer path one ≡ or_root layer path other
same_root layer [] one other same = refl
same_root layer (name ∷ names) one other same = same name names refl

pub same_made : (one other : ℕ) (layer_name prefix : Option (List ℕ)) (at : Place)
    → ((names : List (List ℕ)) → length names < length at.path
    → makes one to_create_or_open at.layer names None None ≡ makes other to_create_or_open at.layer names None None)
    → made_at one layer_name prefix at ≡ made_at other layer_name prefix at
same_made one other layer_name prefix at same =
    ap (or_else at.found) (same-behind (takes_prefix at.layer prefix) _ _
    (λ own. ap (λ course. course >>= (λ parent. enters at.layer parent (last_name at.path) own (unwrap_or layer_name [])))
    (same_root at.layer (front at.path) (makes one to_create_or_open at.layer (front at.path) None None)
    (makes other to_create_or_open at.layer (front at.path) None None)
    (λ name names is. same (front at.path) (rw is (fewer_in_front at.path name names is))))))

pub makes-enough : (one other : ℕ) (options : OpenOptions) (layer : Layer) (path : List (List ℕ)) (layer_name prefix : Option (List ℕ))
    → length path < one → length path < other
    → makes one options layer path layer_name prefix ≡ makes other options layer path layer_name prefix
unfolding makes
makes-enough zero other options layer path layer_name prefix few many = absurd (omega arith)
makes-enough (suc one) zero options layer path layer_name prefix few many = absurd (omega arith)
makes-enough (suc one) (suc other) options layer path layer_name prefix few many =
    same-then (IsNoLonger path) (looks options layer path layer_name prefix) _ _ (looks_no_longer options layer path layer_name prefix)
    (λ at le. same_made one other layer_name prefix at
    (λ names less. makes-enough one other to_create_or_open at.layer names None None (omega (arith, le, less)) (omega (arith, le, less))))

-- ---- what is moved

-- what is judged of what both paths lead to, and where the move goes on
abbrev pub moves_from : (bound : ℕ) → Layer → (path new_path : List (List ℕ)) → (Option Found × Option Found) → Course Move
moves_from bound layer path new_path both =
    there fault.Missing both.0 >>= (λ found. given (moves_on found both.1)
    >>= (λ further. moves_in layer path new_path found further (λ inner names new_names. finds_moved bound inner names new_names)))

-- a move looks for both paths, and then goes on
pub finds_in_two : (bound : ℕ) (layer : Layer) (path new_path : List (List ℕ))
    → finds_moved (suc bound) layer path new_path ≡ looks_for_both layer path new_path >>= moves_from bound layer path new_path
unfolding finds_moved
finds_in_two bound layer path new_path =
    let next = moves_from bound layer path new_path in
    let finds_new : Option Found → Course (Option Found × Option Found) = λ old. find false layer new_path >>= (λ new. Gives (old, new)) in
    let finds_old : Course (Option Found × Option Found) = find false layer path >>= finds_new in
    let refuses : Course (Option Found × Option Found) =
    refuse_where (starts_with bytes_eq new_path path) fault.IntoItself >>= (λ apart. finds_old) in
    sym (in_three (check true false layer) (λ written. refuses) next
    ∙ ap (λ (then : Done → Course Move). check true false layer >>= then) (fun_ext (λ written.
    in_three (refuse_where (starts_with bytes_eq new_path path) fault.IntoItself) (λ apart. finds_old) next
    ∙ ap (λ (then : Done → Course Move). refuse_where (starts_with bytes_eq new_path path) fault.IntoItself >>= then) (fun_ext (λ apart.
    in_three (find false layer path) finds_new next
    ∙ ap (λ (then : Option Found → Course Move). find false layer path >>= then) (fun_ext (λ old.
    in_three (find false layer new_path) (λ new. Gives (old, new)) next)))))))

-- what is found of both
abbrev pub AreBothLeft : (path new_path : List (List ℕ)) → (Option Found × Option Found) → Type 0
AreBothLeft path new_path both = AreFewer path both.0 × AreLast new_path both.1

pub both_left : (layer : Layer) (path new_path : List (List ℕ)) → Every (AreBothLeft path new_path) (looks_for_both layer path new_path)
both_left layer path new_path =
    every-behind (AreBothLeft path new_path) (check true false layer) _
    (λ written. every-behind (AreBothLeft path new_path) (refuse_where (starts_with bytes_eq new_path path) fault.IntoItself) _
    (λ apart. every-then (AreLeft path) (AreBothLeft path new_path) (find false layer path) _ (find_left false layer path)
    (λ old old_left. every-then (AreLeft new_path) (AreBothLeft path new_path) (find false layer new_path) _ (find_left false layer new_path)
    (λ new new_left. (old_left.1, new_left.0)))))

same_moves : (one other : ℕ) (layer : Layer) (path new_path : List (List ℕ)) (both : Option Found × Option Found) → AreFewer path both.0
    → ((inner : Layer) (names new_names : List (List ℕ)) → length names < length path
    → finds_moved one inner names new_names ≡ finds_moved other inner names new_names)
    → moves_from one layer path new_path both ≡ moves_from other layer path new_path both
same_moves one other layer path new_path both fewer same = by both.0 both.1 fewer
  where
    at : (old : Directory) (rest : List (List ℕ)) (new : Option Found) → (length rest ≡ 0) ⊎ (length rest < length path)
        → moves_from one layer path new_path (Some (found_at old rest), new) ≡ moves_from other layer path new_path (Some (found_at old rest), new)
    at old [] None fewer = refl
    at old (name ∷ names) None fewer = refl
    at old [] (Some new) fewer = none new.directory new.rest
      where
        none : (new : Directory) (new_rest : List (List ℕ))
            → moves_from one layer path new_path (Some (found_at old []), Some (found_at new new_rest))
            ≡ moves_from other layer path new_path (Some (found_at old []), Some (found_at new new_rest))
        none new [] = refl
        none new (new_name ∷ new_names) = refl
    at old (name ∷ names) (Some new) (inl nothing) = absurd (omega arith)
    at old (name ∷ names) (Some new) (inr less) = some new.directory new.rest
      where
        some : (new : Directory) (new_rest : List (List ℕ))
            → moves_from one layer path new_path (Some (found_at old (name ∷ names)), Some (found_at new new_rest))
            ≡ moves_from other layer path new_path (Some (found_at old (name ∷ names)), Some (found_at new new_rest))
        some new [] = refl
        some new (new_name ∷ new_names) =
            elim (bytes_eq old.prefix new.prefix) as (λ b.
            given (cond b (Ok (Some (new_name ∷ new_names))) (Err fault.AcrossPartitions))
            >>= (λ further. moves_in layer path new_path (found_at old (name ∷ names)) further
            (λ inner names new_names. finds_moved one inner names new_names))
            ≡ given (cond b (Ok (Some (new_name ∷ new_names))) (Err fault.AcrossPartitions))
            >>= (λ further. moves_in layer path new_path (found_at old (name ∷ names)) further
            (λ inner names new_names. finds_moved other inner names new_names))) [
              | true ↦ same (inside old.prefix) (name ∷ names) (new_name ∷ new_names) less
              | false ↦ refl
            ]

    by : (old new : Option Found) → AreFewer path old → moves_from one layer path new_path (old, new) ≡ moves_from other layer path new_path (old, new)
    by None new fewer = refl
    by (Some old) new fewer = at old.directory old.rest new fewer

pub moved-enough : (one other : ℕ) (layer : Layer) (path new_path : List (List ℕ)) → length path < one → length path < other
    → finds_moved one layer path new_path ≡ finds_moved other layer path new_path
moved-enough zero other layer path new_path few many = absurd (omega arith)
moved-enough (suc one) zero layer path new_path few many = absurd (omega arith)
moved-enough (suc one) (suc other) layer path new_path few many =
    finds_in_two one layer path new_path
    ∙ same-then (AreBothLeft path new_path) (looks_for_both layer path new_path) (moves_from one layer path new_path)
    (moves_from other layer path new_path) (both_left layer path new_path)
    (λ both left. same_moves one other layer path new_path both left.0
    (λ inner names new_names less. moved-enough one other inner names new_names (omega arith) (omega arith)))
    ∙ sym (finds_in_two other layer path new_path)
