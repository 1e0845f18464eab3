-- The keys of the node of a prefix that is taken for a new directory may be read: the search for nodes inside it read its whole range.
use Rattle.std.proofs.Common.{◌≡◌, ℕ, zero, suc, ◌+◌, Bool, true, false, cond, List, [], ◌∷◌, ◌++◌, length, Option, Some, None, refl, sym, ap, subst, ◌∙◌, arith}
use Rattle.std.specs.Prelude.{not, ◌||◌, ◌==◌, if◌then◌else◌, nat_lt}
use Rattle.std.specs.Option.{option_map_or}
use Rattle.std.specs.Ordering.{is_lt}
use Rattle.std.proofs.lemmas.Bool.{and_from, both_ways, eqb-true}
use Rattle.std.proofs.lemmas.List.{append-nil}
use Rattle.key_bytes.specs.declared.range.KeyRange.{KeyRange}
use Rattle.key_bytes.specs.Keys.{key_lt, within, begins_with}
use Rattle.key_bytes.specs.Successors.{strinc, raised}
use Rattle.key_bytes.proofs.Orders.{lt_first, lt_rest, key_cmp-same_front}
use Rattle.fdb_tuple.specs.Spelling.{string_spelled}
use Rattle.model_database.specs.declared.TheConstants.{FUTURE_VERSION, TRANSACTION_TOO_OLD, ACCESSED_UNREADABLE}
use Rattle.model_database.specs.Databases.{Database}
use Rattle.model_database.specs.Histories.{Setting}
use Rattle.model_database.specs.Intervals.{any_meet, interval, slice_interval}
use Rattle.model_database.specs.KeyByKey.{is_plain}
use Rattle.model_database.specs.Reads.{Read, GetKeyRange, answer}
use Rattle.model_database.specs.Slices.{Entries, slice}
use Rattle.model_database.specs.States.{covers, unreadable, range_from}
use Rattle.model_database.specs.Transactions.{Transaction, view, writes_of, with_version, is_ahead, is_behind, is_hidden, first_failing, read_code}
use Rattle.model_database.proofs.Ranges.{covers_single, any_meet_at}
use Rattle.fdb_calls.specs.Calling.{read_by, read_at_version}
use Rattle.model_allocator.specs.Acts.{Reads, act_called, refusal}
use Rattle.directory_types.specs.declared.Layer.{Layer}
use Rattle.directory_types.specs.declared.fault.DirFault.TheVariants as fault
use Rattle.model_directory.specs.Courses.{Course, Gives, given, pairs_of}
use Rattle.model_directory.specs.Nodes.{node_of, layer_key}
use Rattle.model_directory.specs.Steps.{refuse_where, there, check, is_inside, has_inside, is_node_inside, is_in_use}
use Rattle.model_directory.specs.Calls.{has_keys, free_prefix, new_prefix, given_prefix, prefix_for, takes_prefix}
use Rattle.laws_directory.proofs.Going.{Goes, parts}
use Rattle.laws_directory.proofs.Growing.{AllocatorsMay, goes_grown}
use Rattle.laws_directory.proofs.Writing.{IsPlain, given_none, pairs_none, in_use_none}
use Rattle.laws_directory.proofs.Seeing.{hidden_same}
use Rattle.laws_directory.proofs.Keys.{node_bytes}
use Rattle.laws_directory.proofs.Finding.{not_refused, was_there}

-- a key may be read
abbrev pub Readable : Transaction → List ℕ → Type 0
Readable t key = covers (unreadable (writes_of t)) key ≡ false

-- steps without a versionstamp leave it so
pub still_readable : {X : Type 0} (setting : Setting) (course : Course X) (t : Transaction) (value : X) (after : Transaction) (key : List ℕ)
    → IsPlain course → Goes setting course t value after → Readable t key → Readable after key
still_readable setting course t value after key plain goes is =
    hidden_same setting t after key (goes_grown setting is_plain course t value after plain goes) ∙ is

-- and it was so before
pub readable_before : {X : Type 0} (setting : Setting) (course : Course X) (t : Transaction) (value : X) (after : Transaction)
    (key : List ℕ)
    → IsPlain course → Goes setting course t value after → Readable after key → Readable t key
readable_before setting course t value after key plain goes is =
    sym (hidden_same setting t after key (goes_grown setting is_plain course t value after plain goes)) ∙ is

-- ---- a read that was let through

not_hidden : (setting : Setting) (t : Transaction) (snapshot : Bool) (read : Read) (behind ahead hidden : Bool)
    → refusal (read_at_version (first_failing ((behind, TRANSACTION_TOO_OLD) ∷ (ahead, FUTURE_VERSION) ∷ (hidden, ACCESSED_UNREADABLE) ∷ [])) setting t snapshot
    read).reply ≡ None
    → hidden ≡ false
not_hidden setting t snapshot read true ahead hidden passed = absurd cc
not_hidden setting t snapshot read false true hidden passed = absurd cc
not_hidden setting t snapshot read false false true passed = absurd cc
not_hidden setting t snapshot read false false false passed = refl

clear_by : (setting : Setting) (t : Transaction) (first : Option ℕ) (snapshot : Bool) (read : Read)
    → refusal (read_by first setting t snapshot read).reply ≡ None → is_hidden setting t read ≡ false
clear_by setting t (Some code) snapshot read passed = absurd cc
clear_by setting t None snapshot read passed =
    let taken = with_version setting t in
    not_hidden setting taken snapshot read (is_behind setting taken) (is_ahead setting taken) (is_hidden setting taken read) passed

-- its read conflict range may be read
rests_readable : (setting : Setting) (t : Transaction) (snapshot : Bool) (read : Read) (ranges : List KeyRange) (key : List ℕ)
    → refusal (act_called setting t (Reads read snapshot)).reply ≡ None → interval read (view setting t) ≡ ranges → covers ranges key ≡ true
    → Readable t key
rests_readable setting t snapshot read ranges key passed rests inside = by (covers (unreadable (writes_of t)) key) refl
  where
    clear : any_meet ranges (unreadable (writes_of t)) ≡ false
    clear = ap (λ ranges. any_meet ranges (unreadable (writes_of t))) (sym rests)
        ∙ clear_by setting t (read_code t.phase false read) snapshot read passed

    by : (hidden : Bool) → covers (unreadable (writes_of t)) key ≡ hidden → hidden ≡ false
    by true is = absurd (both_ways (any_meet ranges (unreadable (writes_of t))) clear
        (any_meet_at ranges (unreadable (writes_of t)) key inside is))
    by false is = refl

-- ---- the range of a node

not_below_front : (front rest : List ℕ) → key_lt (front ++ rest) front ≡ false
not_below_front [] [] = refl
not_below_front [] (b ∷ rest) = refl
not_below_front (b ∷ front) rest = lt_rest b b (front ++ rest) front refl ∙ not_below_front front rest

-- a string stands before the successor of what it begins with, spelled or not
below_next : (p next x y : List ℕ) → strinc p ≡ Some next → key_lt (string_spelled p ++ x) (string_spelled next ++ y) ≡ true
below_next [] next x y is = absurd cc
below_next (b ∷ p) next x y is = by b (strinc p) (λ rest same. below_next p rest x y same) refl is
  where
    by_raised : (b : ℕ) (low : Bool) → cond {A = Option (List ℕ)} low (Some ((b + 1) ∷ [])) None ≡ Some next
        → key_lt (string_spelled (b ∷ p) ++ x) (string_spelled next ++ y) ≡ true
    by_raised b false is = absurd cc
    by_raised zero true is =
        let same : 1 ∷ [] ≡ next = cc in
        ap (λ next. key_lt (string_spelled (0 ∷ p) ++ x) (string_spelled next ++ y)) (sym same)
        ∙ lt_first 0 1 (255 ∷ (string_spelled p ++ x)) (0 ∷ y) (omega arith)
    by_raised (suc b) true is =
        let raise : suc b + 1 ≡ suc (suc b) = omega arith in
        let same : (suc b + 1) ∷ [] ≡ next = cc in
        ap (λ next. key_lt (string_spelled (suc b ∷ p) ++ x) (string_spelled next ++ y)) (sym same)
        ∙ ap (λ raised. key_lt (string_spelled (suc b ∷ p) ++ x) (string_spelled (raised ∷ []) ++ y)) raise
        ∙ lt_first (suc b) (suc (suc b)) (string_spelled p ++ x) (0 ∷ y) (omega arith)

    by : (b : ℕ) (o : Option (List ℕ))
        → ((rest : List ℕ) → strinc p ≡ Some rest → key_lt (string_spelled p ++ x) (string_spelled rest ++ y) ≡ true)
        → strinc p ≡ o → option_map_or (λ rest. Some (b ∷ rest)) o (raised b) ≡ Some next
        → key_lt (string_spelled (b ∷ p) ++ x) (string_spelled next ++ y) ≡ true
    by b None on found is = by_raised b (nat_lt b 255) is
    by zero (Some rest) on found is =
        let same : 0 ∷ rest ≡ next = cc in
        ap (λ next. key_lt (string_spelled (0 ∷ p) ++ x) (string_spelled next ++ y)) (sym same)
        ∙ lt_rest 0 0 (255 ∷ (string_spelled p ++ x)) (255 ∷ (string_spelled rest ++ y)) refl
        ∙ lt_rest 255 255 (string_spelled p ++ x) (string_spelled rest ++ y) refl ∙ on rest found
    by (suc b) (Some rest) on found is =
        let same : suc b ∷ rest ≡ next = cc in
        ap (λ next. key_lt (string_spelled (suc b ∷ p) ++ x) (string_spelled next ++ y)) (sym same)
        ∙ lt_rest (suc b) (suc b) (string_spelled p ++ x) (string_spelled rest ++ y) refl ∙ on rest found

-- a key of a node lies between the node and that of the successor of its prefix
inside_node : (layer : Layer) (prefix next x : List ℕ) → strinc prefix ≡ Some next
    → within (node_of layer prefix) (node_of layer next) (node_of layer prefix ++ x) ≡ true
inside_node layer prefix next x is =
    and_from (not (key_lt (node_of layer prefix ++ x) (node_of layer prefix))) (key_lt (node_of layer prefix ++ x) (node_of layer next))
    (ap not (not_below_front (node_of layer prefix) x))
    (ap (λ key. key_lt key (node_of layer next)) (node_bytes layer prefix x)
    ∙ ap (λ key. key_lt (layer.node ++ (1 ∷ (string_spelled prefix ++ x))) key)
    (sym (append-nil (node_of layer next)) ∙ node_bytes layer next [])
    ∙ ap is_lt (key_cmp-same_front layer.node (1 ∷ (string_spelled prefix ++ x)) (1 ∷ (string_spelled next ++ [])))
    ∙ lt_rest 1 1 (string_spelled prefix ++ x) (string_spelled next ++ []) refl ∙ below_next prefix next x [] is)

-- ---- the questions whether a prefix is in use

is_true : (b : Bool) → not b ≡ false → b ≡ true
is_true true is = refl
is_true false is = absurd cc

none_of : (entries : Entries) → not (length entries == 0) ≡ false → entries ≡ []
none_of [] empty = refl
none_of (entry ∷ entries) empty = absurd
    (let zero = eqb-true (length (entry ∷ entries)) 0 (is_true (length (entry ∷ entries) == 0) empty) in omega (arith, zero))

whole_interval : (begin end : List ℕ) (database : Database) → slice database begin end 1 false ≡ []
    → interval (GetKeyRange begin end 1 false) database ≡ range_from begin end ∷ []
whole_interval begin end database none_there = ap (λ pairs. slice_interval begin end 1 false pairs ∷ []) none_there

-- pairs that were read are those that are seen
pairs_seen : (setting : Setting) (snapshot : Bool) (begin end : List ℕ) (limit : ℕ) (backward : Bool) (t : Transaction) (entries : Entries)
    (after : Transaction) → Goes setting (pairs_of snapshot begin end limit backward) t entries after
    → (refusal (act_called setting t (Reads (GetKeyRange begin end limit backward) snapshot)).reply ≡ None)
    × (slice (view setting t) begin end limit backward ≡ entries)
unfolding pairs_of answer
pairs_seen setting snapshot begin end limit backward t entries after (passed, (is, left)) = (passed, is)

not_inside : (setting : Setting) (snapshot : Bool) (layer : Layer) (prefix x : List ℕ) (t after : Transaction)
    → Goes setting (has_inside snapshot layer prefix) t false after → Readable t (node_of layer prefix ++ x)
unfolding has_inside
not_inside setting snapshot layer prefix x t after goes =
    let first = parts setting (there fault.NoSuccessor (strinc prefix)) _ t false after goes in
    let next = was_there setting fault.NoSuccessor (strinc prefix) t first.0 first.1 first.2 in
    let begin = node_of layer prefix in
    let end = node_of layer first.0 in
    let second = parts setting (pairs_of snapshot begin end 1 false) _ first.1 false after first.3 in
    let empty = none_of second.0 second.3.0 in
    let seen = pairs_seen setting snapshot begin end 1 false first.1 second.0 second.1 second.2 in
    let inside = inside_node layer prefix first.0 x next.0 in
    ap (λ (u : Transaction). covers (unreadable (writes_of u)) (node_of layer prefix ++ x)) next.1
    ∙ rests_readable setting first.1 snapshot (GetKeyRange begin end 1 false) (range_from begin end ∷ []) (node_of layer prefix ++ x) seen.0
    (whole_interval begin end (view setting first.1) (seen.1 ∙ empty))
    (covers_single (range_from begin end) (node_of layer prefix ++ x) ∙ inside)

no_node_inside : (setting : Setting) (snapshot : Bool) (layer : Layer) (prefix x : List ℕ) (t after : Transaction)
    → Goes setting (is_node_inside snapshot layer prefix) t false after → Readable t (node_of layer prefix ++ x)
unfolding is_node_inside
no_node_inside setting snapshot layer prefix x t after goes =
    let begin = layer.node ++ 0 ∷ [] in
    let end = node_of layer prefix ++ 0 ∷ [] in
    let first = parts setting (pairs_of snapshot begin end 1 true) _ t false after goes in
    let second = parts setting (given (is_inside layer prefix first.0)) _ first.1 false after first.3 in
    readable_before setting (pairs_of snapshot begin end 1 true) t first.0 first.1 (node_of layer prefix ++ x)
    (pairs_none is_plain (AllocatorsMay is_plain) snapshot begin end 1 true) first.2
    (readable_before setting (given (is_inside layer prefix first.0)) first.1 second.0 second.1 (node_of layer prefix ++ x)
    (given_none is_plain (AllocatorsMay is_plain) (is_inside layer prefix first.0)) second.2 (by second.0 second.1 second.3))
  where
    by : (inside : Bool) (u : Transaction) → Goes setting (if inside then Gives true else has_inside snapshot layer prefix) u false after
        → Readable u (node_of layer prefix ++ x)
    by true u (is, left) = absurd cc
    by false u goes = not_inside setting snapshot layer prefix x u after goes

unused : (setting : Setting) (snapshot : Bool) (layer : Layer) (prefix x : List ℕ) (t after : Transaction)
    → Goes setting (is_in_use snapshot layer prefix) t false after → Readable t (node_of layer prefix ++ x)
unfolding is_in_use
unused setting snapshot layer prefix x t after goes = by (length prefix == 0 || begins_with prefix layer.node) goes
  where
    by : (known : Bool) → Goes setting (if known then Gives true else is_node_inside snapshot layer prefix) t false after
        → Readable t (node_of layer prefix ++ x)
    by true (is, left) = absurd cc
    by false goes = no_node_inside setting snapshot layer prefix x t after goes

-- ---- the prefix of a new directory

given_readable : (setting : Setting) (layer : Layer) (prefix : List ℕ) (t : Transaction) (own : List ℕ) (after : Transaction)
    → Goes setting (given_prefix layer prefix) t own after → Readable after (layer_key (node_of layer own))
unfolding given_prefix
given_readable setting layer prefix t own after goes =
    let first = parts setting (is_in_use false layer prefix) _ t own after goes in
    let second = parts setting (refuse_where first.0 fault.PrefixInUse) _ first.1 own after first.3 in
    let free = not_refused setting first.0 fault.PrefixInUse first.1 second.0 second.1 second.2 in
    let key = layer_key (node_of layer prefix) in
    let found = unused setting false layer prefix _ t first.1
    (subst (λ used. Goes setting (is_in_use false layer prefix) t used first.1) free.0 first.2) in
    let kept = still_readable setting (is_in_use false layer prefix) t first.0 first.1 key
    (in_use_none is_plain (AllocatorsMay is_plain) false layer prefix) first.2 found in
    subst (λ own. Readable after (layer_key (node_of layer own))) second.3.0
    (subst (λ u. Readable u key) (free.1 ∙ second.3.1) kept)

free_readable : (setting : Setting) (layer : Layer) (prefix : List ℕ) (t : Transaction) (own : List ℕ) (after : Transaction)
    → Goes setting (free_prefix layer prefix) t own after → Readable after (layer_key (node_of layer own))
unfolding free_prefix
free_readable setting layer prefix t own after goes =
    let first = parts setting (has_keys prefix) _ t own after goes in
    let second = parts setting (refuse_where first.0 fault.KeysAtPrefix) _ first.1 own after first.3 in
    let third = parts setting (is_in_use true layer prefix) _ second.1 own after second.3 in
    let fourth = parts setting (refuse_where third.0 fault.PrefixInUse) _ third.1 own after third.3 in
    let free = not_refused setting third.0 fault.PrefixInUse third.1 fourth.0 fourth.1 fourth.2 in
    let key = layer_key (node_of layer prefix) in
    let found = unused setting true layer prefix _ second.1 third.1
    (subst (λ used. Goes setting (is_in_use true layer prefix) second.1 used third.1) free.0 third.2) in
    let kept = still_readable setting (is_in_use true layer prefix) second.1 third.0 third.1 key
    (in_use_none is_plain (AllocatorsMay is_plain) true layer prefix) third.2 found in
    subst (λ own. Readable after (layer_key (node_of layer own))) fourth.3.0
    (subst (λ u. Readable u key) (free.1 ∙ fourth.3.1) kept)

prefix_readable : (setting : Setting) (layer : Layer) (prefix : Option (List ℕ)) (t : Transaction) (own : List ℕ) (after : Transaction)
    → Goes setting (prefix_for layer prefix) t own after → Readable after (layer_key (node_of layer own))
unfolding new_prefix
prefix_readable setting layer None t own after (words, number, goes) = free_readable setting layer _ _ own after goes
prefix_readable setting layer (Some prefix) t own after goes = given_readable setting layer prefix t own after goes

-- where its layer name will stand may be read
pub taken_readable : (setting : Setting) (layer : Layer) (prefix : Option (List ℕ)) (t : Transaction) (own : List ℕ)
    (after : Transaction)
    → Goes setting (takes_prefix layer prefix) t own after → Readable after (layer_key (node_of layer own))
unfolding takes_prefix
taken_readable setting layer prefix t own after goes =
    let first = parts setting (check true false layer) _ t own after goes in
    prefix_readable setting layer prefix first.1 own after first.3
