-- The changes of a commit, made from segment to segment of the keys.
use Rattle.std.proofs.Common.{◌≡◌, ℕ, Bool, true, false, cond, not, List, [], ◌∷◌, ◌++◌, Option, Some, None, refl, sym, ap, ◌∙◌, true≢false}
use Rattle.std.proofs.lemmas.Bool.{not-true, not-false}
use Rattle.std.proofs.lemmas.List.Elements.{All-nil, All-push}
use Rattle.std.proofs.lemmas.Map.Lookups.{exact_bytes}
use Rattle.std.specs.Prelude.{bytes_eq}
use Rattle.std.specs.declared.cmp.Ordering.{Ordering}
use Rattle.std.specs.declared.cmp.Ordering.TheVariants.{Less, Equal, Greater}
use Rattle.std.specs.Cmp.Lexicographic.{nat_list_cmp_total, texts_ties}
use Rattle.std.specs.FinMap as finite
use Rattle.std.specs.Option.{option_map_or}
use Rattle.std.specs.Ordering.{is_eq, is_lt, ordering_reverse}
use Rattle.key_bytes.specs.Keys.{after, key_cmp, key_le, key_lt}
use Rattle.key_bytes.proofs.Orders.{above_not_below, irreflexive, le_lt, lt_after}
use Rattle.key_map.specs.Ends.{first}
use Rattle.key_map.proofs.Spans.{last-append}
use Rattle.range_read.proofs.Walks.{onward_behind, span_behind}
use Rattle.model_database.specs.Databases.{Database, Mutation, do_all}
use Rattle.model_database.specs.KeyByKey.{is_modified_by}
use Rattle.model_database.specs.Slices.{Entries}
use Rattle.model_database.specs.States.{KeyState, Unmodified, Decided, Depends, is_unmodified, state_under, value_in}
use Rattle.model_database.proofs.KeyByKey.{get-put}
use Rattle.model_database.proofs.States.{get-under}
use Rattle.version_store.specs.Changed.{is_above, changed, changed_by}
use Rattle.write_map.specs.Pending.{is_single_state}
use Rattle.ryw_view.specs.Segments.{IsSegment}
use Rattle.ryw_view.specs.Walks.{is_inside, stored_between, IsFirstMet}
use Rattle.ryw_view.proofs.Runs.{between_met}
use Rattle.ryw_view.proofs.Segments.{before_outside, inside_before}
use Rattle.txn_parts.specs.Changing.{LeadUpTo}
use Rattle.txn_parts.proofs.Modified.{state_modified}

abbrev pub ChangeList : Type 0
ChangeList = List (List ℕ × Option (List ℕ))

-- ---- one change more

get-changed_by : (key : List ℕ) (value : Option (List ℕ)) (database : Database) (q : List ℕ)
    → finite.get (changed_by (key, value) database) q ≡ cond (bytes_eq q key) value (finite.get database q)
get-changed_by key None database q = get-put database key None q
get-changed_by key (Some value) database q = get-put database key (Some value) q

changed-push : (changes : ChangeList) (change : List ℕ × Option (List ℕ)) (database : Database)
    → changed (changes ++ change ∷ []) database ≡ changed_by change (changed changes database)
changed-push [] change database = refl
changed-push (c ∷ changes) change database = changed-push changes change (changed_by c database)

above-push : (changes : ChangeList) (change : List ℕ × Option (List ℕ)) (q : List ℕ)
    → is_above (changes ++ change ∷ []) q ≡ key_lt change.0 q
above-push changes change q = ap (λ end. option_map_or (λ c. key_lt c.0 q) end true) (last-append changes change)

-- a key above another is not below the next key, and the other way round
after_above : (q key : List ℕ) → key_lt key q ≡ true → key_lt q (after key) ≡ false
after_above q key above = lt_after q key ∙ ap not above

above_after : (q key : List ℕ) → key_lt q (after key) ≡ false → key_lt key q ≡ true
above_after q key behind = not-false (key_lt key q) (sym (lt_after q key) ∙ behind)

-- ---- the walk

nothing_below : (q : List ℕ) → key_lt q [] ≡ false
nothing_below [] = refl
nothing_below (byte ∷ q) = refl

module _ (mutations : List Mutation) (database : Database) where
  abbrev made : List ℕ → Option (List ℕ)
  made q = finite.get (do_all mutations database) q

  -- no change leads up to the least key
  pub led_first : LeadUpTo mutations database (Some []) []
  led_first = record {
    only = All-nil (λ change. is_modified_by mutations change.0 ≡ true);
    leads = λ q. ap (λ b. cond b (made q) (finite.get database q)) (sym (nothing_below q));
    above = λ q _. refl;
  }

  -- without a boundary they lead to the whole map
  pub led_all : (changes : ChangeList) → LeadUpTo mutations database None changes → changed changes database ≡ do_all mutations database
  led_all changes led = finite.same_map nat_list_cmp_total exact_bytes _ _ led.leads

  module _ (changes : ChangeList) (from : List ℕ) (led : LeadUpTo mutations database (Some from) changes) where
    -- over keys that the mutations leave as they are
    pub led_past : (boundary : Option (List ℕ)) → ((q : List ℕ) → is_inside boundary false q ≡ false → key_lt q from ≡ false)
        → ((q : List ℕ) → key_le from q ≡ true → is_inside boundary false q ≡ true → finite.get database q ≡ made q)
        → LeadUpTo mutations database boundary changes
    led_past boundary beyond same = record {
      only = led.only;
      leads = λ q. led.leads q ∙ by q (is_inside boundary false q) (key_lt q from) refl refl;
      above = λ q outside. led.above q (beyond q outside);
    }
      where
        by : (q : List ℕ) (inside below : Bool) → is_inside boundary false q ≡ inside → key_lt q from ≡ below
            → cond below (made q) (finite.get database q) ≡ cond inside (made q) (finite.get database q)
        by q true true in_it is_below = refl
        by q true false in_it is_not = same q (ap not is_not) in_it
        by q false true out is_below = absurd (true≢false (sym is_below ∙ beyond q out))
        by q false false out is_not = refl

    -- over keys that they leave, and one more key
    pub led_over : (key : List ℕ) (value : Option (List ℕ)) → key_le from key ≡ true
        → ((q : List ℕ) → key_le from q ≡ true → key_lt q key ≡ true → finite.get database q ≡ made q) → value ≡ made key
        → is_unmodified (state_under mutations key) ≡ false
        → LeadUpTo mutations database (Some (after key)) (changes ++ (key, value) ∷ [])
    led_over key value onward same is other = record {
      only = All-push (λ change. is_modified_by mutations change.0 ≡ true) changes (key, value) led.only (state_modified mutations key other);
      leads = λ q.
          ap (λ m. finite.get m q) (changed-push changes (key, value) database)
          ∙ get-changed_by key value (changed changes database) q
          ∙ by_order q (key_cmp q key) refl;
      above = λ q behind. above-push changes (key, value) q ∙ above_after q key behind;
    }
      where
        below : (q : List ℕ) → key_lt q key ≡ true → (b : Bool) → key_lt q from ≡ b
            → cond b (made q) (finite.get database q) ≡ made q
        below q lower true is_below = refl
        below q lower false is_not = same q (ap not is_not) lower

        by_order : (q : List ℕ) (o : Ordering) → key_cmp q key ≡ o
            → cond (bytes_eq q key) value (finite.get (changed changes database) q)
            ≡ cond (key_lt q (after key)) (made q) (finite.get database q)
        by_order q Less order =
            let lower : key_lt q key ≡ true = ap is_lt order in
            ap (λ b. cond b value (finite.get (changed changes database) q)) (texts_ties q key ∙ ap is_eq order)
            ∙ led.leads q
            ∙ below q lower (key_lt q from) refl
            ∙ ap (λ b. cond b (made q) (finite.get database q)) (sym (lt_after q key ∙ ap not (above_not_below q key lower)))
        by_order q Equal order =
            let same_key : q ≡ key = exact_bytes q key order in
            ap (λ b. cond b value (finite.get (changed changes database) q)) (texts_ties q key ∙ ap is_eq order)
            ∙ is
            ∙ ap made (sym same_key)
            ∙ ap (λ b. cond b (made q) (finite.get database q))
            (sym (lt_after q key ∙ ap not (ap (key_lt key) same_key ∙ irreflexive key)))
        by_order q Greater order =
            let higher : key_lt key q ≡ true = ap is_lt (nat_list_cmp_total.antisymm key q ∙ ap ordering_reverse order) in
            ap (λ b. cond b value (finite.get (changed changes database) q)) (texts_ties q key ∙ ap is_eq order)
            ∙ led.leads q
            ∙ ap (λ b. cond b (made q) (finite.get database q))
            (above_not_below from q (le_lt from key q (not-true (key_lt key from) onward) higher))
            ∙ ap (λ b. cond b (made q) (finite.get database q)) (sym (after_above q key higher))

-- ---- a segment

module _ (mutations : List Mutation) (database : Database) (begin : List ℕ) (boundary : Option (List ℕ))
    (segment : IsSegment mutations begin begin false boundary) where
  abbrev made_of : List ℕ → Option (List ℕ)
  made_of q = finite.get (do_all mutations database) q

  state_at : (state : KeyState) → state_under mutations begin ≡ state → (q : List ℕ) → key_le begin q ≡ true
      → is_inside boundary false q ≡ true → state_under mutations q ≡ state
  state_at state is q on inside = sym (segment.alike q on inside).states ∙ is

  made_at : (state : KeyState) → state_under mutations begin ≡ state → (q : List ℕ) → key_le begin q ≡ true
      → is_inside boundary false q ≡ true → made_of q ≡ value_in state (finite.get database q)
  made_at state is q on inside =
      get-under mutations database q ∙ ap (λ s. value_in s (finite.get database q)) (state_at state is q on inside)

  outside_behind : (key : List ℕ) → is_inside boundary false key ≡ true → (q : List ℕ) → is_inside boundary false q ≡ false
      → key_lt key q ≡ true
  outside_behind key inside q outside = before_outside boundary false key q inside outside

  module _ (changes : ChangeList) (led : LeadUpTo mutations database (Some begin) changes) where
    -- keys that no mutation changes
    pub led_unmodified : state_under mutations begin ≡ Unmodified → LeadUpTo mutations database boundary changes
    led_unmodified is =
        led_past mutations database changes begin led boundary
        (λ q outside. above_not_below begin q (outside_behind begin segment.inside q outside))
        (λ q on inside. sym (made_at Unmodified is q on inside))

    single_modified : (state : KeyState) → is_single_state state ≡ true → is_unmodified state ≡ false
    single_modified Unmodified single = absurd (true≢false (sym single))
    single_modified (Decided value) single = refl
    single_modified (Depends operations) single = refl

    -- one key alone
    pub led_single : (state : KeyState) → state_under mutations begin ≡ state → is_single_state state ≡ true
        → (value : Option (List ℕ)) → value ≡ value_in state (finite.get database begin)
        → LeadUpTo mutations database boundary (changes ++ (begin, value) ∷ [])
    led_single state state_is single_state value is =
        led_past mutations database (changes ++ (begin, value) ∷ []) (after begin)
        (led_over mutations database changes begin led begin value (ap not (irreflexive begin))
        (λ q on lower. absurd (true≢false (sym lower ∙ not-true (key_lt q begin) on)))
        (is ∙ sym (made_at state state_is begin (ap not (irreflexive begin)) segment.inside))
        (ap is_unmodified state_is ∙ single_modified state single_state))
        boundary
        (λ q outside. after_above q begin (outside_behind begin segment.inside q outside))
        (λ q on inside. absurd (apart q (not-true (key_lt q (after begin)) on) inside))
      where
        single : is_single_state (state_under mutations begin) ≡ true
        single = ap is_single_state state_is ∙ single_state

        apart : (q : List ℕ) → key_lt q (after begin) ≡ false → is_inside boundary false q ≡ true → ⊥
        apart q behind inside =
            let higher : key_lt begin q ≡ true = above_after q begin behind in
            true≢false
            (sym higher ∙ ap (key_lt begin) (segment.single single q (ap not (above_not_below begin q higher)) inside)
            ∙ irreflexive begin)

-- ---- a segment whose keys have no value

-- the keys that are stored from its begin up to a key are removed
pub record IsCleared (mutations : List Mutation) (database : Database) (begin from : List ℕ) (boundary : Option (List ℕ))
    (changes : ChangeList) : Type 0 where
  pub led : LeadUpTo mutations database (Some from) changes
  pub onward : (q : List ℕ) → key_le from q ≡ true → key_le begin q ≡ true
  pub beyond : (q : List ℕ) → is_inside boundary false q ≡ false → key_lt q from ≡ false

module _ (mutations : List Mutation) (database : Database) (begin : List ℕ) (boundary : Option (List ℕ))
    (segment : IsSegment mutations begin begin false boundary) (is : state_under mutations begin ≡ Decided None) where
  pub cleared_first : (changes : ChangeList) → LeadUpTo mutations database (Some begin) changes
      → IsCleared mutations database begin begin boundary changes
  cleared_first changes led = record {
    led = led;
    onward = λ q on. on;
    beyond = λ q outside. above_not_below begin q (outside_behind mutations database begin boundary segment begin segment.inside q outside);
  }

  none_at : (q : List ℕ) → key_le begin q ≡ true → is_inside boundary false q ≡ true → finite.get (do_all mutations database) q ≡ None
  none_at q on inside = made_at mutations database begin boundary segment (Decided None) is q on inside

  module _ (changes : ChangeList) (from : List ℕ) (cleared : IsCleared mutations database begin from boundary changes) where
    pub cleared_more : (key value : List ℕ) → IsFirstMet database from false boundary (Some (key, value))
        → IsCleared mutations database begin (after key) boundary (changes ++ (key, None) ∷ [])
    cleared_more key value (met, inside) = record {
      led = led_over mutations database changes from cleared.led key None met.onward
          (λ q on lower. met.gap q on lower ∙ sym (none_at q (cleared.onward q on) (inside_before boundary false q key lower inside)))
          (sym (none_at key (cleared.onward key met.onward) inside))
          (ap is_unmodified (state_at mutations database begin boundary segment (Decided None) is key (cleared.onward key met.onward) inside));
      onward = λ q on. cleared.onward q
          (ap not (above_not_below from q
          (le_lt from key q (not-true (key_lt key from) met.onward) (above_after q key (not-true (key_lt q (after key)) on)))));
      beyond = λ q outside. after_above q key (outside_behind mutations database begin boundary segment key inside q outside);
    }

    pub cleared_all : IsFirstMet database from false boundary None → LeadUpTo mutations database boundary changes
    cleared_all none = led_past mutations database changes from cleared.led boundary cleared.beyond
        (λ q on inside. none q on inside ∙ sym (none_at q (cleared.onward q on) inside))

-- the keys that are stored up to some of the pairs of the segment are removed, and these pairs are left
pub record IsClearedBefore (mutations : List Mutation) (database : Database) (begin : List ℕ) (boundary : Option (List ℕ))
    (left : Entries) (changes : ChangeList) : Type 0 where
  pub from : List ℕ
  pub cleared : IsCleared mutations database begin from boundary changes
  pub left_is : left ≡ stored_between database from boundary

-- behind the first of the pairs from a key on stand those from the key after it on
others_left : (database : Database) (from : List ℕ) (boundary : Option (List ℕ)) (pair : List ℕ × List ℕ) (rest : Entries)
    → stored_between database from boundary ≡ pair ∷ rest → rest ≡ stored_between database (after pair.0) boundary
others_left database from None pair rest is = sym (onward_behind database from false pair rest is)
others_left database from (Some until) pair rest is = sym (span_behind database from until false pair rest is)

module _ (mutations : List Mutation) (database : Database) (begin : List ℕ) (boundary : Option (List ℕ))
    (segment : IsSegment mutations begin begin false boundary) (is : state_under mutations begin ≡ Decided None) where
  pub before_first : (changes : ChangeList) → LeadUpTo mutations database (Some begin) changes
      → (left : Entries) → left ≡ stored_between database begin boundary → IsClearedBefore mutations database begin boundary left changes
  before_first changes led left left_is = record {
    from = begin;
    cleared = cleared_first mutations database begin boundary segment is changes led;
    left_is = left_is;
  }

  module _ (changes : ChangeList) (left : Entries) (before : IsClearedBefore mutations database begin boundary left changes) where
    -- a change of the first of them may come next
    pub before_above : (pair : List ℕ × List ℕ) (rest : Entries) → left ≡ pair ∷ rest → is_above changes pair.0 ≡ true
    before_above pair rest steps =
        let met = between_met database before.from boundary (Some pair) (ap first (sym before.left_is ∙ steps)) in
        before.cleared.led.above pair.0 (not-true (key_lt pair.0 before.from) met.0.onward)

    pub before_rest : (pair : List ℕ × List ℕ) (rest : Entries) → left ≡ pair ∷ rest
        → IsClearedBefore mutations database begin boundary rest (changes ++ (pair.0, None) ∷ [])
    before_rest pair rest steps =
        let between : stored_between database before.from boundary ≡ pair ∷ rest = sym before.left_is ∙ steps in
        let met = between_met database before.from boundary (Some pair) (ap first between) in
        record {
          from = after pair.0;
          cleared = cleared_more mutations database begin boundary segment is changes before.from before.cleared pair.0 pair.1 met;
          left_is = others_left database before.from boundary pair rest between;
        }

    pub before_none : left ≡ [] → LeadUpTo mutations database boundary changes
    before_none none =
        cleared_all mutations database begin boundary segment is changes before.from before.cleared
        (between_met database before.from boundary None (ap first (sym before.left_is ∙ none)))
