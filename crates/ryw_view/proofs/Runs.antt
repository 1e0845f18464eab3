-- A walk up through stored pairs whose keys no mutation touches.
use Rattle.std.proofs.Common.{◌≡◌, ℕ, Bool, true, false, cond, not, ◌&&◌, inl, inr, List, [], ◌∷◌, ◌++◌, Option, Some, None, refl, sym, ap, subst, ◌∙◌, true≢false}
use Rattle.std.proofs.lemmas.Option.{none-some}
use Rattle.std.specs.FinMap as finite
use Rattle.std.specs.List.{filter}
use Rattle.key_bytes.specs.Keys.{after, key_lt, within}
use Rattle.key_bytes.proofs.Orders.{above_not_below, lt_after, lt_le}
use Rattle.key_map.specs.Ends.{first}
use Rattle.model_database.specs.Databases.{Database, Mutation}
use Rattle.model_database.specs.Slices.{Entries, span}
use Rattle.model_database.specs.States.{seen}
use Rattle.range_read.specs.Walks.{onward}
use Rattle.range_read.proofs.Taking.{step_whole}
use Rattle.range_read.proofs.Walks.{Entry, inside_none, inside_past, inside_some, span_behind, turned_rises}
use Rattle.ryw_view.specs.Segments.{AreBare}
use Rattle.ryw_view.specs.Walks.{is_inside, stored_between, IsFirstMet}
use Rattle.ryw_view.proofs.Firsts.{first_met, found, met_first}
use Rattle.ryw_view.proofs.Lists.{Has}
use Rattle.ryw_view.proofs.Segments.{bare_met, met_inside, untouched_up}

-- the first pair from a key on, up to a boundary, is what a walk meets first in that segment
pub between_met : (database : Database) (from : List ℕ) (boundary : Option (List ℕ)) (pair : Option Entry)
    → first (stored_between database from boundary) ≡ pair → IsFirstMet database from false boundary pair
between_met database from None pair is = first_met database from false pair is
between_met database from (Some boundary) pair is = by_first (first (onward database from false)) refl
  where
    by_boundary : (x : Entry) → first (onward database from false) ≡ Some x → (t : Bool) → key_lt x.0 boundary ≡ t
        → IsFirstMet database from false (Some boundary) (cond t (Some x) None) → IsFirstMet database from false (Some boundary) pair
    by_boundary x some true below met =
        let low = (first_met database from false (Some x) some).0.onward in
        subst (IsFirstMet database from false (Some boundary)) (sym (inside_some database from boundary false x some (λ i. low i && below i)) ∙ is) met
    by_boundary x some false past met =
        let low = (first_met database from false (Some x) some).0.onward in
        subst (IsFirstMet database from false (Some boundary)) (sym (inside_past database from boundary false x some (λ i. low i && past i)) ∙ is) met

    by_first : (o : Option Entry) → first (onward database from false) ≡ o → IsFirstMet database from false (Some boundary) pair
    by_first None none =
        subst (IsFirstMet database from false (Some boundary)) (sym (inside_none database from boundary false none) ∙ is)
        (met_inside database from false (Some boundary) None (first_met database from false None none))
    by_first (Some x) some =
        by_boundary x some (key_lt x.0 boundary) refl
        (met_inside database from false (Some boundary) (Some x) (first_met database from false (Some x) some))

-- ---- one pair

-- the first stored pair from a key on is below an end, and up to a boundary no mutation touches the keys from that key on
module _ (mutations : List Mutation) (stored : Database) (from until end : List ℕ) (boundary : Option (List ℕ))
    (bare : AreBare mutations from false boundary) (pair : Entry) (rest : Entries)
    (is : stored_between stored from (Some until) ≡ pair ∷ rest)
    (inside : is_inside boundary false pair.0 ≡ true) (below : key_lt pair.0 end ≡ true) where
  abbrev view : Database
  view = seen mutations stored

  met : IsFirstMet stored from false (Some until) (Some pair)
  met = between_met stored from (Some until) (Some pair) (ap first is)

  first_seen : first (span view from end false) ≡ Some pair
  first_seen =
      inside_some view from end false pair
      (sym (met_first view from false (Some pair) ((bare_met mutations stored from false boundary bare (Some pair) (met.0, inside)).0, refl)))
      (λ i. met.0.onward i && below i)

  -- the others are those from the key after it on
  pub others_behind : rest ≡ stored_between stored (after pair.0) (Some until)
  others_behind = sym (span_behind stored from until false pair rest is)

  -- what was taken with it, and what is left behind it, stays the whole
  pub run_whole : (taken more all : Entries) → taken ++ span view from end false ≡ all → more ≡ taken ++ pair ∷ []
      → more ++ span view (after pair.0) end false ≡ all
  run_whole = step_whole view from end false pair first_seen (after pair.0) end refl refl

  -- no mutation touches the keys behind it
  pub bare_behind : AreBare mutations (after pair.0) false boundary
  bare_behind =
      untouched_up mutations from (after pair.0) boundary bare
      (ap not (above_not_below from (after pair.0) (lt_after from pair.0 ∙ met.0.onward)))

-- ---- none is left

filter_same : (p q : Entry → Bool) (es : Entries) → ((e : Entry) → Has e es → p e ≡ q e) → filter p es ≡ filter q es
filter_same p q [] same = refl
filter_same p q (e ∷ es) same =
    let rest = filter_same p q es (λ f there. same f (inr there)) in λ i. cond (same e (inl refl) i) (e ∷ rest i) (rest i)

-- where no pair is stored from a key up to another, and no mutation touches the keys there, a range from the one is that from the other
pub none_up_to : (mutations : List Mutation) (stored : Database) (from until end : List ℕ) → AreBare mutations from false (Some until)
    → key_lt until from ≡ false → stored_between stored from (Some until) ≡ []
    → span (seen mutations stored) from end false ≡ span (seen mutations stored) until end false
none_up_to mutations stored from until end bare low none =
    filter_same (λ e. within from end e.0) (λ e. within until end e.0) (finite.entries (seen mutations stored)) (λ e there. by_until e there (key_lt e.0 until) refl)
  where
    none_met : IsFirstMet (seen mutations stored) from false (Some until) None
    none_met = bare_met mutations stored from false (Some until) bare None (between_met stored from (Some until) None (ap first none))

    there_is : (e : Entry) → Has e (finite.entries (seen mutations stored)) → finite.get (seen mutations stored) e.0 ≡ Some e.1
    there_is e there =
        finite.get-entries (seen mutations stored) e.0
        ∙ found e (finite.entries (seen mutations stored)) (turned_rises (seen mutations stored) false) there

    by_from : (e : Entry) → Has e (finite.entries (seen mutations stored)) → key_lt e.0 until ≡ true → (t : Bool) → key_lt e.0 from ≡ t
        → (not t && key_lt e.0 end) ≡ false
    by_from e there below true _ = refl
    by_from e there below false over = absurd (none-some e.1 (sym (none_met e.0 (ap not over) below) ∙ there_is e there))

    by_until : (e : Entry) → Has e (finite.entries (seen mutations stored)) → (t : Bool) → key_lt e.0 until ≡ t
        → (not (key_lt e.0 from) && key_lt e.0 end) ≡ (not t && key_lt e.0 end)
    by_until e there true below = by_from e there below (key_lt e.0 from) refl
    by_until e there false over = ap (λ t. not t && key_lt e.0 end) (from_too (key_lt e.0 from) refl)
      where
        from_too : (t : Bool) → key_lt e.0 from ≡ t → t ≡ false
        from_too true under = absurd (true≢false (sym (lt_le e.0 from until under low) ∙ over))
        from_too false _ = refl
