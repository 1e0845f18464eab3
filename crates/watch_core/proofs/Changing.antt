-- Watches that have the values of their keys, where a database changed at some keys.
use Rattle.std.proofs.Common.{◌≡◌, ℕ, ◌+◌, zero, suc, arith, true, false, cond, List, [], ◌∷◌, get_or, Option, Some, None, refl, sym, ap, subst, ◌∙◌}
use Rattle.std.specs.Prelude.{bytes_eq}
use Rattle.std.specs.Cmp.Lexicographic.{nat_list_cmp_total, texts_ties, same_text}
use Rattle.std.specs.FinMap as finite
use Rattle.std.specs.List.{Contains}
use Rattle.std.specs.Map.{keys_of}
use Rattle.model_database.specs.Databases.{Database}
use Rattle.version_store.specs.Changed.{changed, changed_by}
use Rattle.version_store.specs.Versions.{Versions, at, last_of}
use Rattle.watch_core.specs.Watching.{Watched, AreCurrent, AreCurrentBut}

-- what a database has at a key, where another may have changed
other_by : (key : List ℕ) (value : Option (List ℕ)) (database : Database) (at : List ℕ) → bytes_eq at key ≡ false
    → finite.get (changed_by (key, value) database) at ≡ finite.get database at
other_by key None database at other =
    finite.get-remove nat_list_cmp_total database key at
    ∙ ap (λ b. cond b None (finite.get database at)) (sym (texts_ties at key) ∙ other)
other_by key (Some value) database at other =
    finite.get-insert nat_list_cmp_total database key value at
    ∙ ap (λ b. cond b (Some value) (finite.get database at)) (sym (texts_ties at key) ∙ other)

-- a database has what it had at a key that no change names
pub others_stay : (changes : List (List ℕ × Option (List ℕ))) (database : Database) (at : List ℕ) → (Contains (keys_of changes) at → ⊥)
    → finite.get (changed changes database) at ≡ finite.get database at
others_stay [] database at other = refl
others_stay (change ∷ changes) database at other =
    others_stay changes (changed_by change database) at (λ later. other (suc later.0, omega (arith, later.1), later.2))
    ∙ elim (bytes_eq at change.0) as (λ b. bytes_eq at change.0 ≡ b → finite.get (changed_by change database) at ≡ finite.get database at) [
      | true ↦ λ e. absurd (other (zero, omega arith, sym (same_text at change.0 (sym e))))
      | false ↦ λ e. other_by change.0 change.1 database at e
    ] refl

-- where a database has at each other key what the one before had, each watch on another key that had its value has it still
pub current_but : (keys : List (List ℕ)) (before after : Database) (watches : List Watched)
    → ((at : List ℕ) → (Contains keys at → ⊥) → finite.get after at ≡ finite.get before at)
    → AreCurrent before watches → AreCurrentBut keys after watches
current_but keys before after watches same current = λ i d within other pending.
    let watch = get_or watches i d in
    current i d within pending ∙ sym (same watch.key other)

-- so it is after changes, at each key that they don't name
pub current_changed : (changes : List (List ℕ × Option (List ℕ))) (database : Database) (watches : List Watched)
    → AreCurrent database watches → AreCurrentBut (keys_of changes) (changed changes database) watches
current_changed changes database watches current =
    current_but (keys_of changes) database (changed changes database) watches (others_stay changes database) current

-- so it is after changes were installed
pub current_installed : (changes : List (List ℕ × Option (List ℕ))) (before ready after : Versions) (watches : List Watched)
    → last_of ready ≡ last_of before → ((version : ℕ) → at ready version ≡ at before version)
    → last_of after ≡ last_of ready + 1 → at after (last_of ready + 1) ≡ changed changes (at ready (last_of ready))
    → AreCurrent (at before (last_of before)) watches
    → (keys : List (List ℕ)) → keys ≡ keys_of changes → AreCurrentBut keys (at after (last_of after)) watches
current_installed changes before ready after watches same reads next new current keys are =
    let database : at after (last_of after) ≡ changed changes (at before (last_of before)) =
    ap (at after) next ∙ (new ∙ ap (changed changes) (reads (last_of ready) ∙ ap (at before) same)) in
    subst (λ ks. AreCurrentBut ks (at after (last_of after)) watches) (sym are)
    (subst (λ d. AreCurrentBut (keys_of changes) d watches) (sym database)
    (current_changed changes (at before (last_of before)) watches current))
