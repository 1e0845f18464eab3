-- What reads see, key by key.
use Rattle.std.proofs.Common.{◌≡◌, ℕ, Bool, true, false, cond, List, Option, None, refl, sym, ap, ◌∙◌}
use Rattle.std.specs.Prelude.{not}
use Rattle.std.specs.FinMap as finite
use Rattle.std.proofs.lemmas.Map.Lookups.{exact_bytes}
use Rattle.model_database.specs.Databases.{Database, Mutation, do_all}
use Rattle.model_database.specs.States.{KeyState, state_under, value_in, covers, unreadable, seen}
use Rattle.model_database.proofs.States.{get-under}

cond_not : (b : Bool) (old : Option (List ℕ)) → cond (not b) old None ≡ cond b None old
cond_not true old = refl
cond_not false old = refl

-- nothing at an unreadable key, and else what the state of the key makes of the value before
pub get-seen : (mutations : List Mutation) (database : Database) (q : List ℕ) → finite.get (seen mutations database) q
    ≡ cond (covers (unreadable mutations) q) None (value_in (state_under mutations q) (finite.get database q))
unfolding seen
get-seen mutations database q =
    finite.get-retain_keys (do_all mutations database) (λ key. not (covers (unreadable mutations) key)) q
    (λ k same. ap (λ key. not (covers (unreadable mutations) key)) (sym (exact_bytes q k same)))
    ∙ cond_not (covers (unreadable mutations) q) (finite.get (do_all mutations database) q)
    ∙ ap (cond (covers (unreadable mutations) q) None) (get-under mutations database q)

pub seen_unreadable : (mutations : List Mutation) (database : Database) (q : List ℕ) → covers (unreadable mutations) q ≡ true
    → finite.get (seen mutations database) q ≡ None
seen_unreadable mutations database q is =
    get-seen mutations database q ∙ ap (λ b. cond b None (value_in (state_under mutations q) (finite.get database q))) is

pub seen_readable : (mutations : List Mutation) (database : Database) (q : List ℕ) (state : KeyState)
    → covers (unreadable mutations) q ≡ false → state_under mutations q ≡ state
    → finite.get (seen mutations database) q ≡ value_in state (finite.get database q)
seen_readable mutations database q state readable is =
    get-seen mutations database q ∙ (λ i. cond (readable i) None (value_in (is i) (finite.get database q)))
