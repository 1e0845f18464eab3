-- What reads see depends on the keys that no write decides.
use Rattle.std.proofs.Common.{◌≡◌, ℕ, false, cond, List, Option, None, refl, sym, ap, ◌∙◌}
use Rattle.std.specs.Prelude.{not}
use Rattle.std.specs.FinMap as finite
use Rattle.std.proofs.lemmas.Bool.{and_from}
use Rattle.std.proofs.lemmas.Map.Lookups.{exact_bytes}
use Rattle.key_bytes.specs.declared.range.KeyRange.{KeyRange}
use Rattle.model_database.specs.Databases.{Database, Mutation, do_all}
use Rattle.model_database.specs.Intervals.{decided, without}
use Rattle.model_database.specs.States.{KeyState, Unmodified, Decided, Depends, state_under, value_in, all_atoms, covers, unreadable, seen}
use Rattle.model_database.proofs.Deciding.{is_decided, decided_is}
use Rattle.model_database.proofs.Ranges.{covers_without}
use Rattle.model_database.proofs.States.{get-under}
use Rattle.laws_history.specs.Held.{AgreeOn}

-- a read sees what the writes leave at a key, and nothing at an unreadable one
pub get-seen : (writes : List Mutation) (m : Database) (key : List ℕ)
    → finite.get (seen writes m) key ≡ cond (not (covers (unreadable writes) key)) (finite.get (do_all writes m) key) None
unfolding seen
get-seen writes m key =
    finite.get-retain_keys (do_all writes m) (λ k. not (covers (unreadable writes) k)) key
    (λ k same. ap (λ k. not (covers (unreadable writes) k)) (sym (exact_bytes key k same)))

-- a key's state makes the same of two values, where these are the same unless it decides the key
pub value_local : (state : KeyState) (one other : Option (List ℕ)) → (is_decided state ≡ false → one ≡ other)
    → value_in state one ≡ value_in state other
value_local Unmodified one other same = same refl
value_local (Decided value) one other same = refl
value_local (Depends mutations) one other same = ap (all_atoms mutations) (same refl)

-- where two databases agree on the undecided keys of some ranges, writes leave the same at each key of the ranges
pub do_all_local : (writes : List Mutation) (m n : Database) (ranges : List KeyRange)
    → AgreeOn (without (decided writes) ranges) m n → AgreeOn ranges (do_all writes m) (do_all writes n)
do_all_local writes m n ranges agree key is_in =
    get-under writes m key
    ∙ value_local (state_under writes key) (finite.get m key) (finite.get n key) (λ undecided. agree key
    (covers_without (decided writes) ranges key
    ∙ and_from (covers ranges key) (not (covers (decided writes) key)) is_in (ap not (decided_is writes key ∙ undecided))))
    ∙ sym (get-under writes n key)

-- and reads see the same there
pub view_local : (writes : List Mutation) (m n : Database) (ranges : List KeyRange)
    → AgreeOn (without (decided writes) ranges) m n → AgreeOn ranges (seen writes m) (seen writes n)
view_local writes m n ranges agree key is_in =
    get-seen writes m key
    ∙ ap (λ value. cond (not (covers (unreadable writes) key)) value None) (do_all_local writes m n ranges agree key is_in)
    ∙ sym (get-seen writes n key)
