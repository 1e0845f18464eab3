-- Mutations with each versionstamp filled in.
use Rattle.std.proofs.Common.{◌≡◌, ℕ, false, List, [], ◌∷◌, ◌++◌, refl, ◌∙◌, true≢false}
use Rattle.std.proofs.lemmas.Bool.{or_parts}
use Rattle.std.specs.List.{list_any}
use Rattle.model_database.specs.declared.AtomicOp.{AtomicOp}
use Rattle.model_database.specs.declared.AtomicOp.TheVariants as atomic
use Rattle.model_database.specs.Databases.{Mutation, Set, Clear, ClearRange, Atomic}
use Rattle.model_database.specs.States.{filled, all_filled, unreadable_by, unreadable}
use Rattle.write_map.specs.Stamps.{is_stamped}

-- ---- filled in, they make no key unreadable

one_readable : (stamp : List ℕ) (mutation : Mutation) → unreadable_by (filled stamp mutation) ≡ []
one_readable stamp (Set key value) = refl
one_readable stamp (Clear key) = refl
one_readable stamp (ClearRange begin end) = refl
one_readable stamp (Atomic op key operand) = by_operation op
  where
    by_operation : (op : AtomicOp) → unreadable_by (filled stamp (Atomic op key operand)) ≡ []
    by_operation atomic.SetVersionstampedKey = refl
    by_operation atomic.SetVersionstampedValue = refl
    by_operation atomic.OldStampedKey = refl
    by_operation atomic.OldStampedValue = refl
    by_operation _ = refl

pub filled_readable : (stamp : List ℕ) (mutations : List Mutation) → unreadable (all_filled stamp mutations) ≡ []
filled_readable stamp [] = refl
filled_readable stamp (mutation ∷ mutations) =
    (λ i. one_readable stamp mutation i ++ unreadable (all_filled stamp mutations)) ∙ filled_readable stamp mutations

-- ---- without a versionstamp there is nothing to fill in

one_plain : (stamp : List ℕ) (mutation : Mutation) → is_stamped mutation ≡ false
    → (filled stamp mutation ≡ mutation) × (unreadable_by mutation ≡ [])
one_plain stamp (Set key value) plain = (refl, refl)
one_plain stamp (Clear key) plain = (refl, refl)
one_plain stamp (ClearRange begin end) plain = (refl, refl)
one_plain stamp (Atomic op key operand) plain = by_operation op plain
  where
    by_operation : (op : AtomicOp) → is_stamped (Atomic op key operand) ≡ false
        → (filled stamp (Atomic op key operand) ≡ Atomic op key operand) × (unreadable_by (Atomic op key operand) ≡ [])
    by_operation atomic.SetVersionstampedKey plain = absurd (true≢false plain)
    by_operation atomic.SetVersionstampedValue plain = absurd (true≢false plain)
    by_operation atomic.OldStampedKey plain = absurd (true≢false plain)
    by_operation atomic.OldStampedValue plain = absurd (true≢false plain)
    by_operation _ plain = (refl, refl)

pub plain_filled : (stamp : List ℕ) (mutations : List Mutation) → list_any is_stamped mutations ≡ false
    → all_filled stamp mutations ≡ mutations
plain_filled stamp [] none = refl
plain_filled stamp (mutation ∷ mutations) none =
    let both = or_parts (is_stamped mutation) (list_any is_stamped mutations) none in
    (λ i. (one_plain stamp mutation both.0).0 i ∷ plain_filled stamp mutations both.1 i)

pub plain_readable : (mutations : List Mutation) → list_any is_stamped mutations ≡ false → unreadable mutations ≡ []
plain_readable [] none = refl
plain_readable (mutation ∷ mutations) none =
    let both = or_parts (is_stamped mutation) (list_any is_stamped mutations) none in
    (λ i. (one_plain [] mutation both.0).1 i ++ plain_readable mutations both.1 i)
