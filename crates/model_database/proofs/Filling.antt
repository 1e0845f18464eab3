-- Mutations whose versionstamps are filled in have none left, and mutations without one stay as they are.
use Rattle.std.proofs.Common.{◌≡◌, ℕ, true, List, [], ◌∷◌, ◌++◌, refl, ap, ◌∙◌}
use Rattle.std.specs.List.{list_all}
use Rattle.std.proofs.lemmas.Bool.{and_from, and_parts}
use Rattle.model_database.specs.declared.AtomicOp.TheVariants as atomic
use Rattle.model_database.specs.Databases.{Mutation, Set, Clear, ClearRange, Atomic}
use Rattle.model_database.specs.States.{filled, all_filled, unreadable_by, unreadable}
use Rattle.model_database.specs.KeyByKey.{is_plain}

-- ---- one mutation

pub plain_itself : (stamp : List ℕ) (mutation : Mutation) → is_plain mutation ≡ true → filled stamp mutation ≡ mutation
plain_itself stamp (Set key value) plain = refl
plain_itself stamp (Clear key) plain = refl
plain_itself stamp (ClearRange begin end) plain = refl
plain_itself stamp (Atomic atomic.SetVersionstampedKey key operand) plain = absurd cc
plain_itself stamp (Atomic atomic.SetVersionstampedValue key operand) plain = absurd cc
plain_itself stamp (Atomic atomic.OldStampedKey key operand) plain = absurd cc
plain_itself stamp (Atomic atomic.OldStampedValue key operand) plain = absurd cc
plain_itself stamp (Atomic op key operand) plain = refl

pub none_unreadable : (mutation : Mutation) → is_plain mutation ≡ true → unreadable_by mutation ≡ []
none_unreadable (Set key value) plain = refl
none_unreadable (Clear key) plain = refl
none_unreadable (ClearRange begin end) plain = refl
none_unreadable (Atomic atomic.SetVersionstampedKey key operand) plain = absurd cc
none_unreadable (Atomic atomic.SetVersionstampedValue key operand) plain = absurd cc
none_unreadable (Atomic atomic.OldStampedKey key operand) plain = absurd cc
none_unreadable (Atomic atomic.OldStampedValue key operand) plain = absurd cc
none_unreadable (Atomic op key operand) plain = refl

pub filled_is_plain : (stamp : List ℕ) (mutation : Mutation) → is_plain (filled stamp mutation) ≡ true
filled_is_plain stamp (Set key value) = refl
filled_is_plain stamp (Clear key) = refl
filled_is_plain stamp (ClearRange begin end) = refl
filled_is_plain stamp (Atomic atomic.SetVersionstampedKey key operand) = refl
filled_is_plain stamp (Atomic atomic.SetVersionstampedValue key operand) = refl
filled_is_plain stamp (Atomic atomic.OldStampedKey key operand) = refl
filled_is_plain stamp (Atomic atomic.OldStampedValue key operand) = refl
filled_is_plain stamp (Atomic op key operand) = refl

-- ---- many

-- where no mutation has a versionstamp, all keys can be read
pub plain_readable : (mutations : List Mutation) → list_all is_plain mutations ≡ true → unreadable mutations ≡ []
plain_readable [] plain = refl
plain_readable (mutation ∷ mutations) plain =
    let parts = and_parts (is_plain mutation) (list_all is_plain mutations) plain in
    ap (λ list. list ++ unreadable mutations) (none_unreadable mutation parts.0) ∙ plain_readable mutations parts.1

-- and a stamp changes none of them
pub plain_filled : (stamp : List ℕ) (mutations : List Mutation) → list_all is_plain mutations ≡ true
    → all_filled stamp mutations ≡ mutations
plain_filled stamp [] plain = refl
plain_filled stamp (mutation ∷ mutations) plain =
    let parts = and_parts (is_plain mutation) (list_all is_plain mutations) plain in
    ap (λ first. first ∷ all_filled stamp mutations) (plain_itself stamp mutation parts.0)
    ∙ ap (λ list. mutation ∷ list) (plain_filled stamp mutations parts.1)

-- mutations with their stamp filled in have no versionstamp
pub all_filled_plain : (stamp : List ℕ) (mutations : List Mutation) → list_all is_plain (all_filled stamp mutations) ≡ true
all_filled_plain stamp [] = refl
all_filled_plain stamp (mutation ∷ mutations) =
    and_from (is_plain (filled stamp mutation)) (list_all is_plain (all_filled stamp mutations)) (filled_is_plain stamp mutation)
    (all_filled_plain stamp mutations)

-- so all keys can be read
pub filled_readable : (stamp : List ℕ) (mutations : List Mutation) → unreadable (all_filled stamp mutations) ≡ []
filled_readable stamp mutations = plain_readable (all_filled stamp mutations) (all_filled_plain stamp mutations)
