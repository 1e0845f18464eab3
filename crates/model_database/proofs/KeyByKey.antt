-- What mutations make of a map, key by key.
use Rattle.std.proofs.Common.{◌≡◌, ℕ, Bool, true, false, cond, List, [], ◌∷◌, ◌++◌, Option, Some, None, refl, sym, ap, ◌∙◌}
use Rattle.std.specs.Prelude.{not, bytes_eq}
use Rattle.std.specs.Cmp.Lexicographic.{nat_list_cmp_total, texts_ties, same_text}
use Rattle.std.specs.FinMap as finite
use Rattle.std.proofs.lemmas.Map.Lookups.{exact_bytes}
use Rattle.key_bytes.specs.Keys.{within}
use Rattle.model_database.specs.declared.AtomicOp.{AtomicOp}
use Rattle.model_database.specs.declared.AtomicOp.TheVariants as atomic
use Rattle.model_database.specs.Atomics.{atom, is_versionstamped}
use Rattle.model_database.specs.Databases.{Database, Mutation, Set, Clear, ClearRange, Atomic, put, do_one, do_all}
use Rattle.model_database.specs.KeyByKey.{at_key, at_keys}

pub get-put : (m : Database) (key : List ℕ) (value : Option (List ℕ)) (q : List ℕ)
    → finite.get (put m key value) q ≡ cond (bytes_eq q key) value (finite.get m q)
get-put m key (Some value) q =
    finite.get-insert nat_list_cmp_total m key value q ∙ ap (λ b. cond b (Some value) (finite.get m q)) (sym (texts_ties q key))
get-put m key None q = finite.get-remove nat_list_cmp_total m key q ∙ ap (λ b. cond b None (finite.get m q)) (sym (texts_ties q key))

cond_not : (b : Bool) (old : Option (List ℕ)) → cond (not b) old None ≡ cond b None old
cond_not true old = refl
cond_not false old = refl

pub get-do_one : (mutation : Mutation) (m : Database) (q : List ℕ) → finite.get (do_one mutation m) q ≡ at_key mutation q (finite.get m q)
get-do_one (Set key value) m q = get-put m key (Some value) q
get-do_one (Clear key) m q = get-put m key None q
get-do_one (ClearRange begin end) m q =
    finite.get-retain_keys m (λ k. not (within begin end k)) q (λ k same. ap (λ k. not (within begin end k)) (sym (exact_bytes q k same)))
    ∙ cond_not (within begin end q) (finite.get m q)
get-do_one (Atomic op key operand) m q =
    get-put m key (atom op (finite.get m key) operand) q
    ∙ elim (bytes_eq q key) as (λ b. bytes_eq q key ≡ b → cond b (atom op (finite.get m key) operand) (finite.get m q) ≡ cond b (atom op (finite.get m q) operand) (finite.get m q)) [
      | true ↦ λ same. ap (λ k. atom op (finite.get m k) operand) (sym (same_text q key (sym same)))
      | false ↦ λ other. refl
    ] refl

-- a map after mutations has at a key what they make of its value there
pub get-do_all : (mutations : List Mutation) (m : Database) (q : List ℕ)
    → finite.get (do_all mutations m) q ≡ at_keys mutations q (finite.get m q)
get-do_all [] m q = refl
get-do_all (mutation ∷ mutations) m q = get-do_all mutations (do_one mutation m) q ∙ ap (at_keys mutations q) (get-do_one mutation m q)

pub at_keys-append : (first second : List Mutation) (q : List ℕ) (old : Option (List ℕ))
    → at_keys (first ++ second) q old ≡ at_keys second q (at_keys first q old)
at_keys-append [] second q old = refl
at_keys-append (mutation ∷ first) second q old = at_keys-append first second q (at_key mutation q old)

-- a mutation with a versionstamp changes nothing
pub versionstamped_same : (op : AtomicOp) (old : Option (List ℕ)) (operand : List ℕ) → is_versionstamped op ≡ true
    → atom op old operand ≡ old
unfolding atom
versionstamped_same atomic.SetVersionstampedKey None operand is = refl
versionstamped_same atomic.SetVersionstampedKey (Some old) operand is = refl
versionstamped_same atomic.SetVersionstampedValue None operand is = refl
versionstamped_same atomic.SetVersionstampedValue (Some old) operand is = refl
versionstamped_same atomic.OldStampedKey None operand is = refl
versionstamped_same atomic.OldStampedKey (Some old) operand is = refl
versionstamped_same atomic.OldStampedValue None operand is = refl
versionstamped_same atomic.OldStampedValue (Some old) operand is = refl
versionstamped_same _ old operand is = absurd cc
