-- Mutations that touch no key of a subspace leave what its allocator knows, with their versionstamps filled in or not.
use Rattle.std.proofs.Common.{◌≡◌, ℕ, Bool, true, false, cond, List, [], ◌∷◌, ◌++◌, Option, inl, inr, refl, ap, ◌∙◌}
use Rattle.std.specs.Prelude.{⊤, is_some, bytes_eq}
use Rattle.std.specs.FinMap as finite
use Rattle.std.proofs.Math.Seq.{take-append_seam}
use Rattle.std.proofs.lemmas.Bool.{both_ways, or_from}
use Rattle.std.proofs.lemmas.Slice.Eq.{bytes_eq-Decides}
use Rattle.key_bytes.specs.Keys.{begins_with}
use Rattle.model_database.specs.declared.AtomicOp.{AtomicOp}
use Rattle.model_database.specs.declared.AtomicOp.TheVariants as atomic
use Rattle.model_database.specs.Atomics.{atom, is_versionstamped}
use Rattle.model_database.specs.Databases.{Database, Mutation, Set, Clear, ClearRange, Atomic, do_all}
use Rattle.model_database.specs.Intervals.{decided, decided_by}
use Rattle.model_database.specs.KeyByKey.{made_of, at_key, at_keys}
use Rattle.model_database.specs.States.{covers, filled, touches}
use Rattle.model_database.proofs.KeyByKey.{get-do_all, versionstamped_same}
use Rattle.model_database.proofs.Ranges.{covers_one, covers_single}
use Rattle.model_database.proofs.States.{covers-append}
use Rattle.model_allocator.specs.Counters.{counter_key, recent_key}
use Rattle.laws_prefixes.specs.Held.{AreFit, IsSpent}

-- ---- one mutation and one key

-- it leaves the value of the key as it is, and doesn't decide it
pub record Leaves (key : List ℕ) (mutation : Mutation) : Type 0 where
  pub kept : (old : Option (List ℕ)) → at_key mutation key old ≡ old
  pub undecided : covers (decided_by mutation) key ≡ false

-- a mutation leaves a key that it doesn't touch
pub untouched_leaves : (mutation : Mutation) (key : List ℕ) → touches mutation key ≡ false → Leaves key mutation
untouched_leaves mutation key untouched = record {
  kept = λ old. ap (λ b. cond b (made_of mutation old) old) untouched;
  undecided = by mutation untouched;
}
  where
    by : (mutation : Mutation) → touches mutation key ≡ false → covers (decided_by mutation) key ≡ false
    by (Set other value) untouched = covers_one other key ∙ untouched
    by (Clear other) untouched = covers_one other key ∙ untouched
    by (ClearRange begin end) untouched = covers_single (record { begin = begin; end = end }) key ∙ untouched
    by (Atomic op other operand) untouched = refl

-- one with a versionstamp that isn't filled in leaves each key
pub unfilled_leaves : (op : AtomicOp) (other operand key : List ℕ) → is_versionstamped op ≡ true → Leaves key (Atomic op other operand)
unfilled_leaves op other operand key stamped = record { kept = λ old. by (bytes_eq key other) old; undecided = refl }
  where
    by : (b : Bool) (old : Option (List ℕ)) → cond b (atom op old operand) old ≡ old
    by true old = versionstamped_same op old operand stamped
    by false old = refl

-- a mutation leaves a key that it doesn't touch with its versionstamp filled in
pub filled_leaves : (stamp : List ℕ) (mutation : Mutation) (key : List ℕ)
    → touches (filled stamp mutation) key ≡ false → Leaves key mutation
filled_leaves stamp (Set other value) key untouched = untouched_leaves (Set other value) key untouched
filled_leaves stamp (Clear other) key untouched = untouched_leaves (Clear other) key untouched
filled_leaves stamp (ClearRange begin end) key untouched = untouched_leaves (ClearRange begin end) key untouched
filled_leaves stamp (Atomic atomic.SetVersionstampedKey other operand) key untouched =
    unfilled_leaves atomic.SetVersionstampedKey other operand key refl
filled_leaves stamp (Atomic atomic.SetVersionstampedValue other operand) key untouched =
    unfilled_leaves atomic.SetVersionstampedValue other operand key refl
filled_leaves stamp (Atomic atomic.OldStampedKey other operand) key untouched = unfilled_leaves atomic.OldStampedKey other operand key refl
filled_leaves stamp (Atomic atomic.OldStampedValue other operand) key untouched =
    unfilled_leaves atomic.OldStampedValue other operand key refl
filled_leaves stamp (Atomic op other operand) key untouched = untouched_leaves (Atomic op other operand) key untouched

-- ---- many mutations and the keys of a subspace

-- each of these mutations leaves each key that begins with this prefix
abbrev pub AreLeaving : (space : List ℕ) → List Mutation → Type 0
AreLeaving space [] = ⊤
AreLeaving space (mutation ∷ mutations) = ((key : List ℕ) → begins_with key space ≡ true → Leaves key mutation) × AreLeaving space mutations

-- they make of a value what it is
leaving_kept : (space : List ℕ) (mutations : List Mutation) (key : List ℕ) (old : Option (List ℕ)) → AreLeaving space mutations
    → begins_with key space ≡ true → at_keys mutations key old ≡ old
leaving_kept space [] key old leaving inside = refl
leaving_kept space (mutation ∷ mutations) key old leaving inside =
    ap (at_keys mutations key) ((leaving.0 key inside).kept old) ∙ leaving_kept space mutations key old leaving.1 inside

-- and decide none of these keys
leaving_undecided : (space : List ℕ) (mutations : List Mutation) (key : List ℕ) → AreLeaving space mutations
    → begins_with key space ≡ true → covers (decided mutations) key ≡ false
leaving_undecided space [] key leaving inside = refl
leaving_undecided space (mutation ∷ mutations) key leaving inside =
    covers-append (decided_by mutation) (decided mutations) key
    ∙ or_from (covers (decided_by mutation) key) (covers (decided mutations) key) (leaving.0 key inside).undecided
    (leaving_undecided space mutations key leaving.1 inside)

-- a list that another one follows begins with it
pub begins_front : (front back : List ℕ) → begins_with (front ++ back) front ≡ true
begins_front front back = ap (bytes_eq front) (take-append_seam front back) ∙ (bytes_eq-Decides front front).1 refl

-- a number that is spent in a database is spent in each that has the same of the keys of the subspace
pub spent_same : (space : List ℕ) (number : ℕ) (one other : Database)
    → ((key : List ℕ) → begins_with key space ≡ true → finite.get other key ≡ finite.get one key)
    → IsSpent space number one → IsSpent space number other
spent_same space number one other same (inl recent) = inl (ap is_some (same (recent_key space number) (begins_front space _)) ∙ recent)
spent_same space number one other same (inr below) = inr (record {
  counter = below.counter;
  present = ap is_some (same (counter_key space below.counter) (begins_front space _)) ∙ below.present;
  above = below.above;
  small = below.small;
})

-- so such mutations are fit for the allocator of the subspace
pub leaving_fit : (space : List ℕ) (mutations : List Mutation) → AreLeaving space mutations → AreFit space mutations
leaving_fit space mutations leaving = record {
  keep = λ database number small spent. spent_same space number database (do_all mutations database)
      (λ key inside. get-do_all mutations database key ∙ leaving_kept space mutations key (finite.get database key) leaving inside) spent;
  deciding = λ number small decides. absurd (both_ways (covers (decided mutations) (recent_key space number))
      (leaving_undecided space mutations (recent_key space number) leaving (begins_front space _)) decides);
}
