-- A mutation that leaves a key alone leaves it alone with its versionstamp filled in, too.
use Rattle.std.proofs.Common.{◌≡◌, ℕ, zero, suc, ◌+◌, ◌<◌, Bool, true, false, cond, List, [], ◌∷◌, ◌++◌, length, take, drop, replicate, Option, Some, inl, inr, refl, sym, ap, ◌∙◌, subst, length-append, arith}
use Rattle.std.specs.Prelude.{not, ◌&&◌, bytes_eq}
use Rattle.std.specs.List.{AllByRecursion}
use Rattle.std.specs.Ordering.{is_lt, ordering_then}
use Rattle.std.specs.Cmp.Lexicographic.{nat_list_cmp_total, same_text}
use Rattle.std.proofs.lemmas.Bool.{and_from, cases_lt}
use Rattle.std.proofs.lemmas.Cmp.{tied_itself}
use Rattle.key_bytes.specs.Keys.{key_cmp, key_lt}
use Rattle.key_bytes.proofs.Orders.{lt_rest, lt_later, lt_after, key_cmp-append, key_cmp-same_front, ordering_then-equal}
use Rattle.model_database.specs.declared.AtomicOp.TheVariants as atomic
use Rattle.model_database.specs.declared.StampForm.{StampForm}
use Rattle.model_database.specs.declared.StampForm.TheVariants as form
use Rattle.model_database.specs.Atomics.{is_versionstamped}
use Rattle.model_database.specs.Databases.{Mutation, Set, Clear, ClearRange, Atomic}
use Rattle.model_database.specs.Histories.{stamp_of}
use Rattle.model_database.specs.KeyByKey.{at_key, is_plain, made_of, modifies}
use Rattle.model_database.specs.States.{covers, filled, stamp_place, stamped, stamped_keys, template, touches, unreadable_by}
use Rattle.model_database.proofs.KeyByKey.{versionstamped_same}
use Rattle.model_database.proofs.Ranges.{covers_one, covers_single}
use Rattle.model_database.proofs.Stamps.{stamp_is, stamp_length}

-- ---- where a stamped key lies

-- bytes of one length have their order between the same bytes
around : (front one other rest : List ℕ) → length one ≡ length other
    → key_lt (front ++ one ++ rest) (front ++ other ++ rest) ≡ key_lt one other
around front one other rest same =
    let alike : length (front ++ one) ≡ length (front ++ other) = omega (arith, length-append front one, length-append front other, same) in
    ap is_lt
    (key_cmp-append (front ++ one) (front ++ other) rest rest alike
    ∙ ap (ordering_then (key_cmp (front ++ one) (front ++ other))) (tied_itself nat_list_cmp_total rest)
    ∙ ordering_then-equal (key_cmp (front ++ one) (front ++ other))
    ∙ key_cmp-same_front front one other)

not_below_zeros : (bytes : List ℕ) → key_lt bytes (replicate (length bytes) 0) ≡ false
not_below_zeros [] = refl
not_below_zeros (zero ∷ bytes) = lt_rest 0 0 bytes (replicate (length bytes) 0) refl ∙ not_below_zeros bytes
not_below_zeros (suc byte ∷ bytes) = lt_later (suc byte) 0 bytes (replicate (length bytes) 0) (omega arith)

not_above_tops : (bytes : List ℕ) → AllByRecursion (λ byte. byte < 256) bytes → key_lt (replicate (length bytes) 255) bytes ≡ false
not_above_tops [] small = refl
not_above_tops (byte ∷ bytes) small = elim (cases_lt byte 255) [
  | inl below ↦ lt_later 255 byte (replicate (length bytes) 255) bytes below
  | inr above ↦ lt_rest 255 byte (replicate (length bytes) 255) bytes (omega (arith, above, small.0)) ∙ not_above_tops bytes small.1
]

stamp_bytes : (version : ℕ) → AllByRecursion (λ byte. byte < 256) (stamp_of version)
stamp_bytes version = subst (AllByRecursion (λ byte. byte < 256)) (sym (stamp_is version))
    (omega arith, (omega arith, (omega arith, (omega arith, (omega arith, (omega arith, (omega arith, (omega arith, (omega arith, (omega arith, tt))))))))))

-- a stamped key lies among those that it makes unreadable
stamped_hidden : (version : ℕ) (form : StampForm) (key : List ℕ)
    → covers (stamped_keys form key ∷ []) (stamped form (stamp_of version) key) ≡ true
unfolding stamped
stamped_hidden version form key =
    let stamp = stamp_of version in
    let ten = stamp_length version in
    let front = take (stamp_place form key) (template form key) in
    let rest = drop (stamp_place form key + 10) (template form key) in
    covers_single (stamped_keys form key) (front ++ stamp ++ rest)
    ∙ and_from _ _
    (ap not (around front stamp (replicate 10 0) rest ten ∙ ap (λ n. key_lt stamp (replicate n 0)) (sym ten) ∙ not_below_zeros stamp))
    (lt_after (front ++ stamp ++ rest) (front ++ replicate 10 255 ++ rest)
    ∙ ap not (around front (replicate 10 255) stamp rest (sym ten) ∙ ap (λ n. key_lt (replicate n 255) stamp) (sym ten)
    ∙ not_above_tops stamp (stamp_bytes version)))

-- ---- mutations

-- one that doesn't change a key's state leaves its value
pub unmodified : (mutation : Mutation) (q : List ℕ) (old : Option (List ℕ)) → modifies q mutation ≡ false → at_key mutation q old ≡ old
unmodified mutation q old apart = by (touches mutation q) refl
  where
    stamped_kept : (mutation : Mutation) → is_plain mutation ≡ false → made_of mutation old ≡ old
    stamped_kept (Set key value) is = absurd cc
    stamped_kept (Clear key) is = absurd cc
    stamped_kept (ClearRange begin end) is = absurd cc
    stamped_kept (Atomic op key operand) is = by_stamped (is_versionstamped op) refl is
      where
        by_stamped : (b : Bool) → is_versionstamped op ≡ b → not b ≡ false → made_of (Atomic op key operand) old ≡ old
        by_stamped true it is = versionstamped_same op old operand it
        by_stamped false it is = absurd cc

    by : (touched : Bool) → touches mutation q ≡ touched → cond touched (made_of mutation old) old ≡ old
    by false is = refl
    by true is = stamped_kept mutation (ap (λ b. b && is_plain mutation) (sym is) ∙ apart)

-- a set of another key than this one
other_set : (key value q : List ℕ) (old : Option (List ℕ)) → bytes_eq q key ≡ false → at_key (Set key value) q old ≡ old
other_set key value q old other = ap (λ (touched : Bool). cond touched (Some value) old) other

not_stamped : (version : ℕ) (form : StampForm) (key q : List ℕ) → covers (stamped_keys form key ∷ []) q ≡ false
    → bytes_eq q (stamped form (stamp_of version) key) ≡ false
not_stamped version form key q outside = by (bytes_eq q (stamped form (stamp_of version) key)) refl
  where
    by : (same : Bool) → bytes_eq q (stamped form (stamp_of version) key) ≡ same → same ≡ false
    by false is = refl
    by true is = absurd (
        let it : q ≡ stamped form (stamp_of version) key = same_text q (stamped form (stamp_of version) key) (sym is) in
        let inside : covers (stamped_keys form key ∷ []) q ≡ true =
        ap (covers (stamped_keys form key ∷ [])) it ∙ stamped_hidden version form key in cc)

-- one that changes no state of a key and doesn't make it unreadable leaves its value with a versionstamp filled in
pub filled_unmodified : (version : ℕ) (mutation : Mutation) (q : List ℕ) (old : Option (List ℕ)) → modifies q mutation ≡ false
    → covers (unreadable_by mutation) q ≡ false → at_key (filled (stamp_of version) mutation) q old ≡ old
filled_unmodified version (Set key value) q old apart readable = unmodified (Set key value) q old apart
filled_unmodified version (Clear key) q old apart readable = unmodified (Clear key) q old apart
filled_unmodified version (ClearRange begin end) q old apart readable = unmodified (ClearRange begin end) q old apart
filled_unmodified version (Atomic atomic.SetVersionstampedKey key operand) q old apart readable =
    other_set (stamped form.Last4 (stamp_of version) key) operand q old (not_stamped version form.Last4 key q readable)
filled_unmodified version (Atomic atomic.OldStampedKey key operand) q old apart readable =
    other_set (stamped form.Last2 (stamp_of version) key) operand q old (not_stamped version form.Last2 key q readable)
filled_unmodified version (Atomic atomic.SetVersionstampedValue key operand) q old apart readable =
    other_set key (stamped form.Last4 (stamp_of version) operand) q old (sym (covers_one key q) ∙ readable)
filled_unmodified version (Atomic atomic.OldStampedValue key operand) q old apart readable =
    other_set key (stamped form.Front (stamp_of version) operand) q old (sym (covers_one key q) ∙ readable)
filled_unmodified version (Atomic op key operand) q old apart readable = unmodified (Atomic op key operand) q old apart
