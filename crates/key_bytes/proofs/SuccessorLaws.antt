-- Laws of strinc: it is the least key above every key that begins with a prefix, and ends the range of these keys.
use Rattle.std.proofs.Common.{◌≡◌, ℕ, ◌+◌, ◌<◌, ◌≤◌, ◌⊎◌, ◌↔◌, Bool, true, false, cond, not, ◌&&◌, List, [], ◌∷◌, ◌++◌, Option, Some, None, All, IsTrue, nat_lt, inl, inr, refl, sym, ap, subst, ◌∙◌, true≢false, arith, lt-ltb, ltb-true, ltb-false, eq-eqb, le-ltb, le_antisymm, eq-or-lt_of_le}
use Rattle.std.specs.Option.{option_map_or}
use Rattle.std.proofs.lemmas.Bool.Decides.{nat_tests}
use Rattle.std.proofs.lemmas.List.Elements.{All-nil, All-cons, All-head, All-tail, All-weaker}
use Rattle.std.proofs.lemmas.Option.{same_Some, none-some}
use Rattle.key_bytes.specs.Keys.{IsByteString, begins_with, key_lt, within}
use Rattle.key_bytes.proofs.Orders.{lt_first, lt_later, lt_rest, not_below_alone, below_alone, irreflexive, head_le, head_ge}
use Rattle.key_bytes.specs.Successors.{raised, strinc, IsAboveEach, IsLeastAbove}

-- ---- what begins with a byte and more

begins_same : (b c : ℕ) (k p : List ℕ) → b ≡ c → begins_with (c ∷ k) (b ∷ p) ≡ begins_with k p
begins_same b c k p same = ap (λ t. t && begins_with k p) (eq-eqb b c same)

begins_itself : (p : List ℕ) → begins_with p p ≡ true
begins_itself [] = refl
begins_itself (b ∷ p) = begins_same b b p p refl ∙ begins_itself p

begins_parts : (b c : ℕ) (k p : List ℕ) → begins_with (c ∷ k) (b ∷ p) ≡ true → (b ≡ c) × (begins_with k p ≡ true)
begins_parts b c k p h = grind (arith, nat_tests)

-- a key that begins with another isn't below it
begins_le : (k p : List ℕ) → begins_with k p ≡ true → key_lt k p ≡ false
begins_le [] [] h = refl
begins_le (c ∷ k) [] h = refl
begins_le [] (b ∷ p) h = absurd (true≢false (sym h))
begins_le (c ∷ k) (b ∷ p) h =
    let parts = begins_parts b c k p h in
    lt_rest c b k p (sym parts.0) ∙ begins_le k p parts.1

-- ---- strinc, by the first byte

split_some : (b : ℕ) (p next : List ℕ) → strinc (b ∷ p) ≡ Some next
    → ((n : List ℕ) × (strinc p ≡ Some n) × (b ∷ n ≡ next)) ⊎ ((strinc p ≡ None) × (b < 255) × ((b + 1) ∷ [] ≡ next))
split_some b p next is = by (strinc p) refl is
  where
    raises : (t : Bool) → nat_lt b 255 ≡ t → cond {A = Option (List ℕ)} t (Some ((b + 1) ∷ [])) None ≡ Some next
        → (b < 255) × ((b + 1) ∷ [] ≡ next)
    raises true e same = (ltb-true b 255 e, same_Some _ _ same)
    raises false e same = absurd (none-some next same)

    by : (o : Option (List ℕ)) → strinc p ≡ o → option_map_or (λ n. Some (b ∷ n)) o (raised b) ≡ Some next
        → ((n : List ℕ) × (strinc p ≡ Some n) × (b ∷ n ≡ next)) ⊎ ((strinc p ≡ None) × (b < 255) × ((b + 1) ∷ [] ≡ next))
    by (Some n) e same = inl (n, e, same_Some _ _ same)
    by None e same = let low = raises (nat_lt b 255) refl same in inr (e, low.0, low.1)

split_none : (b : ℕ) (p : List ℕ) → strinc (b ∷ p) ≡ None → (strinc p ≡ None) × (255 ≤ b)
split_none b p is = by (strinc p) refl is
  where
    raises : (t : Bool) → nat_lt b 255 ≡ t → cond {A = Option (List ℕ)} t (Some ((b + 1) ∷ [])) None ≡ None → 255 ≤ b
    raises true e same = absurd (none-some _ (sym same))
    raises false e same = ltb-false b 255 e

    by : (o : Option (List ℕ)) → strinc p ≡ o → option_map_or (λ n. Some (b ∷ n)) o (raised b) ≡ None → (strinc p ≡ None) × (255 ≤ b)
    by (Some n) e same = absurd (none-some _ (sym same))
    by None e same = (e, raises (nat_lt b 255) refl same)

-- where all bytes are FF, and only there, nothing can be raised
pub none_from_tops : (p : List ℕ) → All (λ b. 255 ≤ b) p → strinc p ≡ None
none_from_tops [] h = refl
none_from_tops (b ∷ p) h =
    ap (λ o. option_map_or (λ n. Some (b ∷ n)) o (raised b)) (none_from_tops p (All-tail (λ b. 255 ≤ b) b p h))
    ∙ not_raised b (All-head (λ b. 255 ≤ b) b p h)
  where
    not_raised : (b : ℕ) → 255 ≤ b → raised b ≡ None
    not_raised b high = rw (le-ltb b 255 high)

tops_from_none : (p : List ℕ) → IsByteString p → strinc p ≡ None → All (λ b. b ≡ 255) p
tops_from_none [] bytes is = All-nil (λ b. b ≡ 255)
tops_from_none (b ∷ p) bytes is =
    let parts = split_none b p is in
    let below = All-head (λ b. b < 256) b p bytes in
    All-cons (λ b. b ≡ 255) b p (omega (arith, parts.1, below)) (tops_from_none p (All-tail (λ b. b < 256) b p bytes) parts.0)

pub strinc-none : (p : List ℕ) → IsByteString p → (strinc p ≡ None) ↔ All (λ b. b ≡ 255) p
strinc-none p bytes =
    (tops_from_none p bytes, λ all. none_from_tops p (All-weaker (λ b. b ≡ 255) (λ b. 255 ≤ b) (λ b e. omega arith) p all))

-- trailing FFs are dropped, and the byte before them is raised
pub strinc-append : (front : List ℕ) (b : ℕ) (back : List ℕ) → b < 255 → All (λ b. 255 ≤ b) back
    → strinc (front ++ b ∷ back) ≡ Some (front ++ (b + 1) ∷ [])
strinc-append [] b back low high =
    ap (λ o. option_map_or (λ n. Some (b ∷ n)) o (raised b)) (none_from_tops back high) ∙ is_raised b low
  where
    is_raised : (b : ℕ) → b < 255 → raised b ≡ Some ((b + 1) ∷ [])
    is_raised b low = rw (lt-ltb b 255 low)
strinc-append (a ∷ front) b back low high =
    ap (λ o. option_map_or (λ n. Some (a ∷ n)) o (raised a)) (strinc-append front b back low high)

-- ---- above every key that begins with the prefix

strinc-key : (p next : List ℕ) → IsByteString p → strinc p ≡ Some next → IsByteString next
strinc-key [] next bytes is = absurd (none-some next is)
strinc-key (b ∷ p) next bytes is =
    let first = All-head (λ b. b < 256) b p bytes in
    let later = All-tail (λ b. b < 256) b p bytes in
    elim (split_some b p next is) [
      | inl w ↦ subst IsByteString w.2 (All-cons (λ b. b < 256) b w.0 first (strinc-key p w.0 later w.1))
      | inr w ↦ subst IsByteString w.2 (All-cons (λ b. b < 256) (b + 1) [] (omega (arith, w.1)) (All-nil (λ b. b < 256)))
    ]

strinc-above : (p next k : List ℕ) → strinc p ≡ Some next → begins_with k p ≡ true → key_lt k next ≡ true
strinc-above [] next k is begins = absurd (none-some next is)
strinc-above (b ∷ p) next [] is begins = absurd (true≢false (sym begins))
strinc-above (b ∷ p) next (c ∷ k) is begins =
    let parts = begins_parts b c k p begins in
    elim (split_some b p next is) [
      | inl w ↦ ap (λ next. key_lt (c ∷ k) next) (sym w.2) ∙ lt_rest c b k w.0 (sym parts.0) ∙ strinc-above p w.0 k w.1 parts.1
      | inr w ↦ ap (λ next. key_lt (c ∷ k) next) (sym w.2) ∙ lt_first c (b + 1) k [] (omega (arith, parts.0))
    ]

-- behind a first byte that is the same, what is above each that begins with a byte and more is above each that begins with more
above_more : (b c : ℕ) (p k : List ℕ) → b < 256 → b ≡ c → IsAboveEach (b ∷ p) (c ∷ k) → IsAboveEach p k
above_more b c p k byte same each key bytes begins =
    sym (lt_rest b c key k same) ∙ each (b ∷ key) (All-cons (λ b. b < 256) b key byte bytes) (begins_same b b key p refl ∙ begins)

-- what is above each that begins with a byte and more has no lesser first byte
above_head : (b c : ℕ) (p k : List ℕ) → IsByteString (b ∷ p) → IsAboveEach (b ∷ p) (c ∷ k) → b ≤ c
above_head b c p k bytes each = head_le b c p k (each (b ∷ p) bytes (begins_itself (b ∷ p)))

-- the empty string is above nothing
above_empty : (p : List ℕ) → IsByteString p → IsAboveEach p [] → ⊥
above_empty [] bytes each = true≢false (sym (each [] bytes refl))
above_empty (b ∷ p) bytes each = true≢false (sym (each (b ∷ p) bytes (begins_itself (b ∷ p))))

-- where nothing can be raised, no key is above each that begins with the prefix
pub none_above : (p k : List ℕ) → IsByteString p → IsByteString k → strinc p ≡ None → IsAboveEach p k → ⊥
none_above [] k bytes key is each = true≢false (sym (each k key refl) ∙ irreflexive k)
none_above (b ∷ p) [] bytes key is each = above_empty (b ∷ p) bytes each
none_above (b ∷ p) (c ∷ k) bytes key is each =
    let parts = split_none b p is in
    let first = All-head (λ b. b < 256) b p bytes in
    let below = All-head (λ b. b < 256) c k key in
    let head = above_head b c p k bytes each in
    none_above p k (All-tail (λ b. b < 256) b p bytes) (All-tail (λ b. b < 256) c k key) parts.0 (above_more b c p k first (omega (arith, parts.1, below, head)) each)

-- no such key is below the strinc
strinc-least : (p next k : List ℕ) → IsByteString p → strinc p ≡ Some next → IsByteString k → IsAboveEach p k → key_lt k next ≡ false
strinc-least [] next k bytes is key each = absurd (none-some next is)
strinc-least (b ∷ p) next [] bytes is key each = absurd (above_empty (b ∷ p) bytes each)
strinc-least (b ∷ p) next (c ∷ k) bytes is key each =
    elim (split_some b p next is) [
      | inl w ↦ ap (λ next. key_lt (c ∷ k) next) (sym w.2) ∙ elim (eq-or-lt_of_le head) [
        | inl same ↦ lt_rest c b k w.0 (sym same) ∙ strinc-least p w.0 k later w.1 rest (above_more b c p k first same each)
        | inr less ↦ lt_later c b k w.0 less
      ]
      | inr w ↦ ap (λ next. key_lt (c ∷ k) next) (sym w.2) ∙ elim (eq-or-lt_of_le head) [
        | inl same ↦ absurd (none_above p k later rest w.0 (above_more b c p k first same each))
        | inr less ↦ not_below_alone (b + 1) c k (omega (arith, less))
      ]
    ]
  where
    head : b ≤ c
    head = above_head b c p k bytes each

    first : b < 256
    first = All-head (λ b. b < 256) b p bytes

    later : IsByteString p
    later = All-tail (λ b. b < 256) b p bytes

    rest : IsByteString k
    rest = All-tail (λ b. b < 256) c k key

-- the law: strinc is the least key above every key that begins with the prefix
pub strinc-IsLeastAbove : (prefix next : List ℕ) → IsByteString prefix → strinc prefix ≡ Some next → IsLeastAbove prefix next
strinc-IsLeastAbove prefix next bytes is = record {
  key = strinc-key prefix next bytes is;
  above = λ key _ begins. strinc-above prefix next key is begins;
  least = λ k key each. ap not (strinc-least prefix next k bytes is key each);
}

-- ---- the range of the keys that begin with a prefix

begins_with_tops : (p k : List ℕ) → IsByteString k → strinc p ≡ None → key_lt k p ≡ false → begins_with k p ≡ true
begins_with_tops [] k key is from = refl
begins_with_tops (b ∷ p) [] key is from = absurd (true≢false from)
begins_with_tops (b ∷ p) (c ∷ k) key is from =
    let parts = split_none b p is in
    let below = All-head (λ b. b < 256) c k key in
    let head = head_ge c b k p from in
    let same : b ≡ c = omega (arith, parts.1, below, head) in
    begins_same b c k p same ∙ begins_with_tops p k (All-tail (λ b. b < 256) c k key) parts.0 (sym (lt_rest c b k p (sym same)) ∙ from)

begins_between : (p next k : List ℕ) → IsByteString k → strinc p ≡ Some next → key_lt k p ≡ false → key_lt k next ≡ true
    → begins_with k p ≡ true
begins_between [] next k key is from to = refl
begins_between (b ∷ p) next [] key is from to = absurd (true≢false from)
begins_between (b ∷ p) next (c ∷ k) key is from to =
    elim (split_some b p next is) [
      | inl w ↦
          let end : key_lt (c ∷ k) (b ∷ w.0) ≡ true = ap (λ next. key_lt (c ∷ k) next) w.2 ∙ to in
          let same : b ≡ c = le_antisymm head (head_le c b k w.0 end) in
          begins_same b c k p same
          ∙ begins_between p w.0 k rest w.1 (sym (lt_rest c b k p (sym same)) ∙ from) (sym (lt_rest c b k w.0 (sym same)) ∙ end)
      | inr w ↦
          let end : key_lt (c ∷ k) ((b + 1) ∷ []) ≡ true = ap (λ next. key_lt (c ∷ k) next) w.2 ∙ to in
          let same : b ≡ c = omega (arith, head, below_alone (b + 1) c k end) in
          begins_same b c k p same ∙ begins_with_tops p k rest w.0 (sym (lt_rest c b k p (sym same)) ∙ from)
    ]
  where
    head : b ≤ c
    head = head_ge c b k p from

    rest : IsByteString k
    rest = All-tail (λ b. b < 256) c k key

-- the keys that begin with a prefix are those from it up to its strinc
pub strinc-within : (prefix next k : List ℕ) → IsByteString k → strinc prefix ≡ Some next
    → IsTrue (begins_with k prefix) ↔ IsTrue (within prefix next k)
strinc-within prefix next k key is = (there, back)
  where
    there : begins_with k prefix ≡ true → within prefix next k ≡ true
    there begins = λ i. not (begins_le k prefix begins i) && strinc-above prefix next k is begins i

    parts : (less below : Bool) → key_lt k prefix ≡ less → key_lt k next ≡ below → (not less && below) ≡ true → begins_with k prefix ≡ true
    parts true below e f h = absurd (true≢false (sym h))
    parts false true e f h = begins_between prefix next k key is e f
    parts false false e f h = absurd (true≢false (sym h))

    back : within prefix next k ≡ true → begins_with k prefix ≡ true
    back inside = parts (key_lt k prefix) (key_lt k next) refl refl inside
