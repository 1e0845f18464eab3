-- Pages: their sizes, and what follows them.
use Rattle.std.proofs.Common.{◌≡◌, ℕ, zero, suc, ◌<◌, ◌≤◌, ◌-◌, ◌*◌, ◌^◌, min, Bool, true, false, cond, not, ◌&&◌, List, [], ◌∷◌, ◌++◌, length, take, slice_get, Some, nat_eq, nat_lt, refl, sym, ap, ◌∙◌, true≢false, arith, lt-ltb, le-ltb, ltb-true, ltb-false, append_assoc, length-append}
use Rattle.std.proofs.Math.Dec.{eqb-suc-zero}
use Rattle.std.proofs.Math.Nat.{pow-le-pow_right, one-le-pow}
use Rattle.std.proofs.lemmas.Bool.{eqb-false, eqb-true}
use Rattle.std.proofs.lemmas.List.{take-take, length-take, append-nil}
use Rattle.std.proofs.lemmas.Option.{same_Some}
use Rattle.std.specs.Option.{option_map_or}
use Rattle.model_database.specs.Databases.{Database}
use Rattle.model_database.specs.declared.mode.Mode.{Mode}
use Rattle.model_database.specs.declared.mode.Mode.TheVariants.{WantAll, Iterator, Exact, Small, Medium, Large, Serial}
use Rattle.model_database.specs.Modes.{lacks_limit}
use Rattle.range_read.specs.Pages.{capped, page_size}
use Rattle.model_database.specs.Slices.{Entries, cut, span, slice}
use Rattle.range_read.specs.Left.{slice_behind, last_key}
use Rattle.range_read.specs.Walks.{begin_behind, end_behind, has_more}
use Rattle.range_read.proofs.Lists.{last-append}
use Rattle.range_read.proofs.Walks.{Entry, span_behind}

-- ---- sizes

-- from turn 9 on a page of the mode Iterator is as large as it gets
pub late_turn : (turn : ℕ) → 9 ≤ turn → 4096 ≡ min (16 * 2 ^ (turn - 1)) 4096
late_turn turn late =
    let high : 2 ^ 8 ≤ 2 ^ (turn - 1) = pow-le-pow_right {n = 2} (omega arith) {i = 8} {j = turn - 1} (omega arith) in
    omega (arith, high)

-- a size of a page: it is not 0, and no more than the limit where there is one
pub record IsSize (limit size : ℕ) : Type 0 where
  pub some : 0 < size
  pub within : 0 < limit → size ≤ limit

IsSize-capped : (limit size : ℕ) → 0 < size → IsSize limit (capped limit size)
IsSize-capped zero size some = record { some = some; within = λ h. absurd (omega arith) }
IsSize-capped (suc l) size some =
    let is : capped (suc l) size ≡ min (suc l) size = ap (λ b. cond b size (min (suc l) size)) (eqb-suc-zero l) in
    record { some = omega (arith, is); within = λ _. omega (arith, is) }

IsSize-limit : (limit : ℕ) → lacks_limit Exact limit ≡ false → IsSize limit limit
IsSize-limit zero lacks = absurd (true≢false lacks)
IsSize-limit (suc l) lacks = record { some = omega arith; within = λ _. omega arith }

pub IsSize-page : (mode : Mode) (limit turn : ℕ) → lacks_limit mode limit ≡ false → IsSize limit (page_size mode limit turn)
IsSize-page Exact limit turn lacks = IsSize-limit limit lacks
IsSize-page Small limit turn lacks = IsSize-capped limit 16 (omega arith)
IsSize-page Medium limit turn lacks = IsSize-capped limit 128 (omega arith)
IsSize-page Large limit turn lacks = IsSize-capped limit 1024 (omega arith)
IsSize-page Serial limit turn lacks = IsSize-capped limit 4096 (omega arith)
IsSize-page WantAll limit turn lacks = IsSize-capped limit 4096 (omega arith)
IsSize-page Iterator limit turn lacks =
    let some : 1 ≤ 2 ^ (turn - 1) = one-le-pow (turn - 1) 2 (omega arith) in
    IsSize-capped limit (min (16 * 2 ^ (turn - 1)) 4096) (omega (arith, some))

-- ---- fronts of a slice

module _ {X : Type 0} where
  -- the front of a slice is the front of the range
  pub take_cut : (limit size : ℕ) (xs : List X) → IsSize limit size → cut size xs ≡ take size (cut limit xs)
  take_cut limit zero xs is = absurd (omega (arith, is.some))
  take_cut zero (suc n) xs is = refl
  take_cut (suc l) (suc n) xs is = sym (take-take (suc n) (suc l) xs (is.within (omega arith)))

  length-cut : (limit : ℕ) (xs : List X) → 0 < limit → length (cut limit xs) ≡ min limit (length xs)
  length-cut zero xs some = absurd (omega arith)
  length-cut (suc n) xs some = length-take (suc n) xs

  no_more : (limit size : ℕ) (all : List X) → length all ≤ size → nat_lt size (length (cut limit all)) ≡ false
  no_more zero size all short = le-ltb size (length all) short
  no_more (suc n) size all short = let e = length-take (suc n) all in le-ltb size (length (take (suc n) all)) (omega (arith, e))

  some_more : (limit size : ℕ) (all : List X) → IsSize limit size → (limit ≡ size → ⊥) → size < length all
      → nat_lt size (length (cut limit all)) ≡ true
  some_more zero size all is other long = lt-ltb size (length all) long
  some_more (suc n) size all is other long =
      let e = length-take (suc n) all in
      let within = is.within (omega arith) in
      lt-ltb size (length (take (suc n) all)) (by_size (nat_lt size (suc n)) refl e within)
    where
      by_size : (b : Bool) → nat_lt size (suc n) ≡ b → length (take (suc n) all) ≡ min (suc n) (length all) → size ≤ suc n
          → size < length (take (suc n) all)
      by_size true below e within = let h = ltb-true size (suc n) below in omega (arith, h, e, long)
      by_size false not_below e within = absurd (other (equal within))
        where
          equal : size ≤ suc n → suc n ≡ size
          equal within = let h = ltb-false size (suc n) not_below in omega (arith, h, within)

  at_limit : (size : ℕ) (all : List X) → 0 < size → nat_lt size (length (cut size all)) ≡ false
  at_limit size all some = let e = length-cut size all some in le-ltb size (length (cut size all)) (omega (arith, e))

  -- a page that leaves something is full
  full_page : (size : ℕ) (ps all : List X) (r : X) (rs : List X) → 0 < size → ps ++ r ∷ rs ≡ all → ps ≡ cut size all → size < length all
  full_page size ps all r rs some whole is =
      let a = ap length whole in let b = length-append ps (r ∷ rs) in let c = ap length is in let d = length-cut size all some in
      omega (arith, a, b, c, d)

  cut_whole : (size : ℕ) (all : List X) → 0 < size → all ≡ cut size all → length all ≤ size
  cut_whole size all some is = let a = ap length is in let b = length-cut size all some in omega (arith, a, b)

  -- what follows a page is cut by what is left of the limit
  cut_append : (limit : ℕ) (ps rest : List X) → (0 < limit → length ps < limit)
      → cut limit (ps ++ rest) ≡ ps ++ cut (limit - length ps) rest
  cut_append zero ps rest short = let e : 0 - length ps ≡ 0 = omega arith in ap (λ n. ps ++ cut n rest) (sym e)
  cut_append (suc n) ps rest short = by_pairs ps n (short (omega arith))
    where
      take_append : (ps : List X) (n : ℕ) → length ps ≤ n → take n (ps ++ rest) ≡ ps ++ take (n - length ps) rest
      take_append [] n h = let e : n - 0 ≡ n = omega arith in ap (λ n. take n rest) (sym e)
      take_append (p ∷ ps) zero h = absurd (omega arith)
      take_append (p ∷ ps) (suc n) h = let e : suc n - suc (length ps) ≡ n - length ps = omega arith in
          ap (λ ys. p ∷ ys) (take_append ps n (omega arith)) ∙ ap (λ n. p ∷ (ps ++ take n rest)) (sym e)

      positive : (n : ℕ) → 0 < n → take n rest ≡ cut n rest
      positive zero h = absurd (omega arith)
      positive (suc n) h = refl

      by_pairs : (ps : List X) (n : ℕ) → length ps < suc n → take (suc n) (ps ++ rest) ≡ ps ++ cut (suc n - length ps) rest
      by_pairs ps n h = take_append ps (suc n) (omega arith) ∙ ap (λ ys. ps ++ ys) (positive (suc n - length ps) (omega arith))

-- whether pairs of the slice follow a page
pub more_is : (limit size : ℕ) (ps rest all : Entries) → IsSize limit size → ps ++ rest ≡ all → ps ≡ cut size all
    → has_more limit size rest ≡ nat_lt size (length (cut limit all))
more_is limit size ps [] all is whole page =
    nothing (not (nat_eq limit size)) ∙ sym (no_more limit size all (cut_whole size all is.some (sym whole ∙ append-nil ps ∙ page)))
  where
    nothing : (b : Bool) → (b && false) ≡ false
    nothing true = refl
    nothing false = refl
more_is limit size ps (r ∷ rs) all is whole page = by_limit (nat_eq limit size) refl
  where
    by_limit : (b : Bool) → nat_eq limit size ≡ b → (not b && true) ≡ nat_lt size (length (cut limit all))
    by_limit true same = sym (ap (λ n. nat_lt size (length (cut n all))) (eqb-true limit size same) ∙ at_limit size all is.some)
    by_limit false other = sym (some_more limit size all is (eqb-false limit size other) (full_page size ps all r rs is.some whole page))

-- ---- what is left behind a page

-- behind a pair of a range stand those of what is left of the range behind its key
pub span_left : (database : Database) (b e : List ℕ) (backward : Bool) (qs : Entries) (x : Entry) (ys : Entries)
    → span database b e backward ≡ qs ++ x ∷ ys → ys ≡ span database (begin_behind b x.0 backward) (end_behind e x.0 backward) backward
span_left database b e backward [] x ys is = sym (span_behind database b e backward x ys is)
span_left database b e backward (z ∷ qs) x ys is =
    span_left database (begin_behind b z.0 backward) (end_behind e z.0 backward) backward qs x ys (span_behind database b e backward z (qs ++ x ∷ ys) is)
    ∙ (λ i. span database (begins backward i) (ends backward i) backward)
  where
    begins : (backward : Bool) → begin_behind (begin_behind b z.0 backward) x.0 backward ≡ begin_behind b x.0 backward
    begins true = refl
    begins false = refl

    ends : (backward : Bool) → end_behind (end_behind e z.0 backward) x.0 backward ≡ end_behind e x.0 backward
    ends true = refl
    ends false = refl

-- pairs that are not none have a last one
with_last : (ps : Entries) → 0 < length ps → (qs : Entries) × (x : Entry) × (ps ≡ qs ++ x ∷ [])
with_last [] some = absurd (omega arith)
with_last (x ∷ []) some = ([], x, refl)
with_last (y ∷ z ∷ ps) some = let rest = with_last (z ∷ ps) (omega arith) in (y ∷ rest.0, rest.1, ap (λ ys. y ∷ ys) rest.2)

-- the last key, by its place
pub last_at : (ps : Entries) (e : Entry) → 0 < length ps → slice_get ps (length ps - 1) ≡ Some e → e.0 ≡ last_key ps
last_at [] e some is = absurd (omega arith)
last_at (x ∷ []) e some is = ap (λ e. e.0) (sym (same_Some x e is))
last_at (x ∷ y ∷ ps) e some is =
    let n : suc (length ps) - 1 ≡ length ps = omega arith in
    let m : suc (suc (length ps)) - 1 ≡ suc (length ps) = omega arith in
    last_at (y ∷ ps) e (omega arith) (ap (slice_get (y ∷ ps)) n ∙ ap (slice_get (x ∷ y ∷ ps)) (sym m) ∙ is)

pub behind_is : (database : Database) (b e : List ℕ) (limit : ℕ) (backward : Bool) (key : List ℕ)
    → cut limit (span database (begin_behind b key backward) (end_behind e key backward) backward) ≡ slice_behind database b e limit backward key
behind_is database b e limit true key = refl
behind_is database b e limit false key = refl

-- a slice is its front, followed by the slice of what is left of the range and the limit
pub rest_is : (database : Database) (b e : List ℕ) (limit : ℕ) (backward : Bool) (ps rest : Entries) → ps ++ rest ≡ span database b e backward
    → 0 < length ps → (0 < limit → length ps < limit)
    → slice database b e limit backward ≡ ps ++ slice_behind database b e (limit - length ps) backward (last_key ps)
rest_is database b e limit backward ps rest whole some short =
    let parts = with_last ps some in
    let key : last_key ps ≡ parts.1.0 = ap last_key parts.2 ∙ ap (λ o. option_map_or (λ e. e.0) o []) (last-append parts.0 parts.1) in
    let left = span_left database b e backward parts.0 parts.1 rest (sym whole ∙ ap (λ qs. qs ++ rest) parts.2 ∙ append_assoc parts.0 (parts.1 ∷ []) rest) in
    ap (cut limit) (sym whole) ∙ cut_append limit ps rest short
    ∙ ap (λ ys. ps ++ cut (limit - length ps) ys) left
    ∙ ap (λ ys. ps ++ ys) (behind_is database b e (limit - length ps) backward parts.1.0)
    ∙ ap (λ k. ps ++ slice_behind database b e (limit - length ps) backward k) (sym key)

-- the same for a page behind which pairs follow
pub page_rest : (database : Database) (b e : List ℕ) (limit size : ℕ) (backward : Bool) (ps rest : Entries) → IsSize limit size
    → ps ++ rest ≡ span database b e backward → ps ≡ cut size (span database b e backward)
    → nat_lt size (length (slice database b e limit backward)) ≡ true → slice database b e limit backward ≡ ps ++ slice_behind database b e
    (limit - length ps) backward (last_key ps)
page_rest database b e limit size backward ps rest is whole page more =
    rest_is database b e limit backward ps rest whole (some limit (ltb-true _ _ more)) (λ limited. short limited (ltb-true _ _ more))
  where
    c : length ps ≡ min size (length (span database b e backward))
    c = ap length page ∙ length-cut size (span database b e backward) is.some

    some : (limit : ℕ) → size < length (cut limit (span database b e backward)) → 0 < length ps
    some zero long = omega (arith, c, is.some)
    some (suc n) long = let d = length-take (suc n) (span database b e backward) in omega (arith, c, d, is.some)

    short : 0 < limit → size < length (cut limit (span database b e backward)) → length ps < limit
    short limited long = let d = length-cut limit (span database b e backward) limited in omega (arith, c, d, long)
