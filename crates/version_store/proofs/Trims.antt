-- Dropping the last of a chain: versions from an oldest one on hold what they held.
use Rattle.std.proofs.Common.{◌≡◌, ◌-◌, ◌<◌, ◌≤◌, ℕ, zero, suc, ◌+◌, Bool, true, false, cond, not, List, [], ◌∷◌, ◌++◌, ◌||◌, is_some, length, drop, get_or, Option, Some, None, is_none, nat_lt, nat_le, slice_index_or, refl, sym, ap, ◌∙◌, arith, le-ltb, lt-ltb}
use Rattle.std.proofs.lemmas.Bool.{leb-true, false≢true, true≢false}
use Rattle.std.proofs.lemmas.List.{append-nil, append_assoc, drop_more, map-append}
use Rattle.std.specs.Option.{option_to_list}
use Rattle.version_store.specs.declared.values.Given.{Given}
use Rattle.version_store.specs.Values.{given_of, givens, is_needless}
use Rattle.version_store.specs.Versions.{Chain, holding}

both : (b : Bool) → cond {A = Option (List ℕ)} b None None ≡ None
both true = refl
both false = refl

-- the last of a chain isn't needed
pub holding-needless : (oldest : ℕ) (rest : Chain) (last : ℕ) (value : Option (List ℕ)) (version : ℕ) → oldest ≤ version
    → is_needless oldest (rest ++ (last, value) ∷ []) ≡ true → holding version rest ≡ holding version (rest ++ (last, value) ∷ [])
unfolding holding
holding-needless oldest [] last None version from needless = sym (both (nat_lt version last))
holding-needless oldest [] last (Some value) version from needless = absurd cc
holding-needless oldest (first ∷ []) last None version from needless =
    ap (λ held. cond (nat_lt version first.0) held first.1) (sym (both (nat_lt version last)))
holding-needless oldest (first ∷ []) last (Some value) version from needless =
    let late : nat_lt version first.0 ≡ false = le-ltb version first.0 (omega (arith, from, leb-true first.0 oldest needless)) in
    ap (λ b. cond b None first.1) late ∙ sym (ap (λ b. cond b (cond (nat_lt version last) None (Some value)) first.1) late)
holding-needless oldest (first ∷ second ∷ []) last value version from needless =
    ap (λ held. cond (nat_lt version first.0) held first.1) (holding-needless oldest (second ∷ []) last value version from needless)
holding-needless oldest (first ∷ second ∷ third ∷ rest) last value version from needless =
    ap (λ held. cond (nat_lt version first.0) held first.1) (holding-needless oldest (second ∷ third ∷ rest) last value version from needless)

-- the test asks the only one, or the last two
pub is_needless-one : (oldest : ℕ) (items : List Given) (d : Given) → length items ≡ 1
    → is_needless oldest (givens items) ≡ is_none (slice_index_or items 0 d).value
is_needless-one oldest [] d one = absurd (omega (arith, one))
is_needless-one oldest (given ∷ []) d one = refl
is_needless-one oldest (given ∷ next ∷ rest) d one = absurd (omega (arith, one))

pub is_needless-two : (oldest : ℕ) (items : List Given) (n : ℕ) (d e : Given) → length items ≡ suc (suc n)
    → is_needless oldest (givens items) ≡ (is_none (slice_index_or items (suc n) d).value || nat_le (slice_index_or items n e).version oldest)
is_needless-two oldest [] n d e two = absurd (omega (arith, two))
is_needless-two oldest (given ∷ []) n d e two = absurd (omega (arith, two))
is_needless-two oldest (given ∷ next ∷ []) zero d e two = refl
is_needless-two oldest (given ∷ next ∷ []) (suc n) d e two = absurd (omega (arith, two))
is_needless-two oldest (given ∷ next ∷ more ∷ rest) zero d e two = absurd (omega (arith, two))
is_needless-two oldest (given ∷ next ∷ more ∷ rest) (suc n) d e two =
    is_needless-two oldest (next ∷ more ∷ rest) n d e (omega (arith, two))

pub is_needless-tests : (oldest : ℕ) (items : List Given) (count : ℕ) (d e : Given) → count ≡ length items → 2 ≤ count
    → d ≡ slice_index_or items (count - 1) d → e ≡ slice_index_or items (count - 2) e
    → is_needless oldest (givens items) ≡ (is_none d.value || nat_le e.version oldest)
is_needless-tests oldest items count d e len more last before =
    let two : length items ≡ suc (suc (count - 2)) = omega (arith, len, more) in
    let end : suc (count - 2) ≡ count - 1 = omega (arith, more) in
    is_needless-two oldest items (count - 2) d e two
    ∙ ap (λ n. is_none (slice_index_or items n d).value || nat_le (slice_index_or items (count - 2) e).version oldest) end
    ∙ ap (λ (given : Given). is_none given.value || nat_le (slice_index_or items (count - 2) e).version oldest) (sym last)
    ∙ ap (λ (given : Given). is_none d.value || nat_le given.version oldest) (sym before)

-- one step of a trim
pub holding-popped : (oldest : ℕ) (items rest : List Given) (popped : Option Given) → items ≡ rest ++ option_to_list popped
    → is_needless oldest (givens items) ≡ true → (version : ℕ) → oldest ≤ version
    → holding version (givens rest) ≡ holding version (givens items)
holding-popped oldest items rest None is needless version from = ap (λ given. holding version (givens given)) (sym (is ∙ append-nil rest))
holding-popped oldest items rest (Some last) is needless version from =
    let pushed : givens items ≡ givens rest ++ given_of last ∷ [] = ap givens is ∙ map-append given_of rest (last ∷ []) in
    holding-needless oldest (givens rest) last.version last.value version from (sym (ap (is_needless oldest) pushed) ∙ needless)
    ∙ ap (holding version) (sym pushed)

pub begins-popped : (all items rest : List Given) (popped : Option Given) → items ≡ rest ++ option_to_list popped
    → (gone : Chain) × (givens all ≡ givens items ++ gone) → (gone : Chain) × (givens all ≡ givens rest ++ gone)
begins-popped all items rest popped is (gone, so_far) = (
  givens (option_to_list popped) ++ gone,
  so_far ∙ ap (λ chain. chain ++ gone) (ap givens is ∙ map-append given_of rest (option_to_list popped))
      ∙ append_assoc (givens rest) (givens (option_to_list popped)) gone,
)

-- a chain of one, where it is an absence, holds nothing
pub holding-absent : (version given : ℕ) (value : Option (List ℕ)) → value ≡ None → holding version ((given, value) ∷ []) ≡ None
unfolding holding
holding-absent version given value absent = ap (cond (nat_lt version given) None) absent ∙ both (nat_lt version given)

-- the first of those that are left is no later
pub holding-here : (items : List Given) (i : ℕ) (d : Given) (version : ℕ) → i < length items → d ≡ get_or items i d → d.version ≤ version
    → holding version (givens (drop i items)) ≡ d.value
unfolding holding
holding-here items i d version inside is here =
    ap (λ left. holding version (givens left)) (drop_more items i d inside)
    ∙ ap (λ (given : Given). cond (nat_lt version given.version) (holding version (givens (drop (i + 1) items))) given.value) (sym is)
    ∙ ap (λ b. cond b (holding version (givens (drop (i + 1) items))) d.value) (le-ltb version d.version here)

-- it is later
pub holding-passed : (items : List Given) (i : ℕ) (d : Given) (version : ℕ) → i < length items → d ≡ get_or items i d → version < d.version
    → holding version (givens (drop i items)) ≡ holding version (givens (drop (i + 1) items))
unfolding holding
holding-passed items i d version inside is later =
    ap (λ left. holding version (givens left)) (drop_more items i d inside)
    ∙ ap (λ (given : Given). cond (nat_lt version given.version) (holding version (givens (drop (i + 1) items))) given.value) (sym is)
    ∙ ap (λ b. cond b (holding version (givens (drop (i + 1) items))) d.value) (lt-ltb version d.version later)

-- a value alone
pub holding-one : (version : ℕ) (given : ℕ × Option (List ℕ)) → given.0 ≤ version → holding version (given ∷ []) ≡ given.1
unfolding holding
holding-one version given here = ap (λ b. cond b None given.1) (le-ltb version given.0 here)

pub holding-one_later : (version : ℕ) (given : ℕ × Option (List ℕ)) → version < given.0 → holding version (given ∷ []) ≡ None
unfolding holding
holding-one_later version given later = ap (λ b. cond b None given.1) (lt-ltb version given.0 later)

pub holding-nil : (version : ℕ) → holding version [] ≡ None
unfolding holding
holding-nil version = refl

-- what `is_none` answers
pub none-is_none : (o : Option (List ℕ)) (answer : Bool) → is_some o ≡ not answer → answer ≡ true → o ≡ None
none-is_none None answer is absent = refl
none-is_none (Some value) answer is absent = absurd (true≢false (is ∙ ap not absent))

is_none-answered : (o : Option (List ℕ)) (answer : Bool) → is_some o ≡ not answer → is_none o ≡ answer
is_none-answered None true is = refl
is_none-answered None false is = absurd (false≢true is)
is_none-answered (Some value) true is = absurd (true≢false is)
is_none-answered (Some value) false is = refl

-- an absence stands last, or the one before decides
pub needless-absent : (o : Option (List ℕ)) (answer before : Bool) → is_some o ≡ not answer → answer ≡ true → answer ≡ (is_none o || before)
needless-absent o answer before is absent = absent ∙ sym (ap (λ b. b || before) (is_none-answered o answer is ∙ absent))

pub needless-present : (o : Option (List ℕ)) (answer before : Bool) → is_some o ≡ not answer → answer ≡ false → before ≡ (is_none o || before)
needless-present o answer before is present = sym (ap (λ b. b || before) (is_none-answered o answer is ∙ present))
