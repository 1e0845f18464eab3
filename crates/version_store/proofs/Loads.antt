-- Loading: each value is a chain of its own, and of two places of one key the later stays.
use Rattle.std.proofs.Common.{◌≡◌, ◌≢◌, ℕ, suc, ◌+◌, ◌-◌, ◌<◌, ◌≤◌, Bool, true, false, cond, List, [], ◌∷◌, ◌++◌, length, take, drop, get_or, map, Option, Some, None, is_some, slice_index_or, slice_set, refl, sym, ap, subst, ◌∙◌, arith}
use Rattle.std.proofs.lemmas.Bool.{false≢true}
use Rattle.std.proofs.lemmas.List.{map-append, append_assoc, length-take-le, take_more_set, drop-set-lt, drop_more}
use Rattle.std.proofs.lemmas.List.Elements.{All-nil, All-cons, All-head, All-tail, All-append, All-weaker}
use Rattle.std.proofs.lemmas.Map.Lookups.{exact_bytes}
use Rattle.std.proofs.lemmas.Map.Views.{tells_apart}
use Rattle.std.proofs.lemmas.Map.Made.{IfSome-update_all}
use Rattle.std.specs.BTreeMap.{BTreeMap, IsFromIterResult}
use Rattle.std.specs.Cmp.Lexicographic.{nat_list_cmp_total}
use Rattle.std.specs.FinMap as finite
use Rattle.std.specs.List.{All, AllByRecursion}
use Rattle.std.specs.Map.{update, update_all}
use Rattle.std.specs.Option.{IfSome, option_map, option_and_then}
use Rattle.std.specs.Ordering.{eq_by_cmp}
use Rattle.key_bytes.specs.declared.pairs.Pair.{Pair}
use Rattle.key_bytes.specs.Entries.{entries_of}
use Rattle.key_bytes.specs.Keys.{key_cmp}
use Rattle.key_map.specs.Inserted.{inserted}
use Rattle.key_map.proofs.Finite.{get-map_of, map_of-collected}
use Rattle.model_database.specs.Databases.{Database, do_one, do_all}
use Rattle.model_database.specs.Histories.{set_of}
use Rattle.version_store.specs.declared.values.Values.{Values}
use Rattle.version_store.specs.declared.values.Values.TheVariants.{One}
use Rattle.version_store.specs.Chains.{Slots, Places, chain_in, chain_of, chains_of, database_of, total, IsFalling, IsSoundPlace, Sound}
use Rattle.version_store.specs.Dues.{AreNoted, IsNoted}
use Rattle.version_store.specs.Loading.{first_chain, first_chains, places_from, AreAlone, IsAlone}
use Rattle.version_store.specs.Versions.{holding, database_at, later, place_of, present}
use Rattle.version_store.proofs.Present.{with_present}
use Rattle.version_store.proofs.Slots.{apart-vacant, kept-others}
use Rattle.version_store.proofs.Spans.{present_of, and_then-chain_of, entries-database_of, get-database_of}
use Rattle.version_store.proofs.Totals.{total-cons, total-ones, All-found}

-- a value of version 1 that is a chain of its own
module _ (slots : Slots) (place : ℕ) (value : List ℕ)
    (is : slice_index_or slots place None ≡ Some (One (record { version = 1; value = Some value }))) where
  pub chain_of-placed : chain_of slots place ≡ first_chain value
  chain_of-placed = ap chain_in is

  pub IsAlone-placed : IsAlone slots place
  IsAlone-placed = (ap (λ (o : Option Values). is_some o) is, (value, chain_of-placed))

-- its version is before the second
IsSoundPlace-alone : (slots : Slots) (place : ℕ) → IsAlone slots place → IsSoundPlace slots 2 place
IsSoundPlace-alone slots place (there, (value, is)) = (there, subst (IsFalling 2) (sym is) (omega arith, tt))

-- nothing has to be noted of it
IsNoted-alone : (slots : Slots) (place : ℕ) → IsAlone slots place → IsNoted [] place (chain_of slots place)
IsNoted-alone slots place (there, (value, is)) = subst (IsNoted [] place) (sym is) (λ absent. false≢true absent)

length-alone : (slots : Slots) (place : ℕ) → IsAlone slots place → length (chain_of slots place) ≤ 1
length-alone slots place (there, (value, is)) = let one = ap length is in omega (arith, one)

-- a value comes to a vacant place: what is alone stays
pub IsAlone-stays : (slots slots' : Slots) (place : ℕ) → slice_index_or slots place None ≡ None
    → ((at : ℕ) → at ≢ place → slice_index_or slots' at None ≡ slice_index_or slots at None)
    → (at : ℕ) → IsAlone slots at → IsAlone slots' at × (chain_of slots' at ≡ chain_of slots at)
IsAlone-stays slots slots' place vacant others at alone =
    let kept = kept-others slots slots' at (others at (apart-vacant slots at place alone.0 vacant)) alone.0 in
    ((kept.0, (alone.1.0, kept.1 ∙ alone.1.1)), kept.1)

pub length-places_from : (place : ℕ) (pairs : List Pair) → length (places_from place pairs) ≡ length pairs
length-places_from place [] = refl
length-places_from place (pair ∷ pairs) = ap suc (length-places_from (place + 1) pairs)

places_from-pushed : (place : ℕ) (pairs : List Pair) (pair : Pair)
    → places_from place (pairs ++ pair ∷ []) ≡ places_from place pairs ++ (pair.key, place + length pairs) ∷ []
places_from-pushed place [] pair = ap (λ n. (pair.key, n) ∷ []) (omega arith)
places_from-pushed place (first ∷ pairs) pair =
    ap (λ places. (first.key, place) ∷ places) (places_from-pushed (place + 1) pairs pair)
    ∙ ap (λ n. (first.key, place) ∷ places_from (place + 1) pairs ++ (pair.key, n) ∷ []) (omega arith)

-- the key of the pair at a place
abbrev key_at : List Pair → ℕ → List ℕ
key_at pairs place = slice_index_or (map (λ (pair : Pair). pair.key) pairs) place []

-- the place of each key is that of its pair
key_at-places_from : (first : ℕ) (pairs : List Pair)
    → All (λ e. (first ≤ e.1) × (key_at pairs (e.1 - first) ≡ e.0)) (places_from first pairs)
key_at-places_from first [] = All-nil _
key_at-places_from first (pair ∷ pairs) =
    let none : first - first ≡ 0 = omega arith in
    let Stands : List ℕ × ℕ → Type 0 = λ e. (first ≤ e.1) × (key_at (pair ∷ pairs) (e.1 - first) ≡ e.0) in
    All-cons Stands (pair.key, first) (places_from (first + 1) pairs) (omega arith, ap (key_at (pair ∷ pairs)) none)
    (All-weaker (λ e. (first + 1 ≤ e.1) × (key_at pairs (e.1 - (first + 1)) ≡ e.0)) Stands
    (λ e stands.
    let later : e.1 - first ≡ suc (e.1 - (first + 1)) = omega (arith, stands.0) in
    (omega (arith, stands.0), ap (key_at (pair ∷ pairs)) later ∙ stands.1))
    (places_from (first + 1) pairs) (key_at-places_from (first + 1) pairs))

-- a pair whose value was taken: before it the places are as they were, and then comes its own
module _ (pairs : List Pair) (place : ℕ) (inside : place < length pairs) (taken : Pair) where
  pub places_from-taken : places_from 0 (take (place + 1) (slice_set pairs place taken))
      ≡ places_from 0 (take place pairs) ++ (taken.key, place) ∷ []
  places_from-taken =
      ap (places_from 0) (take_more_set pairs place taken inside)
      ∙ places_from-pushed 0 (take place pairs) taken
      ∙ ap (λ n. places_from 0 (take place pairs) ++ (taken.key, n) ∷ [])
      (omega (arith, length-take-le place pairs (omega (arith, inside))))

  -- it was the first of the pairs that were left
  pub entries_of-left : (d : Pair) → taken.key ≡ (get_or pairs place d).key
      → entries_of (drop place pairs)
      ≡ (taken.key, (get_or pairs place d).value) ∷ entries_of (drop (place + 1) (slice_set pairs place taken))
  entries_of-left d same =
      ap entries_of (drop_more pairs place d inside)
      ∙ ap (λ key. (key, (get_or pairs place d).value) ∷ entries_of (drop (place + 1) pairs)) (sym same)
      ∙ ap (λ left. (taken.key, (get_or pairs place d).value) ∷ entries_of left)
      (sym (drop-set-lt (place + 1) pairs place taken (omega arith)))

-- a chain that is alone is later than version 0, and holds its value at version 1
later-alone : (slots : Slots) (place : ℕ) → IsAlone slots place → later 0 (chain_of slots place) ≡ 1
later-alone slots place (there, (value, is)) = ap (later 0) is

length-present_alone : (slots : Slots) (e : List ℕ × ℕ) (es : Places) → IsAlone slots e.1
    → length (present_of 1 slots (e ∷ es)) ≡ 1 + length (present_of 1 slots es)
unfolding holding present
length-present_alone slots e es (there, (value, is)) =
    ap (λ chain. length (with_present e.0 (holding 1 chain) (present_of 1 slots es))) is ∙ omega arith

later-present : (slots : Slots) (places : Places) → AllByRecursion (λ e. IsAlone slots e.1) places
    → total (later 0) slots places ≡ length (present_of 1 slots places)
unfolding present
later-present slots [] all = refl
later-present slots (e ∷ es) all =
    omega (arith, total-cons (later 0) slots e es, later-alone slots e.1 all.0, length-present_alone slots e es all.0, later-present slots es all.1)

-- chains that stay one by one stay all
module _ (slots slots' : Slots)
    (stay : (place : ℕ) → IsAlone slots place → IsAlone slots' place × (chain_of slots' place ≡ chain_of slots place)) where
  chains_of-stay : (places : Places) → AreAlone slots places → chains_of slots' places ≡ chains_of slots places
  chains_of-stay [] sound = refl
  chains_of-stay (e ∷ es) sound = λ i.
      (e.0, (stay e.1 (All-head (λ (e : List ℕ × ℕ). IsAlone slots e.1) e es sound)).1 i)
      ∷ chains_of-stay es (All-tail (λ (e : List ℕ × ℕ). IsAlone slots e.1) e es sound) i

  AreAlone-stay : (places : Places) → AreAlone slots places → AreAlone slots' places
  AreAlone-stay places sound =
      All-weaker (λ (e : List ℕ × ℕ). IsAlone slots e.1) (λ (e : List ℕ × ℕ). IsAlone slots' e.1)
      (λ e one. (stay e.1 one).0) places sound

  -- one more place comes
  module _ (places : Places) (sound : AreAlone slots places) (key value : List ℕ) (place : ℕ) where
    pub chains_of-pushed : (left more all : List (List ℕ × List ℕ)) → left ≡ (key, value) ∷ more → chain_of slots' place ≡ first_chain value
        → chains_of slots places ++ first_chains left ≡ first_chains all → chains_of slots' (places ++ (key, place) ∷ []) ++ first_chains more
        ≡ first_chains all
    chains_of-pushed left more all step chain so_far =
        ap (λ chains. chains ++ first_chains more) (map-append _ places ((key, place) ∷ []))
        ∙ append_assoc (chains_of slots' places) ((key, chain_of slots' place) ∷ []) (first_chains more)
        ∙ (λ i. chains_of-stay places sound i ++ (key, chain i) ∷ first_chains more)
        ∙ ap (λ pairs. chains_of slots places ++ first_chains pairs) (sym step)
        ∙ so_far

    pub AreAlone-pushed : IsAlone slots' place → AreAlone slots' (places ++ (key, place) ∷ [])
    AreAlone-pushed one =
        All-append (λ (e : List ℕ × ℕ). IsAlone slots' e.1) places ((key, place) ∷ []) (AreAlone-stay places sound)
        (All-cons (λ (e : List ℕ × ℕ). IsAlone slots' e.1) (key, place) [] one (All-nil _))

module _ {X Y : Type 0} (g : X → Y) (q : List ℕ) where
  -- what a list gives a key, with each value mapped
  update_all-mapped : (f : List ℕ → Option X) (xs : List (List ℕ × X))
      → option_map g (update_all (eq_by_cmp key_cmp) f xs q)
      ≡ update_all (eq_by_cmp key_cmp) (λ r. option_map g (f r)) (map (λ x. (x.0, g x.1)) xs) q
  update_all-mapped f [] = refl
  update_all-mapped f (x ∷ xs) =
      update_all-mapped (update (eq_by_cmp key_cmp) f x.0 (Some x.1)) xs
      ∙ ap (λ h. update_all (eq_by_cmp key_cmp) h (map (λ x. (x.0, g x.1)) xs) q) (λ i r. cond-mapped (eq_by_cmp key_cmp x.0 r) (f r) i)
    where
      cond-mapped : (b : Bool) (o : Option X) → option_map g (cond b (Some x.1) o) ≡ cond b (Some (g x.1)) (option_map g o)
      cond-mapped true o = refl
      cond-mapped false o = refl

inserted-do_all : (pairs : List (List ℕ × List ℕ)) (database : Database) → inserted pairs database ≡ do_all (map set_of pairs) database
inserted-do_all [] database = refl
inserted-do_all (pair ∷ pairs) database = inserted-do_all pairs (do_one (set_of pair) database)

-- at version 0 a chain of version 1 holds nothing
holding-before_first : (o : Option (List ℕ)) → option_and_then (holding 0) (option_map first_chain o) ≡ None
unfolding holding
holding-before_first None = refl
holding-before_first (Some value) = refl

-- at version 1 it holds its value
holding-first : (o : Option (List ℕ)) → option_and_then (holding 1) (option_map first_chain o) ≡ o
unfolding holding
holding-first None = refl
holding-first (Some value) = refl

-- a tree that was collected of the places of pairs: no two keys have the same place
module _ (left : List Pair) (tree : BTreeMap (List ℕ) ℕ) (made : IsFromIterResult key_cmp (places_from 0 left) tree) where
  key_at-collected : (key : List ℕ) → IfSome (place_of tree.entries key) (λ place. key_at left place ≡ key)
  key_at-collected key =
      let Is : ℕ → Type 0 = λ place. key_at left place ≡ key in
      subst (λ o. IfSome o Is) (sym (made.0 key))
      (IfSome-update_all (eq_by_cmp key_cmp) Is key (λ _. None) (places_from 0 left) tt
      (All-weaker (λ e. (0 ≤ e.1) × (key_at left (e.1 - 0) ≡ e.0)) (λ e. eq_by_cmp key_cmp e.0 key ≡ true → Is e.1)
      (λ e stands same.
      let whole : e.1 ≡ e.1 - 0 = omega arith in
      ap (key_at left) whole ∙ stands.1 ∙ tells_apart exact_bytes e.0 key same) (places_from 0 left) (key_at-places_from 0 left)))

  -- the chain of each key is alone
  module _ (slots : Slots) (alone : AreAlone slots (places_from 0 left)) where
    alone_at : (key : List ℕ) → IfSome (place_of tree.entries key) (IsAlone slots)
    alone_at key =
        subst (λ o. IfSome o (IsAlone slots)) (sym (made.0 key))
        (IfSome-update_all (eq_by_cmp key_cmp) (IsAlone slots) key (λ _. None) (places_from 0 left) tt
        (All-weaker (λ e. IsAlone slots e.1) (λ e. eq_by_cmp key_cmp e.0 key ≡ true → IsAlone slots e.1)
        (λ e one _. one) (places_from 0 left) alone))

    pub Sound-loaded : Sound slots 2 tree.entries
    Sound-loaded = record {
      rising = made.1;
      places_sound = λ key. sound_at (place_of tree.entries key) (alone_at key);
      apart =
          λ a b place one other. sym (subst (λ o. IfSome o (λ p. key_at left p ≡ a)) one (key_at-collected a))
          ∙ subst (λ o. IfSome o (λ p. key_at left p ≡ b)) other (key_at-collected b);
    }
      where
        sound_at : (o : Option ℕ) → IfSome o (IsAlone slots) → IfSome o (IsSoundPlace slots 2)
        sound_at None all = tt
        sound_at (Some place) all = IsSoundPlace-alone slots place all

    pub AreNoted-loaded : AreNoted [] slots tree.entries
    AreNoted-loaded key = noted_at (place_of tree.entries key) (alone_at key)
      where
        noted_at : (o : Option ℕ) → IfSome o (IsAlone slots) → IfSome o (λ p. IsNoted [] p (chain_of slots p))
        noted_at None all = tt
        noted_at (Some place) all = IsNoted-alone slots place all

    -- as many values are later than version 0 as there are pairs at version 1
    pub later-loaded : total (later 0) slots tree.entries ≡ length (finite.entries (database_of 1 slots tree.entries))
    later-loaded =
        later-present slots tree.entries (All-found (λ key place. IsAlone slots place) tree.entries made.1 alone_at)
        ∙ sym (ap length (entries-database_of slots 1 tree.entries made.1))

    pub total-loaded : total length slots tree.entries ≤ length tree.entries
    total-loaded =
        total-ones length slots tree.entries
        (All-found (λ key place. length (chain_of slots place) ≤ 1) tree.entries made.1 (λ q. short (place_of tree.entries q) (alone_at q)))
      where
        short : (o : Option ℕ) → IfSome o (IsAlone slots) → IfSome o (λ place. length (chain_of slots place) ≤ 1)
        short None all = tt
        short (Some place) all = length-alone slots place all

-- a tree that was collected of these places, with the chains of these pairs
module _ (slots : Slots) (pairs : List (List ℕ × List ℕ)) (places : Places) (tree : BTreeMap (List ℕ) ℕ)
    (made : IsFromIterResult key_cmp places tree) (chains : chains_of slots places ≡ first_chains pairs) where
  -- what the pairs give a key is its chain
  chain_of-loaded : (q : List ℕ)
      → option_map (chain_of slots) (place_of tree.entries q) ≡ option_map first_chain (update_all (eq_by_cmp key_cmp) (λ _. None) pairs q)
  chain_of-loaded q =
      ap (option_map (chain_of slots)) (made.0 q)
      ∙ update_all-mapped (chain_of slots) q (λ _. None) places
      ∙ ap (λ given. update_all (eq_by_cmp key_cmp) (λ _. None) given q) chains
      ∙ sym (update_all-mapped first_chain q (λ _. None) pairs)

  get-loaded : (version : ℕ) (q : List ℕ)
      → finite.get (database_of version slots tree.entries) q
      ≡ option_and_then (holding version) (option_map first_chain (update_all (eq_by_cmp key_cmp) (λ _. None) pairs q))
  get-loaded version q =
      get-database_of slots version tree.entries q made.1
      ∙ sym (and_then-chain_of slots version (place_of tree.entries q))
      ∙ ap (option_and_then (holding version)) (chain_of-loaded q)

  -- at version 0 there is nothing
  pub database_of-before_first : database_of 0 slots tree.entries ≡ finite.empty
  database_of-before_first = finite.same_map nat_list_cmp_total exact_bytes _ _ (λ q.
      get-loaded 0 q ∙ holding-before_first (update_all (eq_by_cmp key_cmp) (λ _. None) pairs q) ∙ sym (finite.get-empty key_cmp q))

  -- at version 1 there are the pairs
  pub database_of-first : database_of 1 slots tree.entries ≡ do_all (map set_of pairs) finite.empty
  unfolding database_at
  database_of-first =
      map_of-collected pairs (present_of 1 slots tree.entries) (λ q.
      sym (get-map_of (present_of 1 slots tree.entries) q)
      ∙ get-loaded 1 q
      ∙ holding-first (update_all (eq_by_cmp key_cmp) (λ _. None) pairs q))
      ∙ inserted-do_all pairs finite.empty
