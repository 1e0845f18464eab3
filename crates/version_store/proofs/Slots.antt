-- Slots before and after a change: what stays of sound stores and of their databases.
use Rattle.std.proofs.Common.{◌≡◌, ◌≢◌, ℕ, zero, suc, ◌+◌, ◌<◌, ◌≤◌, ◌-◌, ◌^◌, ◌++◌, true, cond, [], ◌∷◌, Option, Some, None, is_some, nat_lt, length, slice_index_or, slice_set, ◌⊎◌, inl, inr, refl, sym, ap, subst, ◌∙◌, arith, le-ltb}
use Rattle.std.proofs.lemmas.Bool.{cases_eq, false≢true}
use Rattle.std.proofs.lemmas.List.{get_or-set_same, get_or-set_other}
use Rattle.std.proofs.lemmas.Option.{none-some}
use Rattle.std.proofs.lemmas.Map.Lookups.{exact_bytes}
use Rattle.std.specs.Cmp.Lexicographic.{nat_list_cmp_total}
use Rattle.std.specs.FinMap.{same_map}
use Rattle.std.specs.Option.{IfSome, option_and_then}
use Rattle.slab.specs.Slab.{Slab, slab_len}
use Rattle.version_store.specs.declared.values.Values.{Values}
use Rattle.version_store.specs.Chains.{Slots, Places, chain_in, chain_of, database_of, has_room_at, has_room_in, room_of, IsFalling, IsSoundPlace, IsThere, KeepsChains, Sound}
use Rattle.version_store.specs.Values.{chain_of_values, has_room}
use Rattle.version_store.specs.Versions.{Chain, holding, place_of}
use Rattle.version_store.proofs.Spans.{get-database_of}

-- the room at a place is that of its slot
pub has_room_at-in : (slots : Slots) (place : ℕ) → has_room_at slots place ≡ has_room_in (slice_index_or slots place None)
has_room_at-in [] zero = refl
has_room_at-in [] (suc place) = refl
has_room_at-in (slot ∷ slots) zero = refl
has_room_at-in (slot ∷ slots) (suc place) = has_room_at-in slots place

-- where there is room, there is a slot
pub there-has_room_at : (slots : Slots) (place : ℕ) → has_room_at slots place ≡ true → IsThere slots place
there-has_room_at slots place room = there_at (slice_index_or slots place None) (sym (has_room_at-in slots place) ∙ room)
  where
    there_at : (o : Option Values) → has_room_in o ≡ true → is_some o ≡ true
    there_at None room = absurd (false≢true room)
    there_at (Some values) room = refl

-- a place with a slot isn't vacant
pub apart-vacant : (slots : Slots) (at place : ℕ) → IsThere slots at → slice_index_or slots place None ≡ None → at ≢ place
apart-vacant slots at place there vacant same =
    false≢true (sym (ap (λ (o : Option Values). is_some o) (ap (λ p. slice_index_or slots p None) same ∙ vacant)) ∙ there)

-- versions that fall are earlier than a later one
pub IsFalling-later : (chain : Chain) (before after : ℕ) → before ≤ after → IsFalling before chain → IsFalling after chain
IsFalling-later [] before after less falling = tt
IsFalling-later (given ∷ chain) before after less falling = (omega (arith, less, falling.0), falling.1)

-- so does the beginning of a chain
pub IsFalling-begins : (chain gone : Chain) (before : ℕ) → IsFalling before (chain ++ gone) → IsFalling before chain
IsFalling-begins [] gone before falling = tt
IsFalling-begins (given ∷ chain) gone before falling = (falling.0, IsFalling-begins chain gone given.0 falling.1)

-- past its last version a chain holds what it holds then
pub holding-later : (chain : Chain) (last : ℕ) → IsFalling (last + 1) chain → holding (last + 1) chain ≡ holding last chain
unfolding holding
holding-later [] last falling = refl
holding-later (given ∷ chain) last falling =
    ap (λ b. cond b (holding (last + 1) chain) given.1) (le-ltb (last + 1) given.0 (omega (arith, falling.0)))
    ∙ sym (ap (λ b. cond b (holding last chain) given.1) (le-ltb last given.0 (omega (arith, falling.0))))

-- a store is sound for any later version
pub Sound-later : (slots : Slots) (places : Places) (next after : ℕ) → next ≤ after → Sound slots next places → Sound slots after places
Sound-later slots places next after less sound = record {
  rising = sound.rising;
  places_sound = λ q. later (place_of places q) (sound.places_sound q);
  apart = sound.apart;
}
  where
    later : (o : Option ℕ) → IfSome o (IsSoundPlace slots next) → IfSome o (IsSoundPlace slots after)
    later None all = tt
    later (Some place) all = (all.0, IsFalling-later (chain_of slots place) next after less all.1)

-- before anything is put at the next version, the database is the one at the last
pub database_of-later : (slots : Slots) (places : Places) (last : ℕ) → Sound slots (last + 1) places
    → database_of (last + 1) slots places ≡ database_of last slots places
database_of-later slots places last sound = same_map nat_list_cmp_total exact_bytes _ _ (λ q.
    get-database_of slots (last + 1) places q sound.rising
    ∙ same_held (place_of places q) (sound.places_sound q)
    ∙ sym (get-database_of slots last places q sound.rising))
  where
    same_held : (o : Option ℕ) → IfSome o (IsSoundPlace slots (last + 1))
        → option_and_then (λ place. holding (last + 1) (chain_of slots place)) o
        ≡ option_and_then (λ place. holding last (chain_of slots place)) o
    same_held None all = refl
    same_held (Some place) all = holding-later (chain_of slots place) last all.1

-- slots that stay with their chains
module _ (slots slots' : Slots)
    (kept : (at : ℕ) → IsThere slots at → IsThere slots' at × (chain_of slots' at ≡ chain_of slots at)) where
  pub IsSoundPlace-kept : (next place : ℕ) → IsSoundPlace slots next place → IsSoundPlace slots' next place
  IsSoundPlace-kept next place sound =
      let here = kept place sound.0 in (here.0, subst (IsFalling next) (sym here.1) sound.1)

  pub Sound-kept : (next : ℕ) (places : Places) → Sound slots next places → Sound slots' next places
  Sound-kept next places sound = record {
    rising = sound.rising;
    places_sound = λ q. kept_at (place_of places q) (sound.places_sound q);
    apart = sound.apart;
  }
    where
      kept_at : (o : Option ℕ) → IfSome o (IsSoundPlace slots next) → IfSome o (IsSoundPlace slots' next)
      kept_at None all = tt
      kept_at (Some place) all = IsSoundPlace-kept next place all

  pub database_of-kept : (next : ℕ) (places : Places) → Sound slots next places → (version : ℕ)
      → database_of version slots' places ≡ database_of version slots places
  database_of-kept next places sound version = same_map nat_list_cmp_total exact_bytes _ _ (λ q.
      get-database_of slots' version places q sound.rising
      ∙ held (place_of places q) (sound.places_sound q)
      ∙ sym (get-database_of slots version places q sound.rising))
    where
      held : (o : Option ℕ) → IfSome o (IsSoundPlace slots next)
          → option_and_then (λ place. holding version (chain_of slots' place)) o
          ≡ option_and_then (λ place. holding version (chain_of slots place)) o
      held None all = refl
      held (Some place) all = ap (holding version) (kept place all.0).1

-- one after the other
pub KeepsChains-then : (slots slots' slots'' : Slots) → KeepsChains slots slots' → KeepsChains slots' slots'' → KeepsChains slots slots''
KeepsChains-then slots slots' slots'' one other = record {
  chains = λ at there.
      let first = one.chains at there in let second = other.chains at first.0 in (second.0, second.1 ∙ first.1);
  rooms = λ at room. other.rooms at (one.rooms at room);
}

pub KeepsChains-same : (slots : Slots) → KeepsChains slots slots
KeepsChains-same slots = record { chains = λ at there. (there, refl); rooms = λ at room. room }

-- a slot stays where it isn't written
pub kept-others : (slots slots' : Slots) (at : ℕ) → slice_index_or slots' at None ≡ slice_index_or slots at None
    → IsThere slots at → IsThere slots' at × (chain_of slots' at ≡ chain_of slots at)
kept-others slots slots' at same there = (ap (λ (o : Option Values). is_some o) same ∙ there, ap chain_in same)

inside-there : (slots : Slots) (at : ℕ) (values : Values) → slice_index_or slots at None ≡ Some values → at < length slots
inside-there [] at values is = absurd (none-some values is)
inside-there (slot ∷ slots) zero values is = omega arith
inside-there (slot ∷ slots) (suc at) values is = let rest = inside-there slots at values is in omega (arith, rest)

-- what lies in a slot was made another, which has the same chain, and room where it had room
module _ (slots : Slots) (place : ℕ) (was now : Values) (is : slice_index_or slots place None ≡ Some was) where
  there_now : slice_index_or (slice_set slots place (Some now)) place None ≡ Some now
  there_now = get_or-set_same slots place (Some now) None (inside-there slots place was is)

  pub KeepsChains-set : chain_of_values now ≡ chain_of_values was → (has_room was ≡ true → has_room now ≡ true)
      → KeepsChains slots (slice_set slots place (Some now))
  KeepsChains-set same kept = record {
    chains = λ at there. chain_at at (cases_eq at place) there;
    rooms = λ at room. room_at at (cases_eq at place) room;
  }
    where
      chain_at : (at : ℕ) → (at ≡ place) ⊎ (at ≢ place) → IsThere slots at
          → IsThere (slice_set slots place (Some now)) at × (chain_of (slice_set slots place (Some now)) at ≡ chain_of slots at)
      chain_at at (inl one) there =
          subst (λ at. IsThere (slice_set slots place (Some now)) at × (chain_of (slice_set slots place (Some now)) at ≡ chain_of slots at)) (sym one)
          (ap (λ (o : Option Values). is_some o) there_now, ap chain_in there_now ∙ same ∙ sym (ap chain_in is))
      chain_at at (inr apart) there =
          kept-others slots (slice_set slots place (Some now)) at (get_or-set_other slots place at (Some now) None apart) there

      room_at : (at : ℕ) → (at ≡ place) ⊎ (at ≢ place) → has_room_at slots at ≡ true → has_room_at (slice_set slots place (Some now)) at ≡ true
      room_at at (inl one) room =
          subst (λ at. has_room_at (slice_set slots place (Some now)) at ≡ true) (sym one)
          (has_room_at-in (slice_set slots place (Some now)) place ∙ ap has_room_in there_now
          ∙ kept (sym (ap has_room_in is) ∙ sym (has_room_at-in slots place) ∙ subst (λ at. has_room_at slots at ≡ true) one room))
      room_at at (inr apart) room =
          has_room_at-in (slice_set slots place (Some now)) at ∙ ap has_room_in (get_or-set_other slots place at (Some now) None apart)
          ∙ sym (has_room_at-in slots at) ∙ room

  pub has_room_at-set : has_room now ≡ true → has_room_at (slice_set slots place (Some now)) place ≡ true
  has_room_at-set room = has_room_at-in (slice_set slots place (Some now)) place ∙ ap has_room_in there_now ∙ room

-- there is as much room
pub room_of-same : (nodes nodes' : Slab Values) → nodes'.capacity ≡ nodes.capacity → slab_len nodes' ≡ slab_len nodes
    → room_of nodes' ≡ room_of nodes
room_of-same nodes nodes' capacity len = λ i. cond (nat_lt (capacity i) (2 ^ 32)) (capacity i - len i) 0
