-- The places of one machine, by what was asked and answered in the whole order.
use Rattle.std.proofs.Common.{◌≡◌, ℕ, zero, suc, Bool, true, false, cond, eqb, List, [], ◌∷◌, ◌++◌, length, Some, refl, ap, arith}
use Rattle.std.specs.Prelude.{filter, map, slice_get}
use Rattle.std.proofs.lemmas.Option.{none-some, same_Some}
use Rattle.fdb_calls.specs.declared.Request.{Request}
use Rattle.fdb_calls.specs.declared.Reply.{Reply}
use Rattle.laws_threads.specs.Weaving.{Place, order_of, places_of, places_over, requests_at}

-- the order is that of the machines that asked
pub order_of_places : (asked : List (ℕ × Request)) (replies : List Reply) → length replies ≡ length asked
    → order_of (places_over asked replies) ≡ map (λ (it : ℕ × Request). it.0) asked
order_of_places [] replies same = refl
order_of_places (first ∷ asked) [] same = absurd (omega (arith, same))
order_of_places (first ∷ asked) (reply ∷ replies) same =
    ap (λ l. first.0 ∷ l) (order_of_places asked replies (omega (arith, same)))

-- what a machine asked at its places is what it asked
pub requests_of_places : (number : ℕ) (asked : List (ℕ × Request)) (replies : List Reply) → length replies ≡ length asked
    → requests_at (places_of number (places_over asked replies))
    ≡ map (λ (it : ℕ × Request). it.1) (filter (λ (it : ℕ × Request). eqb it.0 number) asked)
requests_of_places number [] replies same = refl
requests_of_places number (first ∷ asked) [] same = absurd (omega (arith, same))
requests_of_places number (first ∷ asked) (reply ∷ replies) same =
    by (eqb first.0 number) (requests_of_places number asked replies (omega (arith, same)))
  where
    by : (own : Bool)
        → requests_at (places_of number (places_over asked replies))
        ≡ map (λ (it : ℕ × Request). it.1) (filter (λ (it : ℕ × Request). eqb it.0 number) asked)
        → requests_at (cond own (record { machine = first.0; request = first.1; reply = reply }
        ∷ places_of number (places_over asked replies)) (places_of number (places_over asked replies)))
        ≡ map (λ (it : ℕ × Request). it.1) (cond own (first ∷ filter (λ (it : ℕ × Request). eqb it.0 number) asked)
        (filter (λ (it : ℕ × Request). eqb it.0 number) asked))
    by true rest = ap (λ l. first.1 ∷ l) rest
    by false rest = rest

-- a place of one machine is a place of the order
pub record StandsIn (places : List Place) (number : ℕ) (place : Place) : Type 0 where
  pub front : List Place
  pub rest : List Place
  pub is : places ≡ front ++ place ∷ rest

pub stands_in : (number : ℕ) (places : List Place) (i : ℕ) (place : Place) → slice_get (places_of number places) i ≡ Some place
    → StandsIn places number place
stands_in number [] i place is = absurd (none-some place is)
stands_in number (first ∷ places) i place is = by (eqb first.machine number) (λ j e. stands_in number places j place e) i is
  where
    behind : StandsIn places number place → StandsIn (first ∷ places) number place
    behind later = record { front = first ∷ later.front; rest = later.rest; is = ap (λ l. first ∷ l) later.is }

    by : (own : Bool) → ((j : ℕ) → slice_get (places_of number places) j ≡ Some place → StandsIn places number place)
        → (i : ℕ) → slice_get (cond own (first ∷ places_of number places) (places_of number places)) i ≡ Some place
        → StandsIn (first ∷ places) number place
    by true later zero is = record { front = []; rest = places; is = ap (λ (p : Place). p ∷ places) (same_Some first place is) }
    by true later (suc i) is = behind (later i is)
    by false later i is = behind (later i is)
