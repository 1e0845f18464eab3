-- Where the places of a machine stand in an order, and where their requests stand in what was taken.
use Rattle.std.proofs.Common.{◌≡◌, ℕ, suc, Bool, true, false, cond, eqb, List, [], ◌∷◌, ◌++◌, length, map, refl, sym, ap, ◌∙◌, arith}
use Rattle.std.specs.Prelude.{filter}
use Rattle.std.proofs.lemmas.Bool.{eqb-true}
use mathlib.Core.List.{cons≢nil, head-eq_of_cons-eq, tail-eq_of_cons-eq}
use Rattle.fdb_calls.specs.declared.Request.{Request}
use Rattle.fdb_calls.specs.declared.Reply.{Reply}
use Rattle.future_cell.specs.declared.setter.Setter.{Setter}
use Rattle.future_cell.specs.declared.wake.Wake.{Wake}
use Rattle.request_line.specs.Taking.{items_of}
use Rattle.network.specs.declared.post.Post.{Post}
use Rattle.network.specs.declared.post.Post.TheVariants.{Ask, Over}
use Rattle.network.specs.Posts.{posts_of, asked_in}
use Rattle.laws_threads.specs.Weaving.{Place, places_of, places_over, replies_at, requests_at}
use Rattle.core_service.proofs.Lists.{never_empty}

-- ---- in what was taken

-- what was asked at places, with the machines
abbrev pub asked_at : List Place → List (ℕ × Request)
asked_at places = map (λ (place : Place). (place.machine, place.request)) places

-- the request of a place was taken, and before it what was asked at the places before it
pub record IsTakenAt (taken : List (ℕ × Post)) (front : List Place) (place : Place) : Type 0 where
  pub before : List (ℕ × Post)
  pub behind : List (ℕ × Post)
  pub sender : ℕ
  pub setter : Setter Reply Wake
  pub parts : taken ≡ before ++ (sender, Ask place.machine place.request setter) ∷ behind
  pub asked : asked_in (posts_of before) ≡ asked_at front

pub taken_at : (taken : List (ℕ × Post)) (replies : List Reply) (front rest : List Place) (place : Place)
    → places_over (asked_in (posts_of taken)) replies ≡ front ++ place ∷ rest → IsTakenAt taken front place
taken_at [] replies front rest place is = absurd (never_empty front place rest is)
taken_at ((number, Over over) ∷ taken) replies front rest place is =
    let later = taken_at taken replies front rest place is in
    record {
      before = (number, Over over) ∷ later.before;
      behind = later.behind;
      sender = later.sender;
      setter = later.setter;
      parts = ap (λ l. (number, Over over) ∷ l) later.parts;
      asked = later.asked;
    }
taken_at ((number, Ask machine request setter) ∷ taken) [] front rest place is = absurd (never_empty front place rest is)
taken_at ((number, Ask machine request setter) ∷ taken) (reply ∷ replies) [] rest place is = record {
  before = [];
  behind = taken;
  sender = number;
  setter = setter;
  parts = ap (λ (p : Place). (number, Ask p.machine p.request setter) ∷ taken) (head-eq_of_cons-eq is);
  asked = refl;
}
taken_at ((number, Ask machine request setter) ∷ taken) (reply ∷ replies) (first ∷ front) rest place is =
    let later = taken_at taken replies front rest place (tail-eq_of_cons-eq is) in
    let same = ap (λ (p : Place). (p.machine, p.request)) (head-eq_of_cons-eq is) in
    record {
      before = (number, Ask machine request setter) ∷ later.before;
      behind = later.behind;
      sender = later.sender;
      setter = later.setter;
      parts = ap (λ l. (number, Ask machine request setter) ∷ l) later.parts;
      asked = (λ i. same i ∷ later.asked i);
    }

-- what a machine asked at places
pub asked_by_one : (number : ℕ) (places : List Place) → items_of number (asked_at places) ≡ requests_at (places_of number places)
asked_by_one number [] = refl
asked_by_one number (place ∷ places) = by (eqb place.machine number) (asked_by_one number places)
  where
    by : (own : Bool) → items_of number (asked_at places) ≡ requests_at (places_of number places)
        → map (λ (it : ℕ × Request). it.1) (cond own ((place.machine, place.request)
        ∷ filter (λ (it : ℕ × Request). eqb it.0 number) (asked_at places)) (filter (λ (it : ℕ × Request). eqb it.0 number) (asked_at places)))
        ≡ requests_at (cond own (place ∷ places_of number places) (places_of number places))
    by true rest = ap (λ l. place.request ∷ l) rest
    by false rest = rest

-- ---- in the order

-- behind so many places stands one with this request and this reply
pub record IsPlaceWith (places : List Place) (count : ℕ) (request : Request) (reply : Reply) : Type 0 where
  pub front : List Place
  pub place : Place
  pub rest : List Place
  pub is : places ≡ front ++ place ∷ rest
  pub many : length front ≡ count
  pub request_is : place.request ≡ request
  pub reply_is : place.reply ≡ reply

pub place_with : (places : List Place) (earlier more : List Request) (earlier_replies more_replies : List Reply) (request : Request)
    (reply : Reply) → length earlier_replies ≡ length earlier → requests_at places ≡ (earlier ++ request ∷ []) ++ more
    → replies_at places ≡ (earlier_replies ++ reply ∷ []) ++ more_replies → IsPlaceWith places (length earlier) request reply
place_with [] [] more earlier_replies more_replies request reply many asked given = absurd (cons≢nil (sym asked))
place_with [] (first ∷ earlier) more earlier_replies more_replies request reply many asked given = absurd (cons≢nil (sym asked))
place_with (place ∷ places) [] more [] more_replies request reply many asked given = record {
  front = [];
  place = place;
  rest = places;
  is = refl;
  many = refl;
  request_is = head-eq_of_cons-eq asked;
  reply_is = head-eq_of_cons-eq given;
}
place_with (place ∷ places) [] more (other ∷ earlier_replies) more_replies request reply many asked given = absurd (omega (arith, many))
place_with (place ∷ places) (first ∷ earlier) more [] more_replies request reply many asked given = absurd (omega (arith, many))
place_with (place ∷ places) (first ∷ earlier) more (other ∷ earlier_replies) more_replies request reply many asked given =
    let later = place_with places earlier more earlier_replies more_replies request reply (omega (arith, many))
    (tail-eq_of_cons-eq asked) (tail-eq_of_cons-eq given) in
    record {
      front = place ∷ later.front;
      place = later.place;
      rest = later.rest;
      is = ap (λ l. place ∷ l) later.is;
      many = ap suc later.many;
      request_is = later.request_is;
      reply_is = later.reply_is;
    }

-- a place of a machine stands in the order behind the machine's places before it
pub record StandsBehind (places : List Place) (number : ℕ) (own : List Place) (place : Place) : Type 0 where
  pub front : List Place
  pub rest : List Place
  pub is : places ≡ front ++ place ∷ rest
  pub own_are : places_of number front ≡ own

pub stands_behind : (number : ℕ) (places own others : List Place) (place : Place) → places_of number places ≡ own ++ place ∷ others
    → StandsBehind places number own place
stands_behind number [] own others place is = absurd (never_empty own place others is)
stands_behind number (first ∷ places) own others place is =
    by (eqb first.machine number) refl (λ its e. stands_behind number places its others place e) own is
  where
    longer : (its : Bool) → eqb first.machine number ≡ its → (own : List Place) → (later : StandsBehind places number own place)
        → places_of number (first ∷ later.front) ≡ cond its (first ∷ own) own
    longer its e own later =
        ap (λ b. cond b (first ∷ places_of number later.front) (places_of number later.front)) e
        ∙ ap (λ l. cond its (first ∷ l) l) later.own_are

    by : (its : Bool) → eqb first.machine number ≡ its
        → ((own : List Place) → places_of number places ≡ own ++ place ∷ others → StandsBehind places number own place)
        → (own : List Place) → cond its (first ∷ places_of number places) (places_of number places) ≡ own ++ place ∷ others
        → StandsBehind (first ∷ places) number own place
    by true e again [] is =
        record { front = []; rest = places; is = ap (λ (p : Place). p ∷ places) (head-eq_of_cons-eq is); own_are = refl }
    by true e again (other ∷ own) is =
        let later = again own (tail-eq_of_cons-eq is) in
        record {
          front = first ∷ later.front;
          rest = later.rest;
          is = ap (λ l. first ∷ l) later.is;
          own_are = longer true e own later ∙ ap (λ (p : Place). p ∷ own) (head-eq_of_cons-eq is);
        }
    by false e again own is =
        let later = again own is in
        record {
          front = first ∷ later.front;
          rest = later.rest;
          is = ap (λ l. first ∷ l) later.is;
          own_are = longer false e own later;
        }

-- a machine has no place where no place is of it
pub none_of_it : (number : ℕ) (places : List Place)
    → ((front rest : List Place) (place : Place) → places ≡ front ++ place ∷ rest → place.machine ≡ number → ⊥) → places_of number places ≡ []
none_of_it number [] never = refl
none_of_it number (first ∷ places) never =
    by (eqb first.machine number) refl
    (none_of_it number places (λ front rest place is own. never (first ∷ front) rest place (ap (λ l. first ∷ l) is) own))
  where
    by : (its : Bool) → eqb first.machine number ≡ its → places_of number places ≡ []
        → cond its (first ∷ places_of number places) (places_of number places) ≡ []
    by true e rest = absurd (never [] places first refl (eqb-true first.machine number e))
    by false e rest = rest
