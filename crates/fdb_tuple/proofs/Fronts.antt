-- Lists that begin with what was there before.
use Rattle.std.proofs.Common.{◌≡◌, ℕ, ◌≤◌, List, ◌++◌, length, take, refl, sym, ap, ◌∙◌, arith, length-take}
use Rattle.std.proofs.lemmas.List.{take-append-le, take-take, take_at}

front_fits : (old mid : List ℕ) → take (length old) mid ≡ old → length old ≤ length mid
front_fits old mid front = omega (arith, length-take (length old) mid, ap length front)

-- what goes on behind a list that begins with a first begins with the first
pub front_more : (old mid more : List ℕ) → take (length old) mid ≡ old → take (length old) (mid ++ more) ≡ old
front_more old mid more front = take-append-le (length old) mid more (front_fits old mid front) ∙ front

front_through : (old mid new : List ℕ) → take (length old) mid ≡ old → take (length mid) new ≡ mid → take (length old) new ≡ old
front_through old mid new front kept =
    sym (take-take (length old) (length mid) new (front_fits old mid front)) ∙ ap (take (length old)) kept ∙ front

front_put : (old put : List ℕ) → take (length old) (old ++ put) ≡ old
front_put old put = take_at old put (length old) refl

-- some was put behind a list, and then a call refused
pub front_kept : (old put mid new : List ℕ) → mid ≡ old ++ put → take (length mid) new ≡ mid → take (length old) new ≡ old
front_kept old put mid new is kept = front_through old mid new (ap (take (length old)) is ∙ front_put old put) kept
