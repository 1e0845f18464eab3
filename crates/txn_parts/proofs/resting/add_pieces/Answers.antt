use Rattle.std.proofs.Common.{◌≡◌, ◌≤◌, ◌<◌, not, ◌&&◌, ◌||◌, List, [], ◌∷◌, length, get_or, refl, sym, ap, ◌∙◌, arith}
use Rattle.model_database.specs.States.{covers}
use Rattle.model_database.specs.Intervals.{decided}
use Rattle.model_database.proofs.Ranges.{covers_single, covers_without}
use Rattle.txn_parts.proofs.resting.add_pieces.Goals as goal

-- a list of one item
one_item : {X : Type 0} (xs : List X) (x : X) → 1 ≤ length xs → length xs < 2 → x ≡ get_or xs 0 x → xs ≡ x ∷ []
one_item [] x some few is = absurd (omega (arith, some))
one_item (y ∷ []) x some few is = ap (λ z. z ∷ []) (sym is)
one_item (y ∷ z ∷ xs) x some few is = absurd (omega (arith, few))

pub returns-then-lies_open-clause-added : goal.returns-then-lies_open-clause-added
returns-then-lies_open-clause-added c _ key =
    let interval = c.args.interval.now in let range = c.range-item.result in let taken = decided c.args.edits.now.mutations in
    let only = one_item interval range c.in-len1.len_at_least c.in-len1.len_below c.range-item.is in
    c.in_ok-add.ensures.ok key
    ∙ ap (λ b. covers c.args.ranges.now key || b)
    ((c.if-lies_open.ensures {u = tt}).open refl key
    ∙ ap (λ b. b && not (covers taken key)) (sym (covers_single range key))
    ∙ ap (λ ranges. covers ranges key && not (covers taken key)) (sym only)
    ∙ sym (covers_without taken interval key))
