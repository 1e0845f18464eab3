-- The order of tuples, by the lists of their elements.
use Rattle.std.proofs.Common.{◌≡◌, ℕ, ◌+◌, List, [], ◌∷◌, length, refl, ◌∙◌, sym, ◌⊎◌, inl, inr, arith}
use Rattle.std.specs.Ordering.{nat_cmp}
use Rattle.std.specs.declared.cmp.Ordering.TheVariants.{Less, Greater}
use Rattle.fdb_tuple.specs.declared.tuple.Elem.{Elem}
use Rattle.fdb_tuple.specs.declared.tuple.Elem.TheVariants as elem
use Rattle.fdb_tuple.specs.Tuples.{Elements, Empty}
use Rattle.fdb_tuple.specs.Listed.{before, tuple_of}
use Rattle.fdb_tuple.specs.Order.{tuple_cmp}
use Rattle.key_bytes.proofs.Orders.{nat_cmp-less, nat_cmp-equal, nat_cmp-greater}

end_before : (y : Elem) (ys : Elements) → tuple_cmp Empty (before y ys) ≡ Less
end_before (elem.Nested b) ys = refl
end_before y ys = refl

end_after : (x : Elem) (xs : Elements) → tuple_cmp (before x xs) Empty ≡ Greater
end_after (elem.Nested a) xs = refl
end_after x xs = refl

-- where one of two tuples is at its end, their numbers of elements decide
pub tuple_cmp-ended : (xs ys : List Elem) (m n : ℕ) → (xs ≡ []) ⊎ (ys ≡ []) → m + length ys ≡ n + length xs
    → tuple_cmp (tuple_of xs) (tuple_of ys) ≡ nat_cmp m n
tuple_cmp-ended [] [] m n ended e = sym (nat_cmp-equal m n (omega arith))
tuple_cmp-ended [] (y ∷ ys) m n ended e = end_before y (tuple_of ys) ∙ sym (nat_cmp-less m n (omega arith))
tuple_cmp-ended (x ∷ xs) [] m n ended e = end_after x (tuple_of xs) ∙ sym (nat_cmp-greater m n (omega arith))
tuple_cmp-ended (x ∷ xs) (y ∷ ys) m n (inl none) e = absurd cc
tuple_cmp-ended (x ∷ xs) (y ∷ ys) m n (inr none) e = absurd cc
