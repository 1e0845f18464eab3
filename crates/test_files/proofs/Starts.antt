-- The places where cases begin, one place further.
use Rattle.std.proofs.Common.{◌≡◌, ℕ, ◌+◌, Bool, true, false, cond, List, [], ◌∷◌, ◌++◌, sym, ap, ◌∙◌, append-nil, arith}
use Rattle.std.specs.List.{filter, range_with_len}
use Rattle.std.proofs.lemmas.List.{map-id}
use Rattle.std.proofs.lemmas.List.FromFn.{filter_of_map_range_with_len_more}

module _ (test : ℕ → Bool) (n : ℕ) where
  next : filter test (range_with_len 0 (n + 1)) ≡ filter test (range_with_len 0 n) ++ cond (test n) (n ∷ []) []
  next =
      ap (filter test) (sym (map-id (range_with_len 0 (n + 1))))
      ∙ (filter_of_map_range_with_len_more test (λ x. x) 0 n n (omega arith)
      ∙ ap (λ (l : List ℕ). filter test l ++ cond (test n) (n ∷ []) []) (map-id (range_with_len 0 n)))

  pub taken : test n ≡ true → filter test (range_with_len 0 (n + 1)) ≡ filter test (range_with_len 0 n) ++ n ∷ []
  taken passes = next ∙ ap (λ b. filter test (range_with_len 0 n) ++ cond b (n ∷ []) []) passes

  pub left_out : test n ≡ false → filter test (range_with_len 0 (n + 1)) ≡ filter test (range_with_len 0 n)
  left_out fails = next ∙ ap (λ b. filter test (range_with_len 0 n) ++ cond b (n ∷ []) []) fails ∙ append-nil (filter test (range_with_len 0 n))
