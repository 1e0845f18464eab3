use Rattle.std.proofs.Common.{◌≡◌, ℕ, ◌+◌, ◌<◌, ◌≤◌, List, [], ◌∷◌, ◌++◌, All, Some, None, length, get_or, take, drop, sym, ap, ◌∙◌, subst, get_or-drop, length-drop, take-append-drop, arith, rules}
use Rattle.std.proofs.lemmas.List.{drop_more}
use Rattle.std.proofs.lemmas.List.Elements.{All-from_get_or}
use Rattle.key_bytes.specs.Successors.{strinc}
use Rattle.key_bytes.proofs.SuccessorLaws.{strinc-append, none_from_tops, strinc-IsLeastAbove}
use Rattle.key_bytes.proofs.bytes.Bytes.strinc.Goals as goal

-- all bytes are FF
none_is : (bytes : List ℕ) → ((k : ℕ) → k < length bytes → 255 ≤ get_or bytes k 0) → strinc bytes ≡ None
none_is bytes high = none_from_tops bytes (All-from_get_or (λ b. 255 ≤ b) bytes 0 high)

-- the bytes behind the one at last are FF
some_is : (bytes : List ℕ) (last : ℕ) → last < length bytes → get_or bytes last 0 < 255
    → ((k : ℕ) → last + 1 ≤ k → k < length bytes → 255 ≤ get_or bytes k 0)
    → strinc bytes ≡ Some (take last bytes ++ (get_or bytes last 0 + 1) ∷ [])
some_is bytes last inside low high =
    ap strinc parts ∙ strinc-append (take last bytes) (get_or bytes last 0) (drop (last + 1) bytes) low tops
  where
    parts : bytes ≡ take last bytes ++ get_or bytes last 0 ∷ drop (last + 1) bytes
    parts = sym (take-append-drop last bytes) ∙ ap (λ back. take last bytes ++ back) (drop_more bytes last 0 inside)

    tops : All (λ b. 255 ≤ b) (drop (last + 1) bytes)
    tops = All-from_get_or (λ b. 255 ≤ b) (drop (last + 1) bytes) 0 (λ k behind.
        subst (λ b. 255 ≤ b) (sym (get_or-drop (last + 1) bytes k 0))
        (high (last + 1 + k) (omega arith) (omega (arith, length-drop (last + 1) bytes, behind))))

pub returns-in-None-clause-value : goal.returns-in-None-clause-value
returns-in-None-clause-value c = sym (none_is c.args.self.now (search rules))

-- what the code makes
made : (c : goal.In_ok-extend-in-Some) → strinc c.args.self.now ≡ Some c.extend.new.self
made c =
    some_is c.args.self.now c.in-Some.last (search rules) (search rules) (search rules)
    ∙ ap Some (search rules)

pub returns-in_ok-extend-in-Some-clause-value : goal.returns-in_ok-extend-in-Some-clause-value
returns-in_ok-extend-in-Some-clause-value c = sym (made c)

pub returns-in_ok-extend-in-Some-clause-above : goal.returns-in_ok-extend-in-Some-clause-above
returns-in_ok-extend-in-Some-clause-above c = strinc-IsLeastAbove c.args.self.now c.extend.new.self (search rules) (made c)
