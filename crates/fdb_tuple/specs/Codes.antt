-- A code of tuples, by which a proof tells two of them apart. No contract speaks of it.
use Rattle.std.specs.Prelude.{◌≡◌, ℕ, ◌⊎◌, Bool, List, [], ◌∷◌, ◌++◌, ℤ, refl}
use Rattle.std.specs.Coded.{Coded, code_by, coded×, coded⊎, coded_ℕ, coded_ℤ, coded_bool, coded_list}
use Rattle.std.proofs.Common.{ap, ◌∙◌, sym, inl, inr, append_assoc}
use Rattle.std.proofs.lemmas.List.{append-nil}
use base.Stored.{coded_unit}
use Rattle.fdb_tuple.specs.Tuples.{Scalar, Null, Bytes, Text, Int, Boolean, Uuid, Stamp, Elements, Empty, Single, Nested}

abbrev Sum : Type 0
Sum = Unit {0} ⊎ (List ℕ ⊎ (List ℕ ⊎ (ℤ ⊎ (Bool ⊎ (List ℕ ⊎ (List ℕ × ℕ))))))

abbrev sum_of : Scalar → Sum
sum_of Null = inl tt
sum_of (Bytes bytes) = inr (inl bytes)
sum_of (Text text) = inr (inr (inl text))
sum_of (Int number) = inr (inr (inr (inl number)))
sum_of (Boolean value) = inr (inr (inr (inr (inl value))))
sum_of (Uuid bytes) = inr (inr (inr (inr (inr (inl bytes)))))
sum_of (Stamp stamp user) = inr (inr (inr (inr (inr (inr (stamp, user))))))

abbrev scalar_of : Sum → Scalar
scalar_of (inl _) = Null
scalar_of (inr (inl bytes)) = Bytes bytes
scalar_of (inr (inr (inl text))) = Text text
scalar_of (inr (inr (inr (inl number)))) = Int number
scalar_of (inr (inr (inr (inr (inl value))))) = Boolean value
scalar_of (inr (inr (inr (inr (inr (inl bytes)))))) = Uuid bytes
scalar_of (inr (inr (inr (inr (inr (inr pair)))))) = Stamp pair.0 pair.1

pub scalar_of-sum_of : (scalar : Scalar) → scalar_of (sum_of scalar) ≡ scalar
scalar_of-sum_of Null = refl
scalar_of-sum_of (Bytes bytes) = refl
scalar_of-sum_of (Text text) = refl
scalar_of-sum_of (Int number) = refl
scalar_of-sum_of (Boolean value) = refl
scalar_of-sum_of (Uuid bytes) = refl
scalar_of-sum_of (Stamp stamp user) = refl

abbrev sum_code : Coded Sum
sum_code = coded⊎ coded_unit (coded⊎ (coded_list coded_ℕ) (coded⊎ (coded_list coded_ℕ) (coded⊎ coded_ℤ (coded⊎ coded_bool (coded⊎ (coded_list coded_ℕ) (coded× (coded_list coded_ℕ) coded_ℕ))))))

abbrev scalar_code : Coded Scalar
scalar_code = code_by Sum sum_code sum_of scalar_of scalar_of-sum_of

-- the elements in a row, each nested tuple between an opening and an end
pub data Token : Type 0 where
  Close : Token
  Leaf : (scalar : Scalar) → Token
  Open : Token

abbrev token_sum : Token → Unit {0} ⊎ (Unit {0} ⊎ Scalar)
token_sum Close = inl tt
token_sum Open = inr (inl tt)
token_sum (Leaf scalar) = inr (inr scalar)

abbrev sum_token : Unit {0} ⊎ (Unit {0} ⊎ Scalar) → Token
sum_token (inl _) = Close
sum_token (inr (inl _)) = Open
sum_token (inr (inr scalar)) = Leaf scalar

pub sum_token-token_sum : (token : Token) → sum_token (token_sum token) ≡ token
sum_token-token_sum Close = refl
sum_token-token_sum Open = refl
sum_token-token_sum (Leaf scalar) = refl

abbrev token_code : Coded Token
token_code = code_by (Unit {0} ⊎ (Unit {0} ⊎ Scalar)) (coded⊎ coded_unit (coded⊎ coded_unit scalar_code)) token_sum sum_token sum_token-token_sum

abbrev tokens_of : Elements → List Token
tokens_of Empty = Close ∷ []
tokens_of (Single scalar rest) = Leaf scalar ∷ tokens_of rest
tokens_of (Nested inner rest) = Open ∷ tokens_of inner ++ tokens_of rest

-- the tuples that wait to be closed, the innermost first: those before it, last first
abbrev close : Elements × List Elements → Elements
close (elements, waiting) = elements

-- reading from the right: what is read so far, the innermost first
abbrev pushed : Token → List Elements → List Elements
pushed Close stack = Empty ∷ stack
pushed (Leaf scalar) [] = []
pushed (Leaf scalar) (rest ∷ stack) = Single scalar rest ∷ stack
pushed Open [] = []
pushed Open (inner ∷ []) = []
pushed Open (inner ∷ rest ∷ stack) = Nested inner rest ∷ stack

abbrev read : List Token → List Elements
read [] = []
read (token ∷ tokens) = pushed token (read tokens)

abbrev first : List Elements → Elements
first [] = Empty
first (elements ∷ stack) = elements

abbrev elements_in : List Token → Elements
elements_in tokens = first (read tokens)

read-append : (elements : Elements) (rest : List Token) → read (tokens_of elements ++ rest) ≡ elements ∷ read rest
read-append Empty rest = refl
read-append (Single scalar others) rest = ap (pushed (Leaf scalar)) (read-append others rest)
read-append (Nested inner others) rest =
    ap (λ (tokens : List Token). pushed Open (read tokens)) (append_assoc (tokens_of inner) (tokens_of others) rest)
    ∙ ap (pushed Open) (read-append inner (tokens_of others ++ rest) ∙ ap (λ (stack : List Elements). inner ∷ stack) (read-append others rest))

pub elements_in-tokens_of : (elements : Elements) → elements_in (tokens_of elements) ≡ elements
elements_in-tokens_of elements = ap first (ap read (sym (append-nil (tokens_of elements))) ∙ read-append elements [])

abbrev pub elements_code : Coded Elements
elements_code = code_by (List Token) (coded_list token_code) tokens_of elements_in elements_in-tokens_of
