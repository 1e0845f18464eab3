-- Where a reader stops: the place of the element at which it does is the first that is wrong.
use Rattle.std.proofs.Common.{◌≡◌, ◌≢◌, ◌∙◌, ℕ, zero, suc, ◌+◌, ◌≤◌, List, [], ◌∷◌, ◌++◌, length, take, Option, Some, None, Result, Ok, Err, refl, sym, ap, subst, append_assoc, arith}
use Rattle.std.proofs.lemmas.List.{append-nil, length-append, length-take}
use Rattle.fdb_tuple.specs.declared.tuple.Elem.{Elem}
use Rattle.fdb_tuple.specs.declared.tuple.Elem.TheVariants as elem
use Rattle.fdb_calls.specs.declared.Request.{Request}
use Rattle.fdb_wire.specs.Reading.{◌>>=◌, Read, fitting, next_by, both, made_by, next_nothing, lone, alone_by}
use Rattle.fdb_wire.proofs.Readers.{IsReader, IsKind, IsMade, IsReader-next, IsReader-both, IsReader-made, IsReader-nothing, parts, fits}

-- ---- fronts of lists

taken_long : (n : ℕ) (xs ys : List Elem) → take n xs ≡ take n ys → n ≤ length ys → n ≤ length xs
taken_long n xs ys e long = omega (arith, length-take n xs, length-take n ys, ap length e)

take_front : (n : ℕ) (xs ys : List Elem) → n ≤ length xs → take n (xs ++ ys) ≡ take n xs
take_front zero xs ys short = refl
take_front (suc n) [] ys short = absurd (omega arith)
take_front (suc n) (x ∷ xs) ys short = ap (λ (t : List Elem). x ∷ t) (take_front n xs ys (omega arith))

take_behind : (xs ys : List Elem) (n : ℕ) → take (length xs + n) (xs ++ ys) ≡ xs ++ take n ys
take_behind [] ys n = ap (λ (k : ℕ). take k ys) (let e : 0 + n ≡ n = omega arith in e)
take_behind (x ∷ xs) ys n =
    let e : length (x ∷ xs) + n ≡ suc (length xs + n) = omega arith in
    ap (λ (k : ℕ). take k (x ∷ (xs ++ ys))) e ∙ ap (λ (t : List Elem). x ∷ t) (take_behind xs ys n)

take_whole : (xs ys : List Elem) → take (length xs) (xs ++ ys) ≡ xs
take_whole [] ys = refl
take_whole (x ∷ xs) ys = ap (λ (t : List Elem). x ∷ t) (take_whole xs ys)

-- a list that begins like another begins with what that begins with
pub record Peeled (front whole rest : List Elem) (n : ℕ) : Type 0 where
  pub behind : List Elem
  pub is : whole ≡ front ++ behind
  pub same : take n behind ≡ take n rest

peeled : (front whole rest : List Elem) (n : ℕ) → take (length front + n) whole ≡ front ++ take n rest → Peeled front whole rest n
peeled [] whole rest n e =
    let none : 0 + n ≡ n = omega arith in
    record { behind = whole; is = refl; same = ap (λ (k : ℕ). take k whole) (sym none) ∙ e }
peeled (x ∷ front) [] rest n e =
    let k : length (x ∷ front) + n ≡ suc (length front + n) = omega arith in
    let nil : List Elem = [] in
    let e' : take (suc (length front + n)) nil ≡ x ∷ (front ++ take n rest) = ap (λ (m : ℕ). take m nil) (sym k) ∙ e in
    absurd cc
peeled (x ∷ front) (y ∷ whole) rest n e =
    let k : length (x ∷ front) + n ≡ suc (length front + n) = omega arith in
    let e' : y ∷ take (length front + n) whole ≡ x ∷ (front ++ take n rest) = ap (λ (k : ℕ). take k (y ∷ whole)) (sym k) ∙ e in
    let head : y ≡ x = cc in
    let tail : take (length front + n) whole ≡ front ++ take n rest = cc in
    let inner = peeled front whole rest n tail in
    record { behind = inner.behind; is = cc (head, inner.is); same = inner.same }

-- ---- where a reader stops

-- so many elements are left from a place on; some value is spelled by the elements before it, and nothing is read of elements that
-- are the same up to it
pub record Stray (A : Type 0) (read : List Elem → Read A) (spelled : A → List Elem) (IsValue : A → Type 0) (elements : List Elem) (left : ℕ) : Type 0 where
  pub place : ℕ
  pub is_place : length elements ≡ place + left
  pub value : A
  pub valid : IsValue value
  pub before : take place (spelled value) ≡ take place elements
  pub none : (others : List Elem) (got : A × List Elem) → read others ≡ Ok got → take (suc place) others ≢ take (suc place) elements

pub record IsStrict (A : Type 0) (read : List Elem → Read A) (spelled : A → List Elem) (IsValue : A → Type 0) : Type 0 where
  pub reader : IsReader A read spelled IsValue
  pub example : A
  pub is_example : IsValue example
  pub stray : (elements : List Elem) (left : ℕ) → read elements ≡ Err left → Stray A read spelled IsValue elements left

-- ---- one element

unfit : {A : Type 0} (kind : Option A) (rest : List Elem) (left : ℕ) → fitting kind rest ≡ Err left → (kind ≡ None) × (left ≡ length rest + 1)
unfit {A = A} (Some value) rest left e = absurd cc
unfit {A = A} None rest left e = (refl, cc)

pub next_missing : {A : Type 0} (kind : Elem → Option A) (others : List Elem) (got : A × List Elem) → next_by kind others ≡ Ok got → take 1 others ≢ []
next_missing {A = A} kind [] got h = absurd cc
next_missing {A = A} kind (other ∷ others) got h = λ same. cc

pub next_wrong : {A : Type 0} (kind : Elem → Option A) (element : Elem) (rest : List Elem) → kind element ≡ None
    → (others : List Elem) (got : A × List Elem) → next_by kind others ≡ Ok got → take 1 others ≢ take 1 (element ∷ rest)
next_wrong {A = A} kind element rest none [] got h = absurd cc
next_wrong {A = A} kind element rest none (other ∷ others) got h = λ same.
    let fit = fits (kind other) others got h in
    let is : other ≡ element = cc in
    let both = ap kind is ∙ none in
    cc (both, fit.0)

next_stray : (A : Type 0) (kind : Elem → Option A) (spelled : A → Elem) (IsValue : A → Type 0) (example : A) → IsValue example
    → (elements : List Elem) (left : ℕ) → next_by kind elements ≡ Err left
    → Stray A (next_by kind) (λ value. spelled value ∷ []) IsValue elements left
next_stray A kind spelled IsValue example valid [] left e = record {
  place = 0;
  is_place = let is : 0 ≡ left = cc in omega arith;
  value = example;
  valid = valid;
  before = refl;
  none = next_missing kind;
}
next_stray A kind spelled IsValue example valid (element ∷ rest) left e =
    let is = unfit (kind element) rest left e in
    record {
      place = 0;
      is_place = let l = is.1 in omega arith;
      value = example;
      valid = valid;
      before = refl;
      none = next_wrong kind element rest is.0;
    }

pub IsStrict-next : {A : Type 0} {kind : Elem → Option A} {spelled : A → Elem} {IsValue : A → Type 0} → IsKind A kind spelled IsValue
    → (example : A) → IsValue example → IsStrict A (next_by kind) (λ value. spelled value ∷ []) IsValue
IsStrict-next {A = A} {kind = kind} {spelled = spelled} {IsValue = IsValue} is example valid = record {
  reader = IsReader-next is;
  example = example;
  is_example = valid;
  stray = next_stray A kind spelled IsValue example valid;
}

-- ---- one behind the other

only_err : {A B : Type 0} (read : Read A) (make : A × List Elem → B) (left : ℕ) → read >>= (λ p. Ok (make p)) ≡ Err left → read ≡ Err left
only_err {A = A} {B = B} (Ok got) make left e = absurd cc
only_err {A = A} {B = B} (Err l) make left e = cc

-- what is read then, with what was read first
abbrev paired : {A B : Type 0} → (List Elem → Read B) → A × List Elem → Read (A × B)
paired second p = second p.1 >>= (λ q. Ok ((p.0, q.0), q.1))

both_stray_by : (A B : Type 0) (first : List Elem → Read A) (w : A → List Elem) (V : A → Type 0)
    (second : List Elem → Read B) (x : B → List Elem) (W : B → Type 0) → IsStrict A first w V → IsStrict B second x W
    → (elements : List Elem) (left : ℕ) (read : Read A) → first elements ≡ read
    → read >>= paired second ≡ Err left
    → Stray (A × B) (both first second) (λ value. w value.0 ++ x value.1) (λ value. V value.0 × W value.1) elements left
both_stray_by A B first w V second x W a b elements left (Err l) eq e =
    let same : Err l ≡ Err left = e in
    let stray = a.stray elements left (eq ∙ cc) in
    let within : stray.place ≤ length elements = let is = stray.is_place in omega arith in
    record {
      place = stray.place;
      is_place = stray.is_place;
      value = (stray.value, b.example);
      valid = (stray.valid, b.is_example);
      before = take_front stray.place (w stray.value) (x b.example) (taken_long stray.place (w stray.value) elements stray.before within) ∙ stray.before;
      none = λ others got h.
          let one = parts (first others) (λ (p : A × List Elem). second p.1 >>= (λ (q : B × List Elem). Ok ((p.0, q.0), q.1))) got h in
          stray.none others one.0 one.1;
    }
both_stray_by A B first w V second x W a b elements left (Ok u) eq e =
    let front = a.reader.found elements u eq in
    let stray = b.stray u.1 left (only_err (second u.1) (λ (q : B × List Elem). ((u.0, q.0), q.1)) left e) in
    let n = length (w u.0) in
    record {
      place = n + stray.place;
      is_place = let is = stray.is_place in omega (arith, ap length front.0, length-append (w u.0) u.1);
      value = (u.0, stray.value);
      valid = (front.1, stray.valid);
      before =
          take_behind (w u.0) (x stray.value) stray.place ∙ ap (λ (t : List Elem). w u.0 ++ t) stray.before
          ∙ sym (take_behind (w u.0) u.1 stray.place) ∙ ap (take (n + stray.place)) (sym front.0);
      none = λ others got h same.
          let k : n + suc stray.place ≡ suc (n + stray.place) = omega arith in
          let begins : take (n + suc stray.place) others ≡ w u.0 ++ take (suc stray.place) u.1 =
          ap (λ (m : ℕ). take m others) k ∙ same ∙ ap (λ (m : ℕ). take m elements) (sym k)
          ∙ ap (take (n + suc stray.place)) front.0 ∙ take_behind (w u.0) u.1 (suc stray.place) in
          let peel = peeled (w u.0) others u.1 (suc stray.place) begins in
          let again : first others ≡ Ok (u.0, peel.behind) = ap first peel.is ∙ a.reader.again u.0 peel.behind front.1 in
          let one = parts (first others) (λ (p : A × List Elem). second p.1 >>= (λ (q : B × List Elem). Ok ((p.0, q.0), q.1))) got h in
          let two = parts (second one.0.1) (λ (q : B × List Elem). Ok ((one.0.0, q.0), q.1)) got one.2 in
          let its : one.0 ≡ (u.0, peel.behind) = let both = sym one.1 ∙ again in cc both in
          let reads : second peel.behind ≡ Ok two.0 = ap (λ (p : A × List Elem). second p.1) (sym its) ∙ two.1 in
          stray.none peel.behind two.0 reads peel.same;
    }

pub IsStrict-both : {A B : Type 0} {first : List Elem → Read A} {w : A → List Elem} {V : A → Type 0}
    {second : List Elem → Read B} {x : B → List Elem} {W : B → Type 0} → IsStrict A first w V → IsStrict B second x W
    → IsStrict (A × B) (both first second) (λ value. w value.0 ++ x value.1) (λ value. V value.0 × W value.1)
IsStrict-both {A = A} {B = B} {first = first} {w = w} {V = V} {second = second} {x = x} {W = W} a b = record {
  reader = IsReader-both a.reader b.reader;
  example = (a.example, b.example);
  is_example = (a.is_example, b.is_example);
  stray = λ elements left e. both_stray_by A B first w V second x W a b elements left (first elements) refl e;
}

nothing_stray : (elements : List Elem) (left : ℕ) → next_nothing elements ≡ Err left
    → Stray (Unit {0}) next_nothing (λ value. []) (λ value. Unit {0}) elements left
nothing_stray elements left e = absurd cc

pub IsStrict-nothing : IsStrict (Unit {0}) next_nothing (λ value. []) (λ value. Unit {0})
IsStrict-nothing = record { reader = IsReader-nothing; example = tt; is_example = tt; stray = nothing_stray }

-- ---- what is made of what was read

made_stray : (A B : Type 0) (make : A → B) (parts_of : B → A) (w : A → List Elem) (x : B → List Elem) (V : A → Type 0) (W : B → Type 0)
    (read : List Elem → Read A) → IsStrict A read w V → IsMade A B make parts_of w x V W
    → (elements : List Elem) (left : ℕ) → made_by make read elements ≡ Err left → Stray B (made_by make read) x W elements left
made_stray A B make parts_of w x V W read a m elements left e =
    let stray = a.stray elements left (only_err (read elements) (λ (p : A × List Elem). (make p.0, p.1)) left e) in
    record {
      place = stray.place;
      is_place = stray.is_place;
      value = make stray.value;
      valid = m.valid stray.value stray.valid;
      before = ap (take stray.place) (m.spelled stray.value) ∙ stray.before;
      none = λ others got h.
          let one = parts (read others) (λ (p : A × List Elem). Ok (make p.0, p.1)) got h in
          stray.none others one.0 one.1;
    }

pub IsStrict-made : {A B : Type 0} {make : A → B} {parts_of : B → A} {w : A → List Elem} {x : B → List Elem} {V : A → Type 0} {W : B → Type 0}
    {read : List Elem → Read A} → IsStrict A read w V → IsMade A B make parts_of w x V W → IsStrict B (made_by make read) x W
IsStrict-made {A = A} {B = B} {make = make} {parts_of = parts_of} {w = w} {x = x} {V = V} {W = W} {read = read} a m = record {
  reader = IsReader-made a.reader m;
  example = make a.example;
  is_example = m.valid a.example a.is_example;
  stray = made_stray A B make parts_of w x V W read a m;
}

-- ---- a request behind which nothing is left

-- the same of a reader of requests
pub record Strays (A : Type 0) (make : A → Request) (read : List Elem → Read A) (w : A → List Elem) (V : A → Type 0) (elements : List Elem) (left : ℕ) : Type 0 where
  pub place : ℕ
  pub is_place : length elements ≡ place + left
  pub value : A
  pub valid : V value
  pub before : take place (w value) ≡ take place elements
  pub none : (others : List Elem) (request : Request) → alone_by make read others ≡ Ok request → take (suc place) others ≢ take (suc place) elements

surplus : (rest : List Elem) (made : Request) (left : ℕ) → lone rest made ≡ Err left → (x : Elem) × (xs : List Elem) × (rest ≡ x ∷ xs) × (left ≡ length xs + 1)
surplus [] made left e = absurd cc
surplus (x ∷ xs) made left e = (x, xs, refl, cc)

none_left : (rest : List Elem) (made request : Request) → lone rest made ≡ Ok request → rest ≡ []
none_left [] made request e = refl
none_left (x ∷ xs) made request e = absurd cc

alone_stray_by : (A : Type 0) (make : A → Request) (read : List Elem → Read A) (w : A → List Elem) (V : A → Type 0) → IsStrict A read w V
    → (elements : List Elem) (left : ℕ) (got : Read A) → read elements ≡ got → got >>= (λ (p : A × List Elem). lone p.1 (make p.0)) ≡ Err left
    → Strays A make read w V elements left
alone_stray_by A make read w V a elements left (Err l) eq e =
    let same : l ≡ left = cc in
    let stray = a.stray elements left (eq ∙ ap Err same) in
    record {
      place = stray.place;
      is_place = stray.is_place;
      value = stray.value;
      valid = stray.valid;
      before = stray.before;
      none = λ others request h.
          let one = parts (read others) (λ (p : A × List Elem). lone p.1 (make p.0)) request h in
          stray.none others one.0 one.1;
    }
alone_stray_by A make read w V a elements left (Ok u) eq e =
    let front = a.reader.found elements u eq in
    let more = surplus u.1 (make u.0) left e in
    let n = length (w u.0) in
    record {
      place = n;
      is_place = let l = more.3 in omega (arith, ap length front.0, length-append (w u.0) u.1, ap length more.2);
      value = u.0;
      valid = front.1;
      before =
          ap (take n) (sym (append-nil (w u.0))) ∙ take_whole (w u.0) [] ∙ sym (take_whole (w u.0) u.1) ∙ ap (take n) (sym front.0);
      none = λ others request h same.
          let k : n + 1 ≡ suc n = omega arith in
          let begins : take (n + 1) others ≡ w u.0 ++ take 1 u.1 =
          ap (λ (m : ℕ). take m others) k ∙ same ∙ ap (λ (m : ℕ). take m elements) (sym k)
          ∙ ap (take (n + 1)) front.0 ∙ take_behind (w u.0) u.1 1 in
          let peel = peeled (w u.0) others u.1 1 begins in
          let again : read others ≡ Ok (u.0, peel.behind) = ap read peel.is ∙ a.reader.again u.0 peel.behind front.1 in
          let one = parts (read others) (λ (p : A × List Elem). lone p.1 (make p.0)) request h in
          let its : one.0 ≡ (u.0, peel.behind) = let both = sym one.1 ∙ again in cc both in
          let end : peel.behind ≡ [] = ap (λ (p : A × List Elem). p.1) (sym its) ∙ none_left one.0.1 (make one.0.0) request one.2 in
          let nil : List Elem = [] in
          let last : take 1 nil ≡ take 1 (more.0 ∷ more.1) = ap (take 1) (sym end) ∙ peel.same ∙ ap (take 1) more.2 in
          cc last;
    }

pub alone_stray : {A : Type 0} {read : List Elem → Read A} {w : A → List Elem} {V : A → Type 0} → IsStrict A read w V → (make : A → Request)
    → (elements : List Elem) (left : ℕ) → alone_by make read elements ≡ Err left → Strays A make read w V elements left
alone_stray {A = A} {read = read} {w = w} {V = V} a make elements left e =
    alone_stray_by A make read w V a elements left (read elements) refl e
