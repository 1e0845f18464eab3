-- Readers of elements, each against how a value is spelled: what is read was spelled so, and what is spelled so is read.
use Rattle.std.proofs.Common.{◌≡◌, ◌∙◌, ℕ, List, [], ◌∷◌, ◌++◌, length, Option, Some, None, Result, Ok, Err, refl, sym, ap, subst, append_assoc}
use Rattle.std.proofs.lemmas.List.{append-nil}
use Rattle.fdb_tuple.specs.declared.tuple.Elem.{Elem}
use Rattle.fdb_tuple.specs.declared.tuple.Elem.TheVariants as elem
use Rattle.fdb_calls.specs.declared.Request.{Request}
use Rattle.fdb_wire.specs.Reading.{◌>>=◌, Read, fitting, next_by, both, made_by, next_nothing, lone, alone_by}

-- what a reader reads, against the elements that a value is spelled by
pub record IsReader (A : Type 0) (read : List Elem → Read A) (spelled : A → List Elem) (IsValue : A → Type 0) : Type 0 where
  pub found : (elements : List Elem) (got : A × List Elem) → read elements ≡ Ok got → (elements ≡ spelled got.0 ++ got.1) × IsValue got.0
  pub again : (value : A) (rest : List Elem) → IsValue value → read (spelled value ++ rest) ≡ Ok (value, rest)

-- what was read first, and what was read then
pub parts : {A B : Type 0} (read : Result A ℕ) (more : A → Result B ℕ) (got : B) → read >>= more ≡ Ok got
    → (first : A) × (read ≡ Ok first) × (more first ≡ Ok got)
parts (Ok first) more got e = (first, refl, e)
parts (Err left) more got e = absurd cc

-- ---- one element

-- an element of a kind, against how a value of it is spelled
pub record IsKind (A : Type 0) (kind : Elem → Option A) (spelled : A → Elem) (IsValue : A → Type 0) : Type 0 where
  pub found : (element : Elem) (value : A) → kind element ≡ Some value → (element ≡ spelled value) × IsValue value
  pub again : (value : A) → IsValue value → kind (spelled value) ≡ Some value

pub fits : {A : Type 0} (kind : Option A) (rest : List Elem) (got : A × List Elem) → fitting kind rest ≡ Ok got
    → (kind ≡ Some got.0) × (rest ≡ got.1)
fits {A = A} (Some value) rest got e = let same : (value, rest) ≡ got = cc in (ap (λ (x : A × List Elem). Some x.0) same, ap (λ (x : A × List Elem). x.1) same)
fits None rest got e = absurd cc

next_found : (A : Type 0) (kind : Elem → Option A) (spelled : A → Elem) (IsValue : A → Type 0) → IsKind A kind spelled IsValue
    → (elements : List Elem) (got : A × List Elem) → next_by kind elements ≡ Ok got → (elements ≡ (spelled got.0 ∷ []) ++ got.1) × IsValue got.0
next_found A kind spelled IsValue is [] got e = absurd cc
next_found A kind spelled IsValue is (element ∷ rest) got e =
    let fit = fits (kind element) rest got e in
    let one = is.found element got.0 fit.0 in
    (cc (one.0, fit.1), one.1)

pub IsReader-next : {A : Type 0} {kind : Elem → Option A} {spelled : A → Elem} {IsValue : A → Type 0} → IsKind A kind spelled IsValue
    → IsReader A (next_by kind) (λ value. spelled value ∷ []) IsValue
IsReader-next {A = A} {kind = kind} {spelled = spelled} {IsValue = IsValue} is = record {
  found = next_found A kind spelled IsValue is;
  again = λ value rest valid. ap (λ (x : Option A). fitting x rest) (is.again value valid);
}

-- ---- one behind the other

both_again : (A B : Type 0) (first : List Elem → Read A) (w : A → List Elem) (V : A → Type 0)
    (second : List Elem → Read B) (x : B → List Elem) (W : B → Type 0) → IsReader A first w V → IsReader B second x W
    → (value : A × B) (rest : List Elem) → V value.0 × W value.1 → both first second ((w value.0 ++ x value.1) ++ rest) ≡ Ok (value, rest)
both_again A B first w V second x W a b (p, q) rest valid =
    rw (append_assoc (w p) (x q) rest, a.again p (x q ++ rest) valid.0, b.again q rest valid.1) refl

both_found : (A B : Type 0) (first : List Elem → Read A) (w : A → List Elem) (V : A → Type 0)
    (second : List Elem → Read B) (x : B → List Elem) (W : B → Type 0) → IsReader A first w V → IsReader B second x W
    → (elements : List Elem) (got : (A × B) × List Elem) → both first second elements ≡ Ok got
    → (elements ≡ (w got.0.0 ++ x got.0.1) ++ got.1) × (V got.0.0 × W got.0.1)
both_found A B first w V second x W a b elements got e =
    let one = parts (first elements) (λ (p : A × List Elem). second p.1 >>= (λ (q : B × List Elem). Ok ((p.0, q.0), q.1))) got e in
    let two = parts (second one.0.1) (λ (q : B × List Elem). Ok ((one.0.0, q.0), q.1)) got one.2 in
    let same : ((one.0.0, two.0.0), two.0.1) ≡ got = cc two.2 in
    let front = a.found elements one.0 one.1 in
    let back = b.found one.0.1 two.0 two.1 in
    let whole : elements ≡ (w one.0.0 ++ x two.0.0) ++ two.0.1 =
    front.0 ∙ ap (λ (t : List Elem). w one.0.0 ++ t) back.0 ∙ sym (append_assoc (w one.0.0) (x two.0.0) two.0.1) in
    subst (λ (g : (A × B) × List Elem). (elements ≡ (w g.0.0 ++ x g.0.1) ++ g.1) × (V g.0.0 × W g.0.1)) same (whole, (front.1, back.1))

pub IsReader-both : {A B : Type 0} {first : List Elem → Read A} {w : A → List Elem} {V : A → Type 0}
    {second : List Elem → Read B} {x : B → List Elem} {W : B → Type 0} → IsReader A first w V → IsReader B second x W
    → IsReader (A × B) (both first second) (λ value. w value.0 ++ x value.1) (λ value. V value.0 × W value.1)
IsReader-both {A = A} {B = B} {first = first} {w = w} {V = V} {second = second} {x = x} {W = W} a b = record {
  found = both_found A B first w V second x W a b;
  again = both_again A B first w V second x W a b;
}

-- nothing is spelled by nothing
pub IsReader-nothing : IsReader (Unit {0}) next_nothing (λ value. []) (λ value. Unit {0})
IsReader-nothing = record {
  found = λ elements got e. let same : (tt, elements) ≡ got = cc in (ap (λ (x : Unit {0} × List Elem). x.1) same, tt);
  again = λ value rest valid. refl;
}

-- ---- what is made of what was read

-- values of one type as values of another
pub record IsMade (A B : Type 0) (make : A → B) (parts_of : B → A) (w : A → List Elem) (x : B → List Elem) (V : A → Type 0) (W : B → Type 0) : Type 0 where
  pub made : (b : B) → make (parts_of b) ≡ b
  pub spelled : (a : A) → x (make a) ≡ w a
  pub valid : (a : A) → V a → W (make a)
  pub was : (b : B) → W b → V (parts_of b)

made_found : (A B : Type 0) (make : A → B) (parts_of : B → A) (w : A → List Elem) (x : B → List Elem) (V : A → Type 0) (W : B → Type 0)
    (read : List Elem → Read A) → IsReader A read w V → IsMade A B make parts_of w x V W
    → (elements : List Elem) (got : B × List Elem) → made_by make read elements ≡ Ok got → (elements ≡ x got.0 ++ got.1) × W got.0
made_found A B make parts_of w x V W read a m elements got e =
    let one = parts (read elements) (λ (p : A × List Elem). Ok (make p.0, p.1)) got e in
    let same : (make one.0.0, one.0.1) ≡ got = cc one.2 in
    let front = a.found elements one.0 one.1 in
    let whole : elements ≡ x (make one.0.0) ++ one.0.1 = front.0 ∙ ap (λ (t : List Elem). t ++ one.0.1) (sym (m.spelled one.0.0)) in
    subst (λ (g : B × List Elem). (elements ≡ x g.0 ++ g.1) × W g.0) same (whole, m.valid one.0.0 front.1)

made_again : (A B : Type 0) (make : A → B) (parts_of : B → A) (w : A → List Elem) (x : B → List Elem) (V : A → Type 0) (W : B → Type 0)
    (read : List Elem → Read A) → IsReader A read w V → IsMade A B make parts_of w x V W
    → (b : B) (rest : List Elem) → W b → made_by make read (x b ++ rest) ≡ Ok (b, rest)
made_again A B make parts_of w x V W read a m b rest valid =
    let same : x b ≡ w (parts_of b) = ap x (sym (m.made b)) ∙ m.spelled (parts_of b) in
    let reads : read (x b ++ rest) ≡ Ok (parts_of b, rest) = ap (λ (t : List Elem). read (t ++ rest)) same ∙ a.again (parts_of b) rest (m.was b valid) in
    ap (λ (r : Read A). r >>= (λ (p : A × List Elem). Ok (make p.0, p.1))) reads ∙ ap (λ (y : B). Ok (y, rest)) (m.made b)

pub IsReader-made : {A B : Type 0} {make : A → B} {parts_of : B → A} {w : A → List Elem} {x : B → List Elem} {V : A → Type 0} {W : B → Type 0}
    {read : List Elem → Read A} → IsReader A read w V → IsMade A B make parts_of w x V W → IsReader B (made_by make read) x W
IsReader-made {A = A} {B = B} {make = make} {parts_of = parts_of} {w = w} {x = x} {V = V} {W = W} {read = read} a m = record {
  found = made_found A B make parts_of w x V W read a m;
  again = made_again A B make parts_of w x V W read a m;
}

-- ---- a request behind which nothing is left

alone_left : (rest : List Elem) (made request : Request) → lone rest made ≡ Ok request → (rest ≡ []) × (made ≡ request)
alone_left [] made request e = (refl, cc)
alone_left (element ∷ rest) made request e = absurd cc

-- what was read alone was spelled so
pub alone_found : {A : Type 0} {read : List Elem → Read A} {w : A → List Elem} {V : A → Type 0} → IsReader A read w V → (make : A → Request)
    → (elements : List Elem) (request : Request) → alone_by make read elements ≡ Ok request
    → (value : A) × (elements ≡ w value) × V value × (make value ≡ request)
alone_found {A = A} {read = read} {w = w} {V = V} a make elements request e =
    let one = parts (read elements) (λ (p : A × List Elem). lone p.1 (make p.0)) request e in
    let end = alone_left one.0.1 (make one.0.0) request one.2 in
    let front = a.found elements one.0 one.1 in
    let whole : elements ≡ w one.0.0 = front.0 ∙ ap (λ (t : List Elem). w one.0.0 ++ t) end.0 ∙ append-nil (w one.0.0) in
    (one.0.0, whole, front.1, end.1)

pub alone_again : {A : Type 0} {read : List Elem → Read A} {w : A → List Elem} {V : A → Type 0} → IsReader A read w V → (make : A → Request)
    → (value : A) → V value → alone_by make read (w value) ≡ Ok (make value)
alone_again {A = A} {read = read} {w = w} {V = V} a make value valid =
    let whole : w value ++ [] ≡ w value = append-nil (w value) in
    ap (λ (t : List Elem). alone_by make read t) (sym whole)
    ∙ ap (λ (r : Read A). r >>= (λ (p : A × List Elem). lone p.1 (make p.0))) (a.again value [] valid)
