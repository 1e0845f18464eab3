-- What each kind of element is read as, against how it is spelled.
use Rattle.std.proofs.Common.{◌≡◌, ◌∙◌, ◌<◌, ◌^◌, ℕ, Bool, true, false, List, [], ◌∷◌, ◌++◌, ℤ, pos, negsuc, Option, Some, None, refl, sym, ap, lit<, lt-ltb, ltb-true, eqb-true, nat_lt, ◌==◌, if◌then◌else◌}
use Rattle.key_bytes.specs.declared.range.KeyRange.{KeyRange}
use Rattle.model_database.specs.declared.selector.Selector.{Selector}
use Rattle.model_database.specs.declared.options.RangeOptions.{RangeOptions}
use Rattle.model_database.specs.declared.mode.Mode.{Mode}
use Rattle.model_database.specs.declared.mode.Mode.TheVariants as mode
use Rattle.fdb_tuple.specs.declared.tuple.Elem.{Elem}
use Rattle.fdb_tuple.specs.declared.tuple.Elem.TheVariants as elem
use Rattle.fdb_wire.specs.Elements.{count, mode_number, range_elements, selector_elements, options_elements}
use Rattle.fdb_wire.specs.Requests.{IsBetween}
use Rattle.fdb_wire.specs.Reading.{bytes_in, flag_in, count_below, signed_below, mode_by, number_by, code_in, limit_in, life_in, offset_in, version_in, mode_in, next_by, next_bytes, next_flag, next_range, next_selector, next_options, both, made_by}
use Rattle.fdb_wire.proofs.Readers.{IsKind, IsMade}
use Rattle.fdb_wire.proofs.Strays.{IsStrict, IsStrict-next, IsStrict-both, IsStrict-made}

abbrev pub Anything : {A : Type 0} → A → Type 0
Anything value = Unit {0}

pub bytes_kind : (element : Elem) (value : List ℕ) → bytes_in element ≡ Some value → (element ≡ elem.Bytes value) × Unit {0}
bytes_kind (elem.Bytes bytes) value e = (cc, tt)
bytes_kind elem.Null value e = absurd cc
bytes_kind (elem.Text text) value e = absurd cc
bytes_kind (elem.Nested tuple) value e = absurd cc
bytes_kind (elem.Int number) value e = absurd cc
bytes_kind (elem.Bool flag) value e = absurd cc
bytes_kind (elem.Uuid bytes) value e = absurd cc
bytes_kind (elem.Stamp stamp) value e = absurd cc

flag_found : (element : Elem) (value : Bool) → flag_in element ≡ Some value → (element ≡ elem.Bool value) × Unit {0}
flag_found (elem.Bool flag) value e = (cc, tt)
flag_found elem.Null value e = absurd cc
flag_found (elem.Bytes bytes) value e = absurd cc
flag_found (elem.Text text) value e = absurd cc
flag_found (elem.Nested tuple) value e = absurd cc
flag_found (elem.Int number) value e = absurd cc
flag_found (elem.Uuid bytes) value e = absurd cc
flag_found (elem.Stamp stamp) value e = absurd cc

number_found : {A : Type 0} (kind : ℤ → Option A) (element : Elem) (value : A) → number_by kind element ≡ Some value
    → (number : ℤ) × (element ≡ elem.Int number) × (kind number ≡ Some value)
number_found kind (elem.Int number) value e = (number, refl, e)
number_found kind elem.Null value e = absurd cc
number_found kind (elem.Bytes bytes) value e = absurd cc
number_found kind (elem.Text text) value e = absurd cc
number_found kind (elem.Nested tuple) value e = absurd cc
number_found kind (elem.Bool flag) value e = absurd cc
number_found kind (elem.Uuid bytes) value e = absurd cc
number_found kind (elem.Stamp stamp) value e = absurd cc

-- ---- numbers

tested : {A : Type 0} (test : Bool) (value found : A) → (if test then Some value else None) ≡ Some found → (test ≡ true) × (value ≡ found)
tested true value found e = (refl, cc)
tested false value found e = absurd cc

count_found : (bound : ℕ) (number : ℤ) (value : ℕ) → count_below bound number ≡ Some value → (number ≡ pos value) × (value < bound)
count_found bound (pos n) value e =
    let test = tested (nat_lt n bound) n value e in
    let below : n < bound = ltb-true n bound test.0 in
    (ap pos test.1, rw (sym test.1) below)
count_found bound (negsuc n) value e = absurd cc

count_again : (bound value : ℕ) → value < bound → count_below bound (pos value) ≡ Some value
count_again bound value below = rw (lt-ltb value bound below) refl

signed_found : (bound : ℕ) (number value : ℤ) → signed_below bound number ≡ Some value → (number ≡ value) × IsBetween bound value
signed_found bound (pos n) value e =
    let test = tested (nat_lt n bound) (pos n) value e in
    (test.1, rw (sym test.1) (ltb-true n bound test.0))
signed_found bound (negsuc n) value e =
    let test = tested (nat_lt n bound) (negsuc n) value e in
    (test.1, rw (sym test.1) (ltb-true n bound test.0))

signed_again : (bound : ℕ) (value : ℤ) → IsBetween bound value → signed_below bound value ≡ Some value
signed_again bound (pos n) below = rw (lt-ltb n bound below) refl
signed_again bound (negsuc n) below = rw (lt-ltb n bound below) refl

-- a test that picks a mode, or leaves it to what comes behind
picks : (test : Bool) (number : ℤ) (same : ℤ) (here : Mode) (more : Option Mode) (value : Mode) → (test ≡ true → number ≡ same)
    → same ≡ mode_number here → (more ≡ Some value → number ≡ mode_number value) → (if test then Some here else more) ≡ Some value
    → number ≡ mode_number value
picks true number same here more value is spelled later e = is refl ∙ spelled ∙ ap mode_number cc
picks false number same here more value is spelled later e = later e

mode_found : (number : ℤ) (value : Mode) → mode_by number ≡ Some value → number ≡ mode_number value
mode_found (pos n) value e =
    picks (n == 0) (pos n) (pos 0) mode.Exact _ value (λ t. ap pos (eqb-true n 0 t)) refl (λ e0.
    picks (n == 1) (pos n) (pos 1) mode.Small _ value (λ t. ap pos (eqb-true n 1 t)) refl (λ e1.
    picks (n == 2) (pos n) (pos 2) mode.Medium _ value (λ t. ap pos (eqb-true n 2 t)) refl (λ e2.
    picks (n == 3) (pos n) (pos 3) mode.Large _ value (λ t. ap pos (eqb-true n 3 t)) refl (λ e3.
    picks (n == 4) (pos n) (pos 4) mode.Serial None value (λ t. ap pos (eqb-true n 4 t)) refl (λ none. absurd cc) e3) e2) e1) e0) e
mode_found (negsuc n) value e =
    picks (n == 0) (negsuc n) (negsuc 0) mode.Iterator _ value (λ t. ap negsuc (eqb-true n 0 t)) refl (λ e0.
    picks (n == 1) (negsuc n) (negsuc 1) mode.WantAll None value (λ t. ap negsuc (eqb-true n 1 t)) refl (λ none. absurd cc) e0) e

mode_again : (value : Mode) → mode_by (mode_number value) ≡ Some value
mode_again mode.WantAll = refl
mode_again mode.Iterator = refl
mode_again mode.Exact = refl
mode_again mode.Small = refl
mode_again mode.Medium = refl
mode_again mode.Large = refl
mode_again mode.Serial = refl

-- ---- kinds

pub IsKind-bytes : IsKind (List ℕ) bytes_in elem.Bytes Anything
IsKind-bytes = record { found = bytes_kind; again = λ value valid. refl }

pub IsKind-flag : IsKind Bool flag_in elem.Bool Anything
IsKind-flag = record { found = flag_found; again = λ value valid. refl }

pub IsKind-count : (bound : ℕ) → IsKind ℕ (number_by (count_below bound)) count (λ value. value < bound)
IsKind-count bound = record {
  found = λ element value e.
      let number = number_found (count_below bound) element value e in
      let is = count_found bound number.0 value number.2 in
      (number.1 ∙ ap elem.Int is.0, is.1);
  again = count_again bound;
}

pub IsKind-signed : (bound : ℕ) → IsKind ℤ (number_by (signed_below bound)) elem.Int (IsBetween bound)
IsKind-signed bound = record {
  found = λ element value e.
      let number = number_found (signed_below bound) element value e in
      let is = signed_found bound number.0 value number.2 in
      (number.1 ∙ ap elem.Int is.0, is.1);
  again = signed_again bound;
}

pub IsKind-mode : IsKind Mode mode_in (λ value. elem.Int (mode_number value)) Anything
IsKind-mode = record {
  found = λ element value e.
      let number = number_found mode_by element value e in
      (number.1 ∙ ap elem.Int (mode_found number.0 value number.2), tt);
  again = λ value valid. mode_again value;
}

-- ---- readers

pub bytes_reader : IsStrict (List ℕ) next_bytes (λ value. elem.Bytes value ∷ []) Anything
bytes_reader = IsStrict-next IsKind-bytes [] tt

pub flag_reader : IsStrict Bool next_flag (λ value. elem.Bool value ∷ []) Anything
flag_reader = IsStrict-next IsKind-flag false tt

pub range_reader : IsStrict KeyRange next_range range_elements Anything
unfolding next_range
range_reader =
    let made : IsMade (List ℕ × List ℕ) KeyRange (λ read. record { begin = read.0; end = read.1 }) (λ range. (range.begin, range.end))
    (λ value. (elem.Bytes value.0 ∷ []) ++ (elem.Bytes value.1 ∷ [])) range_elements (λ value. Anything value.0 × Anything value.1) Anything =
    record { made = λ b. refl; spelled = λ a. refl; valid = λ a v. tt; was = λ b v. (tt, tt) } in
    IsStrict-made (IsStrict-both bytes_reader bytes_reader) made

pub selector_reader : IsStrict Selector next_selector selector_elements (λ selector. IsBetween (2 ^ 31) selector.offset)
unfolding next_selector
selector_reader =
    let made : IsMade (List ℕ × (Bool × ℤ)) Selector (λ read. record { key = read.0; or_equal = read.1.0; offset = read.1.1 })
    (λ selector. (selector.key, (selector.or_equal, selector.offset)))
    (λ value. (elem.Bytes value.0 ∷ []) ++ ((elem.Bool value.1.0 ∷ []) ++ (elem.Int value.1.1 ∷ []))) selector_elements
    (λ value. Anything value.0 × (Anything value.1.0 × IsBetween (2 ^ 31) value.1.1)) (λ selector. IsBetween (2 ^ 31) selector.offset) =
    record { made = λ b. refl; spelled = λ a. refl; valid = λ a v. v.1.1; was = λ b v. (tt, (tt, v)) } in
    IsStrict-made (IsStrict-both bytes_reader (IsStrict-both flag_reader (IsStrict-next (IsKind-signed (2 ^ 31)) (pos 0) (lit< tt)))) made

pub options_reader : IsStrict RangeOptions next_options options_elements (λ options. options.limit < 2 ^ 32)
unfolding next_options
options_reader =
    let made : IsMade (ℕ × (Bool × Mode)) RangeOptions (λ read. record { limit = read.0; reverse = read.1.0; mode = read.1.1 })
    (λ options. (options.limit, (options.reverse, options.mode)))
    (λ value. (count value.0 ∷ []) ++ ((elem.Bool value.1.0 ∷ []) ++ (elem.Int (mode_number value.1.1) ∷ []))) options_elements
    (λ value. (value.0 < 2 ^ 32) × (Anything value.1.0 × Anything value.1.1)) (λ options. options.limit < 2 ^ 32) =
    record { made = λ b. refl; spelled = λ a. refl; valid = λ a v. v.0; was = λ b v. (v, (tt, tt)) } in
    IsStrict-made (IsStrict-both (IsStrict-next (IsKind-count (2 ^ 32)) 0 (lit< tt)) (IsStrict-both flag_reader (IsStrict-next IsKind-mode mode.WantAll tt))) made
