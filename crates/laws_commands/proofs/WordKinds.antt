-- What `clap` sees of a word, by what the grammar says that it is.
use Rattle.std.proofs.Common.{◌≡◌, ◌∙◌, ◌⊎◌, ℕ, ◌+◌, ◌==◌, Bool, cond, not, true, false, suc, true≢false, inl, inr, ⊎_elim, List, [], ◌∷◌, ◌++◌, length, drop, Option, Some, None, codes, bytes_eq, slice_get, IsUtf8, encode_utf8_all, refl, sym, ap, subst, arith, nat_eq, eqb-true}
use Rattle.std.specs.List.{before_first, prefix_len}
use Rattle.std.specs.Str.{chars}
use Rattle.std.proofs.lemmas.Str.{IsUtf8-drop, IsCharBoundary-after_ascii, chars-encodes}
use Rattle.std.proofs.lemmas.Slice.Eq.{bytes_eq-Decides, starts_is}
use Rattle.std.proofs.lemmas.Bool.Decides.{Decides-eqb, nat_tests}
use Rattle.clap.specs.Lexer.{long_of, short_of}
use Rattle.key_bytes.specs.Keys.{begins_with}
use Rattle.model_commands.specs.Grammar.{OptionName, seed, polls, window, WordKind, separator, joined, apart, unknown, positional, kind_in, name_text, option_in, option_names, option_text}

-- a word that names an option which the command doesn't have: by its whole name, or by one character
pub data IsUnknown (word : List ℕ) : Type 0 where
  by_name : (name : List ℕ) (value : Option (List ℕ)) → long_of word ≡ Some (name, value)
      → ((option : OptionName) → bytes_eq (name_text option) name ≡ false) → IsUnknown word
  by_character : (flag : ℕ) (flags : List ℕ) (c : ℕ) → long_of word ≡ None → short_of word ≡ Some (flag ∷ flags)
      → slice_get (chars (flag ∷ flags)) 0 ≡ Some c → IsUnknown word

abbrev pub is_separator : List ℕ → Bool
is_separator word = bytes_eq word (45 ∷ 45 ∷ [])

abbrev pub Meets : WordKind → List ℕ → Type 0
Meets separator word = is_separator word ≡ true
Meets (joined name value) word = (is_separator word ≡ false) × (long_of word ≡ Some (name_text name, Some value))
Meets (apart name) word = (is_separator word ≡ false) × (long_of word ≡ Some (name_text name, None))
Meets unknown word = (is_separator word ≡ false) × IsUnknown word
Meets positional word = (is_separator word ≡ false) × (long_of word ≡ None) × (short_of word ≡ None)

-- ---- the first character behind a hyphen

first_char : (x : ℕ) (xs cs : List ℕ) → encode_utf8_all cs ≡ x ∷ xs → chars (x ∷ xs) ≡ cs → (c : ℕ) × (slice_get (chars (x ∷ xs)) 0 ≡ Some c)
first_char x xs [] encoded same = cc
first_char x xs (c ∷ cs) encoded same = (c, ap (λ ds. slice_get ds 0) same)

behind_hyphen : (x : ℕ) (xs : List ℕ) → IsUtf8 (45 ∷ x ∷ xs) → (c : ℕ) × (slice_get (chars (x ∷ xs)) 0 ≡ Some c)
behind_hyphen x xs utf8 =
    let rest : IsUtf8 (x ∷ xs) = IsUtf8-drop (45 ∷ x ∷ xs) 1 utf8 (IsCharBoundary-after_ascii (45 ∷ x ∷ xs) 0 utf8 (omega arith) (omega arith)) in
    first_char x xs rest.0 rest.1.1 (ap chars (sym rest.1.1) ∙ chars-encodes rest.0 rest.1.0)

-- ---- what begins with two hyphens

-- the test of `clap` for the end of a name
abbrev before_equals : List ℕ → List ℕ
before_equals = before_first (λ x. x == 61)

cut : (text : List ℕ) → (before_equals text ≡ text) ⊎ ((value : List ℕ) × (text ≡ before_equals text ++ 61 ∷ value))
cut [] = inl refl
cut (x ∷ xs) = go (x == 61) refl (cut xs)
  where
    go : (b : Bool) → (x == 61) ≡ b → (before_equals xs ≡ xs) ⊎ ((value : List ℕ) × (xs ≡ before_equals xs ++ 61 ∷ value))
        → (before_equals (x ∷ xs) ≡ x ∷ xs) ⊎ ((value : List ℕ) × (x ∷ xs ≡ before_equals (x ∷ xs) ++ 61 ∷ value))
    go true e rest = let is : x ≡ 61 = eqb-true x 61 e in inr (xs, rw e (rw is refl))
    go false e (inl all) =
        let one : 1 + prefix_len (λ y. not (y == 61)) xs ≡ suc (prefix_len (λ y. not (y == 61)) xs) = omega arith in
        inl (rw (e, one) (ap (λ ys. x ∷ ys) all))
    go false e (inr found) =
        let one : 1 + prefix_len (λ y. not (y == 61)) xs ≡ suc (prefix_len (λ y. not (y == 61)) xs) = omega arith in
        inr (found.0, rw (e, one) (ap (λ ys. x ∷ ys) found.1))

-- neither the option alone nor the option with a value
abbrev Excluded : OptionName → List ℕ → Type 0
Excluded name word = (bytes_eq word (option_text name) ≡ false) × (begins_with word (option_text name ++ codes "=") ≡ false)

alone : (name : OptionName) → bytes_eq (45 ∷ 45 ∷ name_text name) (option_text name) ≡ true
alone seed = refl
alone polls = refl
alone window = refl

with_value : (name : OptionName) (value : List ℕ) → begins_with (45 ∷ 45 ∷ (name_text name ++ 61 ∷ value)) (option_text name ++ codes "=") ≡ true
with_value seed value = refl
with_value polls value = refl
with_value window value = refl

differs : (name : OptionName) (text : List ℕ) → Excluded name (45 ∷ 45 ∷ text) → bytes_eq (name_text name) (before_equals text) ≡ false
differs name text excluded = go (bytes_eq (name_text name) (before_equals text)) refl (cut text)
  where
    go : (b : Bool) → bytes_eq (name_text name) (before_equals text) ≡ b
        → (before_equals text ≡ text) ⊎ ((value : List ℕ) × (text ≡ before_equals text ++ 61 ∷ value)) → b ≡ false
    go false e parts = refl
    go true e (inl all) =
        let is : name_text name ≡ text = (bytes_eq-Decides _ _).0 e ∙ all in
        absurd (true≢false (sym (alone name) ∙ ap (λ t. bytes_eq (45 ∷ 45 ∷ t) (option_text name)) is ∙ excluded.0))
    go true e (inr found) =
        let is : name_text name ++ 61 ∷ found.0 ≡ text = ap (λ t. t ++ 61 ∷ found.0) ((bytes_eq-Decides _ _).0 e) ∙ sym found.1 in
        absurd (true≢false (sym (with_value name found.0) ∙ ap (λ t. begins_with (45 ∷ 45 ∷ t) (option_text name ++ codes "=")) is ∙ excluded.1))

apart_alone : (name : OptionName) → Meets (apart name) (option_text name)
apart_alone seed = (refl, refl)
apart_alone polls = (refl, refl)
apart_alone window = (refl, refl)

apart_meets : (name : OptionName) (word : List ℕ) → bytes_eq word (option_text name) ≡ true → Meets (apart name) word
apart_meets name word same =
    let is : option_text name ≡ word = sym ((bytes_eq-Decides word (option_text name)).0 same) in
    subst (Meets (apart name)) {x = option_text name} {y = word} is (apart_alone name)

joined_alone : (name : OptionName) (value : List ℕ) → Meets (joined name value) ((option_text name ++ codes "=") ++ value)
joined_alone seed value = (refl, refl)
joined_alone polls value = (refl, refl)
joined_alone window value = (refl, refl)

joined_meets : (name : OptionName) (word : List ℕ) → begins_with word (option_text name ++ codes "=") ≡ true
    → Meets (joined name (drop (length (option_text name ++ codes "=")) word)) word
joined_meets name word begins =
    let parts = (starts_is Decides-eqb word (option_text name ++ codes "=") _ refl).0 begins in
    let value = drop (length (option_text name ++ codes "=")) word in
    let is : (option_text name ++ codes "=") ++ value ≡ word = sym parts in
    subst (Meets (joined name value)) {x = (option_text name ++ codes "=") ++ value} {y = word} is (joined_alone name value)

same_length : (name : OptionName) → length (option_text name ++ codes "=") ≡ length (option_text name) + 1
same_length seed = refl
same_length polls = refl
same_length window = refl

abbrev pub IsIn : {X : Type 0} → X → List X → Type 0
IsIn name [] = ⊥
IsIn name (other ∷ others) = (name ≡ other) ⊎ IsIn name others

each_name : (name : OptionName) → IsIn name option_names
each_name seed = inl refl
each_name polls = inr (inl refl)
each_name window = inr (inr (inl refl))

-- a word `--` and more, where each option is among these or excluded
named : (names : List OptionName) (x : ℕ) (xs : List ℕ) → ((name : OptionName) → IsIn name names ⊎ Excluded name (45 ∷ 45 ∷ x ∷ xs))
    → Meets (option_in names (45 ∷ 45 ∷ x ∷ xs)) (45 ∷ 45 ∷ x ∷ xs)
named [] x xs each =
    (refl, by_name _ _ refl (λ name. differs name (x ∷ xs) (⊎_elim (λ none. absurd none) (λ excluded. excluded) (each name))))
named (first ∷ rest) x xs each = go (bytes_eq word (option_text first)) refl (begins_with word (option_text first ++ codes "=")) refl (named rest x xs)
  where
    word : List ℕ
    word = 45 ∷ 45 ∷ x ∷ xs

    go : (b : Bool) → bytes_eq (45 ∷ 45 ∷ x ∷ xs) (option_text first) ≡ b → (c : Bool) → begins_with (45 ∷ 45 ∷ x ∷ xs) (option_text first ++ codes "=") ≡ c
        → (((name : OptionName) → IsIn name rest ⊎ Excluded name (45 ∷ 45 ∷ x ∷ xs)) → Meets (option_in rest (45 ∷ 45 ∷ x ∷ xs)) (45 ∷ 45 ∷ x ∷ xs))
        → Meets (cond b (apart first) (cond c (joined first (drop (length (option_text first) + 1) (45 ∷ 45 ∷ x ∷ xs))) (option_in rest (45 ∷ 45 ∷ x ∷ xs)))) (45 ∷ 45 ∷ x ∷ xs)
    go true same c begins next = apart_meets first (45 ∷ 45 ∷ x ∷ xs) same
    go false same true begins next =
        subst (λ n. Meets (joined first (drop n (45 ∷ 45 ∷ x ∷ xs))) (45 ∷ 45 ∷ x ∷ xs)) (same_length first) (joined_meets first (45 ∷ 45 ∷ x ∷ xs) begins)
    go false same false begins next =
        next (λ name. ⊎_elim (⊎_elim (λ is. inr (subst (λ n. Excluded n (45 ∷ 45 ∷ x ∷ xs)) (sym is) (same, begins))) (λ in_rest. inl in_rest)) (λ excluded. inr excluded) (each name))

-- ---- every word

is_hyphen : (x : ℕ) → (x ≡ 45) ⊎ ((nat_eq x 45 ≡ false) × (nat_eq 45 x ≡ false))
is_hyphen x = go (nat_eq x 45) refl
  where
    go : (b : Bool) → nat_eq x 45 ≡ b → (x ≡ 45) ⊎ ((nat_eq x 45 ≡ false) × (nat_eq 45 x ≡ false))
    go true e = inl (eqb-true x 45 e)
    go false e = inr (e, grind (arith, nat_tests))

behind_two : (xs : List ℕ) → Meets (kind_in (45 ∷ 45 ∷ xs)) (45 ∷ 45 ∷ xs)
behind_two [] = refl
behind_two (x ∷ xs) = named option_names x xs (λ name. inl (each_name name))

behind_one : (xs : List ℕ) → IsUtf8 (45 ∷ xs) → Meets (kind_in (45 ∷ xs)) (45 ∷ xs)
behind_one [] utf8 = (refl, refl, refl)
behind_one (x ∷ xs) utf8 = ⊎_elim two one (is_hyphen x)
  where
    two : x ≡ 45 → Meets (kind_in (45 ∷ x ∷ xs)) (45 ∷ x ∷ xs)
    two is = subst (λ y. Meets (kind_in (45 ∷ y ∷ xs)) (45 ∷ y ∷ xs)) (sym is) (behind_two xs)

    one : (nat_eq x 45 ≡ false) × (nat_eq 45 x ≡ false) → Meets (kind_in (45 ∷ x ∷ xs)) (45 ∷ x ∷ xs)
    one differ =
        let first = behind_hyphen x xs utf8 in
        let is : kind_in (45 ∷ x ∷ xs) ≡ unknown = rw (differ.0, differ.1) refl in
        subst (λ kind. Meets kind (45 ∷ x ∷ xs)) {x = unknown} {y = kind_in (45 ∷ x ∷ xs)} (sym is)
        (rw differ.0 refl, by_character x xs first.0 (rw differ.0 refl) (rw differ.0 refl) first.1)

pub meets : (word : List ℕ) → IsUtf8 word → Meets (kind_in word) word
meets [] utf8 = (refl, refl, refl)
meets (x ∷ xs) utf8 = ⊎_elim hyphen other (is_hyphen x)
  where
    hyphen : x ≡ 45 → Meets (kind_in (x ∷ xs)) (x ∷ xs)
    hyphen is = subst (λ y. Meets (kind_in (y ∷ xs)) (y ∷ xs)) (sym is) (behind_one xs (subst (λ y. IsUtf8 (y ∷ xs)) is utf8))

    other : (nat_eq x 45 ≡ false) × (nat_eq 45 x ≡ false) → Meets (kind_in (x ∷ xs)) (x ∷ xs)
    other differ =
        let is : kind_in (x ∷ xs) ≡ positional = rw (differ.0, differ.1) refl in
        subst (λ kind. Meets kind (x ∷ xs)) {x = positional} {y = kind_in (x ∷ xs)} (sym is) (rw differ.0 refl, rw differ.0 refl, rw differ.0 refl)
