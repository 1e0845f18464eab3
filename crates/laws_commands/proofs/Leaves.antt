-- The arguments of `run` and `replay` as `clap` has them, and what its matches hold of them.
use Rattle.std.proofs.Common.{◌≡◌, ◌∙◌, ◌||◌, ℕ, Bool, cond, true, false, true≢false, List, [], ◌∷◌, ◌++◌, append-nil, Option, Some, None, option_map, is_some, find, codes, bytes_eq, refl, sym, ap}
use Rattle.std.specs.List.{list_any}
use Rattle.std.proofs.lemmas.Slice.Eq.{bytes_eq-Decides}
use Rattle.clap.specs.Walk.{Row, Rule, arg_by_id, arg_by_long, at_row, has_row, more_values, reading_by, used, with_values, without}
use Rattle.clap.specs.Simple.{Shape, built_leaf, filled, inherited, marked_built, with_index, with_leaf_noted}
use Rattle.clap.specs.declared.parser.matches.ValueSource.TheVariants.{CommandLine}
use Rattle.clap.specs.declared.builder.value_parser.Reading.{Reading}
use Rattle.model_commands.specs.Grammar.{OptionName, seed, polls, window, name_text}
use Rattle.laws_commands.specs.Program.{option_rule, positional_rule, program, run_app}

-- ---- the arguments

pub data ArgumentId : Type 0 where
  prefix : ArgumentId
  api : ArgumentId
  option : OptionName → ArgumentId

abbrev pub id_text : ArgumentId → List ℕ
id_text prefix = codes "prefix"
id_text api = codes "api"
id_text (option name) = name_text name

-- the subcommand of this name as it is built
abbrev pub leaf : List ℕ → Shape
leaf name = built_leaf (inherited (with_leaf_noted (marked_built program.top)) (run_app name).top)

abbrev pub run_rules : List Rule
run_rules = (leaf []).rules

abbrev pub rule_of_option : OptionName → Rule
rule_of_option name = filled (option_rule name)

abbrev pub rule_for : ArgumentId → Rule
rule_for prefix = with_index 1 (filled (positional_rule (codes "prefix")))
rule_for api = with_index 2 (filled (positional_rule (codes "api")))
rule_for (option name) = rule_of_option name

pub by_long : (name : OptionName) → arg_by_long run_rules (name_text name) ≡ Some (rule_of_option name)
by_long seed = refl
by_long polls = refl
by_long window = refl

pub by_id : (id : ArgumentId) → arg_by_id run_rules (id_text id) ≡ Some (rule_for id)
by_id prefix = refl
by_id api = refl
by_id (option seed) = refl
by_id (option polls) = refl
by_id (option window) = refl

-- ---- the values of arguments

-- the value that each argument has so far
abbrev pub Tally : Type 0
Tally = ArgumentId → Option (List ℕ)

abbrev pub nothing : Tally
nothing id = None

abbrev pub same_id : ArgumentId → ArgumentId → Bool
same_id a b = bytes_eq (id_text a) (id_text b)

abbrev pub with_value : ArgumentId → List ℕ → Tally → Tally
with_value id value tally other = cond (same_id id other) (Some value) (tally other)

abbrev pub text_reading : Reading
text_reading = reading_by (rule_for prefix)

abbrev pub row_for : ArgumentId → List ℕ → Row
row_for id value = record {
  id = id_text id;
  values = value ∷ [];
  count = None;
  source = Some CommandLine;
  reading = text_reading;
}

abbrev pub row_of_id : List ℕ → List Row → Option Row
row_of_id id rows = find (λ r. bytes_eq r.id id) rows

-- the rows have just the values of the tally
abbrev pub Holds : List Row → Tally → Type 0
Holds rows tally = (id : ArgumentId) → row_of_id (id_text id) rows ≡ option_map (row_for id) (tally id)

pub holds_nothing : Holds [] nothing
holds_nothing id = refl

-- ---- one value more

some≢none : {X : Type 0} (x : X) → Some x ≡ None → ⊥
some≢none x e = true≢false (ap is_some e)

at_end : (id : List ℕ) (change : Row → List Row) (missing rows : List Row) → row_of_id id rows ≡ None → at_row id change missing rows ≡ rows ++ missing
at_end id change missing [] none = refl
at_end id change missing (r ∷ rs) none = go (bytes_eq r.id id) none (at_end id change missing rs)
  where
    go : (b : Bool) → cond b (Some r) (row_of_id id rs) ≡ None → (row_of_id id rs ≡ None → at_row id change missing rs ≡ rs ++ missing)
        → cond b (change r ++ rs) (r ∷ at_row id change missing rs) ≡ r ∷ (rs ++ missing)
    go true none next = absurd (some≢none r none)
    go false none next = ap (λ xs. r ∷ xs) (next none)

abbrev or_some : {X : Type 0} → Option X → Option X → Option X
or_some (Some x) o = Some x
or_some None o = o

find_in_both : {X : Type 0} (p : X → Bool) (xs ys : List X) → find p (xs ++ ys) ≡ or_some (find p xs) (find p ys)
find_in_both p [] ys = refl
find_in_both p (x ∷ xs) ys = go (p x) (find_in_both p xs ys)
  where
    go : (b : Bool) → find p (xs ++ ys) ≡ or_some (find p xs) (find p ys)
        → cond b (Some x) (find p (xs ++ ys)) ≡ or_some (cond b (Some x) (find p xs)) (find p ys)
    go true next = refl
    go false next = next

abbrev rows_with : ArgumentId → List ℕ → List Row → List Row
rows_with id value rows = with_values (id_text id) text_reading CommandLine (value ∷ []) (without (id_text id) rows)

used_is : (id : ArgumentId) (value : List ℕ) (rows : List Row) → used (rule_for id) (value ∷ []) rows ≡ rows_with id value rows
used_is prefix value rows = refl
used_is api value rows = refl
used_is (option name) value rows = refl

joins_rows : (id : ArgumentId) (value : List ℕ) (rows : List Row) → row_of_id (id_text id) rows ≡ None
    → used (rule_for id) (value ∷ []) rows ≡ rows ++ row_for id value ∷ []
joins_rows id value rows none =
    used_is id value rows
    ∙ ap (with_values (id_text id) text_reading CommandLine (value ∷ [])) (at_end (id_text id) (λ _. []) [] rows none ∙ append-nil rows)
    ∙ at_end (id_text id) (more_values CommandLine (value ∷ [])) (row_for id value ∷ []) rows none

-- a use of an argument that has no value so far
pub holds_more : (id : ArgumentId) (value : List ℕ) (rows : List Row) (tally : Tally) → Holds rows tally → tally id ≡ None
    → Holds (used (rule_for id) (value ∷ []) rows) (with_value id value tally)
holds_more id value rows tally holds none other =
    ap (row_of_id (id_text other)) (joins_rows id value rows missing) ∙ find_in_both (λ r. bytes_eq r.id (id_text other)) rows (row_for id value ∷ [])
    ∙ go (same_id id other) refl
  where
    missing : row_of_id (id_text id) rows ≡ None
    missing = holds id ∙ ap (option_map (row_for id)) none

    kept : (o : Option Row) → or_some o None ≡ o
    kept None = refl
    kept (Some x) = refl

    go : (b : Bool) → same_id id other ≡ b
        → or_some (row_of_id (id_text other) rows) (cond b (Some (row_for id value)) None) ≡ option_map (row_for other) (cond b (Some value) (tally other))
    go true e =
        let same : id_text id ≡ id_text other = (bytes_eq-Decides (id_text id) (id_text other)).0 e in
        ap (λ o. or_some o (Some (row_for id value))) (ap (λ t. row_of_id t rows) (sym same) ∙ missing)
        ∙ ap (λ t. Some (record (row_for id value) { id = t })) same
    go false e = kept (row_of_id (id_text other) rows) ∙ holds other

-- whether there is a value is whether there is a row
any_is_found : {X : Type 0} (p : X → Bool) (xs : List X) → list_any p xs ≡ is_some (find p xs)
any_is_found p [] = refl
any_is_found p (x ∷ xs) = go (p x) (any_is_found p xs)
  where
    go : (b : Bool) → list_any p xs ≡ is_some (find p xs) → (b || list_any p xs) ≡ is_some (cond b (Some x) (find p xs))
    go true next = refl
    go false next = next

is_some_mapped : {X Y : Type 0} (f : X → Y) (o : Option X) → is_some (option_map f o) ≡ is_some o
is_some_mapped f None = refl
is_some_mapped f (Some x) = refl

pub has_row_is : (id : ArgumentId) (rows : List Row) (tally : Tally) → Holds rows tally → has_row (id_text id) rows ≡ is_some (tally id)
has_row_is id rows tally holds =
    any_is_found (λ r. bytes_eq r.id (id_text id)) rows ∙ ap is_some (holds id) ∙ is_some_mapped (row_for id) (tally id)
