-- The words of `watch`, `asm` and `disasm`, which have no argument: `clap` refuses exactly those that the grammar doesn't have.
use Rattle.std.proofs.Common.{◌≡◌, ◌∙◌, ◌⊎◌, inl, inr, ℕ, Bool, cond, true, false, List, [], ◌∷◌, Option, Some, None, option_and_then, codes, refl, ap}
use Rattle.clap.specs.Walk.{Row, Walk, finished, idle, nothing_held, rows_after, settled, walked}
use Rattle.clap.specs.Simple.{Shape, built_leaf, inherited, marked_built, with_leaf_noted}
use Rattle.clap.specs.Kinds.{Kinds, or_else}
use Rattle.clap.specs.Faults.{check_fault, defaults_fault, flags_fault, level_fault, settle_fault, turn_fault, walk_fault}
use Rattle.clap.specs.declared.error.kind.ErrorKind.TheVariants.{UnknownArgument}
use Rattle.key_bytes.specs.Keys.{begins_with}
use Rattle.model_commands.specs.declared.args.Args.{Args}
use Rattle.model_commands.specs.Grammar.{OptionName, WordKind, apart, argument_by, arguments_in, bare_in, bare_of, given, joined, kind_in, placed, positional, separator, unknown, with_argument}
use Rattle.laws_commands.specs.Found.{EachUtf8}
use Rattle.laws_commands.specs.Program.{bare_app, program}
use Rattle.laws_commands.proofs.WordKinds.{Meets, by_character, by_name, is_separator, meets}
use Rattle.laws_commands.proofs.Steps.{IsPlain, at, first}
use Rattle.laws_commands.proofs.Faults.{first_clear, second_clear}
use Rattle.laws_commands.proofs.Workers.{IsOption}
use Rattle.laws_commands.proofs.Asking.{never_behind}

abbrev pub bare_leaf : List ℕ → Shape
bare_leaf name = built_leaf (inherited (with_leaf_noted (marked_built program.top)) (bare_app name).top)

abbrev pub bare_fault : List ℕ → List (List ℕ) → Kinds
bare_fault name words = level_fault (bare_leaf name) [] nothing_held words false []

abbrev pub bare_rows : List (List ℕ) → List Row
bare_rows words = rows_after (bare_leaf []).rules [] words

-- ---- one word

abbrev begun : Bool → Walk
begun is_trailing = at [] None idle first is_trailing

abbrev bare_turn : List ℕ → Walk → List ℕ → Kinds
bare_turn name = turn_fault (bare_leaf name) []

abbrev bare_walked : Walk → List ℕ → Walk
bare_walked = walked (bare_leaf []).rules []

separator_passes : (name word : List ℕ) → is_separator word ≡ true → bare_turn name (begun false) word ≡ []
separator_passes name word e = rw e refl

separator_walks : (word : List ℕ) → is_separator word ≡ true → bare_walked (begun false) word ≡ begun true
unfolding walked
separator_walks word e = rw e refl

option_fails : (name word : List ℕ) → IsOption word → bare_turn name (begun false) word ≡ UnknownArgument ∷ []
unfolding flags_fault
option_fails name word (e, inl named) = rw (e, named.2) refl
option_fails name word (e, inr (by_name other value long differs)) = rw (e, long) refl
option_fails name word (e, inr (by_character flag flags c long short is)) = rw (e, long, short, is) refl

plain_fails : (name word : List ℕ) → IsPlain word → bare_turn name (begun false) word ≡ UnknownArgument ∷ []
plain_fails name word plain = rw (plain.0, plain.1, plain.2) refl

fails_behind : (name word : List ℕ) → bare_turn name (begun true) word ≡ UnknownArgument ∷ []
fails_behind name word = refl

-- ---- all words

nothing_passes : (name : List ℕ) → bare_fault name [] ≡ []
unfolding walk_fault defaults_fault
nothing_passes name = refl

-- what is found behind the walk
abbrev ends_with : List ℕ → Walk → Kinds
ends_with name end =
    or_else (settle_fault (bare_leaf name).rules false end.held)
    (or_else (defaults_fault (settled (bare_leaf name).rules end.held).rows (bare_leaf name).rules)
    (check_fault (bare_leaf name) (finished (bare_leaf name).rules end.held) false))

ends_well : (name : List ℕ) → ends_with name (begun true) ≡ []
unfolding defaults_fault
ends_well name = refl

separator_alone : (name word : List ℕ) → is_separator word ≡ true → bare_fault name (word ∷ []) ≡ []
unfolding walk_fault
separator_alone name word e =
    ap (λ k. or_else (or_else k []) (ends_with name (bare_walked (begun false) word))) (separator_passes name word e)
    ∙ ap (ends_with name) (separator_walks word e) ∙ ends_well name

refused_at : (name word : List ℕ) (words : List (List ℕ)) → bare_turn name (begun false) word ≡ UnknownArgument ∷ [] → bare_fault name (word ∷ words) ≡ [] → ⊥
unfolding walk_fault
refused_at name word words fault none =
    let walking : walk_fault (bare_leaf name) [] (begun false) (word ∷ words) ≡ [] = first_clear _ _ none in
    let turning : bare_turn name (begun false) word ≡ [] = first_clear _ _ walking in
    cc

refused_behind : (name word other : List ℕ) (words : List (List ℕ)) → is_separator word ≡ true → bare_fault name (word ∷ other ∷ words) ≡ [] → ⊥
unfolding walk_fault
refused_behind name word other words e none =
    let walking : walk_fault (bare_leaf name) [] (begun false) (word ∷ other ∷ words) ≡ [] = first_clear _ _ none in
    let next : walk_fault (bare_leaf name) [] (bare_walked (begun false) word) (other ∷ words) ≡ [] = second_clear (bare_turn name (begun false) word) _ walking in
    let turning : bare_turn name (bare_walked (begun false) word) other ≡ [] = first_clear _ _ next in
    let stray : bare_turn name (bare_walked (begun false) word) other ≡ UnknownArgument ∷ [] =
    ap (λ (w : Walk). bare_turn name w other) (separator_walks word e) ∙ fails_behind name other in
    cc

-- an option that waits for its value, or has it, is an argument
never_waits : (command : Args) (name : OptionName) (words : List (List ℕ)) → option_and_then (bare_of command) (arguments_in (Some name) words) ≡ None
never_waits command name [] = refl
never_waits command name (word ∷ words) = go (begins_with word (codes "-"))
  where
    go : (b : Bool) → option_and_then (bare_of command) (cond b None (with_argument (given name word) (arguments_in None words))) ≡ None
    go true = refl
    go false = never_behind (bare_of command) (given name word) (arguments_in None words) (λ rest. refl)

-- `clap` passes the words and the grammar has them, or it refuses them and the grammar doesn't
abbrev pub BareDecided : List ℕ → Args → List (List ℕ) → Option Args → Type 0
BareDecided name command words asks = ((bare_fault name words ≡ []) × (Some command ≡ asks)) ⊎ ((bare_fault name words ≡ [] → ⊥) × (asks ≡ None))

word_decided : (name : List ℕ) (command : Args) (word : List ℕ) (words : List (List ℕ)) (of_word : WordKind) → Meets of_word word
    → BareDecided name command (word ∷ words) (option_and_then (bare_of command) (argument_by of_word word words (λ waits. arguments_in waits words)))
word_decided name command word [] separator is = inl (separator_alone name word is, refl)
word_decided name command word (other ∷ words) separator is = inr (refused_behind name word other words is, refl)
word_decided name command word words (joined option value) is =
    inr (refused_at name word words (option_fails name word (is.0, inl (_, _, is.1))), never_behind (bare_of command) (given option value) (arguments_in None words) (λ rest. refl))
word_decided name command word words (apart option) is =
    inr (refused_at name word words (option_fails name word (is.0, inl (_, _, is.1))), never_waits command option words)
word_decided name command word words unknown is = inr (refused_at name word words (option_fails name word (is.0, inr is.1)), refl)
word_decided name command word words positional is =
    inr (refused_at name word words (plain_fails name word is), never_behind (bare_of command) (placed word) (arguments_in None words) (λ rest. refl))

pub bare_decided : (name : List ℕ) (command : Args) (words : List (List ℕ)) → EachUtf8 words → BareDecided name command words (bare_in command words)
bare_decided name command [] each = inl (nothing_passes name, refl)
bare_decided name command (word ∷ words) each = word_decided name command word words (kind_in word) (meets word each.0)
