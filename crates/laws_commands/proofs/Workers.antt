-- The words of `gen`: `clap` refuses exactly those that the grammar doesn't have, but for the number itself.
use Rattle.std.proofs.Common.{◌≡◌, ◌∙◌, ◌⊎◌, inl, inr, ℕ, Bool, cond, true, false, List, [], ◌∷◌, map, Option, Some, None, option_and_then, fold, codes, refl, sym, ap}
use Rattle.clap.specs.Walk.{Row, Rule, Walk, finished, idle, nothing_held, rows_after, settled, walked}
use Rattle.clap.specs.Simple.{Shape, built_leaf, inherited, marked_built, with_leaf_noted}
use Rattle.clap.specs.Lexer.{long_of}
use Rattle.clap.specs.Kinds.{Kinds, or_else}
use Rattle.clap.specs.Faults.{check_fault, defaults_fault, flags_fault, level_fault, settle_fault, turn_fault, walk_fault}
use Rattle.clap.specs.declared.error.kind.ErrorKind.TheVariants.{MissingRequiredArgument, UnknownArgument}
use Rattle.key_bytes.specs.Keys.{begins_with}
use Rattle.model_commands.specs.Grammar.{Argument, OptionName, WordKind, apart, argument_by, arguments_in, gen_in, given, joined, kind_in, number_in, placed, positional, separator, unknown, with_argument, workers_of}
use Rattle.laws_commands.specs.Found.{EachUtf8, workers_asked_in}
use Rattle.laws_commands.specs.Program.{gen_app, program}
use Rattle.laws_commands.proofs.WordKinds.{IsUnknown, Meets, by_character, by_name, is_separator, meets}
use Rattle.laws_commands.proofs.Steps.{IsPlain, at, first, second}

-- ---- the command

abbrev pub gen_leaf : Shape
gen_leaf = built_leaf (inherited (with_leaf_noted (marked_built program.top)) gen_app.top)

abbrev gen_rules : List Rule
gen_rules = gen_leaf.rules

abbrev pub gen_fault : List (List ℕ) → Kinds
gen_fault words = level_fault gen_leaf [] nothing_held words false []

abbrev pub gen_rows : List (List ℕ) → List Row
gen_rows words = rows_after gen_rules [] words

-- ---- one word

abbrev begun : Bool → Walk
begun is_trailing = at [] None idle first is_trailing

-- the one argument was met
abbrev met : List ℕ → Bool → Walk
met worker is_trailing = at [] (Some (codes "workers", worker ∷ [])) idle second is_trailing

abbrev gen_turn : Walk → List ℕ → Kinds
gen_turn = turn_fault gen_leaf []

abbrev gen_walked : Walk → List ℕ → Walk
gen_walked = walked gen_rules []

separator_passes : (word : List ℕ) → is_separator word ≡ true → gen_turn (begun false) word ≡ []
separator_passes word e = rw e refl

separator_walks : (word : List ℕ) → is_separator word ≡ true → gen_walked (begun false) word ≡ begun true
unfolding walked
separator_walks word e = rw e refl

separator_passes_met : (worker word : List ℕ) → is_separator word ≡ true → gen_turn (met worker false) word ≡ []
separator_passes_met worker word e = rw e refl

separator_walks_met : (worker word : List ℕ) → is_separator word ≡ true → gen_walked (met worker false) word ≡ met worker true
unfolding walked
separator_walks_met worker word e = rw e refl

-- an option, whichever it is
abbrev pub IsOption : List ℕ → Type 0
IsOption word = (is_separator word ≡ false)
    × (((name : List ℕ) × (value : Option (List ℕ)) × (long_of word ≡ Some (name, value))) ⊎ IsUnknown word)

option_fails : (word : List ℕ) → IsOption word → gen_turn (begun false) word ≡ UnknownArgument ∷ []
unfolding flags_fault
option_fails word (e, inl named) = rw (e, named.2) refl
option_fails word (e, inr (by_name name value long differs)) = rw (e, long) refl
option_fails word (e, inr (by_character flag flags c long short is)) = rw (e, long, short, is) refl

option_fails_met : (worker word : List ℕ) → IsOption word → gen_turn (met worker false) word ≡ UnknownArgument ∷ []
unfolding flags_fault
option_fails_met worker word (e, inl named) = rw (e, named.2) refl
option_fails_met worker word (e, inr (by_name name value long differs)) = rw (e, long) refl
option_fails_met worker word (e, inr (by_character flag flags c long short is)) = rw (e, long, short, is) refl

plain_passes : (word : List ℕ) → IsPlain word → gen_turn (begun false) word ≡ []
plain_passes word plain = rw (plain.0, plain.1, plain.2) refl

plain_walks : (word : List ℕ) → IsPlain word → gen_walked (begun false) word ≡ met word false
unfolding walked
plain_walks word plain = rw (plain.0, plain.1, plain.2) refl

plain_fails_met : (worker word : List ℕ) → IsPlain word → gen_turn (met worker false) word ≡ UnknownArgument ∷ []
plain_fails_met worker word plain = rw (plain.0, plain.1, plain.2) refl

passes_behind : (word : List ℕ) → gen_turn (begun true) word ≡ []
passes_behind word = refl

walks_behind : (word : List ℕ) → gen_walked (begun true) word ≡ met word true
unfolding walked
walks_behind word = refl

fails_behind : (worker word : List ℕ) → gen_turn (met worker true) word ≡ UnknownArgument ∷ []
fails_behind worker word = refl

-- ---- all words from where the walk stands

-- what is found behind the walk
abbrev ends_with : Walk → Kinds
ends_with end =
    or_else (settle_fault gen_rules false end.held)
    (or_else (defaults_fault (settled gen_rules end.held).rows gen_rules) (check_fault gen_leaf (finished gen_rules end.held) false))

abbrev fault_from : Walk → List (List ℕ) → Kinds
fault_from walk words = or_else (walk_fault gen_leaf [] walk words) (ends_with (fold gen_walked walk words))

abbrev asked_from : Walk → List (List ℕ) → Option ℕ
asked_from walk words = workers_asked_in (finished gen_rules (fold gen_walked walk words).held)

-- `clap` refuses the words from here on and the grammar asks for nothing, or what is found asks for what the grammar says
abbrev DecidedFrom : Walk → List (List ℕ) → Option ℕ → Type 0
DecidedFrom walk words asks =
    ((fault_from walk words ≡ []) × (asked_from walk words ≡ asks)) ⊎ ((fault_from walk words ≡ [] → ⊥) × (asks ≡ None))

goes_on : (walk next : Walk) (word : List ℕ) (words : List (List ℕ)) (asks : Option ℕ) → gen_turn walk word ≡ [] → gen_walked walk word ≡ next
    → DecidedFrom next words asks → DecidedFrom walk (word ∷ words) asks
unfolding walk_fault
goes_on walk next word words asks passes walks decided = go decided
  where
    same : fault_from walk (word ∷ words) ≡ fault_from next words
    same =
        ap (λ k. or_else (or_else k (walk_fault gen_leaf [] (gen_walked walk word) words)) (ends_with (fold gen_walked (gen_walked walk word) words))) passes
        ∙ ap (λ w. fault_from w words) walks

    go : DecidedFrom next words asks → DecidedFrom walk (word ∷ words) asks
    go (inl facts) = inl (same ∙ facts.0, ap (λ w. asked_from w words) walks ∙ facts.1)
    go (inr refuses) = inr (λ none. refuses.0 (sym same ∙ none), refuses.1)

stops : (walk : Walk) (word : List ℕ) (words : List (List ℕ)) (asks : Option ℕ) → gen_turn walk word ≡ UnknownArgument ∷ [] → asks ≡ None
    → DecidedFrom walk (word ∷ words) asks
unfolding walk_fault
stops walk word words asks fault none = inr (refused, none)
  where
    refused : fault_from walk (word ∷ words) ≡ [] → ⊥
    refused clear =
        let some : fault_from walk (word ∷ words) ≡ UnknownArgument ∷ [] =
        ap (λ k. or_else (or_else k (walk_fault gen_leaf [] (gen_walked walk word) words)) (ends_with (fold gen_walked (gen_walked walk word) words))) fault in
        cc

missing : (is_trailing : Bool) (asks : Option ℕ) → asks ≡ None → DecidedFrom (begun is_trailing) [] asks
unfolding walk_fault defaults_fault
missing is_trailing asks none = inr (refused, none)
  where
    refused : fault_from (begun is_trailing) [] ≡ [] → ⊥
    refused clear =
        let some : fault_from (begun is_trailing) [] ≡ MissingRequiredArgument ∷ [] = refl in
        cc

complete : (worker : List ℕ) (is_trailing : Bool) → DecidedFrom (met worker is_trailing) [] (number_in 1 30 worker)
unfolding walk_fault defaults_fault
complete worker is_trailing = inl (refl, refl)

-- ---- what the grammar says of them

never_given : (name : OptionName) (value : List ℕ) (rest : Option (List Argument)) → option_and_then workers_of (with_argument (given name value) rest) ≡ None
never_given name value None = refl
never_given name value (Some rest) = refl

never_more : (word : List ℕ) (argument : Argument) (rest : Option (List Argument))
    → option_and_then workers_of (with_argument (placed word) (with_argument argument rest)) ≡ None
never_more word argument None = refl
never_more word argument (Some rest) = refl

never_waits : (name : OptionName) (words : List (List ℕ)) → option_and_then workers_of (arguments_in (Some name) words) ≡ None
never_waits name [] = refl
never_waits name (word ∷ words) = go (begins_with word (codes "-"))
  where
    go : (b : Bool) → option_and_then workers_of (cond b None (with_argument (given name word) (arguments_in None words))) ≡ None
    go true = refl
    go false = never_given name word (arguments_in None words)

never_waits_met : (worker : List ℕ) (name : OptionName) (words : List (List ℕ))
    → option_and_then workers_of (with_argument (placed worker) (arguments_in (Some name) words)) ≡ None
never_waits_met worker name [] = refl
never_waits_met worker name (word ∷ words) = go (begins_with word (codes "-"))
  where
    go : (b : Bool) → option_and_then workers_of (with_argument (placed worker) (cond b None (with_argument (given name word) (arguments_in None words)))) ≡ None
    go true = refl
    go false = never_more worker (given name word) (arguments_in None words)

-- ---- every list of words

-- behind `--`, where the argument was met before
met_behind : (worker : List ℕ) (words : List (List ℕ))
    → DecidedFrom (met worker true) words (option_and_then workers_of (with_argument (placed worker) (Some (map placed words))))
met_behind worker [] = complete worker true
met_behind worker (word ∷ words) = stops (met worker true) word words _ (fails_behind worker word) refl

behind : (words : List (List ℕ)) → DecidedFrom (begun true) words (option_and_then workers_of (Some (map placed words)))
behind [] = missing true _ refl
behind (word ∷ words) = goes_on (begun true) (met word true) word words _ (passes_behind word) (walks_behind word) (met_behind word words)

met_then : (worker word : List ℕ) (words : List (List ℕ)) (of_word : WordKind) → Meets of_word word
    → DecidedFrom (met worker false) (word ∷ words)
    (option_and_then workers_of (with_argument (placed worker) (argument_by of_word word words (λ waits. arguments_in waits words))))
met_then worker word words separator is =
    goes_on (met worker false) (met worker true) word words _ (separator_passes_met worker word is) (separator_walks_met worker word is)
    (met_behind worker words)
met_then worker word words (joined name value) is =
    stops (met worker false) word words _ (option_fails_met worker word (is.0, inl (_, _, is.1))) (never_more worker (given name value) (arguments_in None words))
met_then worker word words (apart name) is =
    stops (met worker false) word words _ (option_fails_met worker word (is.0, inl (_, _, is.1))) (never_waits_met worker name words)
met_then worker word words unknown is = stops (met worker false) word words _ (option_fails_met worker word (is.0, inr is.1)) refl
met_then worker word words positional is =
    stops (met worker false) word words _ (plain_fails_met worker word is) (never_more worker (placed word) (arguments_in None words))

met_decided : (worker : List ℕ) (words : List (List ℕ)) → EachUtf8 words
    → DecidedFrom (met worker false) words (option_and_then workers_of (with_argument (placed worker) (arguments_in None words)))
met_decided worker [] each = complete worker false
met_decided worker (word ∷ words) each = met_then worker word words (kind_in word) (meets word each.0)

word_decided : (word : List ℕ) (words : List (List ℕ)) → EachUtf8 words → (of_word : WordKind) → Meets of_word word
    → DecidedFrom (begun false) (word ∷ words) (option_and_then workers_of (argument_by of_word word words (λ waits. arguments_in waits words)))
word_decided word words each separator is =
    goes_on (begun false) (begun true) word words _ (separator_passes word is) (separator_walks word is) (behind words)
word_decided word words each (joined name value) is =
    stops (begun false) word words _ (option_fails word (is.0, inl (_, _, is.1))) (never_given name value (arguments_in None words))
word_decided word words each (apart name) is =
    stops (begun false) word words _ (option_fails word (is.0, inl (_, _, is.1))) (never_waits name words)
word_decided word words each unknown is = stops (begun false) word words _ (option_fails word (is.0, inr is.1)) refl
word_decided word words each positional is =
    goes_on (begun false) (met word false) word words _ (plain_passes word is) (plain_walks word is) (met_decided word words each)

-- `clap` refuses the words and the grammar doesn't have them; or what is found asks for what the grammar says, which may be that the
-- number is refused
pub gen_decided : (words : List (List ℕ)) → EachUtf8 words
    → ((gen_fault words ≡ []) × (workers_asked_in (gen_rows words) ≡ gen_in words)) ⊎ ((gen_fault words ≡ [] → ⊥) × (gen_in words ≡ None))
gen_decided [] each = missing false None refl
gen_decided (word ∷ words) each = word_decided word words each.1 (kind_in word) (meets word each.0)
