-- What `clap` finds asks for what the grammar says that the words ask for.
use Rattle.std.proofs.Common.{◌≡◌, ◌∙◌, ◌&&◌, ℕ, ◌+◌, Bool, cond, not, true, false, true≢false, List, [], ◌∷◌, ◌++◌, append-nil, map, length, drop, Option, Some, None, is_some, option_and_then, codes, bytes_eq, refl, sym, ap, ap₂, subst}
use Rattle.std.proofs.lemmas.Slice.Eq.{bytes_eq-Decides}
use Rattle.key_bytes.specs.Keys.{begins_with}
use Rattle.model_database.specs.declared.Api.{Api}
use Rattle.model_commands.specs.declared.args.RunArgs.{RunArgs}
use Rattle.model_commands.specs.Grammar.{Argument, OptionName, seed, polls, window, WordKind, separator, joined, apart, unknown, positional, argument_by, arguments_in, given, kind_in, option_in, option_names, option_text, placed, positionals_of, polls_given, prefix_and_api_in, run_in, run_with, seed_given, values_of, window_given, with_argument}
use Rattle.laws_commands.specs.Found.{listed}
use Rattle.laws_commands.proofs.Leaves.{Tally, api, nothing, option, prefix, with_value}
use Rattle.laws_commands.proofs.Steps.{Place, first, second, past}
use Rattle.laws_commands.proofs.Readings.{IsAt, placed_in, read_by, read_words, place_word, stays_at, use_option, value_by}

-- ---- what values ask for

abbrev pub places_in : Tally → List (List ℕ)
places_in tally = listed (tally prefix) ++ listed (tally api)

abbrev pub asked : Tally → Option RunArgs
asked tally =
    run_with (prefix_and_api_in (places_in tally)) (seed_given (listed (tally (option seed)))) (polls_given (listed (tally (option polls))))
    (window_given (listed (tally (option window))))

-- the same, with more arguments behind them
abbrev run_after : Tally → List Argument → Option RunArgs
run_after tally arguments =
    run_with (prefix_and_api_in (places_in tally ++ positionals_of arguments)) (seed_given (listed (tally (option seed)) ++ values_of seed arguments))
    (polls_given (listed (tally (option polls)) ++ values_of polls arguments)) (window_given (listed (tally (option window)) ++ values_of window arguments))

no_more : (tally : Tally) → asked tally ≡ run_after tally []
no_more tally = λ i. run_with (prefix_and_api_in (sym (append-nil (places_in tally)) i)) (seed_given (sym (append-nil (listed (tally (option seed)))) i))
    (polls_given (sym (append-nil (listed (tally (option polls)))) i)) (window_given (sym (append-nil (listed (tally (option window)))) i))

pub no_seed : (found : Option (List ℕ × Api)) (most : Option ℕ) (width : Option (Option ℕ)) → run_with found None most width ≡ None
no_seed None most width = refl
no_seed (Some found) most width = refl

pub no_polls : (found : Option (List ℕ × Api)) (number : Option ℕ) (width : Option (Option ℕ)) → run_with found number None width ≡ None
no_polls None number width = refl
no_polls (Some found) None width = refl
no_polls (Some found) (Some number) width = refl

pub no_window : (found : Option (List ℕ × Api)) (number most : Option ℕ) → run_with found number most None ≡ None
no_window None number most = refl
no_window (Some found) None most = refl
no_window (Some found) (Some number) None = refl
no_window (Some found) (Some number) (Some most) = refl

-- ---- one argument more

given_first : (name : OptionName) (value : List ℕ) (tally : Tally) → tally (option name) ≡ None → (rest : List Argument)
    → run_after (with_value (option name) value tally) rest ≡ run_after tally (given name value ∷ rest)
given_first seed value tally none rest = rw none refl
given_first polls value tally none rest = rw none refl
given_first window value tally none rest = rw none refl

given_again : (name : OptionName) (value other : List ℕ) (tally : Tally) → tally (option name) ≡ Some other → (rest : List Argument)
    → run_after tally (given name value ∷ rest) ≡ None
given_again seed value other tally found rest = rw found (no_seed _ _ _)
given_again polls value other tally found rest = rw found (no_polls _ _ _)
given_again window value other tally found rest = rw found (no_window _ _ _)

-- `-` is no number
seed_hyphen : (more : List (List ℕ)) → seed_given (codes "-" ∷ more) ≡ None
seed_hyphen [] = refl
seed_hyphen (x ∷ xs) = refl

polls_hyphen : (more : List (List ℕ)) → polls_given (codes "-" ∷ more) ≡ None
polls_hyphen [] = refl
polls_hyphen (x ∷ xs) = refl

window_hyphen : (more : List (List ℕ)) → window_given (codes "-" ∷ more) ≡ None
window_hyphen [] = refl
window_hyphen (x ∷ xs) = refl

-- no argument behind it changes that
no_seed_given : (found : Option (List ℕ × Api)) (values : List (List ℕ)) (most : Option ℕ) (width : Option (Option ℕ)) → seed_given values ≡ None
    → run_with found (seed_given values) most width ≡ None
no_seed_given found values most width none = ap (λ number. run_with found number most width) none ∙ no_seed found most width

no_polls_given : (found : Option (List ℕ × Api)) (number : Option ℕ) (values : List (List ℕ)) (width : Option (Option ℕ)) → polls_given values ≡ None
    → run_with found number (polls_given values) width ≡ None
no_polls_given found number values width none = ap (λ most. run_with found number most width) none ∙ no_polls found number width

no_window_given : (found : Option (List ℕ × Api)) (number most : Option ℕ) (values : List (List ℕ)) → window_given values ≡ None
    → run_with found number most (window_given values) ≡ None
no_window_given found number most values none = ap (λ width. run_with found number most width) none ∙ no_window found number most

given_hyphen : (name : OptionName) (tally : Tally) (rest : List Argument) → run_after (with_value (option name) (codes "-") tally) rest ≡ None
given_hyphen seed tally rest =
    no_seed_given (prefix_and_api_in (places_in tally ++ positionals_of rest)) (codes "-" ∷ values_of seed rest)
    (polls_given (listed (tally (option polls)) ++ values_of polls rest)) (window_given (listed (tally (option window)) ++ values_of window rest))
    (seed_hyphen (values_of seed rest))
given_hyphen polls tally rest =
    no_polls_given (prefix_and_api_in (places_in tally ++ positionals_of rest)) (seed_given (listed (tally (option seed)) ++ values_of seed rest))
    (codes "-" ∷ values_of polls rest) (window_given (listed (tally (option window)) ++ values_of window rest)) (polls_hyphen (values_of polls rest))
given_hyphen window tally rest =
    no_window_given (prefix_and_api_in (places_in tally ++ positionals_of rest)) (seed_given (listed (tally (option seed)) ++ values_of seed rest))
    (polls_given (listed (tally (option polls)) ++ values_of polls rest)) (codes "-" ∷ values_of window rest) (window_hyphen (values_of window rest))

placed_first : (word : List ℕ) (tally : Tally) → IsAt first tally → (rest : List Argument) → run_after (with_value prefix word tally) rest ≡ run_after tally (placed word ∷ rest)
placed_first word tally is rest = rw (is.0, is.1) refl

placed_second : (word : List ℕ) (tally : Tally) → IsAt second tally → (rest : List Argument) → run_after (with_value api word tally) rest ≡ run_after tally (placed word ∷ rest)
placed_second word tally is rest = rw (is.1, is.2) refl

placed_past : (word : List ℕ) (tally : Tally) → IsAt past tally → (rest : List Argument) → run_after tally (placed word ∷ rest) ≡ None
placed_past word tally is rest = rw (is.2, is.3) refl

-- ---- the words behind

through : (f g : List Argument → Option RunArgs) (argument : Argument) (o : Option (List Argument)) → ((rest : List Argument) → f rest ≡ g (argument ∷ rest))
    → option_and_then f o ≡ option_and_then g (with_argument argument o)
through f g argument None same = refl
through f g argument (Some rest) same = same rest

never : (g : List Argument → Option RunArgs) (o : Option (List Argument)) → ((rest : List Argument) → g rest ≡ None) → option_and_then g o ≡ None
never g None none = refl
never g (Some rest) none = none rest

pub never_behind : {X : Type 0} (g : List Argument → Option X) (argument : Argument) (o : Option (List Argument)) → ((rest : List Argument) → g (argument ∷ rest) ≡ None)
    → option_and_then g (with_argument argument o) ≡ None
never_behind g argument None none = refl
never_behind g argument (Some rest) none = none rest

asks_behind : (words : List (List ℕ)) (place : Place) (tally : Tally) → IsAt place tally → option_and_then asked (placed_in place tally words) ≡ run_after tally (map placed words)
asks_behind [] place tally is = no_more tally
asks_behind (word ∷ words) first tally is = asks_behind words second (with_value prefix word tally) (word, refl, is.1) ∙ placed_first word tally is (map placed words)
asks_behind (word ∷ words) second tally is =
    asks_behind words past (with_value api word tally) (is.0, word, is.1, refl) ∙ placed_second word tally is (map placed words)
asks_behind (word ∷ words) past tally is = sym (placed_past word tally is (map placed words))

abbrev Asks : List (List ℕ) → Type 0
Asks words = (waits : Option OptionName) (place : Place) (tally : Tally) → IsAt place tally
    → option_and_then asked (read_words waits place tally words) ≡ option_and_then (run_after tally) (arguments_in waits words)

module _ (words : List (List ℕ)) (next : Asks words) (place : Place) (tally : Tally) (is : IsAt place tally) where
  asks_use : (name : OptionName) (value : List ℕ) (o : Option (List ℕ)) → tally (option name) ≡ o
      → option_and_then asked (cond (is_some o) None (read_words None place (with_value (option name) value tally) words))
      ≡ option_and_then (run_after tally) (with_argument (given name value) (arguments_in None words))
  asks_use name value None none =
      next None place (with_value (option name) value tally) (stays_at place name value tally is)
      ∙ through (run_after (with_value (option name) value tally)) (run_after tally) (given name value) (arguments_in None words) (given_first name value tally none)
  asks_use name value (Some other) found =
      sym (never_behind (run_after tally) (given name value) (arguments_in None words) (given_again name value other tally found))

  asks_hyphen : (name : OptionName) (o : Option (List ℕ)) → option_and_then asked (cond (is_some o) None (read_words None place (with_value (option name) (codes "-") tally) words)) ≡ None
  asks_hyphen name None =
      next None place (with_value (option name) (codes "-") tally) (stays_at place name (codes "-") tally is)
      ∙ never (run_after (with_value (option name) (codes "-") tally)) (arguments_in None words) (given_hyphen name tally)
  asks_hyphen name (Some other) = refl

asks_place : (word : List ℕ) (words : List (List ℕ)) → Asks words → (place : Place) (tally : Tally) → IsAt place tally
    → option_and_then asked (place_word place word tally (λ p t. read_words None p t words)) ≡ option_and_then (run_after tally) (with_argument (placed word) (arguments_in None words))
asks_place word words next first tally is =
    next None second (with_value prefix word tally) (word, refl, is.1)
    ∙ through (run_after (with_value prefix word tally)) (run_after tally) (placed word) (arguments_in None words) (placed_first word tally is)
asks_place word words next second tally is =
    next None past (with_value api word tally) (is.0, word, is.1, refl)
    ∙ through (run_after (with_value api word tally)) (run_after tally) (placed word) (arguments_in None words) (placed_second word tally is)
asks_place word words next past tally is = sym (never_behind (run_after tally) (placed word) (arguments_in None words) (placed_past word tally is))

asks_word : (word : List ℕ) (words : List (List ℕ)) → Asks words → (place : Place) (tally : Tally) → IsAt place tally → (of_word : WordKind)
    → option_and_then asked (read_by of_word word place tally (placed_in place tally words) (λ waits p t. read_words waits p t words))
    ≡ option_and_then (run_after tally) (argument_by of_word word words (λ waits. arguments_in waits words))
asks_word word words next place tally is separator = asks_behind words place tally is
asks_word word words next place tally is (joined name value) = asks_use words next place tally is name value (tally (option name)) refl
asks_word word words next place tally is (apart name) = next (Some name) place tally is
asks_word word words next place tally is unknown = refl
asks_word word words next place tally is positional = asks_place word words next place tally is

-- ---- the value of an option, as the next word

no_hyphen : (word : List ℕ) → begins_with word (codes "-") ≡ false → kind_in word ≡ positional
no_hyphen word e = go (bytes_eq word (codes "--")) refl
  where
    go : (b : Bool) → bytes_eq word (codes "--") ≡ b
        → cond b separator (cond (begins_with word (codes "-") && not (bytes_eq word (codes "-"))) (option_in option_names word) positional) ≡ positional
    go true same =
        let is : word ≡ codes "--" = (bytes_eq-Decides word (codes "--")).0 same in
        absurd (true≢false (ap (λ w. begins_with w (codes "-")) (sym is) ∙ e))
    go false same = ap (λ b. cond (b && not (bytes_eq word (codes "-"))) (option_in option_names word) positional) e

no_value : (names : List OptionName) (word : List ℕ) (o : Option Tally) → value_by (option_in names word) o ≡ None
no_value [] word o = refl
no_value (name ∷ names) word o =
    go (bytes_eq word (option_text name)) (begins_with word (option_text name ++ codes "=")) (drop (length (option_text name) + 1) word) (no_value names word o)
  where
    go : (b c : Bool) (value : List ℕ) → value_by (option_in names word) o ≡ None
        → value_by (cond b (apart name) (cond c (joined name value) (option_in names word))) o ≡ None
    go true c value rest = refl
    go false true value rest = refl
    go false false value rest = rest

hyphened : (word : List ℕ) (o : Option Tally) → begins_with word (codes "-") ≡ true → bytes_eq word (codes "-") ≡ false → value_by (kind_in word) o ≡ None
hyphened word o begins longer = go (bytes_eq word (codes "--"))
  where
    go : (b : Bool) → value_by (cond b separator (cond (begins_with word (codes "-") && not (bytes_eq word (codes "-"))) (option_in option_names word) positional)) o ≡ None
    go true = refl
    go false = ap₂ (λ b c. value_by (cond (b && not c) (option_in option_names word) positional) o) begins longer ∙ no_value option_names word o

asks_value : (word : List ℕ) (words : List (List ℕ)) → Asks words → (place : Place) (tally : Tally) → IsAt place tally → (name : OptionName)
    → option_and_then asked (value_by (kind_in word) (use_option name word tally (λ t. read_words None place t words)))
    ≡ option_and_then (run_after tally) (arguments_in (Some name) (word ∷ words))
asks_value word words next place tally is name = go (begins_with word (codes "-")) refl (bytes_eq word (codes "-")) refl
  where
    go : (b : Bool) → begins_with word (codes "-") ≡ b → (c : Bool) → bytes_eq word (codes "-") ≡ c
        → option_and_then asked (value_by (kind_in word) (use_option name word tally (λ t. read_words None place t words)))
        ≡ option_and_then (run_after tally) (cond b None (with_argument (given name word) (arguments_in None words)))
    go false begins c same =
        ap (λ k. option_and_then asked (value_by k (use_option name word tally (λ t. read_words None place t words)))) (no_hyphen word begins)
        ∙ asks_use words next place tally is name word (tally (option name)) refl
    go true begins false same = ap (option_and_then asked) (hyphened word (use_option name word tally (λ t. read_words None place t words)) begins same)
    go true begins true same =
        let is_hyphen : word ≡ codes "-" = (bytes_eq-Decides word (codes "-")).0 same in
        subst (λ w. option_and_then asked (value_by (kind_in w) (use_option name w tally (λ t. read_words None place t words))) ≡ None) (sym is_hyphen)
        (asks_hyphen words next place tally is name (tally (option name)))

-- ---- all words

asks : (words : List (List ℕ)) → Asks words
asks [] None place tally is = no_more tally
asks [] (Some name) place tally is = refl
asks (word ∷ words) None place tally is = asks_word word words (asks words) place tally is (kind_in word)
asks (word ∷ words) (Some name) place tally is = asks_value word words (asks words) place tally is name

pub asks_run : (words : List (List ℕ)) → option_and_then asked (read_words None first nothing words) ≡ run_in words
asks_run words = asks words None first nothing (refl, refl)
