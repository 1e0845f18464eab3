-- What `clap` makes of the words of `run` or `replay`, word by word.
use Rattle.std.proofs.Common.{◌≡◌, ◌∙◌, ℕ, cond, true, false, List, [], ◌∷◌, Option, Some, None, is_some, fold, refl, sym, ap, subst}
use Rattle.clap.specs.Walk.{Row, Waiting, Walk, has_row, idle, settled, used, walked}
use Rattle.clap.specs.Walk.{option as waits_for}
use Rattle.clap.specs.Kinds.{Kinds, or_else}
use Rattle.clap.specs.Faults.{settle_fault, use_fault, walk_fault}
use Rattle.clap.specs.declared.error.kind.ErrorKind.{ErrorKind}
use Rattle.clap.specs.declared.error.kind.ErrorKind.TheVariants.{ArgumentConflict, InvalidValue}
use Rattle.model_commands.specs.Grammar.{OptionName, seed, polls, window, name_text, WordKind, separator, joined, apart, unknown, positional, kind_in}
use Rattle.laws_commands.specs.Found.{EachUtf8}
use Rattle.laws_commands.proofs.WordKinds.{Meets, meets}
use Rattle.laws_commands.proofs.Leaves.{ArgumentId, Holds, Tally, api, has_row_is, holds_more, id_text, leaf, option, prefix, rule_of_option, run_rules, with_value}
use Rattle.laws_commands.proofs.Steps.{Pending, Place, all_rows, apart_fault, apart_walks, at, first, first_fault, first_fault_behind, first_walks, first_walks_behind, joined_fault, joined_walks, lacks_value, past, past_fault, past_fault_behind, rows_as, second, second_fault, second_fault_behind, second_walks, second_walks_behind, separator_passes, separator_walks, settles_as, settling, turn_at, unknown_fault, use_passes, use_repeats, value_fault, value_walks}

-- ---- the values that it finds, or that it refuses the words

abbrev pub place_word : Place → List ℕ → Tally → (Place → Tally → Option Tally) → Option Tally
place_word first word tally next = next second (with_value prefix word tally)
place_word second word tally next = next past (with_value api word tally)
place_word past word tally next = None

abbrev pub use_option : OptionName → List ℕ → Tally → (Tally → Option Tally) → Option Tally
use_option name value tally next = cond (is_some (tally (option name))) None (next (with_value (option name) value tally))

-- behind `--`
abbrev pub placed_in : Place → Tally → List (List ℕ) → Option Tally
placed_in place tally [] = Some tally
placed_in place tally (word ∷ words) = place_word place word tally (λ p t. placed_in p t words)

abbrev pub read_by : WordKind → List ℕ → Place → Tally → Option Tally → (Option OptionName → Place → Tally → Option Tally) → Option Tally
read_by separator word place tally behind next = behind
read_by (joined name value) word place tally behind next = use_option name value tally (next None place)
read_by (apart name) word place tally behind next = next (Some name) place tally
read_by unknown word place tally behind next = None
read_by positional word place tally behind next = place_word place word tally (next None)

-- the value of an option, as the next word: `-` too
abbrev pub value_by : WordKind → Option Tally → Option Tally
value_by positional found = found
value_by _ found = None

abbrev pub read_words : Option OptionName → Place → Tally → List (List ℕ) → Option Tally
read_words None place tally [] = Some tally
read_words (Some name) place tally [] = None
read_words None place tally (word ∷ words) =
    read_by (kind_in word) word place tally (placed_in place tally words) (λ waits p t. read_words waits p t words)
read_words (Some name) place tally (word ∷ words) =
    value_by (kind_in word) (use_option name word tally (λ t. read_words None place t words))

-- ---- what the walk comes to

abbrev pub fault_from : List ℕ → Walk → List (List ℕ) → Kinds
fault_from name walk words =
    or_else (walk_fault (leaf name) [] walk words) (settle_fault run_rules false (fold (walked run_rules []) walk words).held)

abbrev pub end_rows : Walk → List (List ℕ) → List Row
end_rows walk words = (settled run_rules (fold (walked run_rules []) walk words).held).rows

abbrev pub Agrees : List ℕ → Option Tally → Walk → List (List ℕ) → Type 0
Agrees name None walk words = fault_from name walk words ≡ [] → ⊥
Agrees name (Some tally) walk words = (fault_from name walk words ≡ []) × Holds (end_rows walk words) tally

module _ (name : List ℕ) where
  some_fault : (kind : ErrorKind) (kinds : Kinds) → kinds ≡ kind ∷ [] → kinds ≡ [] → ⊥
  some_fault kind kinds is none = cc

  goes_on : (found : Option Tally) (walk next : Walk) (word : List ℕ) (words : List (List ℕ)) → turn_at name walk word ≡ [] → walked run_rules [] walk word ≡ next
      → Agrees name found next words → Agrees name found walk (word ∷ words)
  unfolding walk_fault
  goes_on found walk next word words passes walks = go found
    where
      same : fault_from name walk (word ∷ words) ≡ fault_from name next words
      same =
          ap (λ k. or_else (or_else k (walk_fault (leaf name) [] (walked run_rules [] walk word) words)) (settle_fault run_rules false (fold (walked run_rules []) (walked run_rules [] walk word) words).held)) passes
          ∙ ap (λ v. or_else (walk_fault (leaf name) [] v words) (settle_fault run_rules false (fold (walked run_rules []) v words).held)) walks

      go : (o : Option Tally) → Agrees name o next words → Agrees name o walk (word ∷ words)
      go None no_fault = λ none. no_fault (sym same ∙ none)
      go (Some tally) facts = (same ∙ facts.0, subst (λ v. Holds (end_rows v words) tally) (sym walks) facts.1)

  stops : (kind : ErrorKind) (walk : Walk) (word : List ℕ) (words : List (List ℕ)) → turn_at name walk word ≡ kind ∷ [] → Agrees name None walk (word ∷ words)
  unfolding walk_fault
  stops kind walk word words fault none =
      some_fault kind _ (ap (λ k. or_else (or_else k (walk_fault (leaf name) [] (walked run_rules [] walk word) words)) (settle_fault run_rules false (fold (walked run_rules []) (walked run_rules [] walk word) words).held)) fault) none

  ends_badly : (kind : ErrorKind) (walk : Walk) → settle_fault run_rules false walk.held ≡ kind ∷ [] → Agrees name None walk []
  unfolding walk_fault
  ends_badly kind walk fault none = some_fault kind _ fault none

  ends_well : (walk : Walk) (tally : Tally) → settle_fault run_rules false walk.held ≡ [] → Holds (settled run_rules walk.held).rows tally → Agrees name (Some tally) walk []
  unfolding walk_fault
  ends_well walk tally passes holds = (passes, holds)

-- ---- an option is given twice, or lacks its value: whatever follows is refused

module _ (name : List ℕ) (kind : ErrorKind) (rows : List Row) (pending : Pending) (fault : settling rows pending ≡ kind ∷ []) where
  doomed_behind : (words : List (List ℕ)) (waiting : Waiting) (place : Place) → Agrees name None (at rows pending waiting place true) words
  doomed_behind [] waiting place = ends_badly name kind (at rows pending waiting place true) fault
  doomed_behind (word ∷ words) waiting first = stops name kind (at rows pending waiting first true) word words (first_fault_behind name rows pending waiting word ∙ fault)
  doomed_behind (word ∷ words) waiting second = stops name kind (at rows pending waiting second true) word words (second_fault_behind name rows pending waiting word ∙ fault)
  doomed_behind (word ∷ words) waiting past = stops name _ (at rows pending waiting past true) word words (past_fault_behind name rows pending waiting word)

  doomed_at : (word : List ℕ) (words : List (List ℕ)) (place : Place) (of_word : WordKind) → Meets of_word word → Agrees name None (at rows pending idle place false) (word ∷ words)
  doomed_at word words place separator met =
      goes_on name None (at rows pending idle place false) (at rows pending idle place true) word words (separator_passes name rows pending idle place word met)
      (separator_walks rows pending idle place word met) (doomed_behind words idle place)
  doomed_at word words place (joined other value) met =
      stops name kind (at rows pending idle place false) word words
      (joined_fault name rows pending idle place word other value met.0 met.1 ∙ ap (λ k. or_else (or_else k (use_fault false (rule_of_option other) (value ∷ []) (all_rows rows pending))) []) fault)
  doomed_at word words place (apart other) met =
      stops name kind (at rows pending idle place false) word words (apart_fault name rows pending idle place word other met.0 met.1 ∙ ap (λ k. or_else k []) fault)
  doomed_at word words place unknown met = stops name _ (at rows pending idle place false) word words (unknown_fault name rows pending idle place word met.0 met.1)
  doomed_at word words first positional met = stops name kind (at rows pending idle first false) word words (first_fault name rows pending word met ∙ fault)
  doomed_at word words second positional met = stops name kind (at rows pending idle second false) word words (second_fault name rows pending word met ∙ fault)
  doomed_at word words past positional met = stops name _ (at rows pending idle past false) word words (past_fault name rows pending word met)

doomed : (name : List ℕ) (kind : ErrorKind) (rows : List Row) (pending : Pending) → settling rows pending ≡ kind ∷ []
    → (words : List (List ℕ)) → EachUtf8 words → (place : Place) → Agrees name None (at rows pending idle place false) words
doomed name kind rows pending fault [] each place = ends_badly name kind (at rows pending idle place false) fault
doomed name kind rows pending fault (word ∷ words) each place = doomed_at name kind rows pending fault word words place (kind_in word) (meets word each.0)

-- ---- all is well so far

abbrev pub Live : List Row → Pending → Tally → Type 0
Live rows pending tally = (settling rows pending ≡ []) × Holds (all_rows rows pending) tally

-- which positional arguments have a value
abbrev pub IsAt : Place → Tally → Type 0
IsAt first tally = (tally prefix ≡ None) × (tally api ≡ None)
IsAt second tally = (word : List ℕ) × (tally prefix ≡ Some word) × (tally api ≡ None)
IsAt past tally = (word : List ℕ) × (other : List ℕ) × (tally prefix ≡ Some word) × (tally api ≡ Some other)

-- an option changes no positional argument
other_prefix : (option_name : OptionName) (value : List ℕ) (tally : Tally) → with_value (option option_name) value tally prefix ≡ tally prefix
other_prefix seed value tally = refl
other_prefix polls value tally = refl
other_prefix window value tally = refl

other_api : (option_name : OptionName) (value : List ℕ) (tally : Tally) → with_value (option option_name) value tally api ≡ tally api
other_api seed value tally = refl
other_api polls value tally = refl
other_api window value tally = refl

pub stays_at : (place : Place) (option_name : OptionName) (value : List ℕ) (tally : Tally) → IsAt place tally → IsAt place (with_value (option option_name) value tally)
stays_at first option_name value tally is = (other_prefix option_name value tally ∙ is.0, other_api option_name value tally ∙ is.1)
stays_at second option_name value tally is = (is.0, other_prefix option_name value tally ∙ is.1, other_api option_name value tally ∙ is.2)
stays_at past option_name value tally is = (is.0, is.1, other_prefix option_name value tally ∙ is.2, other_api option_name value tally ∙ is.3)

no_row : (id : ArgumentId) (rows : List Row) (tally : Tally) → Holds rows tally → tally id ≡ None → has_row (id_text id) rows ≡ false
no_row id rows tally holds none = has_row_is id rows tally holds ∙ ap is_some none

a_row : (id : ArgumentId) (rows : List Row) (tally : Tally) (value : List ℕ) → Holds rows tally → tally id ≡ Some value → has_row (id_text id) rows ≡ true
a_row id rows tally value holds found = has_row_is id rows tally holds ∙ ap is_some found

-- one argument is pending
lives : (id : ArgumentId) (value : List ℕ) (rows : List Row) (tally : Tally) → Holds rows tally → tally id ≡ None
    → Live rows (Some (id_text id, value ∷ [])) (with_value id value tally)
lives id value rows tally holds none = (
  settles_as id value rows ∙ use_passes id value rows (no_row id rows tally holds none),
  subst (λ xs. Holds xs (with_value id value tally)) (sym (rows_as id value rows)) (holds_more id value rows tally holds none),
)

repeats : (id : ArgumentId) (value other : List ℕ) (rows : List Row) (tally : Tally) → Holds rows tally → tally id ≡ Some other
    → settling rows (Some (id_text id, value ∷ [])) ≡ ArgumentConflict ∷ []
repeats id value other rows tally holds found = settles_as id value rows ∙ use_repeats id value rows (a_row id rows tally other holds found)

-- ---- behind `--`

behind : (name : List ℕ) (words : List (List ℕ)) (waiting : Waiting) (place : Place) (tally : Tally) (rows : List Row) (pending : Pending) → Live rows pending tally → IsAt place tally
    → Agrees name (placed_in place tally words) (at rows pending waiting place true) words
behind name [] waiting place tally rows pending live is = ends_well name (at rows pending waiting place true) tally live.0 live.1
behind name (word ∷ words) waiting first tally rows pending live is =
    goes_on name _ (at rows pending waiting first true) (at (all_rows rows pending) (Some (id_text prefix, word ∷ [])) idle second true) word words
    (first_fault_behind name rows pending waiting word ∙ live.0) (first_walks_behind rows pending waiting word)
    (behind name words idle second (with_value prefix word tally) (all_rows rows pending) (Some (id_text prefix, word ∷ []))
    (lives prefix word (all_rows rows pending) tally live.1 is.0) (word, refl, is.1))
behind name (word ∷ words) waiting second tally rows pending live is =
    goes_on name _ (at rows pending waiting second true) (at (all_rows rows pending) (Some (id_text api, word ∷ [])) idle past true) word words
    (second_fault_behind name rows pending waiting word ∙ live.0) (second_walks_behind rows pending waiting word)
    (behind name words idle past (with_value api word tally) (all_rows rows pending) (Some (id_text api, word ∷ []))
    (lives api word (all_rows rows pending) tally live.1 is.2) (is.0, word, is.1, refl))
behind name (word ∷ words) waiting past tally rows pending live is =
    stops name _ (at rows pending waiting past true) word words (past_fault_behind name rows pending waiting word)

-- ---- all words

abbrev pub waiting_for : Option OptionName → Waiting
waiting_for None = idle
waiting_for (Some option_name) = waits_for (name_text option_name)

abbrev pub Stands : Option OptionName → List Row → Pending → Tally → Type 0
Stands None rows pending tally = Live rows pending tally
Stands (Some option_name) rows pending tally = (pending ≡ Some (name_text option_name, [])) × Holds rows tally

-- the words after this one are read so
abbrev ReadsOn : List ℕ → List (List ℕ) → Type 0
ReadsOn name words = (waits : Option OptionName) (place : Place) (tally : Tally) (rows : List Row) (pending : Pending) → Stands waits rows pending tally → IsAt place tally
    → Agrees name (read_words waits place tally words) (at rows pending (waiting_for waits) place false) words

module _ (name : List ℕ) (word : List ℕ) (words : List (List ℕ)) (next : ReadsOn name words) (place : Place) (tally : Tally) (rows : List Row) (is : IsAt place tally) where
  joined_read : (pending : Pending) → Live rows pending tally → (option_name : OptionName) (value : List ℕ) → Meets (joined option_name value) word → (o : Option (List ℕ)) → tally (option option_name) ≡ o
      → Agrees name (cond (is_some o) None (read_words None place (with_value (option option_name) value tally) words)) (at rows pending idle place false) (word ∷ words)
  joined_read pending live option_name value met None none =
      goes_on name _ (at rows pending idle place false) (at (used (rule_of_option option_name) (value ∷ []) (all_rows rows pending)) None idle place false) word words
      (joined_fault name rows pending idle place word option_name value met.0 met.1
      ∙ ap (λ k. or_else (or_else k (use_fault false (rule_of_option option_name) (value ∷ []) (all_rows rows pending))) []) live.0
      ∙ ap (λ k. or_else k []) (use_passes (option option_name) value (all_rows rows pending) (no_row (option option_name) (all_rows rows pending) tally live.1 none)))
      (joined_walks rows pending place word option_name value met.0 met.1)
      (next None place (with_value (option option_name) value tally) (used (rule_of_option option_name) (value ∷ []) (all_rows rows pending)) None
      (refl, holds_more (option option_name) value (all_rows rows pending) tally live.1 none) (stays_at place option_name value tally is))
  joined_read pending live option_name value met (Some other) found =
      stops name _ (at rows pending idle place false) word words
      (joined_fault name rows pending idle place word option_name value met.0 met.1
      ∙ ap (λ k. or_else (or_else k (use_fault false (rule_of_option option_name) (value ∷ []) (all_rows rows pending))) []) live.0
      ∙ ap (λ k. or_else k []) (use_repeats (option option_name) value (all_rows rows pending) (a_row (option option_name) (all_rows rows pending) tally other live.1 found)))

  value_read : EachUtf8 words → (option_name : OptionName) → Meets positional word → Holds rows tally → (o : Option (List ℕ)) → tally (option option_name) ≡ o
      → Agrees name (cond (is_some o) None (read_words None place (with_value (option option_name) word tally) words)) (at rows (Some (name_text option_name, [])) (waits_for (name_text option_name)) place false) (word ∷ words)
  value_read each option_name met holds None none =
      goes_on name _ (at rows (Some (name_text option_name, [])) (waits_for (name_text option_name)) place false) (at rows (Some (name_text option_name, word ∷ [])) idle place false) word words
      (value_fault name rows place word option_name met) (value_walks rows place word option_name met)
      (next None place (with_value (option option_name) word tally) rows (Some (name_text option_name, word ∷ [])) (lives (option option_name) word rows tally holds none)
      (stays_at place option_name word tally is))
  value_read each option_name met holds (Some other) found =
      goes_on name None (at rows (Some (name_text option_name, [])) (waits_for (name_text option_name)) place false) (at rows (Some (name_text option_name, word ∷ [])) idle place false) word words
      (value_fault name rows place word option_name met) (value_walks rows place word option_name met)
      (doomed name ArgumentConflict rows (Some (name_text option_name, word ∷ [])) (repeats (option option_name) word other rows tally holds found) words each place)

  waiting_read : EachUtf8 words → (option_name : OptionName) → Holds rows tally → (of_word : WordKind) → Meets of_word word
      → Agrees name (value_by of_word (use_option option_name word tally (λ t. read_words None place t words)))
      (at rows (Some (name_text option_name, [])) (waits_for (name_text option_name)) place false) (word ∷ words)
  waiting_read each option_name holds positional met = value_read each option_name met holds (tally (option option_name)) refl
  waiting_read each option_name holds separator met =
      goes_on name None (at rows (Some (name_text option_name, [])) (waits_for (name_text option_name)) place false) (at rows (Some (name_text option_name, [])) (waits_for (name_text option_name)) place true) word words
      (separator_passes name rows (Some (name_text option_name, [])) (waits_for (name_text option_name)) place word met)
      (separator_walks rows (Some (name_text option_name, [])) (waits_for (name_text option_name)) place word met)
      (doomed_behind name InvalidValue rows (Some (name_text option_name, [])) (lacks_value rows option_name) words (waits_for (name_text option_name)) place)
  waiting_read each option_name holds (joined other value) met =
      stops name InvalidValue (at rows (Some (name_text option_name, [])) (waits_for (name_text option_name)) place false) word words
      (joined_fault name rows (Some (name_text option_name, [])) (waits_for (name_text option_name)) place word other value met.0 met.1
      ∙ ap (λ k. or_else (or_else k (use_fault false (rule_of_option other) (value ∷ []) (all_rows rows (Some (name_text option_name, []))))) []) (lacks_value rows option_name))
  waiting_read each option_name holds (apart other) met =
      stops name InvalidValue (at rows (Some (name_text option_name, [])) (waits_for (name_text option_name)) place false) word words
      (apart_fault name rows (Some (name_text option_name, [])) (waits_for (name_text option_name)) place word other met.0 met.1 ∙ ap (λ k. or_else k []) (lacks_value rows option_name))
  waiting_read each option_name holds unknown met =
      stops name _ (at rows (Some (name_text option_name, [])) (waits_for (name_text option_name)) place false) word words
      (unknown_fault name rows (Some (name_text option_name, [])) (waits_for (name_text option_name)) place word met.0 met.1)

placed_read : (name word : List ℕ) (words : List (List ℕ)) → ReadsOn name words → (place : Place) (tally : Tally) (rows : List Row) (pending : Pending) → IsAt place tally → Live rows pending tally → Meets positional word
    → Agrees name (place_word place word tally (λ p t. read_words None p t words)) (at rows pending idle place false) (word ∷ words)
placed_read name word words next first tally rows pending is live met =
    goes_on name _ (at rows pending idle first false) (at (all_rows rows pending) (Some (id_text prefix, word ∷ [])) idle second false) word words
    (first_fault name rows pending word met ∙ live.0) (first_walks rows pending word met)
    (next None second (with_value prefix word tally) (all_rows rows pending) (Some (id_text prefix, word ∷ []))
    (lives prefix word (all_rows rows pending) tally live.1 is.0) (word, refl, is.1))
placed_read name word words next second tally rows pending is live met =
    goes_on name _ (at rows pending idle second false) (at (all_rows rows pending) (Some (id_text api, word ∷ [])) idle past false) word words
    (second_fault name rows pending word met ∙ live.0) (second_walks rows pending word met)
    (next None past (with_value api word tally) (all_rows rows pending) (Some (id_text api, word ∷ []))
    (lives api word (all_rows rows pending) tally live.1 is.2) (is.0, word, is.1, refl))
placed_read name word words next past tally rows pending is live met =
    stops name _ (at rows pending idle past false) word words (past_fault name rows pending word met)

word_read : (name word : List ℕ) (words : List (List ℕ)) → ReadsOn name words → (place : Place) (tally : Tally) (rows : List Row) (pending : Pending) → IsAt place tally → Live rows pending tally
    → (of_word : WordKind) → Meets of_word word
    → Agrees name (read_by of_word word place tally (placed_in place tally words) (λ waits p t. read_words waits p t words)) (at rows pending idle place false) (word ∷ words)
word_read name word words next place tally rows pending is live separator met =
    goes_on name _ (at rows pending idle place false) (at rows pending idle place true) word words (separator_passes name rows pending idle place word met)
    (separator_walks rows pending idle place word met) (behind name words idle place tally rows pending live is)
word_read name word words next place tally rows pending is live (joined option_name value) met =
    joined_read name word words next place tally rows is pending live option_name value met (tally (option option_name)) refl
word_read name word words next place tally rows pending is live (apart option_name) met =
    goes_on name _ (at rows pending idle place false) (at (all_rows rows pending) (Some (name_text option_name, [])) (waits_for (name_text option_name)) place false) word words
    (apart_fault name rows pending idle place word option_name met.0 met.1 ∙ ap (λ k. or_else k []) live.0)
    (apart_walks rows pending place word option_name met.0 met.1)
    (next (Some option_name) place tally (all_rows rows pending) (Some (name_text option_name, [])) (refl, live.1) is)
word_read name word words next place tally rows pending is live unknown met =
    stops name _ (at rows pending idle place false) word words (unknown_fault name rows pending idle place word met.0 met.1)
word_read name word words next place tally rows pending is live positional met = placed_read name word words next place tally rows pending is live met

pub reads : (name : List ℕ) (words : List (List ℕ)) → EachUtf8 words → ReadsOn name words
reads name [] each None place tally rows pending live is = ends_well name (at rows pending idle place false) tally live.0 live.1
reads name [] each (Some option_name) place tally rows pending stands is =
    ends_badly name InvalidValue (at rows pending (waits_for (name_text option_name)) place false) (ap (settling rows) stands.0 ∙ lacks_value rows option_name)
reads name (word ∷ words) each None place tally rows pending live is =
    word_read name word words (reads name words each.1) place tally rows pending is live (kind_in word) (meets word each.0)
reads name (word ∷ words) each (Some option_name) place tally rows pending stands is =
    subst (λ p. Agrees name (value_by (kind_in word) (use_option option_name word tally (λ t. read_words None place t words))) (at rows p (waits_for (name_text option_name)) place false) (word ∷ words))
    (sym stands.0) (waiting_read name word words (reads name words each.1) place tally rows is each.1 option_name stands.1 (kind_in word) (meets word each.0))
