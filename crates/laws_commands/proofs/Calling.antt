-- What a caller of `clap` cites: an answer that refuses the words, one that has matches, and what their texts ask for.
use Rattle.std.proofs.Common.{◌≡◌, ◌∙◌, ◌++◌, ⊎_elim, inl, inr, ℕ, true, refl, List, Option, Some, None, option_map, Bor, codes, sym, ap, ap₂, subst, []}
use Rattle.clap.proofs.WalkLemmas.{first_value-rows}
use Rattle.clap.specs.Matches.{first_value}
use Rattle.clap.specs.Simple.{App, is_simple, subcommand_of}
use Rattle.clap.specs.Walk.{Row, first_of, rows_of}
use Rattle.clap.specs.declared.parser.matches.Found.{Found}
use Rattle.clap.specs.Kinds.{HasKind, IsAmong}
use Rattle.clap.specs.Faults.{fault_of, is_simple_and_free}
use Rattle.clap.specs.Values.{kind_of}
use Rattle.clap.specs.declared.error.Error.{Error}
use Rattle.clap.specs.declared.error.kind.ErrorKind.{ErrorKind}
use Rattle.clap.specs.declared.error.kind.ErrorKind.TheVariants.{OutOfMemory}
use Rattle.model_database.specs.declared.Api.{Api}
use Rattle.model_commands.specs.Grammar.{args_of, polls_given, prefix_and_api_in, run_with, seed_given, window_given, workers_in}
use Rattle.laws_commands.specs.Found.{EachUtf8, asked_by, asked_in, listed, workers_asked_in}
use Rattle.laws_commands.specs.Program.{program}
use Rattle.laws_commands.proofs.Asking.{no_polls, no_seed, no_window}
use Rattle.laws_commands.proofs.Deciding.{Decided, decided}

program_is_simple : is_simple_and_free program ≡ true
program_is_simple = refl

among_none : (words : List (List ℕ)) (kind : ErrorKind) → EachUtf8 words → IsAmong kind (fault_of program words) → args_of words ≡ None
among_none words kind each among = go (decided words each)
  where
    go : Decided words → args_of words ≡ None
    go (inl passes) = absurd (subst (IsAmong kind) passes.0 among)
    go (inr refuses) = refuses.1

no_fault : (words : List (List ℕ)) → EachUtf8 words → fault_of program words ≡ [] → asked_by (subcommand_of program words) ≡ args_of words
no_fault words each none = go (decided words each)
  where
    go : Decided words → asked_by (subcommand_of program words) ≡ args_of words
    go (inl passes) = passes.1
    go (inr refuses) = absurd (refuses.0 none)

module _ (app : App) (texts words : List (List ℕ)) (is_program : app ≡ program) (same : texts ≡ words) (each : EachUtf8 words) where
  -- an error of another kind than want of memory
  pub refused_words : (error : Error) → (is_simple_and_free app ≡ true → HasKind (fault_of app texts) error) → (kind_of error ≡ OutOfMemory → ⊥) → args_of words ≡ None
  refused_words error fails other =
      ⊎_elim (λ memory. absurd (other memory))
      (λ among. among_none words (kind_of error) each (subst (IsAmong (kind_of error)) (ap₂ fault_of is_program same) among))
      (fails (ap is_simple_and_free is_program ∙ program_is_simple))

  -- the subcommand that was met, with its matches
  pub found_words : (found : Option (List ℕ × List Row)) → (is_simple_and_free app ≡ true → fault_of app texts ≡ []) → (is_simple app ≡ true → found ≡ subcommand_of app texts)
      → asked_by found ≡ args_of words
  found_words found passes matches =
      ap asked_by (matches (ap is_simple is_program ∙ refl) ∙ ap₂ subcommand_of is_program same)
      ∙ no_fault words each (sym (ap₂ fault_of is_program same) ∙ passes (ap is_simple_and_free is_program ∙ program_is_simple))

-- ---- what `get_str` gives, of the arguments of `run` and `replay`

abbrev pub texts_of : Option (Bor (List ℕ)) → List (List ℕ)
texts_of text = listed (option_map (λ t. t.now) text)

value_is : (found : Found) (id : List ℕ) (text : Option (Bor (List ℕ))) → option_map (λ t. t.now) text ≡ first_value found id → listed (first_of id (rows_of found)) ≡ texts_of text
value_is found id text is = ap listed (sym (is ∙ first_value-rows found id))

-- of the argument of `gen`
pub workers_are : (found : Found) (text : Option (Bor (List ℕ))) → option_map (λ t. t.now) text ≡ first_value found (codes "workers")
    → workers_asked_in (rows_of found) ≡ workers_in (texts_of text)
workers_are found text is = ap workers_in (value_is found (codes "workers") text is)

module _ (found : Found) where
  abbrev rows : List Row
  rows = rows_of found

  abbrev places : List (List ℕ)
  places = listed (first_of (codes "prefix") rows) ++ listed (first_of (codes "api") rows)

  abbrev seeds : List (List ℕ)
  seeds = listed (first_of (codes "seed") rows)

  abbrev most : List (List ℕ)
  most = listed (first_of (codes "polls") rows)

  abbrev widths : List (List ℕ)
  widths = listed (first_of (codes "window") rows)

  prefix_is : (text version : Option (Bor (List ℕ))) → option_map (λ t. t.now) text ≡ first_value found (codes "prefix")
      → option_map (λ t. t.now) version ≡ first_value found (codes "api") → prefix_and_api_in places ≡ prefix_and_api_in (texts_of text ++ texts_of version)
  prefix_is text version is version_is = ap₂ (λ a b. prefix_and_api_in (a ++ b)) (value_is found (codes "prefix") text is) (value_is found (codes "api") version version_is)

  pub without_prefix : (text version : Option (Bor (List ℕ))) → option_map (λ t. t.now) text ≡ first_value found (codes "prefix")
      → option_map (λ t. t.now) version ≡ first_value found (codes "api") → prefix_and_api_in (texts_of text ++ texts_of version) ≡ None → asked_in rows ≡ None
  without_prefix text version is version_is none =
      ap (λ p. run_with p (seed_given seeds) (polls_given most) (window_given widths)) (prefix_is text version is version_is ∙ none)

  pub without_seed : (text : Option (Bor (List ℕ))) → option_map (λ t. t.now) text ≡ first_value found (codes "seed") → seed_given (texts_of text) ≡ None → asked_in rows ≡ None
  without_seed text is none =
      ap (λ n. run_with (prefix_and_api_in places) n (polls_given most) (window_given widths)) (ap seed_given (value_is found (codes "seed") text is) ∙ none)
      ∙ no_seed (prefix_and_api_in places) (polls_given most) (window_given widths)

  pub without_polls : (text : Option (Bor (List ℕ))) → option_map (λ t. t.now) text ≡ first_value found (codes "polls") → polls_given (texts_of text) ≡ None → asked_in rows ≡ None
  without_polls text is none =
      ap (λ n. run_with (prefix_and_api_in places) (seed_given seeds) n (window_given widths)) (ap polls_given (value_is found (codes "polls") text is) ∙ none)
      ∙ no_polls (prefix_and_api_in places) (seed_given seeds) (window_given widths)

  pub without_window : (text : Option (Bor (List ℕ))) → option_map (λ t. t.now) text ≡ first_value found (codes "window") → window_given (texts_of text) ≡ None → asked_in rows ≡ None
  without_window text is none =
      ap (run_with (prefix_and_api_in places) (seed_given seeds) (polls_given most)) (ap window_given (value_is found (codes "window") text is) ∙ none)
      ∙ no_window (prefix_and_api_in places) (seed_given seeds) (polls_given most)

  pub with_all : (text version number bound width : Option (Bor (List ℕ))) → option_map (λ t. t.now) text ≡ first_value found (codes "prefix")
      → option_map (λ t. t.now) version ≡ first_value found (codes "api") → option_map (λ t. t.now) number ≡ first_value found (codes "seed")
      → option_map (λ t. t.now) bound ≡ first_value found (codes "polls") → option_map (λ t. t.now) width ≡ first_value found (codes "window") → (prefix : List ℕ) (api : Api) (seed polls : ℕ) (window : Option ℕ)
      → prefix_and_api_in (texts_of text ++ texts_of version) ≡ Some (prefix, api) → seed_given (texts_of number) ≡ Some seed → polls_given (texts_of bound) ≡ Some polls → window_given (texts_of width) ≡ Some window
      → asked_in rows ≡ Some (record { prefix = prefix; api = api; seed = seed; polls = polls; window = window })
  with_all text version number bound width text_is version_is number_is bound_is width_is prefix api seed polls window prefix_found seed_found polls_found window_found =
      let first : prefix_and_api_in places ≡ Some (prefix, api) = prefix_is text version text_is version_is ∙ prefix_found in
      let second : seed_given seeds ≡ Some seed = ap seed_given (value_is found (codes "seed") number number_is) ∙ seed_found in
      let third : polls_given most ≡ Some polls = ap polls_given (value_is found (codes "polls") bound bound_is) ∙ polls_found in
      let fourth : window_given widths ≡ Some window = ap window_given (value_is found (codes "window") width width_is) ∙ window_found in
      λ i. run_with (first i) (second i) (third i) (fourth i)
