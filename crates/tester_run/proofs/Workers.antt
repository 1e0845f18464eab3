-- What is asked has no more workers than there may be.
use Rattle.std.proofs.Common.{◌≡◌, ◌&&◌, ◌≤◌, ℕ, Bool, cond, true, false, true≢false, nat_le, leb-true, List, [], ◌∷◌, Option, Some, None, option_map, option_and_then, sym, subst, refl}
use Rattle.std.specs.Prelude.{IfSome}
use Rattle.std.specs.Str.Parse.{digits_value}
use Rattle.model_commands.specs.declared.args.RunArgs.{RunArgs}
use Rattle.model_commands.specs.declared.args.Args.{Args}
use Rattle.model_commands.specs.declared.args.Args.TheVariants.{Run, Replay, Gen, Watch, Asm, Disasm}
use Rattle.model_commands.specs.Grammar.{Argument, CommandName, args_of, arguments_in, asked_of, bare_of, command_in, command_names, gen_in, given, is_numeral, number_in, placed, run_in, workers_of, run, replay, gen, watch, asm, disasm}
use Rattle.tester_run.specs.Answering.{HasFewWorkers}

abbrev AtMost : ℕ → Option ℕ → Type 0
AtMost most found = IfSome found (λ n. n ≤ most)

both : (a b : Bool) → (a && b) ≡ true → (a ≡ true) × (b ≡ true)
both true b e = (refl, e)
both false b e = absurd (true≢false (sym e))

number_at_most : (least most : ℕ) (word : List ℕ) → AtMost most (number_in least most word)
number_at_most least most word = go (is_numeral word && (nat_le least (digits_value 10 word) && nat_le (digits_value 10 word) most)) refl
  where
    go : (b : Bool) → (is_numeral word && (nat_le least (digits_value 10 word) && nat_le (digits_value 10 word) most)) ≡ b
        → AtMost most (cond b (Some (digits_value 10 word)) None)
    go true e = leb-true _ _ (both _ _ (both _ _ e).1).1
    go false e = tt

workers_at_most : (arguments : Option (List Argument)) → AtMost 30 (option_and_then workers_of arguments)
workers_at_most None = tt
workers_at_most (Some []) = tt
workers_at_most (Some (given name value ∷ rest)) = tt
workers_at_most (Some (placed word ∷ [])) = number_at_most 1 30 word
workers_at_most (Some (placed word ∷ other ∷ more)) = tt

few_of_run : (found : Option RunArgs) → IfSome (option_map Run found) HasFewWorkers
few_of_run None = tt
few_of_run (Some arguments) = tt

few_of_replay : (found : Option RunArgs) → IfSome (option_map Replay found) HasFewWorkers
few_of_replay None = tt
few_of_replay (Some arguments) = tt

few_of_gen : (found : Option ℕ) → AtMost 30 found → IfSome (option_map Gen found) HasFewWorkers
few_of_gen None at_most = tt
few_of_gen (Some workers) at_most = at_most

few_of_bare : (command : Args) → HasFewWorkers command → (arguments : Option (List Argument))
    → IfSome (option_and_then (bare_of command) arguments) HasFewWorkers
few_of_bare command few None = tt
few_of_bare command few (Some []) = few
few_of_bare command few (Some (argument ∷ more)) = tt

few_of : (command : CommandName) (words : List (List ℕ)) → IfSome (asked_of command words) HasFewWorkers
few_of run words = few_of_run (run_in words)
few_of replay words = few_of_replay (run_in words)
few_of gen words = few_of_gen (gen_in words) (workers_at_most (arguments_in None words))
few_of watch words = few_of_bare Watch tt (arguments_in None words)
few_of asm words = few_of_bare Asm tt (arguments_in None words)
few_of disasm words = few_of_bare Disasm tt (arguments_in None words)

few_named : (command : Option CommandName) (words : List (List ℕ))
    → IfSome (option_and_then (λ (name : CommandName). asked_of name words) command) HasFewWorkers
few_named None words = tt
few_named (Some command) words = few_of command words

few_asked : (words : List (List ℕ)) → IfSome (args_of words) HasFewWorkers
few_asked [] = tt
few_asked (word ∷ words) = few_named (command_in command_names word) words

pub has_few : (words : List (List ℕ)) (asked : Args) → args_of words ≡ Some asked → HasFewWorkers asked
has_few words asked is = subst (λ (found : Option Args). IfSome found HasFewWorkers) is (few_asked words)
