use Rattle.std.proofs.Common.{◌≡◌, ◌∙◌, Option, Some, None, MatchResult, map, ap, subst}
use Rattle.clap.specs.Simple.{app_of, subcommand_rows_of}
use Rattle.command_words.specs.declared.fault.ArgFault.TheVariants.{Usage}
use Rattle.model_commands.specs.declared.args.Args.{Args}
use Rattle.laws_commands.proofs.Calling.{found_words, refused_words}
use Rattle.command_words.proofs.reading.read_args.Goals as goal

pub returns-in-Ok : goal.returns-in-Ok
returns-in-Ok c =
    let same = ap (map (λ text. text.now)) c.as_slice.ensures.value ∙ c.in_ok-words.ensures.same in
    let asks = found_words (app_of c.in_ok-command.command) (map (λ text. text.now) c.as_slice.result.now) c.args.args.now c.in_ok-command.ensures.app
    same c.in_ok-words.ensures.utf8 (subcommand_rows_of c.in-Ok.matches) c.in-Ok.ensures.kinds (λ simple. (c.in-Ok.ensures.matches simple).1) in
    subst (λ (found : Option Args). MatchResult c.args_found.result (λ asked. found ≡ Some asked) (λ fault. fault ≡ Usage → found ≡ None)) asks c.args_found.ensures

pub returns : goal.returns
returns c usage =
    let same = ap (map (λ text. text.now)) c.as_slice.ensures.value ∙ c.in_ok-words.ensures.same in
    refused_words (app_of c.in_ok-command.command) (map (λ text. text.now) c.as_slice.result.now) c.args.args.now c.in_ok-command.ensures.app
    same c.in_ok-words.ensures.utf8 c.in-Err.error c.in-Err.ensures.kinds (c.fault_of.ensures usage)
