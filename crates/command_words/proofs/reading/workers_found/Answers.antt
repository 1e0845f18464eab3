use Rattle.std.proofs.Common.{◌∙◌, ℕ, List, Option, Bor, ap, sym}
use Rattle.clap.specs.Matches.{found_of}
use Rattle.model_commands.specs.Grammar.{workers_in}
use Rattle.laws_commands.proofs.Calling.{texts_of, workers_are}
use Rattle.command_words.proofs.reading.workers_found.Goals as goal

abbrev asked : Option (Bor (List ℕ)) → Option ℕ
asked text = workers_in (texts_of text)

pub returns-in-Some-number : goal.returns-in-Some-number
returns-in-Some-number c =
    workers_are (found_of c.args.matches.now) c.get_str.result c.get_str.ensures ∙ ap asked c.in-Some.is ∙ sym c.number.ensures.value ∙ c.in-Some-number.is

pub returns-in-None-number : goal.returns-in-None-number
returns-in-None-number c usage =
    workers_are (found_of c.args.matches.now) c.get_str.result c.get_str.ensures ∙ ap asked c.in-Some.is ∙ sym c.number.ensures.value ∙ c.in-None-number.is

pub returns-in-None : goal.returns-in-None
returns-in-None c usage = workers_are (found_of c.args.matches.now) c.get_str.result c.get_str.ensures ∙ ap asked c.in-None.is
