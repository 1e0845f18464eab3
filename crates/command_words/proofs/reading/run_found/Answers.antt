use Rattle.std.proofs.Common.{◌∙◌, ℕ, List, Option, Some, option_map, Bor, ap, sym}
use Rattle.model_database.specs.declared.Api.{Api}
use Rattle.clap.specs.Matches.{found_of}
use Rattle.laws_commands.proofs.Calling.{with_all, without_polls, without_prefix, without_seed, without_window}
use Rattle.command_words.proofs.reading.run_found.Goals as goal

abbrev text : Option (Bor (List ℕ)) → Option (List ℕ)
text = option_map (λ t. t.now)

abbrev places : Option (Bor (List ℕ) × Api) → Option (List ℕ × Api)
places = option_map (λ found. (found.0.now, found.1))

pub returns-in_default : goal.returns-in_default
returns-in_default c usage =
    without_prefix (found_of c.args.matches.now) c.get_str.result c.get_str-2.result c.get_str.ensures c.get_str-2.ensures (sym c.prefix_and_api_found.ensures ∙ ap places c.in_default.is)

pub returns-in_default-number_found : goal.returns-in_default-number_found
returns-in_default-number_found c usage =
    without_seed (found_of c.args.matches.now) c.get_str-3.result c.get_str-3.ensures (sym c.number_found.ensures.value ∙ c.in_default-number_found.is)

pub returns-in_default-number_found-2 : goal.returns-in_default-number_found-2
returns-in_default-number_found-2 c usage =
    without_polls (found_of c.args.matches.now) c.get_str-4.result c.get_str-4.ensures (sym c.number_found-2.ensures.value ∙ c.in_default-number_found-2.is)

pub returns-in_default-window_found : goal.returns-in_default-window_found
returns-in_default-window_found c usage =
    without_window (found_of c.args.matches.now) c.get_str-5.result c.get_str-5.ensures (sym c.window_found.ensures ∙ c.in_default-window_found.is)

pub returns : goal.returns
returns c =
    with_all (found_of c.args.matches.now) c.get_str.result c.get_str-2.result c.get_str-3.result c.get_str-4.result c.get_str-5.result c.get_str.ensures c.get_str-2.ensures
    c.get_str-3.ensures c.get_str-4.ensures c.get_str-5.ensures c.in_ok-from_slice.field-0 c.in-Some.api c.in-Some-number_found.seed c.in-Some-number_found-2.polls
    c.in-Some-window_found.window
    (sym c.prefix_and_api_found.ensures ∙ ap places c.in-Some.is ∙ ap (λ p. Some (p, c.in-Some.api)) (sym (c.in_ok-from_slice.ensures ∙ c.as_bytes.ensures.value)))
    (sym c.number_found.ensures.value ∙ c.in-Some-number_found.is) (sym c.number_found-2.ensures.value ∙ c.in-Some-number_found-2.is)
    (sym c.window_found.ensures ∙ c.in-Some-window_found.is)
