use Rattle.std.proofs.Common.{sym, ap, ◌∙◌}
use Rattle.std.proofs.lemmas.Bool.{not-true}
use Rattle.std.specs.Option.{option_map}
use Rattle.key_bytes.specs.Entries.{entry_of}
use Rattle.key_bytes.specs.Keys.{key_lt, within}
use Rattle.key_map.specs.Ends.{first}
use Rattle.range_read.specs.Walks.{onward}
use Rattle.range_read.proofs.Walks.{empty_span, inside_none, inside_some, inside_past}
use Rattle.range_read.proofs.walking.first_inside.Goals as goal

pub returns-then-is_empty : goal.returns-then-is_empty
returns-then-is_empty g c =
    let m = g.V.OrderedView.map c.args.view.now in let range = c.args.range.now in
    sym (ap first (empty_span m range.begin range.end c.args.reverse
    (not-true (key_lt range.begin range.end) (sym c.is_empty.ensures ∙ c.if-is_empty.true))))

pub returns-in_default : goal.returns-in_default
returns-in_default g c =
    let m = g.V.OrderedView.map c.args.view.now in
    sym (inside_none m c.args.range.now.begin c.args.range.now.end c.args.reverse
    (ap (λ k. first (onward m k c.args.reverse)) (sym c.near_end.ensures) ∙ sym (c.in_ok-pair.ensures {u = tt}) ∙ ap (option_map entry_of)
    c.in_default.is))

pub returns-then-has : goal.returns-then-has
returns-then-has g c =
    let m = g.V.OrderedView.map c.args.view.now in
    sym (inside_some m c.args.range.now.begin c.args.range.now.end c.args.reverse (entry_of c.in-Some.pair)
    (ap (λ k. first (onward m k c.args.reverse)) (sym c.near_end.ensures) ∙ sym (c.in_ok-pair.ensures {u = tt}) ∙ ap (option_map entry_of)
    c.in-Some.is)
    (ap (within c.args.range.now.begin c.args.range.now.end) (sym c.as_slice.ensures) ∙ sym c.has.ensures ∙ c.if-has.true))

pub returns-else-has : goal.returns-else-has
returns-else-has g c =
    let m = g.V.OrderedView.map c.args.view.now in
    sym (inside_past m c.args.range.now.begin c.args.range.now.end c.args.reverse (entry_of c.in-Some.pair)
    (ap (λ k. first (onward m k c.args.reverse)) (sym c.near_end.ensures) ∙ sym (c.in_ok-pair.ensures {u = tt}) ∙ ap (option_map entry_of)
    c.in-Some.is)
    (ap (within c.args.range.now.begin c.args.range.now.end) (sym c.as_slice.ensures) ∙ sym c.has.ensures ∙ c.if-has.false))
