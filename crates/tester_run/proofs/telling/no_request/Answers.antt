use Rattle.std.proofs.Common.{◌++◌, List, ℕ, ap, ◌∙◌}
use Rattle.std.specs.Prelude.{codes, decimal}
use Rattle.tester_run.proofs.Tellings.{order_text}
use Rattle.tester_run.proofs.telling.no_request.Goals as goal

pub returns : goal.returns
returns c =
    c.in_ok-extend_from_slice-2.ensures.items
    ∙ ap (λ (x : List ℕ). x ++ codes " has no request\n") (c.in_ok-add_number-2.ensures
    ∙ ap (λ (x : List ℕ). x ++ decimal c.args.machine) (c.in_ok-extend_from_slice.ensures.items
    ∙ ap (λ (x : List ℕ). x ++ codes ": machine ") (c.in_ok-add_number.ensures
    ∙ ap (λ (x : List ℕ). x ++ decimal c.args.place) c.in_ok-text.ensures.items)))
    ∙ order_text (decimal c.args.place) (decimal c.args.machine)
