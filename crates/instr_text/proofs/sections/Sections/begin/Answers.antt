use Rattle.std.proofs.Common.{ℕ, List, ◌∷◌, refl, ap, ◌∙◌}
use Rattle.std.specs.FinMap.{contains_key}
use Rattle.instr_grammar.specs.Names.{is_among}
use Rattle.instr_text.proofs.Prefixes.{came_more, begins}
use Rattle.instr_text.proofs.sections.Sections.begin.Goals as goal

pub returns : goal.returns
returns c = λ place line h.
    begins c.args.self.now _ place line c.args.prefix h
    (λ q. ap (λ came. contains_key came q) c.in_ok-insert.ensures.ok ∙ came_more c.args.self.now.came _ c.in_ok-came.came place.prefixes h.came q
    ∙ ap (λ (k : List ℕ). is_among q (k ∷ place.prefixes)) c.in_ok-came.ensures)
    refl c.in_ok-head.ensures refl refl
