use Rattle.std.proofs.Common.{ℕ, List, ◌∷◌, refl, ap, ◌∙◌}
use Rattle.std.specs.FinMap.{contains_key}
use Rattle.instr_grammar.specs.Names.{is_among}
use Rattle.instr_text.proofs.Prefixes.{came_more, some_came}
use Rattle.instr_text.proofs.taking.Taker.begin.Goals as goal

pub returns-clause-taken : goal.returns-clause-taken
returns-clause-taken c = λ taken h. record {
  came = λ q. ap (λ came. contains_key came q) c.in_ok-insert.ensures.ok ∙ came_more c.args.self.now.came _ c.in_ok-came.came taken.prefixes h.came q
      ∙ ap (λ (k : List ℕ). is_among q (k ∷ taken.prefixes)) c.in_ok-came.ensures;
  open_is = some_came c.args.prefix taken.prefixes;
  prefix = λ e. refl;
  index = refl;
}
