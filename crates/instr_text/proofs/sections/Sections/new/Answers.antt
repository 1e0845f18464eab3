use Rattle.std.proofs.Common.{is_some, refl, ap, ◌∙◌}
use Rattle.std.specs.FinMap.{contains_key, get-empty}
use Rattle.key_bytes.specs.Keys.{key_cmp}
use Rattle.instr_text.proofs.sections.Sections.new.Goals as goal

pub returns : goal.returns
returns c = record {
  came = λ q. ap (λ came. contains_key came q) c.new.ensures ∙ ap is_some (get-empty key_cmp q);
  open_is = refl;
  head = λ e. absurd cc;
  index = refl;
  instructions = refl;
}
