use Rattle.std.proofs.Common.{ap, sym, ◌∙◌}
use Rattle.std.specs.Cmp.Lexicographic.{texts_ties}
use Rattle.std.specs.Ordering.{is_eq}
use Rattle.key_bytes.proofs.form.Form.eq.Goals as goal

-- nothing stands between two that are the same, and only between those
pub returns-in-InPlace-InPlace : goal.returns-in-InPlace-InPlace
returns-in-InPlace-InPlace c =
    rw (c.in-InPlace-InPlace.is-0, c.in-InPlace-InPlace.is-1) (
    c.is_eq.ensures ∙ ap is_eq c.cmp.ensures ∙ sym (texts_ties c.in-InPlace-InPlace.short c.in-InPlace-InPlace.other))
