use Rattle.std.proofs.Common.{◌≡◌, suc, ◌+◌, ◌++◌, Some, take, refl, ap, sym, ◌∙◌, arith}
use Rattle.std.proofs.lemmas.List.{take_rest, length-drop}
use Rattle.std.proofs.lemmas.Result.{on_ok_weaker}
use Rattle.model_lines.specs.Printing.{in_digits, printable, printable_but}
use Rattle.dump_text.proofs.Escaped.{escaped_more, printable_without}
use Rattle.dump_text.proofs.Grown.{grew_more}
use Rattle.dump_text.proofs.printing.add_printable_but.Goals as goal

pub overflow_add-left : goal.overflow_add-left
overflow_add-left c = omega (arith, c.in-Some.ensures.0.high)

pub loop-n-preserved : goal.loop-n-preserved
loop-n-preserved c =
    let left = c.loop-n.left.now in
    let n = c.in-Some.n in
    let found = c.in-Some.ensures in
    let to = c.args.to.now.items in
    let escaped = c.args.escaped in
    let total = to ++ printable_but (Some escaped) c.args.bytes.now in
    let next : n + 1 ≡ suc n = omega arith in
    let front = c.loop-n.to.items ++ printable (take n left) in
    let now : c.add_digits.new.to.items ≡ front ++ in_digits escaped =
    rw (c.in_ok-add_digits.ensures.ok, c.in_ok-add_printable.ensures.ok) refl in
    record {
      all = rw (take_rest left (n + 1), next, now)
          (escaped_more c.loop-n.to.items left total escaped n found.0.high (λ k l. found.0.before k (omega arith) l) found.1 c.loop-n.invariant.all);
      within = rw (take_rest left (n + 1)) (omega (arith, length-drop (n + 1) left));
      grew =
          rw now (grew_more to front (in_digits escaped) (grew_more to c.loop-n.to.items (printable (take n left)) c.loop-n.invariant.grew));
    }

pub returns-clause-ok : goal.returns-clause-ok
returns-clause-ok c =
    let none = printable_without c.args.escaped c.loop-n.left.now (λ k l. c.in_default.ensures k (omega arith) l) in
    on_ok_weaker c.add_printable-2.result
    (λ e. e ∙ ap (λ x. c.loop-n.to.items ++ x) (sym none) ∙ c.loop-n.invariant.all) c.add_printable-2.ensures.ok
