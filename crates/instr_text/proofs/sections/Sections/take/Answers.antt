use Rattle.std.proofs.Common.{◌≡◌, true, sym, ◌∙◌}
use Rattle.instr_text.proofs.Prefixes.{on_ok, on_ok_both, one_taken, none_taken, is_inside}
use Rattle.instr_text.proofs.sections.Sections.take.Goals as goal

pub returns-in-Begins : goal.returns-in-Begins
returns-in-Begins c = λ place line told h said inside.
    let is = rw c.in-Begins.is at said in
    rw is (on_ok c.begin.result (c.begin.ensures place line h) (λ stands. none_taken c.begin.new.self c.args.pairs.now place line c.in-Begins.prefix stands))

pub returns-in-Packs : goal.returns-in-Packs
returns-in-Packs c = λ place line told h said inside.
    let is = rw c.in-Packs.is at said in
    let opened : c.args.self.now.is_open ≡ true = h.open_is ∙ sym (is_inside place told is.0 inside is.1.0) in
    rw is.1.0 (on_ok_both c.add.result (c.add.ensures.place place line is.0 h) (c.add.ensures.pair place h opened)
    (λ stands pairs. one_taken c.add.new.self c.args.pairs.now c.add.new.pairs place line is.0 c.in-Packs.value is.1.1 stands pairs))
