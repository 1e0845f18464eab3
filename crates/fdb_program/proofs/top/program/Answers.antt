use Rattle.std.proofs.Common.{◌≡◌, true, false, sym, ◌∙◌, true≢false}
use Rattle.fdb_program.proofs.top.program.Goals as goal

-- these words begin the shell
pub returns-then-is_shell-clause-shell : goal.returns-then-is_shell-clause-shell
returns-then-is_shell-clause-shell g c = λ is. record {
  all = c.shell.ensures.all;
  limit = c.shell.ensures.limit;
  read = c.shell.ensures.read;
  whole = c.shell.ensures.whole;
  write = c.shell.ensures.write;
  front = c.shell.ensures.front;
  short = c.shell.ensures.short;
  statuses = c.shell.ensures.statuses;
  complete = c.shell.ensures.complete;
  quiet = c.shell.ensures.quiet;
  told = c.shell.ensures.told;
  no_order = c.new.ensures;
}

pub returns-then-is_shell-clause-tester : goal.returns-then-is_shell-clause-tester
returns-then-is_shell-clause-tester g c = λ is. absurd (true≢false (sym c.if-is_shell.true ∙ c.is_shell.ensures ∙ is))

-- they are those of the tester
pub returns-clause-shell : goal.returns-clause-shell
returns-clause-shell g c = λ is. absurd (true≢false (sym is ∙ sym c.is_shell.ensures ∙ c.if-is_shell.false))

pub returns-clause-tester : goal.returns-clause-tester
returns-clause-tester g c = λ is. c.tester.ensures
