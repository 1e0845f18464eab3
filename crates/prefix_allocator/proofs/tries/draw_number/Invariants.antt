use Rattle.std.proofs.Common.{◌≡◌, ℕ, ◌+◌, ◌-◌, ◌<◌, ◌≤◌, false}
use Rattle.model_database.specs.Histories.{Setting}
use Rattle.model_database.specs.Transactions.{Transaction}
use Rattle.model_allocator.specs.Granting.{drawn}
use Rattle.prefix_allocator.proofs.Drawing.{HasDrawn}
use Rattle.prefix_allocator.proofs.tries.draw_number.Given as goal

abbrev pub invariant-loop : goal.invariant-loop
invariant-loop g l = record {
  tried : (setting : Setting) (t : Transaction) → g.T.Tr.stands l.fn.tr setting t
      → HasDrawn setting (g.T.Tr.stands l.tr setting) l.keys.space l.start (g.W.Words.words l.fn.words) l.counter t;
  words : (place : ℕ) → g.W.Words.words l.words place ≡ g.W.Words.words l.fn.words (l.counter + place);
  last : 0 < l.counter → l.last.number ≡ drawn l.start (g.W.Words.words l.fn.words) (l.counter - 1);
  low : l.start ≤ l.last.number;
  high : l.last.number ≤ l.start + 8192;
  absent : l.last.is_absent ≡ false;
  same : g.T.Tr.same l.fn.tr l.tr;
}
