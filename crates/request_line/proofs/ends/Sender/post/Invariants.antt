use Rattle.std.proofs.Common.{◌≡◌}
use Rattle.request_line.specs.Line.{sender_line, history}
use Rattle.request_line.proofs.ends.Sender.post.Given as goal

abbrev pub invariant-loop : goal.invariant-loop
invariant-loop g l = record {
  can_next : (goal.iterator-loop g).can_next l.iterator';
  is_finite : (goal.iterator-loop g).is_finite l.iterator';
  item : l.item ≡ l.fn.item;
  history : history l.self ≡ history l.initial.self;
  line : sender_line l.self ≡ sender_line l.initial.self;
}
