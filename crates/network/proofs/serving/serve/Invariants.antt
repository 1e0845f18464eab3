use Rattle.std.proofs.Common.{◌≡◌, ◌≤◌, ◌++◌, false}
use Rattle.request_line.specs.Line.{receiver_line, taken, closed}
use Rattle.network.specs.Posts.{overs_in}
use Rattle.network.specs.Serving.{Replies, Serves, taken_since, posts_since}
use Rattle.network.proofs.serving.serve.Given as goal

abbrev pub invariant-loop : goal.invariant-loop
invariant-loop g l = record {
  can_next : (goal.iterator-loop g).can_next l.iterator';
  is_finite : (goal.iterator-loop g).is_finite l.iterator';
  served : l.server.short ≡ false → Serves g.S.Service.answers l.initial.service l.service (posts_since l.initial.receiver l.receiver) l.server.order l.server.receipts.items;
  replies : Replies g.S.Service.answers g.S.Service.notes l.initial.service l.service (posts_since l.initial.receiver l.receiver) l.server.short l.server.receipts.items;
  over : l.server.over ≡ overs_in (posts_since l.initial.receiver l.receiver);
  within : l.server.over ≤ l.server.machines;
  taken : taken l.receiver ≡ taken l.initial.receiver ++ taken_since l.initial.receiver l.receiver;
  closed : closed l.receiver ≡ closed l.initial.receiver;
  line : receiver_line l.receiver ≡ receiver_line l.initial.receiver;
}
