use Rattle.std.proofs.Common.{◌≡◌, length}
use Rattle.version_store.proofs.Spans.{present_of}
use Rattle.version_store.proofs.pairs_left.PairsLeftIterator.next.Given as goal

-- the keys that were passed hold nothing
abbrev pub invariant-loop-key : goal.invariant-loop-key
invariant-loop-key l = present_of l.self-inside.version l.self-inside.nodes.now.slots l.self-inside.span ≡ l.fn.self

abbrev pub decreases-loop-key : goal.decreases-loop-key
decreases-loop-key l = length l.self-inside.span
