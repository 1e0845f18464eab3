use Rattle.std.proofs.Common.{map, take}
use Rattle.version_store.specs.Versions.{at, last_of}
use Rattle.watch_core.specs.Watching.{HaveLooked}
use Rattle.watch_core.specs.Watches.{numbers_in, watched_of, AreListed}
use Rattle.watch_core.proofs.watches.commit_keys.Given as goal

-- the watches on the keys so far have looked
abbrev pub invariant-loop-key : goal.invariant-loop-key
invariant-loop-key g l = record {
  listed : AreListed l.watches (numbers_in l.index) l.pending;
  looked : HaveLooked (last_of l.store) (at l.store (last_of l.store)) (take l.key-index l.keys)
      (map watched_of l.fn.watches) (map watched_of l.watches);
}
