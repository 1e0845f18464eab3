use Rattle.std.proofs.Common.{◌+◌, ◌≤◌, length, take}
use Rattle.version_store.specs.Changed.{changes_of}
use Rattle.version_store.specs.Chains.{room_of, AreReady}
use Rattle.version_store.specs.Kept.{Adds}
use Rattle.version_store.proofs.chains.add_keys.Given as goal

-- keys came in alone, there is room for those that are left, and the places of those so far are noted, with room at each
abbrev pub invariant-loop-change : goal.invariant-loop-change
invariant-loop-change l =
    Adds l.fn.nodes.slots l.nodes.slots l.next l.fn.tree.entries l.tree.entries
    × (length l.changes ≤ l.change-index + room_of l.nodes)
    × AreReady l.nodes.slots l.tree.entries (changes_of (take l.change-index l.changes)) l.places.items
