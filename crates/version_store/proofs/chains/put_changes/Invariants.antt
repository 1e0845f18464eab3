use Rattle.std.proofs.Common.{◌≡◌, ℕ, ◌+◌, ◌<◌, ◌≤◌, ◌∷◌, List, Option, length}
use Rattle.std.specs.Vec.Iter.{into_iter_items, into_iter_len}
use Rattle.version_store.specs.Changed.{changes_of, changed, IsRising}
use Rattle.version_store.specs.Chains.{database_of, total, Sound}
use Rattle.version_store.specs.Dues.{HasRoomFor, IsComplete}
use Rattle.version_store.specs.Versions.{Chain}
use Rattle.version_store.proofs.Puts.{AreOpen}
use Rattle.version_store.proofs.chains.put_changes.Given as goal

-- the changes that are left, made on the database so far, give what all give at first
abbrev pub invariant-loop-change : goal.invariant-loop-change
invariant-loop-change l =
    let left = into_iter_items l.change-iterator in
    let places = l._tree.entries in
    Sound l.nodes.slots (l.version + 1) places
    × (into_iter_len l.change-iterator ≡ length left)
    × HasRoomFor (length left) l.dues
    × AreOpen l.nodes.slots l.version places (changes_of left) l.places
    × IsRising (changes_of left)
    ×
    (changed (changes_of left) (database_of l.version l.nodes.slots places)
    ≡ changed (changes_of l.fn.changes.items) (database_of l.version l.fn.nodes.slots places))
    × ((v : ℕ) → v < l.version → database_of v l.nodes.slots places ≡ database_of v l.fn.nodes.slots places)
    × ((weight : Chain → ℕ) → ((value : Option (List ℕ)) (chain : Chain) → weight ((l.version, value) ∷ chain) ≡ weight chain + 1)
    → total weight l.nodes.slots places + length left ≡ total weight l.fn.nodes.slots places + length l.fn.changes.items)
    × (l.dues.noting ≡ l.fn.dues.noting)
    × ((low : ℕ) → low ≤ l.version → IsComplete low l.version l.fn.dues l.fn.nodes.slots places
    → IsComplete low l.version l.dues l.nodes.slots places)
