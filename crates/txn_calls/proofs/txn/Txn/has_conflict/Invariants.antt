use Rattle.std.proofs.Common.{◌≡◌, ◌≤◌}
use Rattle.model_database.specs.Histories.{Setting, conflicts, low}
use Rattle.version_store.specs.Versions.{Versions}
use Rattle.txn_calls.specs.Stands.{Keeps}
use Rattle.txn_calls.proofs.txn.Txn.has_conflict.Given as goal

-- no commit after the version has a key of the ranges so far among its write conflict ranges
abbrev pub invariant-loop-begin : goal.invariant-loop-begin
invariant-loop-begin l = (store : Versions) (setting : Setting) → Keeps store l.index setting → low setting ≤ l.version
    → conflicts setting.history l.version l.begin-iterator ≡ conflicts setting.history l.version l.fn.self.read_ranges
