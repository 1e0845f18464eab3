use Rattle.std.proofs.Common.{map, drop}
use Rattle.key_bytes.specs.Entries.{entry_of}
use Rattle.model_database.specs.Transactions.{Transaction}
use Rattle.fdb_calls.specs.Calling.{in_turn, logs}
use Rattle.txn_calls.specs.Logging.{LogsOn}
use Rattle.txn_calls.specs.Stands.{StandsFor}
use Rattle.txn_calls.proofs.txn.Txn.log.Given as goal

-- the entries that are left come to the same as all
abbrev pub invariant-loop-entry : goal.invariant-loop-entry
invariant-loop-entry l = (t : Transaction) → StandsFor l.fn.self t
    → LogsOn l.self l.prefix (map entry_of (drop l.entry-index l.entry-items)) (in_turn (logs l.prefix l.fn.entries) t)
