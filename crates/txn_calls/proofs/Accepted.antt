-- What a call comes to that no check refuses.
use Rattle.std.proofs.Common.{◌≡◌, ℕ, Option, None, refl, sym, subst}
use Rattle.model_database.specs.Transactions.{Transaction}
use Rattle.fdb_calls.specs.declared.Reply.{Reply}
use Rattle.fdb_calls.specs.Calling.{does_by}
use Rattle.txn_calls.specs.Stands.{Kept, StandsFor}

-- one that no check refuses
pub does_done : (code : Option ℕ) (t after : Transaction) (reply : Reply) (kept : Kept) → code ≡ None → StandsFor kept after
    → (reply ≡ (does_by code t after reply).reply) × StandsFor kept (does_by code t after reply).transaction
does_done code t after reply kept none stands =
    subst (λ c. (reply ≡ (does_by c t after reply).reply) × StandsFor kept (does_by c t after reply).transaction) (sym none) (refl, stands)
