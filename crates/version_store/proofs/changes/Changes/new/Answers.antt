use Rattle.std.proofs.Common.{sym, subst}
use Rattle.version_store.specs.Changed.{IsRising, changes_of}
use Rattle.version_store.proofs.Rising.{IsRising-nil}
use Rattle.version_store.proofs.changes.Changes.new.Goals as goal

pub invariant_of-result : goal.invariant_of-result
invariant_of-result c = subst (λ items. IsRising (changes_of items)) (sym c.new.ensures.items) IsRising-nil
