use Rattle.std.proofs.Common.{◌-◌, Ok}
use Rattle.model_database.specs.Histories.{Setting}
use Rattle.model_database.specs.Transactions.{Transaction}
use Rattle.model_recipes.specs.Blobs.{sets_chunks}
use Rattle.recipe_layers.specs.Steps.{IsWritten}
use Rattle.recipe_layers.proofs.blob.set_chunks.Given as goal

abbrev pub invariant-loop-place : goal.invariant-loop-place
invariant-loop-place g l = record {
  written : (setting : Setting) (t : Transaction) → g.T.Tr.stands l.fn.tr setting t
      → IsWritten (Ok tt) setting (g.T.Tr.stands l.tr setting) (sets_chunks l.s.prefix l.bytes l.first (l.place - l.first)) t;
  same : g.T.Tr.same l.fn.tr l.tr;
}
