use Rattle.std.proofs.Common.{◌≡◌, ℕ, List, [], ◌∷◌, ap, ◌∙◌, arith}
use Rattle.model_database.specs.declared.options.DatabaseOptions.{DatabaseOptions}
use Rattle.model_database.specs.Histories.{lowest}
use Rattle.model_machine.specs.Worlds.{begun, database_options}
use Rattle.client_core.specs.Stands.{KeepsWorld}
use Rattle.client_core.specs.Contents.{model_of}
use Rattle.client_core.proofs.Loads.{first_kept, begun_stands}
use Rattle.client_core.proofs.core_state.Core.load.Goals as goal
use Rattle.client_core.proofs.core_state.Core.load.Goals.{After-new-4}

stands_at_first : (c : After-new-4)
    → KeepsWorld
    (model_of record { alloc = c.args.alloc; options = c.database_options-options.result; store = c.prune.new.self; index = c.new-2.result; transactions = c.new-3.result; lives = c.new-4.result; applied = 0 })
    (begun c.args.pairs c.args.arguments.now)
stands_at_first c =
    let low_is : c.lowest.result ≡ lowest (database_options c.args.arguments.now) 1 =
    c.lowest.ensures.value ∙ ap (λ (options : DatabaseOptions). lowest options 1) c.database_options-options.ensures in
    begun_stands _ c.args.pairs c.args.arguments.now c.database_options-options.ensures
    (first_kept c.prune.new.self _ c.args.pairs c.args.arguments.now (c.prune.ensures.last ∙ c.in_ok-store.ensures.last)
    (omega (arith, c.prune.ensures.oldest, c.in_ok-store.ensures.oldest, low_is))
    (λ from. c.prune.ensures.reads 0 from ∙ c.in_ok-store.ensures.empty) (λ from. c.prune.ensures.reads 1 from ∙ c.in_ok-store.ensures.first)
    c.new-2.ensures.forgotten c.new-2.ensures.unwritten)
    c.new-3.ensures c.new-4.ensures

pub invariant_of-result : goal.invariant_of-result
invariant_of-result c = λ still. record {
  world = begun c.args.pairs c.args.arguments.now;
  stands = stands_at_first c;
  few_commits = omega arith;
}

pub returns-clause-begun : goal.returns-clause-begun
returns-clause-begun c = record { contents = stands_at_first c; started = c.in_ok-machines.ensures ∙ ap (λ (prefix : List ℕ). prefix ∷ []) c.in_ok-copy.ensures }
