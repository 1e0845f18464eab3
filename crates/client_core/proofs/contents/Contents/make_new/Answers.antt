use Rattle.std.proofs.Common.{◌≡◌, refl, ◌∙◌}
use Rattle.std.specs.FinMap as finite
use Rattle.client_core.specs.Contents.{model_of}
use Rattle.client_core.proofs.Named.{there_inserted, new_stands}
use Rattle.client_core.proofs.contents.Contents.make_new.Goals as goal

pub returns-clause-stands : goal.returns-clause-stands
returns-clause-stands c = λ world stands.
    let inserted : c.insert.new.self ≡ finite.insert c.args.self.now.transactions c.args.name.now c.new-transaction.result =
    c.in_ok-insert.ensures.ok ∙ (λ i. finite.insert c.args.self.now.transactions (c.in_ok-copy.ensures i) c.new-transaction.result) in
    record {
      reply_is = refl;
      stands = new_stands (model_of c.args.self.now) _ world c.args.name.now c.next.result c.life_of-life.result c.outcome_after-outcome.result
          c.new-transaction.result stands c.next.ensures c.new-transaction.ensures refl refl refl inserted c.life_of-life.ensures
          c.outcome_after-outcome.ensures c.in_ok-go_on.ensures.ok;
    }

pub returns-clause-there : goal.returns-clause-there
returns-clause-there c =
    rw (c.in_ok-insert.ensures.ok, c.in_ok-copy.ensures) (there_inserted c.args.self.now.transactions c.args.name.now _)
