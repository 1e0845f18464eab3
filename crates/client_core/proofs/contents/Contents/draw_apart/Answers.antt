use Rattle.std.proofs.Common.{refl}
use Rattle.client_core.specs.Contents.{model_of}
use Rattle.client_core.proofs.Databases.{drawn_apart}
use Rattle.client_core.proofs.contents.Contents.draw_apart.Goals as goal

pub returns-clause-drawn : goal.returns-clause-drawn
returns-clause-drawn c = λ world stands.
    drawn_apart (model_of c.args.self.now) _ world c.next.result c.at_last-transaction.result c.next.ensures
    (c.at_last-transaction.ensures c.args.self.now.index)
    refl refl refl refl c.in_ok-draw.ensures stands
