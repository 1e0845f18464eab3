use Rattle.std.proofs.Common.{refl, sym}
use Rattle.std.proofs.lemmas.Result.{IfOk-weaker, on_err_weaker}
use Rattle.model_machine.specs.Worlds.{World, fresh_at_last, next_life, called_apart, step}
use Rattle.fdb_calls.specs.Calling.{called}
use Rattle.client_core.specs.Contents.{model_of}
use Rattle.client_core.specs.Lives.{drawn_in}
use Rattle.client_core.specs.Stands.{KeepsWorld}
use Rattle.client_core.specs.Sound.{TookApart}
use Rattle.client_core.proofs.Calls.{first_commits}
use Rattle.client_core.proofs.Databases.{few_between}
use Rattle.client_core.proofs.Kept.{keeps_ungrown}
use Rattle.client_core.proofs.Results.{err_always}
use Rattle.client_core.proofs.contents.Contents.call_database.Goals as goal
use Rattle.client_core.proofs.contents.Contents.call_database.Goals.{In_ok-reply}

-- what the first call left, in each world for which the core stood
first_call_took : (c : In_ok-reply) (world : World) → KeepsWorld (model_of c.args.self.now) world
    → TookApart c.in_ok-reply.reply c.call_apart.new.transaction (model_of c.call_apart.new.self) (drawn_in world) (fresh_at_last world)
    (called (drawn_in world).setting (next_life (drawn_in world)) (fresh_at_last world) c.args.call.now)
first_call_took c world stands =
    let begun = c.in_ok-transaction.ensures.drawn world stands in
    c.in_ok-reply.ensures.step (fresh_at_last world) (drawn_in world) begun.0 begun.1

pub commit_apart-requires : goal.commit_apart-requires
commit_apart-requires c =
    let its = (goal.at.commit_apart-requires c).In_ok-reply in record {
      few_commits =
          few_between (model_of c.args.self.now) (model_of c.call_apart.new.self) c.call_apart.new.transaction c.in_ok-reply.reply c.args.call.now
          fresh_at_last drawn_in (first_call_took its) (λ world. refl) c.requires;
    }

pub returns-clause-step : goal.returns-clause-step
unfolding step
returns-clause-step c =
    let its = (goal.at.returns-clause-step c).In_ok-reply in
    IfOk-weaker c.commit_apart.result _ _ (λ reply took world stands.
    let told = first_call_took its world stands in
    took (called_apart (drawn_in world) (fresh_at_last world)
    (called (drawn_in world).setting (next_life (drawn_in world)) (fresh_at_last world) c.args.call.now))
    (called (drawn_in world).setting (next_life (drawn_in world)) (fresh_at_last world) c.args.call.now)
    told.reply_is told.stands told.world_stands)
    c.commit_apart.ensures.step

pub returns-in_err-reply-clause-kept : goal.returns-in_err-reply-clause-kept
returns-in_err-reply-clause-kept c = err_always c.from_residual-in_err-reply.result (λ world stands.
    let begun = c.in_ok-transaction.ensures.drawn world stands in
    c.in_err-reply.ensures.kept (fresh_at_last world) world.setting begun.0 begun.1.keeps (sym begun.1.options))

pub returns-clause-kept : goal.returns-clause-kept
returns-clause-kept c =
    let its = (goal.at.returns-clause-kept c).In_ok-reply in
    on_err_weaker c.commit_apart.result (λ still world stands.
    let told = first_call_took its world stands in
    let made = called (drawn_in world).setting (next_life (drawn_in world)) (fresh_at_last world) c.args.call.now in
    still made.transaction world.setting told.stands
    (keeps_ungrown c.call_apart.new.self.store c.call_apart.new.self.index world.setting made.commits
    (first_commits world.setting (next_life (drawn_in world)) (next_life world) c.args.call.now) told.world_stands.keeps)
    (sym told.world_stands.options))
    c.commit_apart.ensures.kept
