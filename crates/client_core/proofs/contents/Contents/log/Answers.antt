use Rattle.std.proofs.Common.{◌≡◌, Result, Ok, Err, refl, sym, ap, ◌∙◌}
use Rattle.std.proofs.lemmas.Result.{IfOk-weaker, on_err_weaker}
use Rattle.fdb_calls.specs.declared.fault.TrFault.{TrFault}
use Rattle.fdb_calls.specs.declared.fault.TrFault.TheVariants as fault
use Rattle.fdb_calls.specs.declared.Reply.{Reply}
use Rattle.fdb_calls.specs.Calling.{Called, in_turn, logs}
use Rattle.model_machine.specs.Worlds.{fresh_at_last, called_apart, step}
use Rattle.version_store.specs.Versions.{last_of}
use Rattle.txn_calls.specs.Logging.{Logs}
use Rattle.txn_core.specs.Stands as txn
use Rattle.client_core.specs.Contents.{model_of}
use Rattle.client_core.specs.Lives.{drawn_in}
use Rattle.client_core.specs.Sound.{Replies}
use Rattle.client_core.proofs.Calls.{logs_in_place}
use Rattle.client_core.proofs.Databases.{logged_apart, few_at}
use Rattle.client_core.proofs.contents.Contents.log.Goals as goal
use Rattle.client_core.proofs.contents.Contents.log.Goals.{In_ok-go_on}

-- writes that were replied to came to what is said
replied : {A : Type 0} (result : Result A TrFault) (reply : Reply) (kept : txn.Kept) (made : Called) → Replies result reply → Logs result kept made
    → (reply ≡ made.reply) × txn.StandsFor kept made.transaction
replied (Ok value) reply kept made is told = (is ∙ told.0, told.1)
replied (Err (fault.Code code)) reply kept made is told = (is ∙ told.0, told.1)
replied (Err fault.NoMemory) reply kept made is told = absurd is

pub commit_apart-requires : goal.commit_apart-requires
commit_apart-requires c = record { few_commits = few_at (model_of c.args.self.now) _ c.requires (ap last_of c.in_ok-transaction.ensures.store) }

pub returns-clause-step : goal.returns-clause-step
unfolding step
returns-clause-step c = IfOk-weaker c.commit_apart.result _ _ (λ reply took world stands.
    let begun = c.in_ok-transaction.ensures.drawn world stands in
    let before = fresh_at_last world in
    let made = in_turn (logs c.args.prefix.now c.args.entries.now) before in
    let told = replied c.log.result c.in_ok-reply.reply c.log.new.self made (c.in_ok-reply.ensures {u = tt}) (c.log.ensures before begun.0) in
    let place = logs_in_place c.args.prefix.now c.args.entries.now before in
    took (called_apart (drawn_in world) before made) made told.0 told.1
    (logged_apart _ _ (drawn_in world) c.life-life.result c.outcome_after.result c.log.new.self before made begun.1 place.commits place.lives refl refl refl refl
    c.in_ok-go_on.ensures.ok c.outcome_after.ensures (c.life-life.ensures ∙ begun.0.life) told.1))
    c.commit_apart.ensures.step

pub returns-clause-kept : goal.returns-clause-kept
returns-clause-kept c = on_err_weaker c.commit_apart.result (λ still world stands.
    let begun = c.in_ok-transaction.ensures.drawn world stands in
    let before = fresh_at_last world in
    let made = in_turn (logs c.args.prefix.now c.args.entries.now) before in
    let told = replied c.log.result c.in_ok-reply.reply c.log.new.self made (c.in_ok-reply.ensures {u = tt}) (c.log.ensures before begun.0) in
    still made.transaction world.setting told.1 begun.1.keeps (sym begun.1.options))
    c.commit_apart.ensures.kept
