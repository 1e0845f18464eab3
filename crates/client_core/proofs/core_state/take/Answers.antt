use Rattle.std.proofs.Common.{None, cond, slice_index_or, ap, ◌∙◌}
use Rattle.std.proofs.lemmas.Result.{IfOk-weaker}
use Rattle.fdb_calls.specs.declared.Reply.TheVariants.{Empty, NotYet}
use Rattle.fdb_calls.specs.declared.Request.TheVariants as request
use Rattle.model_machine.specs.Worlds.{has_key_with, promised, step}
use Rattle.client_core.specs.Contents.{model_of}
use Rattle.client_core.proofs.Kept.{same_still}
use Rattle.client_core.proofs.Results.{err_always}
use Rattle.client_core.proofs.Steps.{database_whole, directory_whole, kept_newest, start_whole}
use Rattle.client_core.proofs.core_state.take.Goals as goal

pub returns-in-New-clause-step : goal.returns-in-New-clause-step
unfolding step
returns-in-New-clause-step g c = rw c.in-New.is (IfOk-weaker c.make_new.result _ _ (λ reply took world stands started has.
    database_whole _ _ _ reply world (request.New c.in-New.name) tt started has (took world stands))
    c.make_new.ensures.stands)

pub returns-in-New-clause-kept : goal.returns-in-New-clause-kept
returns-in-New-clause-kept g c =
    err_always c.make_new.result
    (same_still (model_of c.args.contents.now) (model_of c.make_new.new.self) c.make_new.ensures.store c.make_new.ensures.index)

pub returns-in-On-clause-step : goal.returns-in-On-clause-step
unfolding step
returns-in-On-clause-step g c = rw c.in-On.is (IfOk-weaker c.call_made.result _ _ (λ reply took world stands started has.
    database_whole _ _ _ reply world (request.On c.in-On.name c.in-On.call) tt started has (took world stands))
    c.call_made.ensures.step)

pub returns-in-Database-clause-step : goal.returns-in-Database-clause-step
returns-in-Database-clause-step g c = rw c.in-Database.is (IfOk-weaker c.call_database.result _ _ (λ reply took world stands started has.
    database_whole _ _ _ reply world (request.Database c.in-Database.call) tt started has (took world stands))
    c.call_database.ensures.step)

pub returns-in-Directory-clause-step : goal.returns-in-Directory-clause-step
returns-in-Directory-clause-step g c =
    let asked = c.in-Directory in
    rw c.in-Directory.is (IfOk-weaker c.call_directory.result _ _ (λ reply drew world stands started has.
    directory_whole _ _ _ reply world asked.name asked.layer asked.kind asked.args started (drew world stands has))
    c.call_directory.ensures.step)

pub returns-in-Log-clause-step : goal.returns-in-Log-clause-step
returns-in-Log-clause-step g c = rw c.in-Log.is (IfOk-weaker c.log.result _ _ (λ reply took world stands started has.
    database_whole _ _ _ reply world (request.Log c.in-Log.prefix c.in-Log.entries) tt started has (took world stands))
    c.log.ensures.step)

pub returns-in-PollStamp-clause-step : goal.returns-in-PollStamp-clause-step
unfolding step
returns-in-PollStamp-clause-step g c = rw c.in-PollStamp.is (λ world stands started has.
    database_whole _ _ _ c.poll.result world (request.PollStamp c.in-PollStamp.life) tt started has (record {
      reply_is = c.poll.ensures ∙ ap (λ lives. promised (slice_index_or lives c.in-PollStamp.life None)) stands.lives;
      stands = stands;
    }))

pub returns-in-PollEmpty-clause-step : goal.returns-in-PollEmpty-clause-step
unfolding step
returns-in-PollEmpty-clause-step g c = rw c.in-PollEmpty.is (λ world stands started has.
    database_whole _ _ _ c.poll_empty.result world (request.PollEmpty c.in-PollEmpty.prefix) tt started has (record {
      reply_is = c.poll_empty.ensures ∙ ap (λ database. cond (has_key_with c.in-PollEmpty.prefix database) NotYet Empty)
          (kept_newest (model_of c.args.contents.now) world stands);
      stands = stands;
    }))

pub returns-in-Start-clause-step : goal.returns-in-Start-clause-step
returns-in-Start-clause-step g c = rw c.in-Start.is (IfOk-weaker c.start.result _ _ (λ reply took world stands started has.
    start_whole _ _ _ reply world c.in-Start.prefix stands has (took world stands started))
    c.start.ensures.step)

pub returns-in-Start-clause-kept : goal.returns-in-Start-clause-kept
returns-in-Start-clause-kept g c = err_always c.start.result (λ world stands. stands.keeps)
