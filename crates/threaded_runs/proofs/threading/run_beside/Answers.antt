use Rattle.std.proofs.Common.{sym, subst, ◌∙◌}
use Rattle.std.specs.Prelude.{IfOk}
use Rattle.outside.specs.Seeds.{words_from}
use Rattle.suspended_machine.specs.declared.suspended.SuspendedMachine.{SuspendedMachine}
use Rattle.machine_threads.specs.Teams.{IsTeamOf}
use Rattle.machine_runs.specs.Driving.{EndsFrom}
use Rattle.threaded_runs.proofs.Gathered.{cells_are, none_closed, order_is, overs_are, same_line, settled_ends, team_covers}
use Rattle.threaded_runs.proofs.threading.run_beside.Goals as goal

pub settled-requires : goal.settled-requires
settled-requires g c =
    let receiver = c.args.child.promise.0.value in
    let service = c.args.child.promise.1.value in
    let answered = c.answered_by-answered.result in
    let served = c.answered_by-answered.ensures receiver service c.join.ensures in
    let first = c.new-machine.result in
    let ended = c.in_ok-team.team.items in
    let as_many = c.if-answered-len.false ∙ c.len.ensures ∙ c.in_ok-team.team.ok.0 in
    let team = subst (IsTeamOf first) (sym c.in_ok-team.ensures) (c.run_machine-ran.ensures.team c.if-ran.false) in
    record {
      none_closed = none_closed receiver c.args.sender service answered c.requires.fresh served;
      one_line = same_line receiver c.args.sender service answered c.requires.fresh served first ended team c.new-machine.ensures.line;
      cover = team_covers first ended team (c.new-machine.ensures.history ∙ c.requires.fresh.first);
      have_ended = team.have_ended;
      cells = cells_are receiver c.args.sender service answered c.requires.fresh served c.if-answered.false;
      order = order_is receiver c.args.sender service answered c.requires.fresh served c.if-answered.false;
      overs = overs_are receiver c.args.sender service answered c.requires.fresh served ended as_many;
    }

pub returns : goal.returns
returns g c =
    let receiver = c.args.child.promise.0.value in
    let service = c.args.child.promise.1.value in
    let served = c.answered_by-answered.ensures receiver service c.join.ensures in
    let as_many = c.if-answered-len.false ∙ c.len.ensures ∙ c.in_ok-team.team.ok.0 in
    let first = c.new-machine.result in
    let team = subst (IsTeamOf first) (sym c.in_ok-team.ensures) (c.run_machine-ran.ensures.team c.if-ran.false) in
    subst (λ (suspended : SuspendedMachine). IfOk c.settled.result (EndsFrom service.core (words_from service.words) suspended)) c.new-machine.ensures.suspended
    (settled_ends receiver c.args.sender service c.answered_by-answered.result c.requires.fresh served first c.in_ok-team.team.items c.settled.result
    c.if-answered.false as_many team c.threads_gather_to_a_run.ensures c.settled.ensures.core c.settled.ensures.order c.settled.ensures.settled)
