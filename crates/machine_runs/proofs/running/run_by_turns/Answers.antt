use Rattle.machine_runs.proofs.Finished.{going_alone, leads_alone}
use Rattle.machine_runs.proofs.running.run_by_turns.Goals as goal

pub drive-requires : goal.drive-requires
drive-requires c =
    going_alone c.args.core c.args.suspended c.in_ok-suspended_machines.suspended_machines.items c.new-order.result c.requires.is_suspended c.requires.unapplied c.requires.alone
    c.in_ok-suspended_machines.ensures c.new-order.ensures

pub returns : goal.returns
returns c = λ pairs arguments start.
    let first = leads_alone pairs arguments c.args.core _ c.args.suspended c.in_ok-suspended_machines.suspended_machines.items c.new-order.result start c.in_ok-suspended_machines.ensures
    c.new-order.ensures in
    let last = c.in_ok-drive.ensures.goes_on pairs arguments first in
    record {
      ends = record {
        words = _;
        leads = last.leads;
        is_suspended = c.in_ok-drive.ensures.going.is_suspended;
        none = c.in_ok-drive.ensures.ended;
      };
      turns = last.turns;
    }
