use Rattle.std.proofs.Common.{subst}
use Rattle.request_line.specs.declared.ends.Receiver.{Receiver}
use Rattle.network.specs.declared.post.Post.{Post}
use Rattle.core_service.specs.declared.service.CoreService.{CoreService}
use Rattle.threaded_runs.specs.Serving.{CameBack, IsServed}
use Rattle.threaded_runs.proofs.threading.answered_by.Goals as goal

pub returns-in-Served : goal.returns-in-Served
returns-in-Served g c receiver service came = subst (CameBack receiver service) c.in-Served.is came

pub returns-in-CalledOff : goal.returns-in-CalledOff
returns-in-CalledOff g c receiver service came =
    let same = subst (CameBack receiver service) c.in-CalledOff.is came in
    subst (λ (w : Receiver Post × CoreService). IsServed w.0 w.1 c.serve_from.result) (λ i. (same.0 i, same.1 i)) c.serve_from.ensures
