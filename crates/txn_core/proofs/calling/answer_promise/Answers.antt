use Rattle.txn_core.proofs.Answering.{promise_answered}
use Rattle.txn_core.proofs.calling.answer_promise.Goals as goal

pub returns : goal.returns
returns c t store index setting stands keeps =
    promise_answered c.promise.result c.of_promise.result c.args.txn.now store index setting t stands keeps c.promise.ensures c.of_promise.ensures
