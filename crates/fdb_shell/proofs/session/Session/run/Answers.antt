use Rattle.std.proofs.Common.{false}
use Rattle.fdb_calls.specs.declared.TxnCall.TheVariants as call
use Rattle.model_shell.specs.Requests.{called, pairs_said, silent, value_said}
use Rattle.model_shell.specs.Sessions.{done, range_call}
use Rattle.fdb_shell.proofs.Commands.{leaves_read, leaves_written}
use Rattle.fdb_shell.proofs.session.Session.run.Goals as goal

pub returns-in-Begin : goal.returns-in-Begin
returns-in-Begin c = rw c.in-Begin.is c.begin.ensures

pub returns-in-Commit : goal.returns-in-Commit
returns-in-Commit c = rw c.in-Commit.is c.end.ensures

pub returns-in-Reset : goal.returns-in-Reset
returns-in-Reset c = rw c.in-Reset.is c.reset.ensures

pub returns-in-Get : goal.returns-in-Get
unfolding done
returns-in-Get c = rw c.in-Get.is (λ state is.
    leaves_read _ c.args.self.now _ state (called (value_said c.in-Get.key) (call.Get c.in-Get.key false)) is
    (c.get.ensures state.world is.stands))

pub returns-in-GetRange : goal.returns-in-GetRange
unfolding done
returns-in-GetRange c = rw c.in-GetRange.is (λ state is.
    leaves_read _ c.args.self.now _ state (called pairs_said (range_call c.in-GetRange.range c.in-GetRange.limit)) is
    (c.get_range.ensures state.world is.stands))

pub returns-in-Set : goal.returns-in-Set
unfolding done
returns-in-Set c = rw c.in-Set.is (λ state is.
    leaves_written _ c.args.self.now _ state (called silent (call.Set c.in-Set.key c.in-Set.value)) is
    (c.write.ensures state.world is.stands))

pub returns-in-Clear : goal.returns-in-Clear
unfolding done
returns-in-Clear c = rw c.in-Clear.is (λ state is.
    leaves_written _ c.args.self.now _ state (called silent (call.Clear c.in-Clear.key)) is
    (c.write-in-Clear.ensures state.world is.stands))

pub returns-in-ClearRange : goal.returns-in-ClearRange
unfolding done
returns-in-ClearRange c = rw c.in-ClearRange.is (λ state is.
    leaves_written _ c.args.self.now _ state (called silent (call.ClearRange c.in-ClearRange.range)) is
    (c.write-in-ClearRange.ensures state.world is.stands))

pub returns-in-Recipe : goal.returns-in-Recipe
returns-in-Recipe c = rw c.in-Recipe.is c.recipe.ensures
