-- A key that nothing touches of what a call of a directory layer wrote is seen as before, however the call ended.
use Rattle.std.proofs.Common.{length}
use Rattle.std.specs.FinMap as finite
use Rattle.model_database.specs.KeyByKey.{is_plain}
use Rattle.model_database.specs.Transactions.{view}
use Rattle.model_directory.specs.Courses.{run}
use Rattle.model_directory.specs.Calls.{course, effect}
use Rattle.laws_directory.specs.Found.{DoesAllElseStay}
use Rattle.laws_directory.proofs.Growing.{run_grown}
use Rattle.laws_directory.proofs.Writing.{course_plain}
use Rattle.laws_directory.proofs.Seeing.{unwritten_seen}

pub all_else_stays : DoesAllElseStay
unfolding effect
all_else_stays kind layer args setting words t key untouched =
    let keys = length (finite.entries (view setting t)) in
    unwritten_seen setting t (run setting words (course kind keys layer args) t).transaction
    (run_grown setting is_plain words (course kind keys layer args) t (course_plain kind keys layer args)) key untouched
