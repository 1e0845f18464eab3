use Rattle.std.proofs.Common.{false, ap, subst, sym}
use Rattle.std.proofs.lemmas.Result.{IfOk-weaker, on_err_weaker}
use Rattle.model_database.specs.Modes.{lacks_limit}
use Rattle.model_database.specs.Reads as read
use Rattle.fdb_calls.specs.declared.Reply.TheVariants as reply
use Rattle.fdb_calls.specs.Calling.{Called, called}
use Rattle.txn_calls.specs.Accesses.{Reads}
use Rattle.txn_core.specs.Stands.{Answers}
use Rattle.txn_core.proofs.Answering.{told_in_place, left_standing, read_in_place}
use Rattle.txn_core.proofs.calling.answer_read.Goals as goal

pub returns-in-Get-clause-ok : goal.returns-in-Get-clause-ok
unfolding called
returns-in-Get-clause-ok c = IfOk-weaker c.of_value.result _ _ (λ answer tells t index setting life stands keeps.
    let reads : Reads read.ValueIs c.get.result c.args.txn.now c.get.new.self setting false c.in-Get.snapshot (read.Get c.in-Get.key) =
    c.get.ensures index setting keeps in
    subst (λ (made : Called). Answers answer c.get.new.self c.args.store.now index setting made) (sym (ap (called setting life t) c.in-Get.is))
    (told_in_place reply.Value c.get.result answer c.get.new.self c.args.store.now index setting t _
    (read_in_place setting t false c.in-Get.snapshot (read.Get c.in-Get.key)) keeps (reads t stands) tells)) c.of_value.ensures.ok

pub returns-in-Get-clause-err : goal.returns-in-Get-clause-err
returns-in-Get-clause-err c = on_err_weaker c.of_value.result (λ refused t index setting stands keeps.
    let reads : Reads read.ValueIs c.get.result c.args.txn.now c.get.new.self setting false c.in-Get.snapshot (read.Get c.in-Get.key) =
    c.get.ensures index setting keeps in
    (left_standing reply.Value c.get.result c.get.new.self c.args.store.now index setting t _ refused (reads t stands) keeps).0) c.of_value.ensures.err

pub returns-in-GetKey-clause-ok : goal.returns-in-GetKey-clause-ok
unfolding called
returns-in-GetKey-clause-ok c = IfOk-weaker c.of_key.result _ _ (λ answer tells t index setting life stands keeps.
    let reads : Reads read.KeyIs c.get_key.result c.args.txn.now c.get_key.new.self setting false c.in-GetKey.snapshot (read.GetKey c.in-GetKey.selector) =
    c.get_key.ensures index setting keeps in
    subst (λ (made : Called). Answers answer c.get_key.new.self c.args.store.now index setting made) (sym (ap (called setting life t) c.in-GetKey.is))
    (told_in_place reply.KeyIs c.get_key.result answer c.get_key.new.self c.args.store.now index setting t _
    (read_in_place setting t false c.in-GetKey.snapshot (read.GetKey c.in-GetKey.selector)) keeps (reads t stands) tells)) c.of_key.ensures.ok

pub returns-in-GetKey-clause-err : goal.returns-in-GetKey-clause-err
returns-in-GetKey-clause-err c = on_err_weaker c.of_key.result (λ refused t index setting stands keeps.
    let reads : Reads read.KeyIs c.get_key.result c.args.txn.now c.get_key.new.self setting false c.in-GetKey.snapshot (read.GetKey c.in-GetKey.selector) =
    c.get_key.ensures index setting keeps in
    (left_standing reply.KeyIs c.get_key.result c.get_key.new.self c.args.store.now index setting t _ refused (reads t stands) keeps).0) c.of_key.ensures.err

pub returns-in-GetRange-clause-ok : goal.returns-in-GetRange-clause-ok
unfolding called
returns-in-GetRange-clause-ok c = IfOk-weaker c.of_pairs.result _ _ (λ answer tells t index setting life stands keeps.
    let reads : Reads read.PairsAre c.get_range.result c.args.txn.now c.get_range.new.self setting (lacks_limit c.in-GetRange.options.mode c.in-GetRange.options.limit) c.in-GetRange.snapshot
    (read.GetRange c.in-GetRange.begin c.in-GetRange.end c.in-GetRange.options.limit c.in-GetRange.options.reverse) =
    c.get_range.ensures index setting keeps in
    subst (λ (made : Called). Answers answer c.get_range.new.self c.args.store.now index setting made) (sym (ap (called setting life t) c.in-GetRange.is))
    (told_in_place reply.PairsAre c.get_range.result answer c.get_range.new.self c.args.store.now index setting t _
    (read_in_place setting t (lacks_limit c.in-GetRange.options.mode c.in-GetRange.options.limit) c.in-GetRange.snapshot
    (read.GetRange c.in-GetRange.begin c.in-GetRange.end c.in-GetRange.options.limit c.in-GetRange.options.reverse)) keeps (reads t stands) tells)) c.of_pairs.ensures.ok

pub returns-in-GetRange-clause-err : goal.returns-in-GetRange-clause-err
returns-in-GetRange-clause-err c = on_err_weaker c.of_pairs.result (λ refused t index setting stands keeps.
    let reads : Reads read.PairsAre c.get_range.result c.args.txn.now c.get_range.new.self setting (lacks_limit c.in-GetRange.options.mode c.in-GetRange.options.limit) c.in-GetRange.snapshot
    (read.GetRange c.in-GetRange.begin c.in-GetRange.end c.in-GetRange.options.limit c.in-GetRange.options.reverse) =
    c.get_range.ensures index setting keeps in
    (left_standing reply.PairsAre c.get_range.result c.get_range.new.self c.args.store.now index setting t _ refused (reads t stands) keeps).0) c.of_pairs.ensures.err

pub returns-in-GetKeyRange-clause-ok : goal.returns-in-GetKeyRange-clause-ok
unfolding called
returns-in-GetKeyRange-clause-ok c = IfOk-weaker c.of_pairs-in-GetKeyRange.result _ _ (λ answer tells t index setting life stands keeps.
    let reads : Reads read.PairsAre c.get_key_range.result c.args.txn.now c.get_key_range.new.self setting (lacks_limit c.in-GetKeyRange.options.mode c.in-GetKeyRange.options.limit) c.in-GetKeyRange.snapshot
    (read.GetKeyRange c.in-GetKeyRange.range.begin c.in-GetKeyRange.range.end c.in-GetKeyRange.options.limit c.in-GetKeyRange.options.reverse) =
    c.get_key_range.ensures index setting keeps in
    subst (λ (made : Called). Answers answer c.get_key_range.new.self c.args.store.now index setting made) (sym (ap (called setting life t) c.in-GetKeyRange.is))
    (told_in_place reply.PairsAre c.get_key_range.result answer c.get_key_range.new.self c.args.store.now index setting t _
    (read_in_place setting t (lacks_limit c.in-GetKeyRange.options.mode c.in-GetKeyRange.options.limit) c.in-GetKeyRange.snapshot
    (read.GetKeyRange c.in-GetKeyRange.range.begin c.in-GetKeyRange.range.end c.in-GetKeyRange.options.limit c.in-GetKeyRange.options.reverse)) keeps (reads t stands) tells)) c.of_pairs-in-GetKeyRange.ensures.ok

pub returns-in-GetKeyRange-clause-err : goal.returns-in-GetKeyRange-clause-err
returns-in-GetKeyRange-clause-err c = on_err_weaker c.of_pairs-in-GetKeyRange.result (λ refused t index setting stands keeps.
    let reads : Reads read.PairsAre c.get_key_range.result c.args.txn.now c.get_key_range.new.self setting (lacks_limit c.in-GetKeyRange.options.mode c.in-GetKeyRange.options.limit) c.in-GetKeyRange.snapshot
    (read.GetKeyRange c.in-GetKeyRange.range.begin c.in-GetKeyRange.range.end c.in-GetKeyRange.options.limit c.in-GetKeyRange.options.reverse) =
    c.get_key_range.ensures index setting keeps in
    (left_standing reply.PairsAre c.get_key_range.result c.get_key_range.new.self c.args.store.now index setting t _ refused (reads t stands) keeps).0) c.of_pairs-in-GetKeyRange.ensures.err
