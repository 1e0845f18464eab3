use Rattle.std.proofs.Common.{◌≡◌, ℕ, true, Ok, Err, sym, ap, ◌∙◌, subst}
use Rattle.std.proofs.lemmas.Result.{err_from_is_err_and}
use Rattle.model_database.specs.Databases.{Set}
use Rattle.model_database.specs.Slices.{slice, Entries}
use Rattle.model_database.specs.Transactions.{Transaction, view}
use Rattle.fdb_calls.specs.declared.Reply.TheVariants as reply
use Rattle.fdb_calls.specs.Answers.{Answered}
use Rattle.model_allocator.specs.Acts.{Writes, act_called}
use Rattle.model_recipes.specs.Faults.{from_tr}
use Rattle.model_recipes.specs.Turns.{turned_by, space_begin, space_end}
use Rattle.model_recipes.specs.Queues.{next_key, push_call, IsPushed}
use Rattle.model_recipes.proofs.Queueing.{pushed}
use Rattle.recipe_layers.specs.Steps.{pair_of}
use Rattle.recipe_layers.proofs.Answering.{read_stopped, told_fault, written_all, one_written}
use Rattle.recipe_layers.proofs.Turns.{sets_next, push_turn}
use Rattle.recipe_layers.proofs.queue.push.Goals as goal

pub returns-in_err-read_pairs-clause-pushed : goal.returns-in_err-read_pairs-clause-pushed
unfolding push_call
returns-in_err-read_pairs-clause-pushed g c setting t stands =
    let p = err_from_is_err_and c.from_residual.result c.from_residual.ensures.1 in
    let space = c.args.s.now.prefix in
    let value = c.args.v.now in
    let f = c.in_err-read_pairs.field-0.0 in
    let after = g.T.Tr.stands c.read_pairs.new.tr setting in
    subst (λ result. IsPushed result setting after space value t) (sym (p.1 ∙ ap Err p.2))
    (pushed (Err f) setting after space value t
    (read_stopped (λ (pairs : Entries). pairs ≡ slice (view setting t) (space_begin space) (space_end space) 1 true) f setting after
    (push_call space value (view setting t)) t (c.in_err-read_pairs.ensures.read setting t stands)))

pub returns-in_err-key-clause-pushed : goal.returns-in_err-key-clause-pushed
unfolding push_call
returns-in_err-key-clause-pushed g c setting t stands =
    let p = err_from_is_err_and c.from_residual-in_err-key.result c.from_residual-in_err-key.ensures.1 in
    let space = c.args.s.now.prefix in
    let value = c.args.v.now in
    let f = c.in_err-key.field-0.0 in
    let after = g.T.Tr.stands c.read_pairs.new.tr setting in
    let pairs = c.in_ok-read_pairs.field-0 in
    let last = pair_of c.first_of-last.result in
    let read = c.in_ok-read_pairs.ensures.read setting t stands in
    let turn = push_turn space value (view setting t) pairs last read.1 c.first_of-last.ensures in
    subst (λ result. IsPushed result setting after space value t) (sym (p.1 ∙ ap Err p.2))
    (pushed (Err f) setting after space value t
    (told_fault (λ (pairs : Entries). pairs ≡ slice (view setting t) (space_begin space) (space_end space) 1 true) pairs f (next_key space last)
    setting after (push_call space value (view setting t)) t read c.in_err-key.ensures
    (λ f said. turn ∙ ap (turned_by (sets_next value)) said)))

pub returns-clause-pushed : goal.returns-clause-pushed
unfolding push_call
returns-clause-pushed g c setting t stands =
    let space = c.args.s.now.prefix in
    let value = c.args.v.now in
    let key = c.in_ok-key.key in
    let first = g.T.Tr.stands c.read_pairs.new.tr setting in
    let after = g.T.Tr.stands c.set.new.self setting in
    let pairs = c.in_ok-read_pairs.field-0 in
    let last = pair_of c.first_of-last.result in
    let read = c.in_ok-read_pairs.ensures.read setting t stands in
    let turn = push_turn space value (view setting t) pairs last read.1 c.first_of-last.ensures in
    subst (λ result. IsPushed result setting after space value t) (sym c.from_tr.ensures)
    (pushed (from_tr c.set.result) setting after space value t
    (written_all (λ (pairs : Entries). pairs ≡ slice (view setting t) (space_begin space) (space_end space) 1 true) pairs (from_tr c.set.result)
    (sets_next value key) setting first after (push_call space value (view setting t)) t read
    (turn ∙ ap (turned_by (sets_next value)) c.in_ok-key.ensures)
    (λ u is. one_written c.set.result setting after (Set key value) u
    (subst (λ key. Answered (λ (done : Unit {0}). reply.Done) c.set.result after u (act_called setting u (Writes (Set key value))))
    c.as_slice.ensures (c.set.ensures.answer setting u is)))))
