use Rattle.std.proofs.Common.{◌≡◌, ℕ, false, [], ◌∷◌, Option, Some, None, Ok, Err, refl, sym, ap, ◌∙◌, subst}
use Rattle.std.proofs.lemmas.Result.{err_from_is_err_and}
use Rattle.key_bytes.specs.declared.pairs.Pair.{Pair}
use Rattle.model_database.specs.Databases.{Clear}
use Rattle.model_database.specs.Slices.{slice, Entries}
use Rattle.model_database.specs.Transactions.{Transaction, view}
use Rattle.fdb_calls.specs.declared.fault.TrFault.{TrFault}
use Rattle.fdb_calls.specs.declared.Reply.TheVariants as reply
use Rattle.fdb_calls.specs.Answers.{Answered}
use Rattle.model_allocator.specs.Acts.{Writes, act_called}
use Rattle.model_recipes.specs.Faults.{from_tr, fault_of}
use Rattle.model_recipes.specs.Turns.{writing, replying, space_begin, space_end, first_pair}
use Rattle.model_recipes.specs.Queues.{popping, pop_call, IsPopped}
use Rattle.model_recipes.proofs.Queueing.{popped}
use Rattle.recipe_layers.specs.Steps.{pair_of}
use Rattle.recipe_layers.proofs.Answering.{read_stopped, replied, write_stopped, one_written, none_written}
use Rattle.recipe_layers.proofs.Turns.{pop_turn}
use Rattle.recipe_layers.proofs.queue.pop.Goals as goal

pub returns-in_err-read_pairs-clause-popped : goal.returns-in_err-read_pairs-clause-popped
unfolding pop_call
returns-in_err-read_pairs-clause-popped g c setting t stands =
    let p = err_from_is_err_and c.from_residual.result c.from_residual.ensures.1 in
    let space = c.args.s.now.prefix in
    let f = c.in_err-read_pairs.field-0.0 in
    let after = g.T.Tr.stands c.read_pairs.new.tr setting in
    subst (λ result. IsPopped result setting after space t) (sym (p.1 ∙ ap Err p.2))
    (popped (Err f) setting after space t
    (read_stopped (λ (pairs : Entries). pairs ≡ slice (view setting t) (space_begin space) (space_end space) 1 false) f setting after
    (pop_call space (view setting t)) t (c.in_err-read_pairs.ensures.read setting t stands)))

none_is : (first : Option Pair) → ((pair : Pair) → first ≡ Some pair → ⊥) → pair_of first ≡ None
none_is None none = refl
none_is (Some pair) none = absurd (none pair refl)

pub returns-in_default-clause-popped : goal.returns-in_default-clause-popped
unfolding pop_call
returns-in_default-clause-popped g c setting t stands =
    let space = c.args.s.now.prefix in
    let after = g.T.Tr.stands c.read_pairs.new.tr setting in
    let pairs = c.in_ok-read_pairs.field-0 in
    let first = pair_of c.first_of-first.result in
    let read = c.in_ok-read_pairs.ensures.read setting t stands in
    let turn = pop_turn space (view setting t) pairs first read.1 c.first_of-first.ensures in
    popped (Ok None) setting after space t
    (replied (λ (pairs : Entries). pairs ≡ slice (view setting t) (space_begin space) (space_end space) 1 false) pairs (replying None) setting after after
    (pop_call space (view setting t)) t read
    (turn ∙ ap (λ first. Ok (popping first)) (none_is c.first_of-first.result c.in_default.not-Some))
    (λ u is. none_written setting after u is))

pub returns-in_err-clear-clause-popped : goal.returns-in_err-clear-clause-popped
unfolding pop_call
returns-in_err-clear-clause-popped g c setting t stands =
    let p = err_from_is_err_and c.from_residual-in_err-clear.result c.from_residual-in_err-clear.ensures.1 in
    let space = c.args.s.now.prefix in
    let pair = c.in-Some.pair in
    let f = c.in_err-clear.field-0.0 in
    let before = g.T.Tr.stands c.read_pairs.new.tr setting in
    let after = g.T.Tr.stands c.clear.new.self setting in
    let pairs = c.in_ok-read_pairs.field-0 in
    let first = pair_of c.first_of-first.result in
    let read = c.in_ok-read_pairs.ensures.read setting t stands in
    let turn = pop_turn space (view setting t) pairs first read.1 c.first_of-first.ensures in
    subst (λ result. IsPopped result setting after space t) (sym (p.1 ∙ ap Err p.2))
    (popped (Err (fault_of f)) setting after space t
    (write_stopped (λ (pairs : Entries). pairs ≡ slice (view setting t) (space_begin space) (space_end space) 1 false) pairs (fault_of f)
    (writing (Clear pair.key) (Some pair.value)) setting before after (pop_call space (view setting t)) t read
    (turn ∙ ap (λ first. Ok (popping (pair_of first))) c.in-Some.is)
    (λ u is. one_written (Err f) setting after (Clear pair.key) u
    (subst (λ key. Answered (λ (done : Unit {0}). reply.Done) (Err f) after u (act_called setting u (Writes (Clear key))))
    c.as_slice.ensures (c.in_err-clear.ensures.answer setting u is)))))

pub returns-clause-popped : goal.returns-clause-popped
unfolding pop_call
returns-clause-popped g c setting t stands =
    let space = c.args.s.now.prefix in
    let pair = c.in-Some.pair in
    let before = g.T.Tr.stands c.read_pairs.new.tr setting in
    let after = g.T.Tr.stands c.clear.new.self setting in
    let pairs = c.in_ok-read_pairs.field-0 in
    let first = pair_of c.first_of-first.result in
    let read = c.in_ok-read_pairs.ensures.read setting t stands in
    let turn = pop_turn space (view setting t) pairs first read.1 c.first_of-first.ensures in
    popped (Ok (Some pair.value)) setting after space t
    (replied (λ (pairs : Entries). pairs ≡ slice (view setting t) (space_begin space) (space_end space) 1 false) pairs
    (writing (Clear pair.key) (Some pair.value)) setting before after (pop_call space (view setting t)) t read
    (turn ∙ ap (λ first. Ok (popping (pair_of first))) c.in-Some.is)
    (λ u is. one_written (Ok c.in_ok-clear.field-0) setting after (Clear pair.key) u
    (subst (λ key. Answered (λ (done : Unit {0}). reply.Done) (Ok c.in_ok-clear.field-0) after u (act_called setting u (Writes (Clear key))))
    c.as_slice.ensures (c.in_ok-clear.ensures.answer setting u is))))
