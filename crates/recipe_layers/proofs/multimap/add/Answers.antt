use Rattle.std.proofs.Common.{◌≡◌, ℕ, List, Option, Ok, Err, sym, ap, ◌∙◌, subst, refl}
use Rattle.std.proofs.lemmas.Result.{err_from_is_err_and}
use Rattle.std.specs.FinMap as finite
use Rattle.std.specs.Int.{w64, to_le_bytes}
use Rattle.model_database.specs.Databases.{Set, Clear}
use Rattle.model_database.specs.Transactions.{Transaction, view}
use Rattle.fdb_calls.specs.declared.Reply.TheVariants as reply
use Rattle.fdb_calls.specs.Answers.{Answered}
use Rattle.model_allocator.specs.Acts.{Writes, act_called}
use Rattle.model_recipes.specs.declared.fault.RecipeFault.TheVariants as fault
use Rattle.model_recipes.specs.Faults.{from_tr}
use Rattle.model_recipes.specs.Turns.{Turn, writing, replying, turned_by, acts}
use Rattle.model_recipes.specs.Multimaps.{pair_key, one_more, sets_count, add_call, IsAdded}
use Rattle.model_recipes.proofs.Counting.{added}
use Rattle.recipe_layers.proofs.Answering.{stops_first, read_stopped, told_fault, written_all, one_written, replied, none_written}
use Rattle.recipe_layers.proofs.Turns.{add_turn, same_key}
use Rattle.recipe_layers.proofs.multimap.add.Goals as goal

pub returns-in_err-at-clause-added : goal.returns-in_err-at-clause-added
returns-in_err-at-clause-added g c setting t stands =
    let p = err_from_is_err_and c.from_residual.result c.from_residual.ensures.1 in
    let space = c.args.s.now.prefix in
    let k = c.args.k.now in
    let v = c.args.v.now in
    let before = g.T.Tr.stands c.args.tr.now setting in
    subst (λ result. IsAdded result setting before space k v t) (sym (p.1 ∙ ap Err p.2))
    (added (Err fault.NoMemory) setting before space k v t c.shows_bytes.ensures.first c.shows_bytes.ensures.second
    (stops_first setting before (acts (add_call space k v (view setting t))) t stands))

pub returns-in_err-value-clause-added : goal.returns-in_err-value-clause-added
unfolding add_call
returns-in_err-value-clause-added g c setting t stands =
    let p = err_from_is_err_and c.from_residual-in_err-value.result c.from_residual-in_err-value.ensures.1 in
    let space = c.args.s.now.prefix in
    let k = c.args.k.now in
    let v = c.args.v.now in
    let at = c.in_ok-at.at in
    let f = c.in_err-value.field-0.0 in
    let after = g.T.Tr.stands c.read_value.new.tr setting in
    let good = λ (value : Option (List ℕ)). value ≡ finite.get (view setting t) at in
    subst (λ result. IsAdded result setting after space k v t) (sym (p.1 ∙ ap Err p.2))
    (added (Err f) setting after space k v t c.shows_bytes.ensures.first c.shows_bytes.ensures.second
    (read_stopped good f setting after (add_call space k v (view setting t)) t
    (same_key good (Err f) setting after at (pair_key space k v) t c.in_ok-at.ensures (c.in_err-value.ensures.read setting t stands))))

pub returns-in_err-count-clause-added : goal.returns-in_err-count-clause-added
unfolding add_call
returns-in_err-count-clause-added g c setting t stands =
    let p = err_from_is_err_and c.from_residual-in_err-count.result c.from_residual-in_err-count.ensures.1 in
    let space = c.args.s.now.prefix in
    let k = c.args.k.now in
    let v = c.args.v.now in
    let at = c.in_ok-at.at in
    let value = c.in_ok-value.value in
    let f = c.in_err-count.field-0.0 in
    let after = g.T.Tr.stands c.read_value.new.tr setting in
    let good = λ (value : Option (List ℕ)). value ≡ finite.get (view setting t) at in
    let read = same_key good (Ok value) setting after at (pair_key space k v) t c.in_ok-at.ensures (c.in_ok-value.ensures.read setting t stands) in
    let turn = add_turn space k v (view setting t) at value c.count_at.result c.in_ok-at.ensures read.1 c.count_at.ensures in
    subst (λ result. IsAdded result setting after space k v t) (sym (p.1 ∙ ap Err p.2))
    (added (Err f) setting after space k v t c.shows_bytes.ensures.first c.shows_bytes.ensures.second
    (told_fault good value f (one_more at c.count_at.result) setting after (add_call space k v (view setting t)) t read c.in_err-count.ensures
    (λ f said. turn ∙ ap (turned_by (sets_count at)) said)))

pub returns-clause-added : goal.returns-clause-added
unfolding add_call
returns-clause-added g c setting t stands =
    let space = c.args.s.now.prefix in
    let k = c.args.k.now in
    let v = c.args.v.now in
    let at = c.in_ok-at.at in
    let value = c.in_ok-value.value in
    let count = c.in_ok-count.count in
    let first = g.T.Tr.stands c.read_value.new.tr setting in
    let good = λ (value : Option (List ℕ)). value ≡ finite.get (view setting t) at in
    let read = same_key good (Ok value) setting first at (pair_key space k v) t c.in_ok-at.ensures (c.in_ok-value.ensures.read setting t stands) in
    let turn = add_turn space k v (view setting t) at value c.count_at.result c.in_ok-at.ensures read.1 c.count_at.ensures
    ∙ ap (turned_by (sets_count at)) c.in_ok-count.ensures in
    let after = g.T.Tr.stands c.set.new.self setting in
    let bytes = to_le_bytes w64 count in
    subst (λ result. IsAdded result setting after space k v t) (sym c.from_tr.ensures)
    (added (from_tr c.set.result) setting after space k v t c.shows_bytes.ensures.first c.shows_bytes.ensures.second
    (written_all good value (from_tr c.set.result) (sets_count at count) setting first after (add_call space k v (view setting t)) t read
    (turn)
    (λ u is. one_written c.set.result setting after (Set at bytes) u
    (subst (λ key. Answered (λ (done : Unit {0}). reply.Done) c.set.result after u (act_called setting u (Writes (Set key bytes)))) c.as_slice.ensures
    (subst (λ bytes. Answered (λ (done : Unit {0}). reply.Done) c.set.result after u (act_called setting u (Writes (Set c.as_slice.result.now bytes))))
    c.to_le_bytes-bytes.ensures (c.set.ensures.answer setting u is))))))
