use Rattle.std.proofs.Common.{◌≡◌, ℕ, List, Option, ◌-◌, Ok, Err, sym, ap, ◌∙◌, subst, refl}
use Rattle.std.proofs.lemmas.Result.{err_from_is_err_and}
use Rattle.std.specs.FinMap as finite
use Rattle.std.specs.Int.{w64, to_le_bytes}
use Rattle.model_database.specs.Databases.{Set, Clear}
use Rattle.model_database.specs.Transactions.{Transaction, view}
use Rattle.fdb_calls.specs.declared.Reply.TheVariants as reply
use Rattle.fdb_calls.specs.Answers.{Answered}
use Rattle.model_allocator.specs.Acts.{Writes, act_called}
use Rattle.model_recipes.specs.declared.fault.RecipeFault.TheVariants as fault
use Rattle.model_recipes.specs.Faults.{from_tr}
use Rattle.model_recipes.specs.Turns.{Turn, writing, replying, turned_by, acts}
use Rattle.model_recipes.specs.Multimaps.{pair_key, there, lowers, sets_count, subtract_call, IsSubtracted}
use Rattle.model_recipes.proofs.Counting.{subtracted}
use Rattle.recipe_layers.proofs.Answering.{stops_first, read_stopped, told_fault, written_all, one_written, replied, none_written}
use Rattle.recipe_layers.proofs.Turns.{subtract_turn, lowers_none, lowers_last, lowers_more, same_key}
use Rattle.recipe_layers.proofs.multimap.subtract.Goals as goal

pub returns-in_err-at-clause-subtracted : goal.returns-in_err-at-clause-subtracted
returns-in_err-at-clause-subtracted g c setting t stands =
    let p = err_from_is_err_and c.from_residual.result c.from_residual.ensures.1 in
    let space = c.args.s.now.prefix in
    let k = c.args.k.now in
    let v = c.args.v.now in
    let before = g.T.Tr.stands c.args.tr.now setting in
    subst (λ result. IsSubtracted result setting before space k v t) (sym (p.1 ∙ ap Err p.2))
    (subtracted (Err fault.NoMemory) setting before space k v t c.shows_bytes.ensures.first c.shows_bytes.ensures.second
    (stops_first setting before (acts (subtract_call space k v (view setting t))) t stands))

pub returns-in_err-value-clause-subtracted : goal.returns-in_err-value-clause-subtracted
unfolding subtract_call
returns-in_err-value-clause-subtracted g c setting t stands =
    let p = err_from_is_err_and c.from_residual-in_err-value.result c.from_residual-in_err-value.ensures.1 in
    let space = c.args.s.now.prefix in
    let k = c.args.k.now in
    let v = c.args.v.now in
    let at = c.in_ok-at.at in
    let f = c.in_err-value.field-0.0 in
    let after = g.T.Tr.stands c.read_value.new.tr setting in
    let good = λ (value : Option (List ℕ)). value ≡ finite.get (view setting t) at in
    subst (λ result. IsSubtracted result setting after space k v t) (sym (p.1 ∙ ap Err p.2))
    (subtracted (Err f) setting after space k v t c.shows_bytes.ensures.first c.shows_bytes.ensures.second
    (read_stopped good f setting after (subtract_call space k v (view setting t)) t
    (same_key good (Err f) setting after at (pair_key space k v) t c.in_ok-at.ensures (c.in_err-value.ensures.read setting t stands))))

pub returns-in_err-count-clause-subtracted : goal.returns-in_err-count-clause-subtracted
unfolding subtract_call
returns-in_err-count-clause-subtracted g c setting t stands =
    let p = err_from_is_err_and c.from_residual-in_err-count.result c.from_residual-in_err-count.ensures.1 in
    let space = c.args.s.now.prefix in
    let k = c.args.k.now in
    let v = c.args.v.now in
    let at = c.in_ok-at.at in
    let value = c.in_ok-value.value in
    let f = c.in_err-count.field-0.0 in
    let after = g.T.Tr.stands c.read_value.new.tr setting in
    let good = λ (value : Option (List ℕ)). value ≡ finite.get (view setting t) at in
    let read = same_key good (Ok value) setting after at (pair_key space k v) t c.in_ok-at.ensures (c.in_ok-value.ensures.read setting t stands) in
    let turn = subtract_turn space k v (view setting t) at value c.count_at.result c.in_ok-at.ensures read.1 c.count_at.ensures in
    subst (λ result. IsSubtracted result setting after space k v t) (sym (p.1 ∙ ap Err p.2))
    (subtracted (Err f) setting after space k v t c.shows_bytes.ensures.first c.shows_bytes.ensures.second
    (told_fault good value f (there at c.count_at.result) setting after (subtract_call space k v (view setting t)) t read c.in_err-count.ensures
    (λ f said. turn ∙ ap (turned_by (lowers at)) said)))

pub returns-then-count-eq0-clause-subtracted : goal.returns-then-count-eq0-clause-subtracted
unfolding subtract_call
returns-then-count-eq0-clause-subtracted g c setting t stands =
    let space = c.args.s.now.prefix in
    let k = c.args.k.now in
    let v = c.args.v.now in
    let at = c.in_ok-at.at in
    let value = c.in_ok-value.value in
    let count = c.in_ok-count.count in
    let first = g.T.Tr.stands c.read_value.new.tr setting in
    let good = λ (value : Option (List ℕ)). value ≡ finite.get (view setting t) at in
    let read = same_key good (Ok value) setting first at (pair_key space k v) t c.in_ok-at.ensures (c.in_ok-value.ensures.read setting t stands) in
    let turn = subtract_turn space k v (view setting t) at value c.count_at.result c.in_ok-at.ensures read.1 c.count_at.ensures
    ∙ ap (turned_by (lowers at)) c.in_ok-count.ensures in
    subtracted (Ok tt) setting first space k v t c.shows_bytes.ensures.first c.shows_bytes.ensures.second
    (replied good value (replying tt) setting first first (subtract_call space k v (view setting t)) t read
    (turn ∙ ap Ok (lowers_none at count c.if-count-eq0.true))
    (λ u is. none_written setting first u is))

pub returns-then-count-eq1-clause-subtracted : goal.returns-then-count-eq1-clause-subtracted
unfolding subtract_call
returns-then-count-eq1-clause-subtracted g c setting t stands =
    let space = c.args.s.now.prefix in
    let k = c.args.k.now in
    let v = c.args.v.now in
    let at = c.in_ok-at.at in
    let value = c.in_ok-value.value in
    let count = c.in_ok-count.count in
    let first = g.T.Tr.stands c.read_value.new.tr setting in
    let good = λ (value : Option (List ℕ)). value ≡ finite.get (view setting t) at in
    let read = same_key good (Ok value) setting first at (pair_key space k v) t c.in_ok-at.ensures (c.in_ok-value.ensures.read setting t stands) in
    let turn = subtract_turn space k v (view setting t) at value c.count_at.result c.in_ok-at.ensures read.1 c.count_at.ensures
    ∙ ap (turned_by (lowers at)) c.in_ok-count.ensures in
    let after = g.T.Tr.stands c.clear.new.self setting in
    subst (λ result. IsSubtracted result setting after space k v t) (sym c.from_tr.ensures)
    (subtracted (from_tr c.clear.result) setting after space k v t c.shows_bytes.ensures.first c.shows_bytes.ensures.second
    (written_all good value (from_tr c.clear.result) (writing (Clear at) tt) setting first after (subtract_call space k v (view setting t)) t read
    (turn ∙ ap Ok (lowers_last at count c.if-count-eq1.true))
    (λ u is. one_written c.clear.result setting after (Clear at) u
    (subst (λ key. Answered (λ (done : Unit {0}). reply.Done) c.clear.result after u (act_called setting u (Writes (Clear key)))) c.as_slice.ensures
    (c.clear.ensures.answer setting u is)))))

pub returns-clause-subtracted : goal.returns-clause-subtracted
unfolding subtract_call
returns-clause-subtracted g c setting t stands =
    let space = c.args.s.now.prefix in
    let k = c.args.k.now in
    let v = c.args.v.now in
    let at = c.in_ok-at.at in
    let value = c.in_ok-value.value in
    let count = c.in_ok-count.count in
    let first = g.T.Tr.stands c.read_value.new.tr setting in
    let good = λ (value : Option (List ℕ)). value ≡ finite.get (view setting t) at in
    let read = same_key good (Ok value) setting first at (pair_key space k v) t c.in_ok-at.ensures (c.in_ok-value.ensures.read setting t stands) in
    let turn = subtract_turn space k v (view setting t) at value c.count_at.result c.in_ok-at.ensures read.1 c.count_at.ensures
    ∙ ap (turned_by (lowers at)) c.in_ok-count.ensures in
    let after = g.T.Tr.stands c.set.new.self setting in
    let bytes = to_le_bytes w64 (count - 1) in
    subst (λ result. IsSubtracted result setting after space k v t) (sym c.from_tr-2.ensures)
    (subtracted (from_tr c.set.result) setting after space k v t c.shows_bytes.ensures.first c.shows_bytes.ensures.second
    (written_all good value (from_tr c.set.result) (sets_count at (count - 1)) setting first after (subtract_call space k v (view setting t)) t read
    (turn ∙ ap Ok (lowers_more at count c.if-count-eq0.false c.if-count-eq1.false))
    (λ u is. one_written c.set.result setting after (Set at bytes) u
    (subst (λ key. Answered (λ (done : Unit {0}). reply.Done) c.set.result after u (act_called setting u (Writes (Set key bytes)))) c.as_slice-2.ensures
    (subst (λ bytes. Answered (λ (done : Unit {0}). reply.Done) c.set.result after u (act_called setting u (Writes (Set c.as_slice-2.result.now bytes))))
    c.to_le_bytes-bytes.ensures (c.set.ensures.answer setting u is))))))
