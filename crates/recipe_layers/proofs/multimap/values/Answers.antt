use Rattle.std.proofs.Common.{◌≡◌, ℕ, false, List, Result, Ok, Err, sym, ap, ◌∙◌, subst}
use Rattle.std.proofs.lemmas.Result.{err_from_is_err_and}
use Rattle.model_database.specs.Slices.{Entries, slice}
use Rattle.model_database.specs.Transactions.{Transaction, view}
use Rattle.model_recipes.specs.declared.Count.{Count}
use Rattle.model_recipes.specs.declared.fault.RecipeFault.{RecipeFault}
use Rattle.model_recipes.specs.declared.fault.RecipeFault.TheVariants as fault
use Rattle.model_recipes.specs.Turns.{replying, turned_by, acts, space_begin, space_end}
use Rattle.model_recipes.specs.Multimaps.{key_space, counts_in, values_call, AreValues}
use Rattle.model_recipes.proofs.Counting.{values_told}
use Rattle.recipe_layers.proofs.Answering.{stops_first, read_stopped, told_itself}
use Rattle.recipe_layers.proofs.Turns.{values_turn, same_space}
use Rattle.recipe_layers.proofs.multimap.values.Goals as goal

pub returns-in_err-front-clause-told : goal.returns-in_err-front-clause-told
returns-in_err-front-clause-told g c setting t stands =
    let p = err_from_is_err_and c.from_residual.result c.from_residual.ensures.1 in
    let space = c.args.s.now.prefix in
    let k = c.args.k.now in
    let before = g.T.Tr.stands c.args.tr.now setting in
    subst (λ (result : Result (List Count) RecipeFault). AreValues result setting before space k t) (sym (p.1 ∙ ap Err p.2))
    (values_told (Err fault.NoMemory) setting before space k t (stops_first setting before (acts (values_call space k (view setting t))) t stands))

pub returns-in_err-pairs-clause-told : goal.returns-in_err-pairs-clause-told
unfolding values_call
returns-in_err-pairs-clause-told g c setting t stands =
    let p = err_from_is_err_and c.from_residual-in_err-pairs.result c.from_residual-in_err-pairs.ensures.1 in
    let space = c.args.s.now.prefix in
    let k = c.args.k.now in
    let front = c.in_ok-front.front.prefix in
    let f = c.in_err-pairs.field-0.0 in
    let after = g.T.Tr.stands c.read_pairs.new.tr setting in
    let good = λ (pairs : Entries). pairs ≡ slice (view setting t) (space_begin front) (space_end front) 0 false in
    subst (λ (result : Result (List Count) RecipeFault). AreValues result setting after space k t) (sym (p.1 ∙ ap Err p.2))
    (values_told (Err f) setting after space k t
    (read_stopped good f setting after (values_call space k (view setting t)) t
    (same_space good (Err f) setting after front (key_space space k) 0 false t c.in_ok-front.ensures (c.in_err-pairs.ensures.read setting t stands))))

pub returns-clause-told : goal.returns-clause-told
unfolding values_call
returns-clause-told g c setting t stands =
    let space = c.args.s.now.prefix in
    let k = c.args.k.now in
    let front = c.in_ok-front.front.prefix in
    let pairs = c.in_ok-pairs.pairs in
    let after = g.T.Tr.stands c.read_pairs.new.tr setting in
    let good = λ (pairs : Entries). pairs ≡ slice (view setting t) (space_begin front) (space_end front) 0 false in
    let read = same_space good (Ok pairs) setting after front (key_space space k) 0 false t c.in_ok-front.ensures
    (c.in_ok-pairs.ensures.read setting t stands) in
    let turn = values_turn space k (view setting t) front pairs c.in_ok-front.ensures read.1 in
    values_told c.counts_in.result setting after space k t
    (told_itself good pairs c.counts_in.result (counts_in front pairs) setting after (values_call space k (view setting t)) t
    read c.counts_in.ensures turn)
