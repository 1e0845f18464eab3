use Rattle.std.proofs.Common.{◌≡◌, ℕ, false, List, length, Ok, Err, sym, ap, ◌∙◌, subst}
use Rattle.std.proofs.lemmas.Result.{err_from_is_err_and}
use Rattle.model_database.specs.Slices.{Entries, slice}
use Rattle.model_database.specs.Transactions.{Transaction, view}
use Rattle.model_recipes.specs.declared.fault.RecipeFault.TheVariants as fault
use Rattle.model_recipes.specs.Turns.{Turn, replying, turned_by, acts, acts_behind, space_begin, space_end}
use Rattle.model_recipes.specs.Blobs.{bytes_in, size_call, IsSized}
use Rattle.model_recipes.proofs.Writing.{sized}
use Rattle.recipe_layers.proofs.Answering.{read_stopped, told_fault, replied, none_written, stops_behind, stops_first, written_all}
use Rattle.recipe_layers.proofs.Turns.{size_turn}
use Rattle.recipe_layers.proofs.blob.size.Goals as goal

pub returns-in_err-pairs-clause-sized : goal.returns-in_err-pairs-clause-sized
unfolding size_call
returns-in_err-pairs-clause-sized g c setting t stands =
    let p = err_from_is_err_and c.from_residual.result c.from_residual.ensures.1 in
    let space = c.args.s.now.prefix in
    let f = c.in_err-pairs.field-0.0 in
    let after = g.T.Tr.stands c.read_pairs.new.tr setting in
    let good = λ (pairs : Entries). pairs ≡ slice (view setting t) (space_begin space) (space_end space) 0 false in
    subst (λ result. IsSized result setting after space t) (sym (p.1 ∙ ap Err p.2))
    (sized (Err f) setting after space t
    (read_stopped good f setting after (size_call space (view setting t)) t (c.in_err-pairs.ensures.read setting t stands)))

pub returns-in_err-bytes-clause-sized : goal.returns-in_err-bytes-clause-sized
unfolding size_call
returns-in_err-bytes-clause-sized g c setting t stands =
    let p = err_from_is_err_and c.from_residual-in_err-bytes.result c.from_residual-in_err-bytes.ensures.1 in
    let space = c.args.s.now.prefix in
    let f = c.in_err-bytes.field-0.0 in
    let pairs = c.in_ok-pairs.pairs in
    let after = g.T.Tr.stands c.read_pairs.new.tr setting in
    let good = λ (pairs : Entries). pairs ≡ slice (view setting t) (space_begin space) (space_end space) 0 false in
    let read = c.in_ok-pairs.ensures.read setting t stands in
    let turn = size_turn space (view setting t) pairs read.1 in
    subst (λ result. IsSized result setting after space t) (sym (p.1 ∙ ap Err p.2))
    (sized (Err f) setting after space t
    (told_fault good pairs f (bytes_in space pairs) setting after (size_call space (view setting t)) t read c.in_err-bytes.ensures
    (λ f said. turn ∙ ap (turned_by (λ bytes. replying (length bytes))) said)))

pub returns-clause-sized : goal.returns-clause-sized
unfolding size_call
returns-clause-sized g c setting t stands =
    let space = c.args.s.now.prefix in
    let pairs = c.in_ok-pairs.pairs in
    let bytes = c.in_ok-bytes.bytes in
    let first = g.T.Tr.stands c.read_pairs.new.tr setting in
    let good = λ (pairs : Entries). pairs ≡ slice (view setting t) (space_begin space) (space_end space) 0 false in
    let read = c.in_ok-pairs.ensures.read setting t stands in
    let turn = size_turn space (view setting t) pairs read.1 ∙ ap (turned_by (λ bytes. replying (length bytes))) c.in_ok-bytes.ensures in
    subst (λ size. IsSized (Ok size) setting first space t) (sym c.len.ensures)
    (sized (Ok (length bytes)) setting first space t
    (replied good pairs (replying (length bytes)) setting first first (size_call space (view setting t)) t read turn
    (λ u is. none_written setting first u is)))
