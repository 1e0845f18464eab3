use Rattle.std.proofs.Common.{◌≡◌, ℕ, false, List, length, Ok, Err, sym, ap, ◌∙◌, subst}
use Rattle.std.proofs.lemmas.Result.{err_from_is_err_and}
use Rattle.model_database.specs.Slices.{Entries, slice}
use Rattle.model_database.specs.Transactions.{Transaction, view}
use Rattle.model_recipes.specs.declared.fault.RecipeFault.TheVariants as fault
use Rattle.model_recipes.specs.Turns.{Turn, replying, turned_by, acts, acts_behind, space_begin, space_end}
use Rattle.model_recipes.specs.Blobs.{bytes_in, put_over, put_in, sets_piece, write_call, IsOverwritten}
use Rattle.model_recipes.proofs.Writing.{overwrote}
use Rattle.recipe_layers.proofs.Answering.{read_stopped, told_fault, replied, none_written, stops_behind, stops_first, written_all}
use Rattle.recipe_layers.proofs.Turns.{write_turn}
use Rattle.recipe_layers.proofs.blob.write.Goals as goal

pub returns-in_err-pairs-clause-overwritten : goal.returns-in_err-pairs-clause-overwritten
unfolding write_call
returns-in_err-pairs-clause-overwritten g c setting t stands =
    let p = err_from_is_err_and c.from_residual.result c.from_residual.ensures.1 in
    let space = c.args.s.now.prefix in
    let f = c.in_err-pairs.field-0.0 in
    let after = g.T.Tr.stands c.read_pairs.new.tr setting in
    let good = λ (pairs : Entries). pairs ≡ slice (view setting t) (space_begin space) (space_end space) 0 false in
    subst (λ result. IsOverwritten result setting after space c.args.at c.args.piece.now t) (sym (p.1 ∙ ap Err p.2))
    (overwrote (Err f) setting after space c.args.at c.args.piece.now t
    (read_stopped good f setting after (write_call space c.args.at c.args.piece.now (view setting t)) t (c.in_err-pairs.ensures.read setting t stands)))

pub returns-in_err-bytes-clause-overwritten : goal.returns-in_err-bytes-clause-overwritten
unfolding write_call
returns-in_err-bytes-clause-overwritten g c setting t stands =
    let p = err_from_is_err_and c.from_residual-in_err-bytes.result c.from_residual-in_err-bytes.ensures.1 in
    let space = c.args.s.now.prefix in
    let f = c.in_err-bytes.field-0.0 in
    let pairs = c.in_ok-pairs.pairs in
    let after = g.T.Tr.stands c.read_pairs.new.tr setting in
    let good = λ (pairs : Entries). pairs ≡ slice (view setting t) (space_begin space) (space_end space) 0 false in
    let read = c.in_ok-pairs.ensures.read setting t stands in
    let turn = write_turn space c.args.at c.args.piece.now (view setting t) pairs read.1 in
    subst (λ result. IsOverwritten result setting after space c.args.at c.args.piece.now t) (sym (p.1 ∙ ap Err p.2))
    (overwrote (Err f) setting after space c.args.at c.args.piece.now t
    (told_fault good pairs f (bytes_in space pairs) setting after (write_call space c.args.at c.args.piece.now (view setting t)) t read c.in_err-bytes.ensures
    (λ f said. turn ∙ ap (λ found. turned_by (sets_piece space c.args.at (length c.args.piece.now)) (put_in c.args.at c.args.piece.now found)) said)))

pub returns-in_err-new-clause-overwritten : goal.returns-in_err-new-clause-overwritten
unfolding write_call
returns-in_err-new-clause-overwritten g c setting t stands =
    let p = err_from_is_err_and c.from_residual-in_err-new.result c.from_residual-in_err-new.ensures.1 in
    let space = c.args.s.now.prefix in
    let pairs = c.in_ok-pairs.pairs in
    let bytes = c.in_ok-bytes.bytes in
    let first = g.T.Tr.stands c.read_pairs.new.tr setting in
    let good = λ (pairs : Entries). pairs ≡ slice (view setting t) (space_begin space) (space_end space) 0 false in
    let read = c.in_ok-pairs.ensures.read setting t stands in
    let turn = write_turn space c.args.at c.args.piece.now (view setting t) pairs read.1 ∙ ap (λ found. turned_by (sets_piece space c.args.at (length c.args.piece.now)) (put_in c.args.at c.args.piece.now found)) c.in_ok-bytes.ensures in
    let f = c.in_err-new.field-0.0 in
    subst (λ result. IsOverwritten result setting first space c.args.at c.args.piece.now t) (sym (p.1 ∙ ap Err p.2))
    (overwrote (Err f) setting first space c.args.at c.args.piece.now t
    (told_fault good pairs f (put_over c.args.at c.args.piece.now bytes) setting first (write_call space c.args.at c.args.piece.now (view setting t)) t read c.in_err-new.ensures
    (λ f said. turn ∙ ap (turned_by (sets_piece space c.args.at (length c.args.piece.now))) said)))

pub returns-clause-overwritten : goal.returns-clause-overwritten
unfolding write_call
returns-clause-overwritten g c setting t stands =
    let space = c.args.s.now.prefix in
    let pairs = c.in_ok-pairs.pairs in
    let bytes = c.in_ok-bytes.bytes in
    let first = g.T.Tr.stands c.read_pairs.new.tr setting in
    let good = λ (pairs : Entries). pairs ≡ slice (view setting t) (space_begin space) (space_end space) 0 false in
    let read = c.in_ok-pairs.ensures.read setting t stands in
    let turn = write_turn space c.args.at c.args.piece.now (view setting t) pairs read.1 ∙ ap (λ found. turned_by (sets_piece space c.args.at (length c.args.piece.now)) (put_in c.args.at c.args.piece.now found)) c.in_ok-bytes.ensures in
    let new = c.in_ok-new.new in
    let after = g.T.Tr.stands c.set_chunks.new.tr setting in
    overwrote c.set_chunks.result setting after space c.args.at c.args.piece.now t
    (written_all good pairs c.set_chunks.result (sets_piece space c.args.at (length c.args.piece.now) new) setting first after
    (write_call space c.args.at c.args.piece.now (view setting t)) t read
    (turn ∙ ap (turned_by (sets_piece space c.args.at (length c.args.piece.now))) c.in_ok-new.ensures)
    (λ u is. c.set_chunks.ensures.written setting u is))
