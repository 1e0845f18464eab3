use Rattle.std.proofs.Common.{◌≡◌, ℕ, false, List, length, Ok, Err, sym, ap, ◌∙◌, subst}
use Rattle.std.proofs.lemmas.Result.{err_from_is_err_and}
use Rattle.model_database.specs.Slices.{Entries, slice}
use Rattle.model_database.specs.Transactions.{Transaction, view}
use Rattle.model_recipes.specs.declared.fault.RecipeFault.TheVariants as fault
use Rattle.model_recipes.specs.Turns.{Turn, replying, turned_by, acts, acts_behind, space_begin, space_end}
use Rattle.model_recipes.specs.Blobs.{bytes_in, part, read_call, ArePart}
use Rattle.model_recipes.proofs.Writing.{read_part}
use Rattle.recipe_layers.proofs.Answering.{read_stopped, told_fault, replied, none_written, read_short}
use Rattle.recipe_layers.proofs.Turns.{read_turn}
use Rattle.recipe_layers.proofs.blob.read.Goals as goal

pub returns-in_err-pairs-clause-part : goal.returns-in_err-pairs-clause-part
unfolding read_call
returns-in_err-pairs-clause-part g c setting t stands =
    let p = err_from_is_err_and c.from_residual.result c.from_residual.ensures.1 in
    let space = c.args.s.now.prefix in
    let f = c.in_err-pairs.field-0.0 in
    let after = g.T.Tr.stands c.read_pairs.new.tr setting in
    let good = λ (pairs : Entries). pairs ≡ slice (view setting t) (space_begin space) (space_end space) 0 false in
    subst (λ result. ArePart result setting after space c.args.from c.args.n t) (sym (p.1 ∙ ap Err p.2))
    (read_part (Err f) setting after space c.args.from c.args.n t
    (read_stopped good f setting after (read_call space c.args.from c.args.n (view setting t)) t (c.in_err-pairs.ensures.read setting t stands)))

pub returns-in_err-bytes-clause-part : goal.returns-in_err-bytes-clause-part
unfolding read_call
returns-in_err-bytes-clause-part g c setting t stands =
    let p = err_from_is_err_and c.from_residual-in_err-bytes.result c.from_residual-in_err-bytes.ensures.1 in
    let space = c.args.s.now.prefix in
    let f = c.in_err-bytes.field-0.0 in
    let pairs = c.in_ok-pairs.pairs in
    let after = g.T.Tr.stands c.read_pairs.new.tr setting in
    let good = λ (pairs : Entries). pairs ≡ slice (view setting t) (space_begin space) (space_end space) 0 false in
    let read = c.in_ok-pairs.ensures.read setting t stands in
    let turn = read_turn space c.args.from c.args.n (view setting t) pairs read.1 in
    subst (λ result. ArePart result setting after space c.args.from c.args.n t) (sym (p.1 ∙ ap Err p.2))
    (read_part (Err f) setting after space c.args.from c.args.n t
    (told_fault good pairs f (bytes_in space pairs) setting after (read_call space c.args.from c.args.n (view setting t)) t read c.in_err-bytes.ensures
    (λ f said. turn ∙ ap (turned_by (λ bytes. replying (part c.args.from c.args.n bytes))) said)))

pub returns-in_err-from_slice-clause-part : goal.returns-in_err-from_slice-clause-part
unfolding read_call
returns-in_err-from_slice-clause-part g c setting t stands =
    let p = err_from_is_err_and c.from_residual-in_err-from_slice.result c.from_residual-in_err-from_slice.ensures.1 in
    let space = c.args.s.now.prefix in
    let pairs = c.in_ok-pairs.pairs in
    let after = g.T.Tr.stands c.read_pairs.new.tr setting in
    let good = λ (pairs : Entries). pairs ≡ slice (view setting t) (space_begin space) (space_end space) 0 false in
    let read = c.in_ok-pairs.ensures.read setting t stands in
    subst (λ result. ArePart result setting after space c.args.from c.args.n t) (sym (p.1 ∙ ap Err p.2))
    (read_part (Err fault.NoMemory) setting after space c.args.from c.args.n t
    (read_short good pairs setting after (read_call space c.args.from c.args.n (view setting t)) t read))

pub returns-clause-part : goal.returns-clause-part
unfolding read_call
returns-clause-part g c setting t stands =
    let space = c.args.s.now.prefix in
    let pairs = c.in_ok-pairs.pairs in
    let bytes = c.in_ok-bytes.bytes in
    let first = g.T.Tr.stands c.read_pairs.new.tr setting in
    let good = λ (pairs : Entries). pairs ≡ slice (view setting t) (space_begin space) (space_end space) 0 false in
    let read = c.in_ok-pairs.ensures.read setting t stands in
    let turn = read_turn space c.args.from c.args.n (view setting t) pairs read.1 ∙ ap (turned_by (λ bytes. replying (part c.args.from c.args.n bytes))) c.in_ok-bytes.ensures in
    let part_is = c.in_ok-from_slice.ensures ∙ c.part-part.ensures ∙ ap (part c.args.from c.args.n) c.as_slice.ensures in
    subst (λ (bytes : List ℕ). ArePart (Ok bytes) setting first space c.args.from c.args.n t) (sym part_is)
    (read_part (Ok (part c.args.from c.args.n bytes)) setting first space c.args.from c.args.n t
    (replied good pairs (replying (part c.args.from c.args.n bytes)) setting first first (read_call space c.args.from c.args.n (view setting t)) t read turn
    (λ u is. none_written setting first u is)))
