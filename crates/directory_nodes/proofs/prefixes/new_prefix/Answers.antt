use Rattle.std.proofs.Common.{ℕ, List, ◌++◌, Ok, Err, subst}
use Rattle.directory_types.specs.declared.Layer.{Layer}
use Rattle.model_directory.specs.Courses.{Course, Gives, Allocates}
use Rattle.model_directory.specs.Nodes.{allocator_of, packed_number}
use Rattle.model_directory.specs.Calls.{free_prefix, new_prefix}
use Rattle.directory_nodes.specs.Runs.{Draws}
use Rattle.directory_nodes.proofs.Following.{then_drew}
use Rattle.directory_nodes.proofs.Passing.{ended_so, ran_out}
use Rattle.directory_nodes.proofs.prefixes.new_prefix.Goals as goal

-- the number that is granted on the subspace with this prefix
abbrev granted : (space : List ℕ) → Course ℕ
granted space = Allocates space (λ number. Gives number)

abbrev takes_number : Layer → ℕ → Course (List ℕ)
takes_number layer number = free_prefix layer (layer.content ++ packed_number number)

pub returns-in_err-allocator_of-clause-draws : goal.returns-in_err-allocator_of-clause-draws
returns-in_err-allocator_of-clause-draws g c =
    let words = g.W.Words.words c.args.words.now in
    ran_out c.from_residual.result (g.T.Tr.stands c.args.tr.now) words words (new_prefix c.args.layer.now) c.from_residual.ensures.1

pub returns-in_err-number-clause-draws : goal.returns-in_err-number-clause-draws
unfolding new_prefix
returns-in_err-number-clause-draws g c =
    let result = c.from_residual-in_err-number.result in
    let before = g.T.Tr.stands c.args.tr.now in
    let after = g.T.Tr.stands c.grant.new.tr in
    let words = g.W.Words.words c.args.words.now in
    let left = g.W.Words.words c.grant.new.words in
    let layer = c.args.layer.now in
    let failed = c.in_err-number.field-0.0 in
    ended_so failed result before after words left (granted (allocator_of layer)) (takes_number layer) c.from_residual-in_err-number.ensures.1
    (subst (λ space. Draws {X = ℕ} (Err failed) before after words left (granted space)) c.in_ok-allocator_of.ensures
    c.in_err-number.ensures.draws)

pub returns-in_err-prefix-clause-draws : goal.returns-in_err-prefix-clause-draws
unfolding new_prefix
returns-in_err-prefix-clause-draws g c =
    let result = c.from_residual-in_err-prefix.result in
    let before = g.T.Tr.stands c.args.tr.now in
    let after = g.T.Tr.stands c.grant.new.tr in
    let words = g.W.Words.words c.args.words.now in
    let left = g.W.Words.words c.grant.new.words in
    let layer = c.args.layer.now in
    let number = c.in_ok-number.number in
    then_drew number result before after after words left left (granted (allocator_of layer)) (takes_number layer)
    (subst (λ space. Draws (Ok number) before after words left (granted space)) c.in_ok-allocator_of.ensures c.in_ok-number.ensures.draws)
    (ran_out result after left left (takes_number layer number) c.from_residual-in_err-prefix.ensures.1)

pub returns-clause-draws : goal.returns-clause-draws
unfolding new_prefix
returns-clause-draws g c =
    let before = g.T.Tr.stands c.args.tr.now in
    let middle = g.T.Tr.stands c.grant.new.tr in
    let after = g.T.Tr.stands c.free_prefix.new.tr in
    let words = g.W.Words.words c.args.words.now in
    let left = g.W.Words.words c.grant.new.words in
    let layer = c.args.layer.now in
    let number = c.in_ok-number.number in
    let result = c.free_prefix.result in
    then_drew number result before middle after words left left (granted (allocator_of layer)) (takes_number layer)
    (subst (λ space. Draws (Ok number) before middle words left (granted space)) c.in_ok-allocator_of.ensures c.in_ok-number.ensures.draws)
    (subst (λ prefix. Draws result middle after left left (free_prefix layer prefix)) {y = layer.content ++ packed_number number}
    c.in_ok-prefix.ensures
    (c.free_prefix.ensures.follows left))
