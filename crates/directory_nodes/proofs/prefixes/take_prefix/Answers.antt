use Rattle.std.proofs.Common.{ℕ, true, false, List, Option, sym, subst}
use Rattle.directory_types.specs.declared.Layer.{Layer}
use Rattle.model_directory.specs.Courses.{Course, Done}
use Rattle.model_directory.specs.Steps.{check}
use Rattle.model_directory.specs.Calls.{prefix_for, takes_prefix}
use Rattle.directory_nodes.specs.Runs.{Draws}
use Rattle.directory_nodes.proofs.Following.{then_drew}
use Rattle.directory_nodes.proofs.Passing.{ended_so}
use Rattle.directory_nodes.proofs.prefixes.take_prefix.Goals as goal

-- once the directories may be written
abbrev written : Layer → (prefix : Option (List ℕ)) → Done → Course (List ℕ)
written layer prefix done = prefix_for layer prefix

pub returns-in_err-check-clause-draws : goal.returns-in_err-check-clause-draws
unfolding takes_prefix
returns-in_err-check-clause-draws g c =
    let words = g.W.Words.words c.args.words.now in
    let layer = c.args.layer.now in
    ended_so c.in_err-check.field-0.0 c.from_residual.result (g.T.Tr.stands c.args.tr.now) (g.T.Tr.stands c.check.new.tr) words words
    (check true false layer) (written layer c.args.prefix.now) c.from_residual.ensures.1 (c.in_err-check.ensures.follows words)

pub returns-in-Some-clause-draws : goal.returns-in-Some-clause-draws
unfolding takes_prefix
returns-in-Some-clause-draws g c =
    let middle = g.T.Tr.stands c.check.new.tr in
    let after = g.T.Tr.stands c.given_prefix.new.tr in
    let words = g.W.Words.words c.args.words.now in
    let layer = c.args.layer.now in
    let result = c.given_prefix.result in
    then_drew c.in_ok-check.field-0 result (g.T.Tr.stands c.args.tr.now) middle after words words words (check true false layer)
    (written layer c.args.prefix.now) (c.in_ok-check.ensures.follows words)
    (subst (λ prefix. Draws result middle after words words (prefix_for layer prefix)) (sym c.in-Some.is)
    (c.given_prefix.ensures.follows words))

pub returns-in-None-clause-draws : goal.returns-in-None-clause-draws
unfolding takes_prefix
returns-in-None-clause-draws g c =
    let middle = g.T.Tr.stands c.check.new.tr in
    let after = g.T.Tr.stands c.new_prefix.new.tr in
    let words = g.W.Words.words c.args.words.now in
    let left = g.W.Words.words c.new_prefix.new.words in
    let layer = c.args.layer.now in
    let result = c.new_prefix.result in
    then_drew c.in_ok-check.field-0 result (g.T.Tr.stands c.args.tr.now) middle after words words left (check true false layer)
    (written layer c.args.prefix.now) (c.in_ok-check.ensures.follows words)
    (subst (λ prefix. Draws result middle after words left (prefix_for layer prefix)) (sym c.in-None.is) c.new_prefix.ensures.draws)
