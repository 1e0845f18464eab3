use Rattle.std.proofs.Common.{sym, ◌∙◌}
use Rattle.std.proofs.lemmas.List.{nil_from_length}
use Rattle.version_store.specs.Chains.{chain_of}
use Rattle.version_store.proofs.Drops.{AreNoted-dropped, Keeps-dropped}
use Rattle.version_store.proofs.pruning.drop_gone.Goals as goal

pub returns-then-len_at-eq0-clause-keeps : goal.returns-then-len_at-eq0-clause-keeps
returns-then-len_at-eq0-clause-keeps c next sound =
    Keeps-dropped c.args.nodes.now.slots c.try_remove.new.self.slots c.args.tree.now.entries c.remove.new.self.entries c.args.key.now
    c.in-Some.place.now (sym (c.in-Some.ensures {u = tt}).value)
    (nil_from_length (chain_of c.args.nodes.now.slots c.in-Some.place.now) (sym c.len_at.ensures ∙ c.if-len_at-eq0.true))
    c.remove.ensures.updates.0 c.remove.ensures.ordered c.try_remove.ensures.updates.others next sound

pub returns-then-len_at-eq0-clause-noted : goal.returns-then-len_at-eq0-clause-noted
returns-then-len_at-eq0-clause-noted c next sound =
    AreNoted-dropped c.args.nodes.now.slots c.try_remove.new.self.slots c.args.tree.now.entries c.remove.new.self.entries c.args.key.now
    c.in-Some.place.now (sym (c.in-Some.ensures {u = tt}).value)
    (nil_from_length (chain_of c.args.nodes.now.slots c.in-Some.place.now) (sym c.len_at.ensures ∙ c.if-len_at-eq0.true))
    c.remove.ensures.updates.0 c.remove.ensures.ordered c.try_remove.ensures.updates.others next sound
