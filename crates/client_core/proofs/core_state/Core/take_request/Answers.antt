use Rattle.std.proofs.Common.{◌<◌, ◌+◌, ◌^◌, ◌∙◌, ◌≡◌, true, false, ap, sym, subst, arith}
use Rattle.txn_core.specs.Stands as txn
use Rattle.client_core.specs.Sound.{IsSound}
use Rattle.client_core.specs.Stands.{CoreModel, StandsFor, is_no_memory}
use Rattle.client_core.specs.Contents.{core_of, model_of}
use Rattle.client_core.proofs.Kept.{history_kept}
use Rattle.client_core.proofs.Steps.{sound_enough, sound_later, sound_taken, stands_counted, taken_fits, taken_speaks, whole_answers}
use Rattle.client_core.proofs.core_state.Core.take_request.Goals as goal

pub take-requires : goal.take-requires
take-requires g c =
    let few : c.self.inside.contents.applied < 2 ^ 62 =
    subst (λ n. n < 2 ^ 62) (sym (ap (λ (k : CoreModel). k.applied) c.self.view_is)) c.requires in
    sound_enough (model_of c.self.inside.contents) c.self.inside.contents.applied (c.self.inside.contents.applied + 1) few
    (c.self.invariant c.if-self.false)

pub invariant_of-self-in-Ok : goal.invariant_of-self-in-Ok
invariant_of-self-in-Ok g c = λ still.
    let its = model_of c.self.inside.contents in
    let applied = c.self.inside.contents.applied in
    subst (λ n. IsSound (model_of c.take.new.contents) (n + 1)) (sym c.take.ensures.applied)
    (sound_taken (record its { applied = applied + 1 }) (model_of c.take.new.contents) c.self.inside.machines c.take.new.machines
    (g.W.Words.words c.args.words.now) (g.W.Words.words c.take.new.words) c.args.request.now c.in-Ok.reply applied
    (λ world stands started has. c.in-Ok.ensures.step world stands started has)
    (sound_later its (applied + 1) (applied + 1) (applied + 1) (omega arith) (c.self.invariant c.if-self.false)))

-- a reply of a step isn't NoMemory
pub returns-in-Ok-clause-spent : goal.returns-in-Ok-clause-spent
returns-in-Ok-clause-spent g c =
    let its = model_of c.self.inside.contents in
    let applied = c.self.inside.contents.applied in
    c.if-self.false ∙ sym (taken_speaks (record its { applied = applied + 1 }) (model_of c.take.new.contents) c.self.inside.machines
    c.take.new.machines (g.W.Words.words c.args.words.now) (g.W.Words.words c.take.new.words) c.args.request.now c.in-Ok.reply (applied + 1)
    (λ world stands started has. c.in-Ok.ensures.step world stands started has)
    (sound_later its (applied + 1) (applied + 1) (applied + 1) (omega arith) (c.self.invariant c.if-self.false)))

pub returns-in-Ok-clause-fits : goal.returns-in-Ok-clause-fits
returns-in-Ok-clause-fits g c =
    let its = model_of c.self.inside.contents in
    let applied = c.self.inside.contents.applied in
    taken_fits (record its { applied = applied + 1 }) (model_of c.take.new.contents) c.self.inside.machines
    c.take.new.machines (g.W.Words.words c.args.words.now) (g.W.Words.words c.take.new.words) c.args.request.now c.in-Ok.reply (applied + 1)
    (λ world stands started has. c.in-Ok.ensures.step world stands started has)
    (sound_later its (applied + 1) (applied + 1) (applied + 1) (omega arith) (c.self.invariant c.if-self.false))

pub returns-in-Ok-clause-history : goal.returns-in-Ok-clause-history
returns-in-Ok-clause-history g c = λ none setting keeps.
    let its = model_of c.self.inside.contents in
    let applied = c.self.inside.contents.applied in
    let speaks : is_no_memory c.in-Ok.reply ≡ false =
    taken_speaks (record its { applied = applied + 1 }) (model_of c.take.new.contents) c.self.inside.machines
    c.take.new.machines (g.W.Words.words c.args.words.now) (g.W.Words.words c.take.new.words) c.args.request.now c.in-Ok.reply (applied + 1)
    (λ world stands started has. c.in-Ok.ensures.step world stands started has)
    (sound_later its (applied + 1) (applied + 1) (applied + 1) (omega arith) (c.self.invariant c.if-self.false)) in
    let impossible : true ≡ false = sym none ∙ speaks in cc

-- after want of memory the store and the index keep what they kept of the world for which the core stood
pub returns-in-Err-clause-history : goal.returns-in-Err-clause-history
returns-in-Err-clause-history g c = λ none setting keeps.
    history_kept (model_of c.self.inside.contents) (model_of c.take.new.contents) (c.self.inside.contents.applied + 1)
    (c.self.invariant c.if-self.false) (λ world stands. c.in-Err.ensures.kept world
    (stands_counted (model_of c.self.inside.contents) (c.self.inside.contents.applied + 1) world stands))
    setting (subst (λ (k : CoreModel). txn.Keeps k.store k.index setting) (sym c.self.view_is) keeps)

pub returns-in-Ok-clause-step : goal.returns-in-Ok-clause-step
returns-in-Ok-clause-step g c = λ world stands has.
    let its = model_of c.self.inside.contents in
    let before : StandsFor (core_of c.self.inside.contents c.self.inside.machines c.self.inside.is_spent) world =
    subst (λ (k : CoreModel). StandsFor k world) (sym c.self.view_is) stands in
    let counted = stands_counted its (c.self.inside.contents.applied + 1) world before.contents in
    whole_answers c.in-Ok.reply _ _ _ (c.in-Ok.ensures.step world counted before.started has)
