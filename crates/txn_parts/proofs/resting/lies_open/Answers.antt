use Rattle.std.proofs.Common.{◌≡◌, true, false, ◌&&◌, MatchOption, sym, ap, subst, ◌∙◌, true≢false, refl}
use Rattle.std.proofs.lemmas.Bool.{not-false}
use Rattle.key_bytes.specs.Keys.{key_lt}
use Rattle.key_bytes.specs.Ranges.{has}
use Rattle.write_map.specs.declared.state.KeyState.{KeyState as Shown}
use Rattle.write_map.specs.declared.state.KeyState.TheVariants as shown
use Rattle.ryw_view.specs.Segments.{is_hidden, is_open, AreAlikeUpTo, IsBoundaryBelow}
use Rattle.ryw_view.proofs.Decided.{at_begin, hidden_is, last_met, segment_is}
use Rattle.txn_parts.proofs.Units.{and_true}
use Rattle.txn_parts.proofs.resting.lies_open.Goals as goal
use Rattle.txn_parts.proofs.resting.lies_open.Goals.{After-is_open}

-- a key whose value depends on what is stored is readable
open_readable : (answer : Shown) → is_open answer ≡ true → is_hidden answer ≡ false
open_readable shown.Unmodified rests = refl
open_readable (shown.Decided value) rests = absurd (true≢false (sym rests))
open_readable (shown.Depends edits) rests = refl
open_readable shown.Unreadable rests = absurd (true≢false (sym rests))

-- all keys of the range are alike
last : (c : After-is_open) → AreAlikeUpTo c.args.edits.now.mutations c.args.range.now.begin c.args.range.now.end
last c =
    let range = c.args.range.now in let pending = c.args.edits.now in
    subst (λ boundary. MatchOption boundary (AreAlikeUpTo pending.mutations range.begin range.end)
    (λ boundary. IsBoundaryBelow pending range.begin range.end boundary.now)) c.in_default-None.is-1 c.around_below.ensures.boundary

pub returns-in_default-None-clause-readable : goal.returns-in_default-None-clause-readable
returns-in_default-None-clause-readable c is =
    let range = c.args.range.now in let mutations = c.args.edits.now.mutations in
    let answer = c.around_below.result.0 in
    let some = not-false (key_lt range.begin range.end) (sym c.is_empty.ensures ∙ c.if-is_empty.false) in
    sym (last_met mutations range range.begin (at_begin mutations range some) (last c))
    ∙ sym (hidden_is mutations range.begin answer c.around_below.ensures.state)
    ∙ open_readable answer (sym c.is_open.ensures ∙ is)

pub returns-in_default-None-clause-open : goal.returns-in_default-None-clause-open
returns-in_default-None-clause-open c is key =
    let range = c.args.range.now in let mutations = c.args.edits.now.mutations in
    let answer = c.around_below.result.0 in
    let rests = sym c.is_open.ensures ∙ is in
    sym (and_true (has range key))
    ∙ ap (λ b. has range key && b) (sym rests)
    ∙ segment_is mutations range.begin range.end answer (last c) c.around_below.ensures.state (open_readable answer rests) key
