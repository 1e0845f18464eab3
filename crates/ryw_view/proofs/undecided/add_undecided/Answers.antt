use Rattle.std.proofs.Common.{◌≡◌, ℕ, Bool, true, false, not, ◌&&◌, ◌||◌, List, Ok, MatchOption, sym, ap, subst, ◌∙◌}
use Rattle.std.proofs.Math.Bool.{or-false}
use Rattle.std.proofs.lemmas.Bool.{not-false, not-true}
use Rattle.key_bytes.specs.Keys.{key_lt, within}
use Rattle.key_bytes.proofs.Orders.{irreflexive}
use Rattle.model_database.specs.Intervals.{decided}
use Rattle.model_database.specs.States.{covers, unreadable}
use Rattle.range_map.proofs.Bounded.{within_backward}
use Rattle.range_read.proofs.Rising.{first_passes}
use Rattle.model_database.specs.Databases.{Mutation}
use Rattle.write_map.specs.Answers.{IsStateUnder}
use Rattle.write_map.specs.declared.state.KeyState.{KeyState as Shown}
use Rattle.ryw_view.specs.Segments.{is_hidden, is_open, AreAlikeUpTo, IsBoundaryBelow}
use Rattle.ryw_view.proofs.Decided.{hidden_is, segment_is, at_begin, walked_on, added_on, last_met, one_met}
use Rattle.ryw_view.proofs.Meetings.{empty_meets_none}
use Rattle.ryw_view.proofs.Passed.{fewer_above}
use Rattle.ryw_view.proofs.undecided.add_undecided.Goals as goal

-- nothing is added of no key
nothing_added : (begin end key : List ℕ) (old is_open : Bool) → key_lt begin end ≡ false
    → old ≡ (old || (within begin end key && is_open))
nothing_added begin end key old is_open none =
    sym (or-false old) ∙ ap (λ b. old || (b && is_open)) (sym (within_backward begin end key none))

-- what is added of a segment is added of its undecided keys
added_of : (mutations : List Mutation) (from until passed : List ℕ) (answer : Shown) (new old : Bool) (key : List ℕ)
    → AreAlikeUpTo mutations from until → IsStateUnder mutations from answer → is_hidden answer ≡ false → passed ≡ until
    → new ≡ (old || (within from passed key && is_open answer))
    → new ≡ (old || (within from until key && not (covers (decided mutations) key)))
added_of mutations from until passed answer new old key alike under readable same added =
    added
    ∙ ap (λ until. old || (within from until key && is_open answer)) same
    ∙ ap (λ b. old || b) (segment_is mutations from until answer alike under readable key)

pub returns-then-is_empty-clause-readable : goal.returns-then-is_empty-clause-readable
returns-then-is_empty-clause-readable c =
    let range = c.args.range.now in
    let none = not-true (key_lt range.begin range.end) (sym c.is_empty.ensures ∙ c.if-is_empty.true) in
    ap not (sym (empty_meets_none range (unreadable c.args.edits.now.mutations) none))

pub returns-then-is_empty-clause-added : goal.returns-then-is_empty-clause-added
returns-then-is_empty-clause-added c _ key =
    let range = c.args.range.now in
    nothing_added range.begin range.end key (covers c.args.pieces.now.items key) (not (covers (decided c.args.edits.now.mutations) key))
    (not-true (key_lt range.begin range.end) (sym c.is_empty.ensures ∙ c.if-is_empty.true))

pub loop-boundary-init : goal.loop-boundary-init
loop-boundary-init c =
    let range = c.args.range.now in
    record {
      walked =
          at_begin c.args.edits.now.mutations range
          (not-false (key_lt range.begin range.end) (sym c.is_empty.ensures ∙ c.if-is_empty.false));
      added = λ key.
          nothing_added range.begin range.begin key (covers c.args.pieces.now.items key)
          (not (covers (decided c.args.edits.now.mutations) key)) (irreflexive range.begin);
    }

pub returns-then-not-branch-clause-readable : goal.returns-then-not-branch-clause-readable
returns-then-not-branch-clause-readable c =
    let mutations = c.args.edits.now.mutations in let from = c.loop-boundary.from.now in
    let answer = c.around_below.result.0 in
    let hidden : covers (unreadable mutations) from ≡ true =
    sym (hidden_is mutations from answer c.around_below.ensures.state)
    ∙ not-false (is_hidden answer) (sym (c.in_ok-add_segment.ensures {u = tt}).readable ∙ c.if-not-branch.true) in
    ap not (sym (one_met mutations c.args.range.now from c.loop-boundary.invariant.walked hidden))

pub loop-boundary-smaller : goal.loop-boundary-smaller
loop-boundary-smaller c =
    let pending = c.args.edits.now in let from = c.loop-boundary.from.now in
    let next = subst (λ boundary. MatchOption boundary (AreAlikeUpTo pending.mutations from c.args.range.now.end)
    (λ boundary. IsBoundaryBelow pending from c.args.range.now.end boundary.now)) c.in-Some.is c.around_below.ensures.boundary in
    fewer_above pending.boundaries from c.in-Some.boundary.now next.is

pub loop-boundary-preserved : goal.loop-boundary-preserved
loop-boundary-preserved c =
    let pending = c.args.edits.now in let range = c.args.range.now in
    let from = c.loop-boundary.from.now in let boundary = c.in-Some.boundary.now in
    let before = c.loop-boundary.invariant in
    let answer = c.around_below.result.0 in let state = c.around_below.ensures.state in
    let next = subst (λ boundary. MatchOption boundary (AreAlikeUpTo pending.mutations from range.end)
    (λ boundary. IsBoundaryBelow pending from range.end boundary.now)) c.in-Some.is c.around_below.ensures.boundary in
    let here = c.in_ok-add_segment.ensures {u = tt} in
    let rises : key_lt from boundary ≡ true = first_passes (key_lt from) pending.boundaries boundary next.is in
    let shown : is_hidden answer ≡ false = not-true (is_hidden answer) (sym here.readable ∙ c.if-not-branch.false) in
    record {
      walked =
          walked_on pending.mutations range from boundary before.walked rises next.alike
          (sym (hidden_is pending.mutations from answer state) ∙ shown) next.below;
      added = λ key.
          added_on pending.mutations range from boundary before.walked rises (covers c.args.pieces.now.items key)
          (covers c.loop-boundary.pieces.items key) (covers c.add_segment.new.pieces.items key) key
          (not (covers (decided pending.mutations) key)) (before.added key)
          (added_of pending.mutations from boundary c.unwrap_or.result.now answer (covers c.add_segment.new.pieces.items key)
          (covers c.loop-boundary.pieces.items key) key next.alike state shown
          (ap (λ boundary. boundary.now) (rw c.in-Some.is at c.unwrap_or.ensures))
          (here.added (λ i. Ok (c.if-not-branch.false i)) key));
    }

pub returns-in_default-clause-readable : goal.returns-in_default-clause-readable
returns-in_default-clause-readable c =
    let pending = c.args.edits.now in let range = c.args.range.now in let from = c.loop-boundary.from.now in
    let answer = c.around_below.result.0 in
    let last = subst (λ boundary. MatchOption boundary (AreAlikeUpTo pending.mutations from range.end)
    (λ boundary. IsBoundaryBelow pending from range.end boundary.now)) c.in_default.is c.around_below.ensures.boundary in
    sym c.if-not-branch.false
    ∙ (c.in_ok-add_segment.ensures {u = tt}).readable
    ∙ ap not
    (hidden_is pending.mutations from answer c.around_below.ensures.state
    ∙ last_met pending.mutations range from c.loop-boundary.invariant.walked last)

pub returns-in_default-clause-added : goal.returns-in_default-clause-added
returns-in_default-clause-added c done key =
    let pending = c.args.edits.now in let range = c.args.range.now in let from = c.loop-boundary.from.now in
    let before = c.loop-boundary.invariant in
    let answer = c.around_below.result.0 in
    let last = subst (λ boundary. MatchOption boundary (AreAlikeUpTo pending.mutations from range.end)
    (λ boundary. IsBoundaryBelow pending from range.end boundary.now)) c.in_default.is c.around_below.ensures.boundary in
    let here = c.in_ok-add_segment.ensures {u = tt} in
    let shown : is_hidden answer ≡ false = not-true (is_hidden answer) (sym here.readable ∙ c.if-not-branch.false) in
    added_on pending.mutations range from range.end before.walked before.walked.below (covers c.args.pieces.now.items key)
    (covers c.loop-boundary.pieces.items key) (covers c.add_segment.new.pieces.items key) key
    (not (covers (decided pending.mutations) key)) (before.added key)
    (added_of pending.mutations from range.end c.unwrap_or.result.now answer (covers c.add_segment.new.pieces.items key)
    (covers c.loop-boundary.pieces.items key) key last c.around_below.ensures.state shown
    (ap (λ boundary. boundary.now) (rw c.in_default.is at c.unwrap_or.ensures))
    (here.added (λ i. Ok (c.if-not-branch.false i)) key))
