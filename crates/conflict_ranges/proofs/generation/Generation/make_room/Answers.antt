use Rattle.std.proofs.Common.{sym, ap, subst, ◌∙◌}
use Rattle.std.proofs.lemmas.Result.{on_ok_weaker}
use Rattle.conflict_ranges.specs.Generations.{version_at, LastWrites, GoesAsRange, KeepsRoom}
use Rattle.conflict_ranges.proofs.Rooms.{like_bounded, like_kept, like_same, room_made}
use Rattle.conflict_ranges.proofs.Splits.{split_like, split_same}
use Rattle.conflict_ranges.proofs.generation.Generation.make_room.Goals as goal

pub invariant_of-self : goal.invariant_of-self
invariant_of-self c =
    let ranges = c.self.inside.ranges in let new = c.split_both.new.self in
    like_bounded c.args.version _ new
    (split_like c.args.begin.now c.args.end.now ranges new c.split_both.result c.split_both.ensures.ok c.split_both.ensures.err)
    c.self.invariant

pub returns-clause-same : goal.returns-clause-same
returns-clause-same c key =
    let ranges = c.self.inside.ranges in let new = c.split_both.new.self in
    like_same c.args.version (record { keys = c.self.inside.keys; ranges = ranges; newest = c.self.inside.newest }) new
    (split_like c.args.begin.now c.args.end.now ranges new c.split_both.result c.split_both.ensures.ok c.split_both.ensures.err) key
    ∙ ap (λ (old : LastWrites). version_at old key) c.self.view_is

pub returns-clause-kept : goal.returns-clause-kept
returns-clause-kept c =
    let inside = c.self.inside in let new = c.split_both.new.self in
    subst (λ (old : LastWrites). KeepsRoom c.args.version old (record { keys = inside.keys; ranges = new; newest = inside.newest })) c.self.view_is
    (like_kept c.args.version (record { keys = inside.keys; ranges = inside.ranges; newest = inside.newest }) new
    (split_like c.args.begin.now c.args.end.now inside.ranges new c.split_both.result c.split_both.ensures.ok c.split_both.ensures.err))

pub returns-clause-room : goal.returns-clause-room
returns-clause-room c =
    let begin = c.args.begin.now in let end = c.args.end.now in let version = c.args.version in
    let inside = c.self.inside in let new = c.split_both.new.self in
    let goes = subst (λ (old : LastWrites). GoesAsRange old version begin end) (sym c.self.view_is) (c.if-goes_alone.ensures {u = tt}) in
    on_ok_weaker c.split_both.result
    (λ split. room_made version (record { keys = inside.keys; ranges = inside.ranges; newest = inside.newest }) new begin end goes
    (split_same begin end inside.ranges new split))
    c.split_both.ensures.ok
