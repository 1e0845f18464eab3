-- The watches on each key that changed have looked at the version, and so all that had to.
use Rattle.std.proofs.Common.{◌≡◌, ◌+◌, ◌++◌, length, map, take, drop, sym, ap, subst, ◌∙◌}
use Rattle.std.specs.List.{All}
use Rattle.version_store.specs.Versions.{at, last_of}
use Rattle.watch_core.specs.Watching.{Watching, after_commit, AreCurrent, AreCurrentBut, AreRight, IsRight}
use Rattle.watch_core.specs.Watches.{watched_of}
use Rattle.watch_core.proofs.Commits.{all_current, seen_commit}
use Rattle.watch_core.proofs.Firings.{all_right_commit}
use Rattle.watch_core.proofs.watches.Watches.committed_keys.Goals as goal

pub returns-clause-after : goal.returns-clause-after
returns-clause-after g c =
    let inside = c.self.inside in
    let last = last_of c.args.store.now in
    let database = at c.args.store.now last in
    seen_commit inside.watches.items c.deref_mut.result.now c.commit_keys-self-inside.new.watches inside.watches.len inside.watches.ok.0
    c.deref_mut.ensures.value last database c.args.changed.now c.commit_keys-self-inside.ensures.looked
    (subst (λ (v : Watching). AreCurrentBut c.args.changed.now database v.watches) (sym c.self.view_is) c.requires.others)
    ∙ ap (λ (v : Watching). map (after_commit last database) v.watches) c.self.view_is

pub returns-clause-current : goal.returns-clause-current
returns-clause-current g c =
    let inside = c.self.inside in
    let last = last_of c.args.store.now in
    let database = at c.args.store.now last in
    let after =
    seen_commit inside.watches.items c.deref_mut.result.now c.commit_keys-self-inside.new.watches inside.watches.len inside.watches.ok.0
    c.deref_mut.ensures.value last database c.args.changed.now c.commit_keys-self-inside.ensures.looked
    (subst (λ (v : Watching). AreCurrentBut c.args.changed.now database v.watches) (sym c.self.view_is) c.requires.others) in
    subst (AreCurrent database) (sym after) (all_current last database (map watched_of inside.watches.items))

pub returns-clause-right : goal.returns-clause-right
returns-clause-right g c = λ history is right.
    let inside = c.self.inside in
    let last = last_of c.args.store.now in
    let database = at c.args.store.now last in
    let new = c.commit_keys-self-inside.new.watches in
    let after =
    seen_commit inside.watches.items c.deref_mut.result.now new inside.watches.len inside.watches.ok.0
    c.deref_mut.ensures.value last database c.args.changed.now c.commit_keys-self-inside.ensures.looked
    (subst (λ (v : Watching). AreCurrentBut c.args.changed.now database v.watches) (sym c.self.view_is) c.requires.others) in
    let next : last ≡ inside.seen + 1 = c.requires.next ∙ ap (λ (v : Watching). v.seen + 1) (sym c.self.view_is) in
    let done : All (IsRight history last) (map watched_of (take inside.watches.len (new ++ drop (length new) inside.watches.items))) =
    subst (All (IsRight history last)) (sym after)
    (all_right_commit history inside.seen last database next is (map watched_of inside.watches.items)
    (subst (AreRight history) (sym c.self.view_is) right)) in
    subst (λ v. All (IsRight history v) (map watched_of (take inside.watches.len (new ++ drop (length new) inside.watches.items))))
    (sym c.last-self-inside.ensures.value) done
