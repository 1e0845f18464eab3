-- Each watch has looked at the version.
use Rattle.std.proofs.Common.{◌≡◌, ◌≤◌, arith, ◌+◌, ◌-◌, ◌++◌, length, map, take, drop, sym, ap, subst, ◌∙◌}
use Rattle.std.proofs.Math.Seq.{take-append_seam}
use Rattle.std.specs.List.{All}
use Rattle.version_store.specs.Versions.{at, last_of}
use Rattle.watch_core.specs.Watching.{Watching, pending_count, after_commit, AreCurrent, AreRight, IsRight}
use Rattle.watch_core.specs.Watches.{numbers_in, watched_of, AreListed}
use Rattle.watch_core.proofs.Commits.{all_current, seen_commit_all}
use Rattle.watch_core.proofs.Firings.{all_right_commit}
use Rattle.watch_core.proofs.Keeping.{listed_commit_all}
use Rattle.watch_core.proofs.watches.Watches.committed.Goals as goal

pub invariant_of-self : goal.invariant_of-self
invariant_of-self g c =
    let inside = c.self.inside in
    let last = last_of c.args.store.now in
    let database = at c.args.store.now last in
    let new = c.commit_all-fired.new.watches in
    let looked =
    seen_commit_all inside.watches.items c.deref_mut.result.now new inside.watches.len inside.watches.ok.0 c.deref_mut.ensures.value last database
    c.commit_all-fired.ensures.after in
    let listed =
    listed_commit_all inside.watches.items new (numbers_in inside.index) inside.pending c.commit_all-fired.result c.self.invariant.are_listed
    last database looked.1 c.commit_all-fired.ensures.whole
    (c.commit_all-fired.ensures.fired ∙ ap (λ s. pending_count (map watched_of s)) c.deref_mut.ensures.value) in
    record {
      are_listed = subst (λ ws. AreListed ws (numbers_in inside.index) (inside.pending - c.commit_all-fired.result)) (sym looked.0) listed;
      roomy = omega (arith, ap length looked.0, looked.2, c.self.invariant.roomy);
      none = c.self.invariant.none;
    }

pub returns-clause-after : goal.returns-clause-after
returns-clause-after g c =
    let inside = c.self.inside in
    let last = last_of c.args.store.now in
    let database = at c.args.store.now last in
    let new = c.commit_all-fired.new.watches in
    let looked =
    seen_commit_all inside.watches.items c.deref_mut.result.now new inside.watches.len inside.watches.ok.0 c.deref_mut.ensures.value last database
    c.commit_all-fired.ensures.after in
    ap (map watched_of) looked.0 ∙ looked.1 ∙ ap (λ (v : Watching). map (after_commit last database) v.watches) c.self.view_is

pub returns-clause-current : goal.returns-clause-current
returns-clause-current g c =
    let inside = c.self.inside in
    let last = last_of c.args.store.now in
    let database = at c.args.store.now last in
    let new = c.commit_all-fired.new.watches in
    let looked =
    seen_commit_all inside.watches.items c.deref_mut.result.now new inside.watches.len inside.watches.ok.0 c.deref_mut.ensures.value last database
    c.commit_all-fired.ensures.after in
    subst (AreCurrent database) (sym (ap (map watched_of) looked.0 ∙ looked.1)) (all_current last database (map watched_of inside.watches.items))

pub returns-clause-right : goal.returns-clause-right
returns-clause-right g c = λ history is right.
    let inside = c.self.inside in
    let last = last_of c.args.store.now in
    let database = at c.args.store.now last in
    let new = c.commit_all-fired.new.watches in
    let looked =
    seen_commit_all inside.watches.items c.deref_mut.result.now new inside.watches.len inside.watches.ok.0 c.deref_mut.ensures.value last database
    c.commit_all-fired.ensures.after in
    let next : last ≡ inside.seen + 1 = c.requires.next ∙ ap (λ (v : Watching). v.seen + 1) (sym c.self.view_is) in
    let done : All (IsRight history last) (map watched_of (take inside.watches.len (new ++ drop (length new) inside.watches.items))) =
    subst (All (IsRight history last)) (sym (ap (map watched_of) looked.0 ∙ looked.1))
    (all_right_commit history inside.seen last database next is (map watched_of inside.watches.items)
    (subst (AreRight history) (sym c.self.view_is) right)) in
    subst (λ v. All (IsRight history v) (map watched_of (take inside.watches.len (new ++ drop (length new) inside.watches.items))))
    (sym c.last-self-inside.ensures.value) done
