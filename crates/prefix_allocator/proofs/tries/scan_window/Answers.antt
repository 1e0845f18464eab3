use Rattle.std.proofs.Common.{◌≡◌, ◌+◌, Ok, Err, sym, ap, subst, ◌∙◌, arith}
use Rattle.std.specs.Prelude.{◌-◌, ◌%◌, Some}
use Rattle.std.proofs.lemmas.Result.{err_from_is_err_and}
use Rattle.model_allocator.specs.Counters.{window}
use Rattle.model_allocator.specs.Granting.{above}
use Rattle.prefix_allocator.specs.Doing.{scans}
use Rattle.prefix_allocator.proofs.Scanning.{Next, after_scans, none_scanned, fault_scanned, found_scanned, one_more_scanned, all_scanned}
use Rattle.prefix_allocator.proofs.Search.{Sofar}
use Rattle.prefix_allocator.proofs.tries.scan_window.Goals as goal

pub loop-distance-init : goal.loop-distance-init
loop-distance-init g c = record {
  tried = λ setting t stands. none_scanned setting (g.T.Tr.stands c.args.tr.now setting) c.args.keys.now.space c.args.start c.args.last t
      stands;
  same = g.met.T.Tr.same_itself c.args.tr.now;
}

pub returns-in_err-try_number-clause-tried : goal.returns-in_err-try_number-clause-tried
returns-in_err-try_number-clause-tried g c setting t stands =
    let p = err_from_is_err_and c.from_residual.result c.from_residual.ensures.1 in
    let space = c.args.keys.now.space in
    let start = c.args.start in
    let last = c.args.last in
    let f = c.in_err-try_number.field-0.0 in
    let before = c.loop-distance.distance - 1 in
    let u = after_scans setting t space start last before in
    let after = g.T.Tr.stands c.try_number.new.tr setting in
    let so_far = c.loop-distance.invariant.tried setting t stands in
    let test = c.loop-distance-test.true in
    let auto = c.loop-distance.auto in
    let here : before + 1 ≡ c.loop-distance.distance = omega arith in
    let total : before + 1 + (window start - c.loop-distance.distance) ≡ window start = omega (arith, c.window-size.ensures) in
    let number : start + (last - start + c.loop-distance.distance) % c.window-size.result ≡ above start last (before + 1) =
    ap (λ distance. start + (last - start + distance) % c.window-size.result) (sym here)
    ∙ ap (λ wide. start + (last - start + (before + 1)) % wide) c.window-size.ensures in
    rw (p.1, p.2) (fault_scanned f setting (g.T.Tr.stands c.loop-distance.tr setting) after space start last before
    (window start - c.loop-distance.distance) (window start) t
    total so_far
    (subst (λ number. Next (Err f) setting after space number u) number (c.in_err-try_number.ensures.tried setting u so_far.after)))

pub returns-then-branch-clause-tried : goal.returns-then-branch-clause-tried
returns-then-branch-clause-tried g c setting t stands =
    let space = c.args.keys.now.space in
    let start = c.args.start in
    let last = c.args.last in
    let absent = c.in_ok-try_number.field-0 in
    let before = c.loop-distance.distance - 1 in
    let u = after_scans setting t space start last before in
    let after = g.T.Tr.stands c.try_number.new.tr setting in
    let so_far = c.loop-distance.invariant.tried setting t stands in
    let here : before + 1 ≡ c.loop-distance.distance = omega arith in
    let total : before + 1 + (window start - c.loop-distance.distance) ≡ window start = omega (arith, c.window-size.ensures) in
    let number : start + (last - start + c.loop-distance.distance) % c.window-size.result ≡ above start last (before + 1) =
    ap (λ distance. start + (last - start + distance) % c.window-size.result) (sym here)
    ∙ ap (λ wide. start + (last - start + (before + 1)) % wide) c.window-size.ensures in
    let done = found_scanned setting (g.T.Tr.stands c.loop-distance.tr setting) after space start last before
    (window start - c.loop-distance.distance) (window start) t absent
    total c.if-branch.true so_far
    (subst (λ number. Next (Ok absent) setting after space number u) number (c.in_ok-try_number.ensures.tried setting u so_far.after)) in
    (done.0, ap (λ number. Some number) number ∙ done.1, done.2)

pub loop-distance-preserved : goal.loop-distance-preserved
loop-distance-preserved g c =
    let space = c.args.keys.now.space in
    let start = c.args.start in
    let last = c.args.last in
    let absent = c.in_ok-try_number.field-0 in
    let before = c.loop-distance.distance - 1 in
    let here : before + 1 ≡ c.loop-distance.distance = omega arith in
    let next : before + 1 ≡ c.loop-distance.distance + 1 - 1 = omega arith in
    let number : start + (last - start + c.loop-distance.distance) % c.window-size.result ≡ above start last (before + 1) =
    ap (λ distance. start + (last - start + distance) % c.window-size.result) (sym here)
    ∙ ap (λ wide. start + (last - start + (before + 1)) % wide) c.window-size.ensures in
    record {
      tried = λ setting t stands.
          let u = after_scans setting t space start last before in
          let after = g.T.Tr.stands c.try_number.new.tr setting in
          let so_far = c.loop-distance.invariant.tried setting t stands in
          subst (λ distance. Sofar setting after space (scans start last 1 distance) t) next
          (one_more_scanned setting (g.T.Tr.stands c.loop-distance.tr setting) after space start last before t absent c.if-branch.false
          so_far
          (subst (λ number. Next (Ok absent) setting after space number u) number
          (c.in_ok-try_number.ensures.tried setting u so_far.after)));
      same = g.met.T.Tr.same_still c.args.tr.now c.loop-distance.tr c.try_number.new.tr c.loop-distance.invariant.same
          c.in_ok-try_number.ensures.same;
    }

pub returns-else-branch-clause-tried : goal.returns-else-branch-clause-tried
returns-else-branch-clause-tried g c setting t stands =
    let space = c.args.keys.now.space in
    let start = c.args.start in
    let last = c.args.last in
    let absent = c.in_ok-try_number.field-0 in
    let before = c.loop-distance.distance - 1 in
    let u = after_scans setting t space start last before in
    let after = g.T.Tr.stands c.try_number.new.tr setting in
    let so_far = c.loop-distance.invariant.tried setting t stands in
    let here : before + 1 ≡ c.loop-distance.distance = omega arith in
    let whole : before + 1 ≡ window start = omega (arith, c.window-size.ensures) in
    let number : start + (last - start + c.loop-distance.distance) % c.window-size.result ≡ above start last (before + 1) =
    ap (λ distance. start + (last - start + distance) % c.window-size.result) (sym here)
    ∙ ap (λ wide. start + (last - start + (before + 1)) % wide) c.window-size.ensures in
    all_scanned setting after space start last (window start) t
    (subst (λ distance. Sofar setting after space (scans start last 1 distance) t) whole
    (one_more_scanned setting (g.T.Tr.stands c.loop-distance.tr setting) after space start last before t absent c.if-branch.false so_far
    (subst (λ number. Next (Ok absent) setting after space number u) number (c.in_ok-try_number.ensures.tried setting u so_far.after))))
