use Rattle.std.proofs.Common.{◌≡◌, ◌+◌, ◌<◌, Some, None, Ok, sym, ap, subst, ◌∙◌, length, rules, arith, refl}
use Rattle.std.specs.Prelude.{option_map}
use Rattle.model_directory.specs.Courses.{done}
use Rattle.model_directory.specs.Steps.{place, admits, find, arrives}
use Rattle.directory_nodes.specs.Places.{found_as, IsLess}
use Rattle.directory.specs.Places.{place_so}
use Rattle.directory_nodes.specs.Runs.{Draws}
use Rattle.directory_nodes.proofs.Following.{then_drew, gave}
use Rattle.directory_nodes.proofs.Passing.{ended_so, ran_out, handed}
use Rattle.directory.proofs.Arriving.{less_one, less_one_is, by_found, behind_admits, one_layer, ends_here, begins_again, shorter}
use Rattle.directory.proofs.reaching.reach.Goals as goal

pub returns-in_err-inner-clause-follows : goal.returns-in_err-inner-clause-follows
returns-in_err-inner-clause-follows g c words =
    ran_out (place_so c.from_residual.result) (g.T.Tr.stands c.args.tr.now) words words
    (arrives (length c.args.path.now + 1) c.args.lookup c.args.layer.now c.args.path.now) (handed place_so c.from_residual.result _ refl c.from_residual.ensures.1)

pub returns-in_err-admit-clause-follows : goal.returns-in_err-admit-clause-follows
returns-in_err-admit-clause-follows g c =
    let result = place_so c.from_residual-in_err-admit.result in
    let now = g.T.Tr.stands c.loop-inner.tr in
    let after = g.T.Tr.stands c.admit.new.tr in
    let bound = c.loop-inner.invariant.bound in
    let one = one_layer bound c.args.lookup c.loop-inner.inner c.loop-inner.rest.now c.loop-inner.invariant.enough in
    c.loop-inner.invariant.leads result c.admit.new.tr (λ words. subst (Draws result now after words words) (sym one)
    (ended_so c.in_err-admit.field-0.0 result now after words words (admits c.args.lookup c.loop-inner.inner c.loop-inner.rest.now)
    (behind_admits bound c.args.lookup c.loop-inner.inner c.loop-inner.rest.now) (handed place_so c.from_residual-in_err-admit.result _ refl c.from_residual-in_err-admit.ensures.1) (c.in_err-admit.ensures.follows words)))

pub returns-in_err-found-clause-follows : goal.returns-in_err-found-clause-follows
returns-in_err-found-clause-follows g c =
    let result = place_so c.from_residual-in_err-found.result in
    let now = g.T.Tr.stands c.loop-inner.tr in
    let mid = g.T.Tr.stands c.admit.new.tr in
    let after = g.T.Tr.stands c.find.new.tr in
    let bound = c.loop-inner.invariant.bound in
    let layer = c.loop-inner.inner in
    let names = c.loop-inner.rest.now in
    let one = one_layer bound c.args.lookup layer names c.loop-inner.invariant.enough in
    c.loop-inner.invariant.leads result c.find.new.tr (λ words. subst (Draws result now after words words) (sym one)
    (then_drew done result now mid after words words words (admits c.args.lookup layer names) (behind_admits bound c.args.lookup layer names)
    (c.in_ok-admit.ensures.follows words)
    (ended_so c.in_err-found.field-0.0 result mid after words words (find c.args.lookup.snapshot layer names)
    (by_found bound c.args.lookup layer names) (handed place_so c.from_residual-in_err-found.result _ refl c.from_residual-in_err-found.ensures.1) (c.in_err-found.ensures.follows words))))

pub returns-in_default-clause-follows : goal.returns-in_default-clause-follows
returns-in_default-clause-follows g c =
    let now = g.T.Tr.stands c.loop-inner.tr in
    let mid = g.T.Tr.stands c.admit.new.tr in
    let after = g.T.Tr.stands c.find.new.tr in
    let bound = c.loop-inner.invariant.bound in
    let layer = c.loop-inner.inner in
    let names = c.loop-inner.rest.now in
    let none = place layer names None in
    let one = one_layer bound c.args.lookup layer names c.loop-inner.invariant.enough in
    c.loop-inner.invariant.leads (Ok none) c.find.new.tr (λ words. subst (Draws (Ok none) now after words words) (sym one)
    (then_drew done (Ok none) now mid after words words words (admits c.args.lookup layer names) (behind_admits bound c.args.lookup layer names)
    (c.in_ok-admit.ensures.follows words)
    (then_drew (option_map found_as c.in_ok-found.field-0) (Ok none) mid after after words words words (find c.args.lookup.snapshot layer names)
    (by_found bound c.args.lookup layer names) (c.in_ok-found.ensures.follows words)
    (subst (λ found. Draws (Ok none) after after words words (by_found bound c.args.lookup layer names (option_map found_as found))) (sym c.in_default.is)
    (gave none after words)))))

pub returns-then-is_empty-clause-follows : goal.returns-then-is_empty-clause-follows
returns-then-is_empty-clause-follows g c =
    let now = g.T.Tr.stands c.loop-inner.tr in
    let mid = g.T.Tr.stands c.admit.new.tr in
    let after = g.T.Tr.stands c.find.new.tr in
    let bound = c.loop-inner.invariant.bound in
    let layer = c.loop-inner.inner in
    let names = c.loop-inner.rest.now in
    let found = c.in-Some.found in
    let end = place layer names (Some found.directory) in
    let none : length found.rest.now ≡ 0 = search rules in
    let one = one_layer bound c.args.lookup layer names c.loop-inner.invariant.enough in
    c.loop-inner.invariant.leads (Ok end) c.find.new.tr (λ words. subst (Draws (Ok end) now after words words) (sym one)
    (then_drew done (Ok end) now mid after words words words (admits c.args.lookup layer names) (behind_admits bound c.args.lookup layer names)
    (c.in_ok-admit.ensures.follows words)
    (then_drew (option_map found_as c.in_ok-found.field-0) (Ok end) mid after after words words words (find c.args.lookup.snapshot layer names)
    (by_found bound c.args.lookup layer names) (c.in_ok-found.ensures.follows words)
    (subst (λ found. Draws (Ok end) after after words words (by_found bound c.args.lookup layer names (option_map found_as found))) (sym c.in-Some.is)
    (subst (Draws (Ok end) after after words words) (sym (ends_here bound c.args.lookup layer names found.directory found.rest.now none))
    (gave end after words))))))

pub returns-in_err-inner-2-clause-follows : goal.returns-in_err-inner-2-clause-follows
returns-in_err-inner-2-clause-follows g c =
    let result = place_so c.from_residual-in_err-inner-2.result in
    let now = g.T.Tr.stands c.loop-inner.tr in
    let mid = g.T.Tr.stands c.admit.new.tr in
    let after = g.T.Tr.stands c.find.new.tr in
    let bound = c.loop-inner.invariant.bound in
    let layer = c.loop-inner.inner in
    let names = c.loop-inner.rest.now in
    let one = one_layer bound c.args.lookup layer names c.loop-inner.invariant.enough in
    c.loop-inner.invariant.leads result c.find.new.tr (λ words. subst (Draws result now after words words) (sym one)
    (then_drew done result now mid after words words words (admits c.args.lookup layer names) (behind_admits bound c.args.lookup layer names)
    (c.in_ok-admit.ensures.follows words)
    (then_drew (option_map found_as c.in_ok-found.field-0) result mid after after words words words (find c.args.lookup.snapshot layer names)
    (by_found bound c.args.lookup layer names) (c.in_ok-found.ensures.follows words)
    (ran_out result after words words (by_found bound c.args.lookup layer names (option_map found_as c.in_ok-found.field-0)) (handed place_so c.from_residual-in_err-inner-2.result _ refl c.from_residual-in_err-inner-2.ensures.1)))))

pub loop-inner-preserved : goal.loop-inner-preserved
loop-inner-preserved g c =
    let now = g.T.Tr.stands c.loop-inner.tr in
    let mid = g.T.Tr.stands c.admit.new.tr in
    let left = g.T.Tr.stands c.find.new.tr in
    let bound = c.loop-inner.invariant.bound in
    let layer = c.loop-inner.inner in
    let names = c.loop-inner.rest.now in
    let found = c.in-Some.found in
    let some : 0 < length found.rest.now = search rules in
    let less = shorter (length found.rest.now) (length names) (subst (λ found. IsLess (Ok found) names) c.in-Some.is c.in_ok-found.ensures.less) some in
    let one = one_layer bound c.args.lookup layer names c.loop-inner.invariant.enough in
    let again = begins_again bound c.args.lookup layer names found.directory found.rest.now some
    ∙ ap (λ layer. arrives (less_one bound) c.args.lookup layer found.rest.now) (sym c.in_ok-inner-2.ensures) in
    record {
      bound = less_one bound;
      enough = omega (arith, less, c.loop-inner.invariant.enough, less_one_is bound (length names) c.loop-inner.invariant.enough);
      leads = λ result after drew.
          c.loop-inner.invariant.leads result after (λ words. subst (Draws result now (g.T.Tr.stands after) words words) (sym one)
          (then_drew done result now mid (g.T.Tr.stands after) words words words (admits c.args.lookup layer names)
          (behind_admits bound c.args.lookup layer names) (c.in_ok-admit.ensures.follows words)
          (then_drew (option_map found_as c.in_ok-found.field-0) result mid left (g.T.Tr.stands after) words words words (find c.args.lookup.snapshot layer names)
          (by_found bound c.args.lookup layer names) (c.in_ok-found.ensures.follows words)
          (subst (λ found. Draws result left (g.T.Tr.stands after) words words (by_found bound c.args.lookup layer names (option_map found_as found)))
          (sym c.in-Some.is)
          (subst (Draws result left (g.T.Tr.stands after) words words) (sym again) (drew words))))));
      no_more = omega (arith, less, c.loop-inner.invariant.no_more);
      same = g.met.T.Tr.same_still c.args.tr.now c.admit.new.tr c.find.new.tr
          (g.met.T.Tr.same_still c.args.tr.now c.loop-inner.tr c.admit.new.tr c.loop-inner.invariant.same c.admit.ensures.same) c.find.ensures.same;
    }
