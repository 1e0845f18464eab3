use Rattle.std.proofs.Common.{◌≡◌, ℕ, Bool, List, [], ◌∷◌, Option, Some, None, Ok, sym, ap, subst, ◌∙◌, inl, inr, length, rules, arith, refl}
use Rattle.std.proofs.lemmas.List.{nil_from_length}
use Rattle.directory_types.specs.declared.Layer.{Layer}
use Rattle.model_directory.specs.declared.Directory.{Directory}
use Rattle.model_directory.specs.Courses.{Course}
use Rattle.model_directory.specs.Steps.{Found, found_at, below, child_of, find_from, find}
use Rattle.directory_nodes.specs.Places.{found_so}
use Rattle.directory_nodes.specs.Runs.{Draws}
use Rattle.directory_nodes.proofs.Following.{then_drew, gave}
use Rattle.directory_nodes.proofs.Passing.{ended_so, ran_out, handed}
use Rattle.directory_nodes.proofs.Leading.{leads_on}
use Rattle.directory_nodes.proofs.NameByName.{goes_on, stops_here}
use Rattle.directory_nodes.proofs.finding.find.Goals as goal

pub returns-in_err-found-clause-follows : goal.returns-in_err-found-clause-follows
returns-in_err-found-clause-follows g c words =
    ran_out (found_so c.from_residual.result) (g.T.Tr.stands c.args.tr.now) words words (find c.args.snapshot c.args.layer.now c.args.path.now)
    (handed found_so c.from_residual.result _ refl c.from_residual.ensures.1)

-- by the child that the next name has
abbrev by_child : (snapshot : Bool) → Layer → (names : List (List ℕ)) → Option Directory → Course (Option Found)
by_child snapshot layer names child = below child (λ next. find_from snapshot layer next names)

pub loop-name-init : goal.loop-name-init
unfolding find
loop-name-init g c = record {
  leads = λ result after drew words.
      subst (λ found. Draws result (g.T.Tr.stands c.args.tr.now) (g.T.Tr.stands after) words words
      (find_from c.args.snapshot c.args.layer.now found c.args.path.now)) c.in_ok-found.ensures (drew words);
  fewer = inl (ap (λ (found : Directory). found.layer) c.in_ok-found.ensures);
  no_more = omega arith;
  same = g.met.T.Tr.same_itself c.args.tr.now;
}

-- a partition, where names remain
pub returns-then-is_partition-clause-follows : goal.returns-then-is_partition-clause-follows
returns-then-is_partition-clause-follows g c =
    let stands = g.T.Tr.stands c.loop-name.tr in
    let found = Some (found_at c.loop-name.found c.loop-name.rest.now) in
    let parts : c.loop-name.rest.now ≡ c.in-Some.name.now ∷ c.in-Some.others.now = search rules in
    let here = stops_here c.args.snapshot c.args.layer.now c.loop-name.found c.loop-name.rest.now c.in-Some.name.now c.in-Some.others.now parts
    (sym c.is_partition.ensures ∙ c.if-is_partition.true) in
    c.loop-name.invariant.leads (Ok found) c.loop-name.tr
    (λ words. subst (Draws (Ok found) stands stands words words) (sym here) (gave found stands words))

pub returns-in_err-child-clause-follows : goal.returns-in_err-child-clause-follows
returns-in_err-child-clause-follows g c =
    let result = found_so c.from_residual-in_err-child.result in
    let now = g.T.Tr.stands c.loop-name.tr in
    let after = g.T.Tr.stands c.child_of.new.tr in
    let layer = c.args.layer.now in
    let snapshot = c.args.snapshot in
    let parts : c.loop-name.rest.now ≡ c.in-Some.name.now ∷ c.in-Some.others.now = search rules in
    let first = goes_on snapshot layer c.loop-name.found c.loop-name.rest.now c.in-Some.name.now c.in-Some.others.now parts
    (sym c.is_partition.ensures ∙ c.if-is_partition.false) in
    c.loop-name.invariant.leads result c.child_of.new.tr (λ words. subst (Draws result now after words words) (sym first)
    (ended_so c.in_err-child.field-0.0 result now after words words (child_of snapshot layer c.loop-name.found c.in-Some.name.now)
    (by_child snapshot layer c.in-Some.others.now) (handed found_so c.from_residual-in_err-child.result _ refl c.from_residual-in_err-child.ensures.1) (c.in_err-child.ensures.follows words)))

pub returns-in_default-2-clause-follows : goal.returns-in_default-2-clause-follows
returns-in_default-2-clause-follows g c =
    let none : Option Found = None in
    let now = g.T.Tr.stands c.loop-name.tr in
    let after = g.T.Tr.stands c.child_of.new.tr in
    let layer = c.args.layer.now in
    let snapshot = c.args.snapshot in
    let parts : c.loop-name.rest.now ≡ c.in-Some.name.now ∷ c.in-Some.others.now = search rules in
    let first = goes_on snapshot layer c.loop-name.found c.loop-name.rest.now c.in-Some.name.now c.in-Some.others.now parts
    (sym c.is_partition.ensures ∙ c.if-is_partition.false) in
    c.loop-name.invariant.leads (Ok none) c.child_of.new.tr (λ words. subst (Draws (Ok none) now after words words) (sym first)
    (then_drew c.in_ok-child.field-0 (Ok none) now after after words words words
    (child_of snapshot layer c.loop-name.found c.in-Some.name.now)
    (by_child snapshot layer c.in-Some.others.now) (c.in_ok-child.ensures.follows words)
    (subst (λ child. Draws (Ok none) after after words words (by_child snapshot layer c.in-Some.others.now child)) (sym c.in_default-2.is)
    (gave none after words))))

pub returns-in_default-2-clause-less : goal.returns-in_default-2-clause-less
returns-in_default-2-clause-less g c =
    let parts : c.loop-name.rest.now ≡ c.in-Some.name.now ∷ c.in-Some.others.now = search rules in
    omega (arith, ap length parts, c.loop-name.invariant.no_more)

pub loop-name-preserved : goal.loop-name-preserved
loop-name-preserved g c =
    let layer = c.args.layer.now in
    let snapshot = c.args.snapshot in
    let path = c.args.path.now in
    let child = c.in-Some-2.child in
    let parts : c.loop-name.rest.now ≡ c.in-Some.name.now ∷ c.in-Some.others.now = search rules in
    let first = goes_on snapshot layer c.loop-name.found c.loop-name.rest.now c.in-Some.name.now c.in-Some.others.now parts
    (sym c.is_partition.ensures ∙ c.if-is_partition.false) in
    record {
      leads = leads_on g.T.Tr.stands c.args.tr.now c.loop-name.tr c.child_of.new.tr (find snapshot layer path)
          (find_from snapshot layer c.loop-name.found c.loop-name.rest.now) (child_of snapshot layer c.loop-name.found c.in-Some.name.now)
          (by_child snapshot layer c.in-Some.others.now) (Some child) first
          (λ words. subst (λ found. Draws (Ok found) (g.T.Tr.stands c.loop-name.tr) (g.T.Tr.stands c.child_of.new.tr) words words
          (child_of snapshot layer c.loop-name.found c.in-Some.name.now)) c.in-Some-2.is (c.in_ok-child.ensures.follows words))
          c.loop-name.invariant.leads;
      fewer = inr (omega (arith, ap length parts, c.loop-name.invariant.no_more));
      no_more = omega (arith, ap length parts, c.loop-name.invariant.no_more);
      same = g.met.T.Tr.same_still c.args.tr.now c.loop-name.tr c.child_of.new.tr c.loop-name.invariant.same c.child_of.ensures.same;
    }

pub returns-clause-follows : goal.returns-clause-follows
unfolding find_from
returns-clause-follows g c =
    let stands = g.T.Tr.stands c.loop-name.tr in
    let found = Some (found_at c.loop-name.found c.loop-name.rest.now) in
    let none_left : c.loop-name.rest.now ≡ [] = nil_from_length c.loop-name.rest.now c.in_default.ensures.cases in
    c.loop-name.invariant.leads (Ok found) c.loop-name.tr
    (λ words. subst (λ names. Draws (Ok (Some (found_at c.loop-name.found names))) stands stands words words
    (find_from c.args.snapshot c.args.layer.now c.loop-name.found names)) (sym none_left) (gave (Some (found_at c.loop-name.found [])) stands words))
