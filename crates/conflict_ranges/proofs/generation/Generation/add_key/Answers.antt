use Rattle.std.proofs.Common.{◌≡◌, ◌≤◌, ℕ, max, List, refl, sym, ap, subst, ◌∙◌}
use Rattle.std.specs.FinMap.{contains_key, get, insert}
use Rattle.std.specs.Option.{unwrap_or}
use Rattle.range_map.specs.Boundaries.{held}
use Rattle.conflict_ranges.specs.Generations.{version_in, version_at, LastWrites, Keeps}
use Rattle.conflict_ranges.proofs.Versions.{known, known_at_least_0, known_now}
use Rattle.conflict_ranges.proofs.generation.Generation.add_key.Goals as goal
use Rattle.conflict_ranges.proofs.generation.Generation.add_key.Goals.{In_ok-insert_missing}

-- the version of the key, or 0 where it had none
abbrev version_of : In_ok-insert_missing → ℕ
version_of c = unwrap_or (get c.self.inside.keys c.args.key.now) 0

-- the key is known
keys_now : (c : In_ok-insert_missing) → c.insert_missing.new.self ≡ insert c.self.inside.keys c.args.key.now (version_of c)
keys_now c =
    c.in_ok-insert_missing.ensures.ok
    ∙ ap (λ key. insert c.self.inside.keys key (unwrap_or (get c.self.inside.keys key) 0)) c.in_ok-copy.ensures

same_alone : (c : In_ok-insert_missing) (q : List ℕ) → version_in (get c.insert_missing.new.self q) ≡ version_in (get c.self.inside.keys q)
same_alone c q =
    ap (λ keys. version_in (get keys q)) (keys_now c) ∙ known_at_least_0 c.self.inside.keys c.args.key.now q

pub invariant_of-self-2 : goal.invariant_of-self-2
invariant_of-self-2 c = record {
  keys = λ q. subst (λ version. version ≤ c.self.inside.newest) (sym (same_alone c q)) (c.self.invariant.keys q);
  ranges = c.self.invariant.ranges;
}

pub returns-clause-same : goal.returns-clause-same
returns-clause-same c q =
    ap (λ version. max version (held c.self.inside.ranges q)) (same_alone c q)
    ∙ ap (λ (generation : LastWrites). version_at generation q) c.self.view_is

pub returns-clause-kept : goal.returns-clause-kept
returns-clause-kept c =
    subst (λ (generation : LastWrites). Keeps generation (record { keys = c.insert_missing.new.self; ranges = c.self.inside.ranges; newest = c.self.inside.newest }))
    c.self.view_is (record {
      newest = refl;
      keys = λ q there. ap (λ keys. contains_key keys q) (keys_now c) ∙ known c.self.inside.keys c.args.key.now (version_of c) q there;
      boundaries = λ boundary there. there;
    })

pub returns-clause-known : goal.returns-clause-known
returns-clause-known c =
    ap (λ keys. contains_key keys c.args.key.now) (keys_now c) ∙ known_now c.self.inside.keys c.args.key.now (version_of c)
