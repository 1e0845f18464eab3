use Rattle.std.proofs.Common.{rules, ◌≡◌, ◌<◌, ◌^◌, ℕ, ℤ, pos, negsuc, Bool, true, false, not, [], ◌∷◌, Option, Some, None, refl, sym, ap, subst, ◌∙◌, true≢false, unsigned_abs, FitsSigned, w64, to_z-of_z}
use Rattle.std.specs.Option.{option_map}
use Rattle.std.specs.Prelude.{is_some}
use Rattle.model_database.specs.declared.Phase.{Phase}
use Rattle.model_database.specs.Transactions.{first_failing, is_cancelled, is_tried, is_positive, number_of, set_version_code}
use Rattle.fdb_calls.specs.declared.Reply.TheVariants as reply
use Rattle.txn_calls.specs.Stands.{StandsFor}
use Rattle.txn_calls.proofs.Accepted.{does_done}
use Rattle.txn_calls.proofs.Standing.{stands_set_version}
use Rattle.txn_calls.proofs.txn.Txn.set_read_version.Goals as goal

passed_last : (first second third last : Bool) (v w x y : ℕ)
    → first_failing ((first, v) ∷ (second, w) ∷ (third, x) ∷ (not last, y) ∷ []) ≡ None → last ≡ true
passed_last true second third last v w x y none = absurd cc
passed_last false true third last v w x y none = absurd cc
passed_last false false true last v w x y none = absurd cc
passed_last false false false true v w x y none = refl
passed_last false false false false v w x y none = absurd cc

-- a version that no check refuses is above 0
positive_of : (phase : Phase) (taken : Option ℕ) (version : ℤ) → set_version_code phase taken version ≡ None → is_positive version ≡ true
unfolding set_version_code
positive_of phase taken version none =
    passed_last (is_cancelled phase) (is_tried phase) (is_some taken) (is_positive version) _ _ _ _ none

-- an `i64` above 0 is below 2^63
low_of : (version : ℤ) → is_positive version ≡ true → FitsSigned w64 version → unsigned_abs version < 2 ^ 63
low_of (pos n) positive fits = fits.sfits
low_of (negsuc n) positive fits = absurd (true≢false (sym positive))

pub invariant_of-self : goal.invariant_of-self
invariant_of-self c =
    let same = to_z-of_z {w = w64} {z = c.args.version} c.ranges.version in
    let none = subst (λ (version : ℤ). set_version_code c.self.inside.phase c.self.inside.version version ≡ None) same
    (sym c.set_version_code.ensures ∙ ap (option_map number_of) c.in_default.is) in
    let told = c.unsigned_abs.ensures.value in
    let value : c.unsigned_abs.result ≡ unsigned_abs c.args.version = cc in (
      c.self.invariant.0,
      c.self.invariant.1,
      c.self.invariant.2,
      subst (λ n. n < 2 ^ 63) (sym value) (low_of c.args.version (positive_of _ _ c.args.version none) c.ranges.version),
    )

pub returns : goal.returns
returns c t stands =
    does_done (set_version_code t.phase t.version c.args.version) t _ reply.Done _ (search rules)
    (subst (λ k. StandsFor k (record t { version = Some (unsigned_abs c.args.version) })) (search rules)
    (stands_set_version c.args.self.now t (unsigned_abs c.args.version) stands))
