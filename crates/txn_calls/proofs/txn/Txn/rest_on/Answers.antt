use Rattle.std.proofs.Common.{rules, ◌≡◌, ◌≢◌, Bool, true, false, ◌||◌, [], Ok, Err, refl, sym, ap, subst, ◌∙◌, true≢false}
use Rattle.std.proofs.lemmas.Bool.{not-false}
use Rattle.std.specs.declared.alloc.AllocError.{AllocError}
use Rattle.std.specs.declared.result.Result.{Result}
use Rattle.model_database.specs.States.{covers, unreadable}
use Rattle.model_database.specs.Intervals.{any_meet, decided}
use Rattle.model_database.proofs.Ranges.{covers_without}
use Rattle.txn_calls.specs.Stands.{Kept}
use Rattle.txn_parts.proofs.Units.{or_false}
use Rattle.txn_calls.proofs.txn.Txn.rest_on.Goals as goal

-- what was answered
abbrev answer_of : Result Bool AllocError → Bool
answer_of (Ok is) = is
answer_of (Err e) = false

not_ok : (is : Bool) → is ≡ false → ◌≢◌ {A = Result Bool AllocError} (Ok is) (Ok true)
not_ok is none same = true≢false (sym (ap answer_of same) ∙ none)

pub returns-then-not-is_readable : goal.returns-then-not-is_readable
returns-then-not-is_readable c =
    let kept = c.args.self.now in let found = c.in_ok-is_readable.ensures {u = tt} in (
      refl,
      subst (λ mutations. any_meet c.args.interval.now (unreadable mutations) ≡ true) (ap (λ (k : Kept). k.mutations) c.self.view_is)
          (not-false (any_meet c.args.interval.now (unreadable c.self.inside.edits.mutations)) (sym found.readable ∙ c.if-not-is_readable.true)),
      record {
        rest = search rules;
        ranges_are = λ key.
            found.same (not_ok c.in_ok-is_readable.is_readable c.if-not-is_readable.true) key
            ∙ ap (λ (k : Kept). covers k.read_ranges key) c.self.view_is
            ∙ sym (or_false (covers kept.read_ranges key))
            ∙ ap (λ b. covers kept.read_ranges key || b) (sym (covers_without (decided kept.mutations) [] key));
      },
    )
