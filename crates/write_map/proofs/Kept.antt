-- One mutation more: what a map keeps beside its mutations follows.
use Rattle.std.proofs.Common.{◌≡◌, ℕ, Bool, true, false, not, ◌||◌, List, [], ◌∷◌, ◌++◌, refl, sym, ap, ◌∙◌, true≢false}
use Rattle.std.proofs.Math.Bool.{or-false}
use Rattle.std.proofs.lemmas.List.Elements.{All-push}
use Rattle.std.proofs.lemmas.List.Folds.{list_any-append}
use Rattle.std.specs.List.{list_any}
use Rattle.key_bytes.specs.declared.range.KeyRange.{KeyRange}
use Rattle.range_map.specs.Boundaries.{Boundaries}
use Rattle.model_database.specs.declared.AtomicOp.{AtomicOp}
use Rattle.model_database.specs.declared.AtomicOp.TheVariants as atomic
use Rattle.model_database.specs.Databases.{Mutation, Set, Clear, ClearRange, Atomic}
use Rattle.model_database.specs.States.{unreadable_by}
use Rattle.write_map.specs.declared.level.Level.{Level}
use Rattle.write_map.specs.Levels.{IsKept}
use Rattle.write_map.specs.Pending.{IsOn}
use Rattle.write_map.specs.Stamps.{is_stamped, HasRoom}
use Rattle.write_map.proofs.Steps.{IsStep, levels_added}

-- a mutation without a versionstamp owes no room
plain_room : (mutation : Mutation) → is_stamped mutation ≡ false → HasRoom mutation
plain_room (Set key value) plain = tt
plain_room (Clear key) plain = tt
plain_room (ClearRange begin end) plain = tt
plain_room (Atomic op key operand) plain = λ stamped. absurd (true≢false (sym (ap (λ b. not (not b)) stamped) ∙ plain))

-- a mutation of one key alone has none
pub on_plain : (key : List ℕ) (mutation : Mutation) → IsOn key mutation → is_stamped mutation ≡ false
on_plain key (Set own value) on = refl
on_plain key (Clear own) on = refl
on_plain key (ClearRange begin end) on = absurd on
on_plain key (Atomic op own operand) on = ap (λ b. not (not b)) on.1

-- a mutation that makes keys unreadable has one
pub hidden_stamped : (mutation : Mutation) (range : KeyRange) → unreadable_by mutation ≡ range ∷ [] → is_stamped mutation ≡ true
hidden_stamped (Set own value) range is = absurd cc
hidden_stamped (Clear own) range is = absurd cc
hidden_stamped (ClearRange begin end) range is = absurd cc
hidden_stamped (Atomic op own operand) range is = stamped op is
  where
    stamped : (op : AtomicOp) → unreadable_by (Atomic op own operand) ≡ range ∷ [] → is_stamped (Atomic op own operand) ≡ true
    stamped atomic.SetVersionstampedKey is = refl
    stamped atomic.SetVersionstampedValue is = refl
    stamped atomic.OldStampedKey is = refl
    stamped atomic.OldStampedValue is = refl
    stamped _ is = absurd cc

module _ (mutations : List Mutation) (mutation : Mutation) (old new : Boundaries Level) (flag : Bool) (kept : IsKept mutations old flag)
    (step : IsStep mutation old new) where
  flagged_by : (b : Bool) → is_stamped mutation ≡ b → (flag || b) ≡ list_any is_stamped (mutations ++ mutation ∷ [])
  flagged_by b is =
      ap (λ f. f || b) kept.flagged
      ∙ ap (λ b. list_any is_stamped mutations || b) (sym (or-false b) ∙ ap (λ b. b || false) (sym is))
      ∙ sym (list_any-append is_stamped mutations (mutation ∷ []))

  pub kept_plain : is_stamped mutation ≡ false → IsKept (mutations ++ mutation ∷ []) new flag
  kept_plain plain = record {
    levels = levels_added mutations mutation old new kept.levels step;
    flagged = sym (or-false flag) ∙ flagged_by false plain;
    room = All-push HasRoom mutations mutation kept.room (plain_room mutation plain);
  }

  pub kept_stamped : is_stamped mutation ≡ true → HasRoom mutation → IsKept (mutations ++ mutation ∷ []) new true
  kept_stamped stamped room = record {
    levels = levels_added mutations mutation old new kept.levels step;
    flagged = or_true flag ∙ flagged_by true stamped;
    room = All-push HasRoom mutations mutation kept.room room;
  }
    where
      or_true : (b : Bool) → true ≡ (b || true)
      or_true true = refl
      or_true false = refl
