-- The acts of a call, one after the other.
use Rattle.std.proofs.Common.{◌≡◌, ℕ, zero, suc, ◌+◌, Bool, true, false, List, [], ◌∷◌, ◌++◌, take, Option, Some, None, refl, sym, ap, ◌∙◌}
use Rattle.std.specs.Prelude.{not, ◌&&◌, bytes_eq}
use Rattle.std.specs.FinMap as finite
use Rattle.std.specs.Cmp.Lexicographic.{same_text}
use Rattle.std.specs.List.{list_all}
use Rattle.std.proofs.lemmas.Bool.{and_parts, and_from}
use Rattle.model_database.specs.declared.Code.{Code}
use Rattle.model_database.specs.Histories.{Setting}
use Rattle.model_database.specs.Transactions.{Transaction, view}
use Rattle.fdb_calls.specs.Calling.{Called}
use Rattle.model_database.specs.Reads.{Read}
use Rattle.model_allocator.specs.Acts.{Act, Reads, Acted, act_called, acted_by, all_acted, refusal, words_of}
use Rattle.model_allocator.proofs.Viewing.{spares, all_spared, after_read}
use Rattle.model_recipes.specs.Turns.{is_inside, KeepsOthers, KeepsAll}

-- what an act and others behind it left, where the act was let through
pub record IsThrough (setting : Setting) (act : Act) (acts : List Act) (t : Transaction) : Type 0 where
  pub passed : refusal (act_called setting t act).reply ≡ None
  pub others : (all_acted setting acts (act_called setting t act).transaction).refused ≡ None
  pub left : (all_acted setting (act ∷ acts) t).transaction ≡ (all_acted setting acts (act_called setting t act).transaction).transaction

-- where none was refused, the first was let through
pub each_through : (setting : Setting) (act : Act) (acts : List Act) (t : Transaction) → (all_acted setting (act ∷ acts) t).refused ≡ None
    → IsThrough setting act acts t
unfolding all_acted
each_through setting act acts t none = by (refusal called.reply) refl none
  where
    called : Called
    called = act_called setting t act

    behind : Acted
    behind = all_acted setting acts called.transaction

    by : (refused : Option Code) → refusal called.reply ≡ refused → (acted_by refused called.transaction (words_of act) behind).refused ≡ None
        → IsThrough setting act acts t
    by (Some code) is none = absurd cc
    by None is none = record {
      passed = is;
      others = none;
      left = ap (λ refused. (acted_by refused called.transaction (words_of act) behind).transaction) is;
    }

-- acts behind one that was let through
pub record IsBehind (setting : Setting) (act : Act) (acts : List Act) (t : Transaction) : Type 0 where
  pub refused : (all_acted setting (act ∷ acts) t).refused ≡ (all_acted setting acts (act_called setting t act).transaction).refused
  pub left : (all_acted setting (act ∷ acts) t).transaction ≡ (all_acted setting acts (act_called setting t act).transaction).transaction

pub behind_through : (setting : Setting) (act : Act) (acts : List Act) (t : Transaction) → refusal (act_called setting t act).reply ≡ None
    → IsBehind setting act acts t
unfolding all_acted
behind_through setting act acts t passed =
    let called = act_called setting t act in
    let behind = all_acted setting acts called.transaction in
    record {
      refused = ap (λ refused. (acted_by refused called.transaction (words_of act) behind).refused) passed;
      left = ap (λ refused. (acted_by refused called.transaction (words_of act) behind).transaction) passed;
    }

-- an act that was refused is the last
pub refused_first : (setting : Setting) (act : Act) (acts : List Act) (t : Transaction) (code : Code)
    → refusal (act_called setting t act).reply ≡ Some code
    → ((all_acted setting (act ∷ acts) t).refused ≡ Some code)
    × ((all_acted setting (act ∷ acts) t).transaction ≡ (act_called setting t act).transaction)
unfolding all_acted
refused_first setting act acts t code refused =
    let called = act_called setting t act in
    let behind = all_acted setting acts called.transaction in (
      ap (λ refused. (acted_by refused called.transaction (words_of act) behind).refused) refused,
      ap (λ refused. (acted_by refused called.transaction (words_of act) behind).transaction) refused,
    )

-- no act
pub none_acted : (setting : Setting) (t : Transaction)
    → ((all_acted setting [] t).refused ≡ None) × ((all_acted setting [] t).transaction ≡ t)
unfolding all_acted
none_acted setting t = (refl, refl)

-- ---- other keys

-- each act spares each key outside
abbrev pub SpareOutside : (space : List ℕ) → List Act → Type 0
SpareOutside space acts = (key : List ℕ) → is_inside space key ≡ false → list_all (spares key) acts ≡ true

taken_spare : (key : List ℕ) (count : ℕ) (acts : List Act) → list_all (spares key) acts ≡ true → list_all (spares key) (take count acts) ≡ true
taken_spare key zero acts all = refl
taken_spare key (suc count) [] all = refl
taken_spare key (suc count) (act ∷ acts) all =
    let parts = and_parts (spares key act) (list_all (spares key) acts) all in
    and_from (spares key act) _ parts.0 (taken_spare key count acts parts.1)

pub others_kept : (space : List ℕ) (setting : Setting) (acts : List Act) (t : Transaction) → SpareOutside space acts → KeepsOthers space setting acts t
others_kept space setting acts t each count key outside = all_spared setting (take count acts) t key (taken_spare key count acts (each key outside))

differs : (space q key : List ℕ) (same : Bool) → bytes_eq q key ≡ same → is_inside space q ≡ false → is_inside space key ≡ true → same ≡ false
differs space q key false is outside inside = refl
differs space q key true is outside inside =
    absurd (let it = ap (is_inside space) (same_text q key (sym is)) in cc)

-- a key outside is none inside
pub apart : (space q key : List ℕ) → is_inside space q ≡ false → is_inside space key ≡ true → bytes_eq q key ≡ false
apart space q key outside inside = differs space q key (bytes_eq q key) refl outside inside

-- ---- a read alone

alone_seen : (setting : Setting) (read : Read) (t : Transaction)
    → view setting (all_acted setting (Reads read false ∷ []) t).transaction ≡ view setting t
unfolding all_acted
alone_seen setting read t =
    by (refusal (act_called setting t (Reads read false)).reply) ∙ after_read setting t read false
  where
    by : (refused : Option Code)
        → view setting (acted_by refused (act_called setting t (Reads read false)).transaction 0
        (all_acted setting [] (act_called setting t (Reads read false)).transaction)).transaction
        ≡ view setting (act_called setting t (Reads read false)).transaction
    by (Some code) = refl
    by None = refl

-- it changes nothing that is seen, refused or not
pub all_kept : (setting : Setting) (read : Read) (t : Transaction) → KeepsAll setting (Reads read false ∷ []) t
all_kept setting read t zero = ap (view setting) (none_acted setting t).1
all_kept setting read t (suc zero) = alone_seen setting read t
all_kept setting read t (suc (suc count)) = alone_seen setting read t
