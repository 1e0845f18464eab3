-- The prefixes that came, as the program keeps them.
use Rattle.std.proofs.Common.{◌≡◌, ℕ, ◌+◌, ◌≤◌, ◌==◌, Bool, true, false, cond, not, ◌||◌, List, [], ◌∷◌, ◌++◌, length, Some, is_some, Result, Ok, Err, refl, sym, ap, subst, ◌∙◌, arith}
use Rattle.std.specs.Prelude.{bytes_eq, OnOk}
use Rattle.std.specs.FinMap.{FinMap, contains_key, get, get-insert, insert}
use Rattle.std.specs.Cmp.Lexicographic.{nat_list_cmp_total}
use Rattle.std.specs.Ordering.{eq_by_cmp, is_eq}
use Rattle.std.proofs.lemmas.Bool.{ne_eqb}
use Rattle.std.proofs.lemmas.Cmp.{tied_itself}
use Rattle.std.proofs.lemmas.Map.Lookups.{exact_bytes}
use Rattle.std.proofs.lemmas.Map.Views.{tells_apart}
use Rattle.std.proofs.lemmas.Slice.Eq.{bytes_eq-Decides}
use Rattle.key_bytes.specs.Keys.{key_cmp}
use Rattle.model_lines.specs.Reading.{Line, Entry, size_of}
use Rattle.fdb_tuple.specs.Tuples.{Bytes, Empty, Single}
use Rattle.fdb_tuple.specs.Spelling.{spelling}
use Rattle.std.proofs.lemmas.List.{append-nil}
use Rattle.instr_grammar.specs.Names.{is_among}
use Rattle.instr_grammar.specs.Texts.{Instruction, packed, instruction_key}
use Rattle.instr_grammar.specs.Lines.{Place, Said, Begins, Does, next_place, first_of}
use Rattle.instr_text.specs.declared.sections.Sections.{Sections}
use Rattle.instr_text.specs.Standing.{IsAt, IsInside, HasTaken}

same_test : (k q : List ℕ) → eq_by_cmp key_cmp q k ≡ bytes_eq k q
same_test k q = by (eq_by_cmp key_cmp q k) refl (bytes_eq k q) refl
  where
    by : (a : Bool) → eq_by_cmp key_cmp q k ≡ a → (b : Bool) → bytes_eq k q ≡ b → a ≡ b
    by true e true f = refl
    by false e false f = refl
    by true e false f = let same = (bytes_eq-Decides k q).1 (sym (tells_apart exact_bytes q k e)) in absurd cc
    by false e true f =
        let same = (bytes_eq-Decides k q).0 f in
        let tied : eq_by_cmp key_cmp q k ≡ true = ap (λ (x : List ℕ). eq_by_cmp key_cmp q x) same ∙ ap is_eq (tied_itself nat_list_cmp_total q) in
        absurd cc

module _ {X : Type 0} where
  -- a prefix more came
  pub came_more : (came : FinMap key_cmp X) (value : X) (prefix : List ℕ) (before : List (List ℕ))
      → ((q : List ℕ) → contains_key came q ≡ is_among q before) → (q : List ℕ) → contains_key (insert came prefix value) q ≡ is_among q (prefix ∷ before)
  came_more came value prefix before h q =
      ap is_some (get-insert nat_list_cmp_total came prefix value q) ∙ by (eq_by_cmp key_cmp q prefix) (bytes_eq prefix q) (same_test prefix q)
    where
      by : (a b : Bool) → a ≡ b → is_some (cond a (Some value) (get came q)) ≡ (b || is_among q before)
      by true true e = refl
      by false false e = h q
      by true false e = absurd cc
      by false true e = absurd cc

pub some_came : (prefix : List ℕ) (before : List (List ℕ)) → true ≡ not (length (prefix ∷ before) == 0)
some_came prefix before = rw (ne_eqb (length (prefix ∷ before)) 0 (λ e. omega arith)) refl

-- the section of a prefix begins
pub begins : (sections later : Sections) (place : Place) (line : Line) (prefix : List ℕ) → IsAt sections place
    → ((q : List ℕ) → contains_key later.came q ≡ is_among q (prefix ∷ place.prefixes))
    → later.is_open ≡ true → later.head ≡ spelling (Single (Bytes prefix) Empty) → later.index ≡ 0 → later.instructions ≡ sections.instructions
    → IsAt later (next_place place line (Begins prefix))
begins sections later place line prefix h came opens head index count = record {
  came = came;
  open_is = opens ∙ some_came prefix place.prefixes;
  head = λ e. head;
  index = index;
  instructions = count ∙ h.instructions;
}

-- one more instruction, at most, in the open section and in all
pub grows : (place : Place) (line : Line) (said : Said)
    → ((next_place place line said).index ≤ place.index + 1) × ((next_place place line said).instructions ≤ place.instructions + 1)
grows place line (Begins prefix) = (omega arith, omega arith)
grows place line (Does one) = (omega arith, omega arith)

pub on_ok : {E P Q : Type 0} {A : Type 0} (result : Result A E) → OnOk result P → (P → Q) → OnOk result Q
on_ok (Ok x) h f = f h
on_ok (Err e) h f = tt

pub on_ok_both : {E P Q R : Type 0} {A : Type 0} (result : Result A E) → OnOk result P → OnOk result Q → (P → Q → R) → OnOk result R
on_ok_both (Ok x) h k f = f h k
on_ok_both (Err e) h k f = tt

-- the pair of an instruction was added
pub one_taken : (sections : Sections) (before after : List Entry) (place : Place) (line : Line) (one : Instruction) (value : List ℕ) → value ≡ packed one
    → IsAt sections (next_place place line (Does one))
    → after ≡ before ++ (instruction_key (first_of place.prefixes) place.index, value) ∷ [] → HasTaken sections before after place line (Does one)
one_taken sections before after place line one value e stands pairs = record {
  stands = stands;
  pairs = pairs ∙ ap (λ (v : List ℕ). before ++ (instruction_key (first_of place.prefixes) place.index, v) ∷ []) e;
}

pub none_taken : (sections : Sections) (before : List Entry) (place : Place) (line : Line) (prefix : List ℕ)
    → IsAt sections (next_place place line (Begins prefix)) → HasTaken sections before before place line (Begins prefix)
none_taken sections before place line prefix stands = record { stands = stands; pairs = sym (append-nil before) }

pub is_inside : (place : Place) (said : Said) (one : Instruction) → IsInside place said → said ≡ Does one → true ≡ not (length place.prefixes == 0)
is_inside place said one inside e =
    let here : IsInside place (Does one) = subst (IsInside place) e inside in rw here refl

-- the place behind a line
pub next_is : (place : Place) (line : Line) (said : Said)
    → ((next_place place line said).number ≡ place.number + 1) × ((next_place place line said).bytes ≡ place.bytes + size_of line)
next_is place line (Begins prefix) = (refl, refl)
next_is place line (Does one) = (refl, refl)
