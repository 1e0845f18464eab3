-- A run of bytes in their printable form: what was read is spelled so, and what is spelled is read.
use Rattle.std.proofs.Common.{◌≡◌, ℕ, zero, suc, ◌<◌, ◌≤◌, List, [], ◌∷◌, ◌++◌, length, Option, Some, None, refl, sym, ap, ◌∙◌, append_assoc, arith}
use Rattle.std.specs.List.{AllByRecursion}
use Rattle.std.proofs.lemmas.List.{nil_from_length, append-nil}
use Rattle.model_lines.specs.Printing.{printed_but, printable_but}
use Rattle.dump_reading.specs.Spellings.{Front, spelled, byte_at}
use Rattle.dump_reading.proofs.Spellings.{byte_again}
use Rattle.dump_reading.proofs.Texts.{byte_was, less_is_left}
use Rattle.instr_grammar.specs.Reading.{Run, run_on, run_up_to, run_of}

abbrev pub AreBytes : List ℕ → Type 0
AreBytes bytes = AllByRecursion (λ byte. byte < 256) bytes

-- ---- as many pieces as there are bytes are enough

no_more : (more : ℕ) (escaped : Option ℕ) → run_up_to more escaped [] ≡ ([], [])
unfolding run_up_to byte_at
no_more zero escaped = refl
no_more (suc more) escaped = refl

on_same : (escaped : Option ℕ) (bytes : List ℕ) (found : Option Front) (more other : List ℕ → Run) → found ≡ byte_at escaped bytes
    → ((rest : List ℕ) → length rest < length bytes → more rest ≡ other rest) → run_on bytes found more ≡ run_on bytes found other
on_same escaped bytes None more other e same = refl
on_same escaped bytes (Some front) more other e same =
    ap (λ (run : Run). (front.0 ∷ run.0, run.1)) (same front.1 (less_is_left escaped bytes front.1 front.0 e))

enough : (more other : ℕ) (escaped : Option ℕ) (bytes : List ℕ) → length bytes ≤ more → length bytes ≤ other
    → run_up_to more escaped bytes ≡ run_up_to other escaped bytes
unfolding run_up_to
enough zero other escaped bytes h k = let none = nil_from_length bytes (omega arith) in rw none (no_more zero escaped ∙ sym (no_more other escaped))
enough (suc more) zero escaped bytes h k = let none = nil_from_length bytes (omega arith) in rw none (no_more (suc more) escaped ∙ sym (no_more zero escaped))
enough (suc more) (suc other) escaped bytes h k =
    on_same escaped bytes (byte_at escaped bytes) (run_up_to more escaped) (run_up_to other escaped) refl
    (λ rest less. enough more other escaped rest (omega (arith, less)) (omega (arith, less)))

one_step : (escaped : Option ℕ) (bytes : List ℕ) → run_up_to (suc (length bytes)) escaped bytes ≡ run_on bytes (byte_at escaped bytes) (run_of escaped)
unfolding run_of run_up_to
one_step escaped bytes = on_same escaped bytes (byte_at escaped bytes) (run_up_to (length bytes) escaped) (run_of escaped) refl
    (λ rest less. enough (length bytes) (length rest) escaped rest (omega (arith, less)) (omega arith))

pub run_step : (escaped : Option ℕ) (bytes : List ℕ) → run_of escaped bytes ≡ run_on bytes (byte_at escaped bytes) (run_of escaped)
unfolding run_of
run_step escaped bytes = enough (length bytes) (suc (length bytes)) escaped bytes (omega arith) (omega arith) ∙ one_step escaped bytes

-- ---- what was read is spelled so

pub record IsRun (escaped : Option ℕ) (bytes : List ℕ) (run : Run) : Type 0 where
  pub parts : bytes ≡ printable_but escaped run.0 ++ run.1
  pub are_bytes : AreBytes run.0
  pub ends : byte_at escaped run.1 ≡ None

one_more : (escaped : Option ℕ) (bytes : List ℕ) (front : Front) (run : Run) → Some front ≡ byte_at escaped bytes → IsRun escaped front.1 run
    → IsRun escaped bytes (front.0 ∷ run.0, run.1)
unfolding printable_but
one_more escaped bytes front run e is =
    let was = byte_was escaped bytes front.1 front.0 e in
    record {
      parts = was.0 ∙ ap (λ (x : List ℕ). printed_but escaped front.0 ++ x) is.parts
          ∙ sym (append_assoc (printed_but escaped front.0) (printable_but escaped run.0) run.1);
      are_bytes = (was.1, is.are_bytes);
      ends = is.ends;
    }

nothing : (escaped : Option ℕ) → byte_at escaped [] ≡ None
unfolding byte_at
nothing escaped = refl

nothing_read : (escaped : Option ℕ) (bytes : List ℕ) → byte_at escaped bytes ≡ None → IsRun escaped bytes ([], bytes)
unfolding printable_but
nothing_read escaped bytes e = record { parts = refl; are_bytes = tt; ends = e }

on_is : (escaped : Option ℕ) (bytes : List ℕ) (found : Option Front) (more : List ℕ → Run) → found ≡ byte_at escaped bytes
    → ((rest : List ℕ) → length rest < length bytes → IsRun escaped rest (more rest)) → IsRun escaped bytes (run_on bytes found more)
on_is escaped bytes None more e is = nothing_read escaped bytes (sym e)
on_is escaped bytes (Some front) more e is =
    one_more escaped bytes front (more front.1) e (is front.1 (less_is_left escaped bytes front.1 front.0 e))

run_is_up_to : (more : ℕ) (escaped : Option ℕ) (bytes : List ℕ) → length bytes ≤ more → IsRun escaped bytes (run_up_to more escaped bytes)
unfolding run_up_to
run_is_up_to zero escaped bytes h =
    let none = nil_from_length bytes (omega arith) in rw none (nothing_read escaped [] (nothing escaped))
run_is_up_to (suc more) escaped bytes h =
    on_is escaped bytes (byte_at escaped bytes) (run_up_to more escaped) refl
    (λ rest less. run_is_up_to more escaped rest (omega (arith, less)))

pub run_is : (escaped : Option ℕ) (bytes : List ℕ) → IsRun escaped bytes (run_of escaped bytes)
unfolding run_of
run_is escaped bytes = run_is_up_to (length bytes) escaped bytes (omega arith)

-- ---- what is spelled is read

pub run_again : (escaped : Option ℕ) (bytes left : List ℕ) → AreBytes bytes → byte_at escaped left ≡ None
    → run_of escaped (printable_but escaped bytes ++ left) ≡ (bytes, left)
unfolding printable_but
run_again escaped [] left h ends = run_step escaped left ∙ rw ends refl
run_again escaped (byte ∷ bytes) left h ends =
    let rest = printable_but escaped bytes ++ left in
    ap (run_of escaped) (append_assoc (printed_but escaped byte) (printable_but escaped bytes) left)
    ∙ run_step escaped (printed_but escaped byte ++ rest)
    ∙ ap (λ (found : Option Front). run_on (printed_but escaped byte ++ rest) found (run_of escaped)) (byte_again escaped byte rest h.0)
    ∙ ap (λ (run : Run). (byte ∷ run.0, run.1)) (run_again escaped bytes left h.1 ends)

-- ---- steps of the loop

pub run_goes_on : (escaped : Option ℕ) (front left rest : List ℕ) (byte : ℕ) (total : Run) → spelled byte rest ≡ byte_at escaped left
    → (front ++ (run_of escaped left).0, (run_of escaped left).1) ≡ total
    → ((front ++ byte ∷ []) ++ (run_of escaped rest).0, (run_of escaped rest).1) ≡ total
run_goes_on escaped front left rest byte total e so_far =
    let step : run_of escaped left ≡ (byte ∷ (run_of escaped rest).0, (run_of escaped rest).1) =
    run_step escaped left ∙ ap (λ (found : Option Front). run_on left found (run_of escaped)) (sym e) in
    ap (λ (x : List ℕ). (x, (run_of escaped rest).1)) (append_assoc front (byte ∷ []) (run_of escaped rest).0)
    ∙ ap (λ (run : Run). (front ++ run.0, run.1)) (sym step) ∙ so_far

pub run_ends : (escaped : Option ℕ) (front left : List ℕ) (total : Run) → None ≡ byte_at escaped left
    → (front ++ (run_of escaped left).0, (run_of escaped left).1) ≡ total → (front, left) ≡ total
run_ends escaped front left total e so_far =
    let step : run_of escaped left ≡ ([], left) =
    run_step escaped left ∙ ap (λ (found : Option Front). run_on left found (run_of escaped)) (sym e) in
    ap (λ (x : List ℕ). (x, left)) (sym (append-nil front)) ∙ ap (λ (run : Run). (front ++ run.0, run.1)) (sym step) ∙ so_far
