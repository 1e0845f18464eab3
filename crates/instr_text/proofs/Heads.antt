-- The line that begins a section: what was read is spelled so, and what is spelled is read.
use Rattle.std.proofs.Common.{◌≡◌, ℕ, ◌-◌, ◌≤◌, Bool, true, false, cond, ◌==◌, nat_lt, List, [], ◌++◌, length, take, None, Ok, Err, IfOk, refl, sym, ap, ◌∙◌}
use Rattle.std.specs.Prelude.{codes}
use Rattle.std.proofs.lemmas.Bool.{ltb-false, le-ltb, eqb-true}
use Rattle.std.proofs.lemmas.List.{append-nil, nil_from_length}
use Rattle.model_lines.specs.Printing.{printable, printable_but}
use Rattle.dump_reading.specs.Fields.{behind}
use Rattle.dump_reading.specs.Spellings.{byte_at}
use Rattle.dump_reading.proofs.FieldLaws.{behind_again}
use Rattle.instr_grammar.specs.Reading.{Run, run_of, prefix_in, prefix_at, prefix_limit}
use Rattle.instr_grammar.proofs.Runs.{AreBytes, IsRun, run_is, run_again}
use Rattle.instr_grammar.proofs.Scalars.{then_ok, behind_ok}

pub record IsHead (bytes : List ℕ) (prefix : List ℕ) : Type 0 where
  pub are_bytes : AreBytes prefix
  pub short : length prefix ≤ prefix_limit
  pub parts : bytes ≡ codes "@ " ++ printable prefix

same_form : (bytes : List ℕ) → printable_but None bytes ≡ printable bytes
unfolding printable_but printable
same_form bytes = refl

ends_here : (bytes rest : List ℕ) (run : Run) (fault : ℕ) → bytes ≡ codes "@ " ++ rest → IsRun None rest run → length run.0 ≤ prefix_limit
    → (ended : Bool) → (length run.1 == 0) ≡ ended → IfOk (cond ended (Ok run.0) (Err fault)) (IsHead bytes)
ends_here bytes rest run fault e is short false ended = tt
ends_here bytes rest run fault e is short true ended =
    let none = nil_from_length run.1 (eqb-true (length run.1) 0 ended) in
    record {
      are_bytes = is.are_bytes;
      short = short;
      parts = e ∙ ap (λ (x : List ℕ). codes "@ " ++ x)
          (is.parts ∙ ap (λ (x : List ℕ). printable_but None run.0 ++ x) none ∙ append-nil (printable_but None run.0) ∙ same_form run.0);
    }

within_limit : (bytes rest : List ℕ) (run : Run) → bytes ≡ codes "@ " ++ rest → IsRun None rest run
    → (long : Bool) → nat_lt prefix_limit (length run.0) ≡ long
    → IfOk (cond long (Err (length rest - length (printable (take prefix_limit run.0)))) (cond (length run.1 == 0) (Ok run.0) (Err (length run.1)))) (IsHead bytes)
within_limit bytes rest run e is true long = tt
within_limit bytes rest run e is false long =
    ends_here bytes rest run (length run.1) e is (ltb-false prefix_limit (length run.0) long) (length run.1 == 0) refl

pub prefix_was : (bytes : List ℕ) → IfOk (prefix_at bytes) (IsHead bytes)
unfolding prefix_at
prefix_was bytes =
    then_ok (behind (codes "@ ") bytes) (λ rest. prefix_in rest (run_of None rest)) (λ rest. bytes ≡ codes "@ " ++ rest) (IsHead bytes)
    (behind_ok (codes "@ ") bytes)
    (λ rest e. within_limit bytes rest (run_of None rest) e (run_is None rest) (nat_lt prefix_limit (length (run_of None rest).0)) refl)

nothing_spelled : byte_at None [] ≡ None
unfolding byte_at
nothing_spelled = refl

run_whole : (prefix : List ℕ) → AreBytes prefix → run_of None (printable prefix) ≡ (prefix, [])
run_whole prefix h =
    ap (run_of None) (sym (same_form prefix) ∙ sym (append-nil (printable_but None prefix))) ∙ run_again None prefix [] h nothing_spelled

pub prefix_again : (prefix : List ℕ) → AreBytes prefix → length prefix ≤ prefix_limit → prefix_at (codes "@ " ++ printable prefix) ≡ Ok prefix
unfolding prefix_at
prefix_again prefix h short =
    rw (behind_again (codes "@ ") (printable prefix), run_whole prefix h, le-ltb prefix_limit (length prefix) short) refl
