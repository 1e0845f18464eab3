use Rattle.std.proofs.Common.{◌≡◌, ◌++◌, ◌∙◌, List, ℕ, ℤ, Result, Ok, Err, ap, append_assoc, w64, to_z, of_z}
use Rattle.std.specs.Prelude.{OnOk, codes}
use Rattle.std.specs.Fmt.{signed_decimal}
use Rattle.std.proofs.lemmas.Int.{to_z-of_z}
use Rattle.model_shell.specs.Requests.{printed_line, committed_text}
use Rattle.shell_text.proofs.text.add_committed.Goals as goal

abbrev end_of : ℤ → List ℕ
end_of version = signed_decimal version ++ printed_line (codes ")")

follows : {E P Q : Type 0} (r : Result (Unit {0}) E) → (P → Q) → OnOk r P → OnOk r Q
follows (Ok done) f h = f h
follows (Err e) f h = tt

-- what is handed on is the version again
pub returns : goal.returns
unfolding committed_text
returns c =
    let version = c.args.version in
    let same : to_z w64 (of_z w64 version) ≡ version = to_z-of_z w64 version c.ranges.version in
    follows c.add_closed.result (λ e. e ∙ ap (λ (v : ℤ). c.extend.new.self ++ end_of v) same
    ∙ ap (λ (x : List ℕ). x ++ end_of version) c.in_ok-extend.ensures.ok
    ∙ append_assoc c.args.to.now (codes "Committed (") (end_of version)) c.add_closed.ensures
