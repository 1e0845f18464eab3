use Rattle.std.proofs.Common.{◌≡◌, ◌∙◌, true, false, ap, sym}
use Rattle.model_directory.specs.Nodes.{version_numbers, is_newer}
use Rattle.directory_nodes.proofs.Versions.{spoiled_read, newer_read, known_read, newer_first, newer_second, known_to_read, known_to_write}
use Rattle.directory_nodes.proofs.checking.check_version.Goals.{then-version-gt1-via-then-version-gt1, then-writes, else-writes}
use Rattle.directory_nodes.proofs.checking.check_version.Goals.{then-version-gt1-via-else-version-gt1+then-version-gt0}
use Rattle.directory_nodes.proofs.checking.check_version.Goals as goal

pub returns-then-len-ne12 : goal.returns-then-len-ne12
returns-then-len-ne12 c =
    spoiled_read c.args.key c.args.writes c.args.value.now (λ is. c.if-len-ne12.true (c.len.ensures ∙ is))

pub returns-then-version-gt1 : goal.returns-then-version-gt1
returns-then-version-gt1 c =
    let value = c.args.value.now in
    let writes = c.args.writes in
    let numbers = c.numbers_of-version.result in
    let are = c.numbers_of-version.ensures ∙ ap version_numbers c.as_slice.ensures in
    let newer : is_newer writes value ≡ true = elim c.then-version-gt1.branch [
      | then-version-gt1-via-then-version-gt1 w ↦ newer_first writes value numbers are w.if-version-gt1.true
      | then-version-gt1-via-else-version-gt1+then-version-gt0 w ↦ elim w.if-writes.branch [
        | then-writes v ↦ newer_second writes value numbers are v.if-writes.true (sym v.value-is ∙ w.if-version-gt0.true)
        | else-writes v ↦ absurd cc
      ]
    ] in
    newer_read c.args.key writes value numbers (sym c.len.ensures ∙ c.if-len-ne12.false) newer are

pub returns : goal.returns
returns c =
    let value = c.args.value.now in
    let writes = c.args.writes in
    let numbers = c.numbers_of-version.result in
    let are = c.numbers_of-version.ensures ∙ ap version_numbers c.as_slice.ensures in
    let known : is_newer writes value ≡ false = elim c.if-writes.branch [
      | then-writes v ↦ known_to_write writes value numbers are c.if-version-gt1.false (sym v.value-is ∙ c.if-version-gt0.false)
      | else-writes v ↦ known_to_read writes value numbers are c.if-version-gt1.false v.if-writes.false
    ] in
    known_read c.args.key writes value (sym c.len.ensures ∙ c.if-len-ne12.false) known
