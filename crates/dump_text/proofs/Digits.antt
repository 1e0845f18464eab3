-- The table of the values of digits.
use Rattle.std.proofs.Common.{◌≡◌, ℕ, ◌<◌, ◌≤◌, ◌==◌, get_or, arith}
use Rattle.std.proofs.lemmas.Bool.{eqb-true}
use Rattle.std.proofs.lemmas.Bool.Decides.{nat_tests}
use Rattle.model_lines.specs.Reading.{digit_of}
use Rattle.dump_text.specs.declared.text.TheConstants.{DIGITS}
use Rattle.dump_text.proofs.Scanned.{holds_at, true_is}

pub digit_by_table : (byte : ℕ) → byte < 256 → get_or DIGITS byte 0 ≡ digit_of byte
digit_by_table byte h =
    eqb-true (get_or DIGITS byte 0) (digit_of byte) (true_is _ (holds_at (λ x. get_or DIGITS x 0 == digit_of x) 256 tt byte h))

pub digit_small : (byte : ℕ) → byte < 256 → get_or DIGITS byte 0 ≤ 16
digit_small byte h =
    let small : digit_of byte ≤ 16 = grind (arith, nat_tests) in
    rw (digit_by_table byte h) small
