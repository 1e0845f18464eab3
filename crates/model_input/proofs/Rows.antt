-- Worked rows of the places of faults.
use Rattle.std.proofs.Common.{◌≡◌, ℕ, List, true, false, Ok, Err, refl}
use Rattle.std.specs.Prelude.{codes}
use Rattle.model_lines.specs.Reading.{Bad, Line}
use Rattle.model_input.specs.Orders.{machine_at}

-- a line with its line feed
abbrev whole : List ℕ → Line
whole bytes = record { bytes = bytes; is_whole = true }

abbrev cut : List ℕ → Line
cut bytes = record { bytes = bytes; is_whole = false }

seven : machine_at (whole (codes "O 7")) (codes "O 7") ≡ Ok 7
unfolding machine_at
seven = refl

last : machine_at (whole (codes "O 63")) (codes "O 63") ≡ Ok 63
unfolding machine_at
last = refl

too_great : machine_at (whole (codes "O 64x")) (codes "O 64x") ≡ Err (Bad 2)
unfolding machine_at
too_great = refl

too_great_and_cut : machine_at (cut (codes "O 64")) (codes "O 64") ≡ Err (Bad 2)
unfolding machine_at
too_great_and_cut = refl

three_digits : machine_at (whole (codes "O 640")) (codes "O 640") ≡ Err (Bad 2)
unfolding machine_at
three_digits = refl

no_digit : machine_at (whole (codes "O 6x")) (codes "O 6x") ≡ Err (Bad 3)
unfolding machine_at
no_digit = refl

leading_zero : machine_at (whole (codes "O 07")) (codes "O 07") ≡ Err (Bad 3)
unfolding machine_at
leading_zero = refl

cut_short : machine_at (cut (codes "O 6")) (codes "O 6") ≡ Err (Bad 3)
unfolding machine_at
cut_short = refl
