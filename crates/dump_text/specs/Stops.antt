-- The bytes that don't stand for themselves.
use Rattle.std.specs.Prelude.{ℕ, Bool, not}
use Rattle.model_lines.specs.Printing.{is_plain}

abbrev pub is_stop : ℕ → Bool
is_stop byte = not (is_plain byte)
