-- What a line and an input may have.
use Rattle.std.specs.Prelude.{ℕ}

-- so many bytes before its line feed
abbrev pub line_limit : ℕ
line_limit = 440005

-- so many bytes
abbrev pub input_limit : ℕ
input_limit = 1099511627776
