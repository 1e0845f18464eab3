-- The exit statuses.
use Rattle.std.specs.Prelude.{◌≡◌, ℕ, ◌⊎◌}

-- the statuses by what they say
abbrev pub usage : ℕ
usage = 1

abbrev pub bad_input : ℕ
bad_input = 2

abbrev pub read_fault : ℕ
read_fault = 4

abbrev pub write_fault : ℕ
write_fault = 5

abbrev pub out_of_memory : ℕ
out_of_memory = 6

-- the command was done, and what it writes was written whole: 0 or 3
abbrev pub IsFinal : ℕ → Type 0
IsFinal status = (status ≡ 0) ⊎ (status ≡ 3)

-- nothing was written: 1, 2, 4 or 6
abbrev pub IsSilent : ℕ → Type 0
IsSilent status = (status ≡ usage) ⊎ (status ≡ bad_input) ⊎ (status ≡ read_fault) ⊎ (status ≡ out_of_memory)

-- the statuses of `gen`: 0, 5 and 6
abbrev pub IsGenStatus : ℕ → Type 0
IsGenStatus status = (status ≡ 0) ⊎ (status ≡ write_fault) ⊎ (status ≡ out_of_memory)
