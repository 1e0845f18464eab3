-- The lines of pairs, and which pairs an input may have.
use Rattle.std.specs.Prelude.{◌≡◌, ◌≤◌, ℕ, true, List, length, flat_map}
use Rattle.key_bytes.specs.Keys.{IsByteString, key_lt, top}
use Rattle.model_database.specs.declared.TheConstants.{KEY_LIMIT, VALUE_LIMIT}
use Rattle.model_lines.specs.Printing.{pair_line}
use Rattle.model_lines.specs.Reading.{Entry}

-- the lines of pairs, one after the other
abbrev pub pair_lines : List Entry → List ℕ
pair_lines pairs = flat_map (λ (e : Entry). pair_line e.0 e.1) pairs

-- a pair that an input may have
pub record IsSmall (e : Entry) : Type 0 where
  pub key : IsByteString e.0
  pub value : IsByteString e.1
  pub below_top : key_lt e.0 top ≡ true
  pub key_len : length e.0 ≤ KEY_LIMIT
  pub value_len : length e.1 ≤ VALUE_LIMIT
