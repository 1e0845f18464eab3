-- What a map ends as, once a reference to one of its values has ended.
use Rattle.std.specs.Prelude.{ℕ, List}
use Rattle.std.specs.Borrow.{LendsIf, MutBor, Fml, RattleType}
use Rattle.std.specs.declared.option.Option.{Option}
use Rattle.std.specs.FinMap.{insert}
use Rattle.key_map.specs.declared.map.KeyMap.{KeyMap}
use Rattle.key_map.specs.contracts.map.KeyMap.{the_row}

module _ (V : RattleType) where
  -- the key has the last value written through the reference, and at `None` the map stays as it is
  abbrev pub LendsValue : MutBor (KeyMap V.Denot) → List ℕ → Option (MutBor V.Denot) → Fml
  LendsValue map key value = LendsIf (the_row V) V map value (insert map.now key) map.now
