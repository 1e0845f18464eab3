-- What contracts see of a half: its cell, and what it knows and holds.
use Rattle.atomic_table.specs.Seated.{TableId}
use Rattle.future_cell.specs.declared.half.Half.{Half}
use Rattle.future_cell.specs.Plays.{Place}

module _ {V C : Type 0} where
  abbrev pub cell_of : Half V C → TableId
  cell_of half = half.seat.table_id

  abbrev pub place_of : Half V C → Place V C
  place_of half = half.seat.me
