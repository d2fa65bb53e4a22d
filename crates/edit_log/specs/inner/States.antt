-- The states that a noted cell may have.
use Rattle.std.specs.Prelude.{Option, None, Some}
use Rattle.grid_address.specs.Place.{Place}
use Rattle.sheet_store.specs.Grid.{IsHeld}
use Rattle.sheet_store.specs.State.{CellState}

-- a state that a cell of a store may have, or none
abbrev pub MayHave : Place → Option CellState → Type 0
MayHave c None = Unit {0}
MayHave c (Some s) = IsHeld c s
