-- A map into which entries are put one by one.
use Rattle.std.specs.Prelude.{List, [], ◌∷◌}
use Rattle.std.specs.FinMap.{insert}
use Rattle.grid_address.specs.Place.{Place}
use Rattle.sheet_store.specs.Grid.{Cells}
use Rattle.sheet_store.specs.State.{CellState}

-- a map with the entries put in, from the first on
abbrev pub inserted_all : Cells → List (Place × CellState) → Cells
inserted_all m [] = m
inserted_all m (e ∷ es) = inserted_all (insert m e.0 e.1) es
