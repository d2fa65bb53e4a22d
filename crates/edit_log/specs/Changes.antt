-- Cells that change.
use Rattle.std.specs.Prelude.{Bool, List, [], ◌∷◌, Option, None, Some}
use Rattle.std.specs.FinMap.{insert, remove}
use Rattle.std.specs.List.{IsDistinct}
use Rattle.cell_maps.specs.Sets.{has}
use Rattle.grid_address.specs.Place.{same_place, Place}
use Rattle.sheet_store.specs.Grid.{Cells, Grid}
use Rattle.sheet_store.specs.State.{CellState}

-- a cell has this state, or none
abbrev pub changed_at : Cells → Place → Option CellState → Cells
changed_at m c None = remove m c
changed_at m c (Some s) = insert m c s

-- cells change, from the first on
abbrev pub all_changed : Cells → List (Place × Option CellState) → Cells
all_changed m [] = m
all_changed m (e ∷ es) = all_changed (changed_at m e.0 e.1) es

-- the columns stay
abbrev pub with_changes : Grid → List (Place × Option CellState) → Grid
with_changes g es = record g { cells = all_changed g.cells es }

-- the cells that change
abbrev pub cells_of : List (Place × Option CellState) → List Place
cells_of [] = []
cells_of (e ∷ es) = e.0 ∷ cells_of es

-- whether a cell is among those that change
abbrev pub is_noted : List (Place × Option CellState) → Place → Bool
is_noted es c = has same_place (cells_of es) c

-- no cell changes twice
abbrev pub AreOnce : List (Place × Option CellState) → Type 0
AreOnce es = IsDistinct same_place (cells_of es)
