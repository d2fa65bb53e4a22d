-- Cells that are told what they hold.
use Rattle.std.specs.Prelude.{List, [], ◌∷◌, Option, None, Some}
use Rattle.std.specs.FinMap as map
use Rattle.formula_parts.specs.Outlook.{cells_of}
use Rattle.grid_address.specs.Place.{Extent, Place}
use Rattle.sheet_store.specs.Grid.{Cells, Grid}
use Rattle.sheet_store.specs.State.{CellState}

-- the cells where one holds what is told of it
abbrev pub with_cell : Cells → Place → Option CellState → Cells
with_cell m c None = map.remove m c
with_cell m c (Some s) = map.insert m c s

-- the cells where each of these holds what is told of it
unfoldable pub with_cells : (Place → Option CellState) → List Place → Cells → Cells
with_cells told [] m = m
with_cells told (c ∷ cs) m = with_cells told cs (with_cell m c (told c))

-- the grid where each cell of a span holds what is told of it, and each other one what it did
abbrev pub with_cells_in : Extent → (Place → Option CellState) → Grid → Grid
with_cells_in span told g = record g { cells = with_cells told (cells_of span) g.cells }
