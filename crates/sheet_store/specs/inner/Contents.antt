-- Cells with and without a content.
use Rattle.std.specs.Prelude.{◌≡◌, false, Some}
use Rattle.std.specs.FinMap as map
use Rattle.grid_address.specs.Place.{Place}
use Rattle.grid_address.specs.declared.format.Format.{Format}
use Rattle.sheet_store.specs.State.{CellState}
use Rattle.sheet_store.specs.Grid.{Grid, is_blank, blank_state, formatted}

-- the cell has no content
abbrev pub IsBlankAt : Grid → Place → Type 0
IsBlankAt g c = (f : Format) → formatted (map.get g.cells c) f ≡ blank_state f

-- the cell holds a number, a label or a formula
abbrev pub HasContent : Grid → Place → Type 0
HasContent g c = (s : CellState) × (map.get g.cells c ≡ Some s) × (is_blank s.content ≡ false)
