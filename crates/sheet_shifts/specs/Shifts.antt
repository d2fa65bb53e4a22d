-- What a worksheet's cells, columns and names are after rows or columns were inserted or deleted, or a span was moved.
use Rattle.std.specs.Prelude.{ℕ, false, List, Option, None, Some}
use Rattle.std.specs.FinMap.{entries, from_entries}
use Rattle.std.specs.List.{filter_map}
use Rattle.grid_address.specs.Place.{Extent, Place}
use Rattle.formula_tree.specs.Tree.{Tree}
use Rattle.formula_tree.specs.declared.value.Content.{Content}
use Rattle.formula_tree.specs.declared.value.Content.TheVariants as content
use Rattle.range_names.specs.Names.{NameMap}
use Rattle.ref_adjust.specs.Adjusted.{formula_moved, formula_shifted}
use Rattle.ref_adjust.specs.Lines.{place_shifted, span_shifted, IsChange}
use Rattle.ref_adjust.specs.Moves.{place_moved, span_moved, FitsAt}
use Rattle.sheet_store.specs.Grid.{Cells, Grid}
use Rattle.sheet_store.specs.State.{CellState}
use Rattle.sheet_shifts.specs.Columns.{columns_after}
use Rattle.sheet_shifts.specs.declared.shift.Shift.{Shift}
use Rattle.sheet_shifts.specs.declared.shift.Shift.TheVariants.{Lines, Block}

-- there are so many lines, and a moved span stays in the sheet
abbrev pub IsShift : Shift → Type 0
IsShift (Lines change) = IsChange change
IsShift (Block from to) = FitsAt from to

-- where a place goes; none where it is deleted, overwritten or pushed past the sheet
abbrev pub place_after : Shift → Place → Option Place
place_after (Lines change) p = place_shifted change p
place_after (Block from to) p = place_moved from to p

-- a formula whose cell has gone from the old to the new place, with its references to where their places went
abbrev pub formula_after : Shift → Place → Place → Tree → Tree
formula_after (Lines change) old_at new_at t = formula_shifted change old_at new_at t
formula_after (Block from to) old_at new_at t = formula_moved from to old_at new_at t

-- where a span goes, its corners in order; none where a corner is lost
abbrev pub span_after : Shift → Extent → Option Extent
span_after (Lines change) s = span_shifted change s
span_after (Block from to) s = span_moved from to s

-- a formula follows, and any other content stays as it is
abbrev pub content_after : Shift → Place → Place → Content → Content
content_after shift old_at new_at content.Blank = content.Blank
content_after shift old_at new_at (content.Number x) = content.Number x
content_after shift old_at new_at (content.Label p t) = content.Label p t
content_after shift old_at new_at (content.Formula f) = content.Formula (formula_after shift old_at new_at f)

-- the value and the format are carried
abbrev pub state_after : Shift → Place → Place → CellState → CellState
state_after shift old_at new_at s = record s { content = content_after shift old_at new_at s.content }

-- a cell's state at its new place; none where the cell is lost
abbrev pub state_at : Shift → Place × CellState → Option Place → Option (Place × CellState)
state_at shift e None = None
state_at shift e (Some new_at) = Some (new_at, state_after shift e.0 new_at e.1)

-- a cell with what it holds, where the cell goes
abbrev pub entry_after : Shift → Place × CellState → Option (Place × CellState)
entry_after shift e = state_at shift e (place_after shift e.0)

-- each cell that isn't lost stands at its new place, and no other cell is there
abbrev pub cells_after : Shift → Cells → Cells
cells_after shift m = from_entries (filter_map (entry_after shift) (entries m))

-- own widths and hidden marks go with their columns
abbrev pub grid_after : Shift → Grid → Grid
grid_after shift g = record {
  cells = cells_after shift g.cells;
  widths = columns_after shift 0 g.widths;
  hidden = columns_after shift false g.hidden;
}

-- a name with its new span; none where a corner is lost
abbrev pub name_at : List ℕ → Option Extent → Option (List ℕ × Extent)
name_at key None = None
name_at key (Some s) = Some (key, s)

-- a name, where its span goes
abbrev pub name_after : Shift → List ℕ × Extent → Option (List ℕ × Extent)
name_after shift e = name_at e.0 (span_after shift e.1)

-- each name that hasn't lost a corner names its new span
abbrev pub names_after : Shift → NameMap → NameMap
names_after shift names = from_entries (filter_map (name_after shift) (entries names))
