-- What Xtract saves of a sheet: the cells of a span, moved to A1.
use Rattle.std.specs.Prelude.{List, [], ◌∷◌, map}
use Rattle.std.specs.FinMap as finite
use Rattle.std.specs.List.{filter}
use Rattle.block_writes.specs.Writing.{as_content}
use Rattle.commands_file.specs.Combined.{Entry}
use Rattle.commands_file.specs.declared.extracting.Extracting.{Extracting}
use Rattle.commands_file.specs.declared.extracting.Extracting.TheVariants.{Formulas, Values}
use Rattle.grid_address.specs.Place.{is_within, Extent}
use Rattle.sheet_edits.specs.Edits.{written_state}
use Rattle.sheet_shifts.specs.Shifts.{grid_after}
use Rattle.sheet_shifts.specs.declared.shift.Shift.TheVariants.{Block}
use Rattle.sheet_store.specs.Grid.{put_state, Grid}
use Rattle.sheet_store.specs.State.{CellState}
use Rattle.sheet_store.specs.declared.writes.SavedSheet.{SavedSheet}
use Rattle.work_sheet.specs.Seen.{fresh_sheet, Sheet}

-- what is saved of a cell: what it holds, or its value, as Range Value writes it
abbrev pub state_of : Extracting → Grid → Entry → CellState
state_of Formulas g e = e.1
state_of Values g e = written_state g e.0 (as_content e.1.value)

-- a cell with what is saved of it
abbrev pub entry_of : Extracting → Grid → Entry → Entry
entry_of k g e = (e.0, state_of k g e)

-- what is saved of the cells of a span, in row order
abbrev pub entries_of : Extracting → Extent → Grid → List Entry → List Entry
entries_of k span g es = map (entry_of k g) (filter (λ e. is_within span e.0) es)

-- the grid with these cells
abbrev pub with_entries : Grid → List Entry → Grid
with_entries g [] = g
with_entries g (e ∷ es) = with_entries (put_state g e.0 e.1) es

-- what is saved of a span, where it stands; no column has a width of its own or is hidden
abbrev pub part : Extracting → Extent → Grid → Grid
part k span g = with_entries fresh_sheet.grid (entries_of k span g (finite.entries g.cells))

-- it is moved to A1, as Move does; the settings go with it, and no names
abbrev pub extracted : Extracting → Extent → Sheet → SavedSheet
extracted k span s = record {
  store = grid_after (Block span (record { row = 0; col = 0 })) (part k span s.grid);
  names = finite.empty;
  settings = s.settings;
}
