-- What is seen of a sheet.
use Rattle.std.specs.Prelude.{false, replicate}
use Rattle.std.specs.FinMap as map
use Rattle.grid_address.specs.Limits.{COLUMNS}
use Rattle.sheet_store.specs.Choices.{fresh}
pub use Rattle.sheet_undo.specs.Histories.{Sheet}
use Rattle.work_sheet.specs.Sheets.{Worksheet}

-- no cell, no column of a width of its own or hidden, no name, and the settings of a fresh sheet
abbrev pub fresh_sheet : Sheet
fresh_sheet = record {
  grid = record { cells = map.empty; widths = replicate COLUMNS 0; hidden = replicate COLUMNS false };
  circular = false;
  stale = false;
  names = map.empty;
  settings = fresh;
}

-- a worksheet without its dirty formulas
abbrev pub of_worksheet : Worksheet → Sheet
of_worksheet w =
    record { grid = w.grid; circular = w.circular; stale = w.stale; names = w.names; settings = w.settings }
