-- The columns of a sheet, and the room for them.
use Rattle.std.specs.Prelude.{ℕ}
use Rattle.recalculation.specs.Context.{width_or}
use Rattle.sheet_store.specs.Grid.{width_of}
use Rattle.work_sheet.specs.Seen.{Sheet}

-- how many bytes of a line stand behind the four of the row's number
abbrev pub ROOM : ℕ
ROOM = 76

-- a column has its own width or the sheet's
abbrev pub width_in : Sheet → ℕ → ℕ
width_in s col = width_or s.settings.width (width_of s.grid col)
