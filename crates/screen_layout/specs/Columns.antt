-- The shown columns, and the lines that show them.
use Rattle.std.specs.Prelude.{ℕ, zero, suc, ◌+◌, ◌-◌, ◌/◌, Bool, true, false, ◌||◌, nat_le, List, [], ◌∷◌, ◌++◌, length, take, drop, replicate, Option, Some, None, codes, unwrap_or, if◌then◌else◌}
use Rattle.std.specs.FinMap as map
use Rattle.lics_text.specs.Ascii as ascii
use Rattle.grid_address.specs.Limits.{COLUMNS}
use Rattle.grid_address.specs.Address.{column_name, decimal}
use Rattle.grid_address.specs.Place.{Place}
use Rattle.sheet_store.specs.Grid.{is_hidden}
use Rattle.shown_cells.specs.Cells.{padded, state_text}
use Rattle.work_sheet.specs.Seen.{Sheet}
use Rattle.screen_layout.specs.Sheets.{width_in, ROOM}
use Rattle.screen_layout.specs.declared.shown_columns.Column.{Column}

-- Of so many columns from one on, those that are shown in the room: hidden ones are passed over, and the others stand
-- beside each other while they fit whole. The first one is shown in any case.
unfoldable pub columns_from : Sheet → Bool → ℕ → ℕ → ℕ → List Column
columns_from s first zero col room = []
columns_from s first (suc count) col room =
    if is_hidden s.grid col then columns_from s first count (col + 1) room
    else if first || nat_le (width_in s col) room
    then record { col = col; width = width_in s col } ∷ columns_from s false count (col + 1) (room - width_in s col)
    else []

-- those that stand behind the four bytes of the row numbers
abbrev pub shown_columns : Sheet → ℕ → List Column
shown_columns s first = columns_from s true (COLUMNS - first) first ROOM

-- how many they are
abbrev pub columns_shown : Sheet → ℕ → ℕ
columns_shown s first = length (shown_columns s first)

-- what a cell shows from its left edge on, which may be longer than its width; a blank cell shows nothing of its own
abbrev pub cell_text : Sheet → Place → ℕ → Option (List ℕ)
cell_text s c width = state_text s.names s.settings.format c (map.get s.grid.cells c) width

-- a column's letters, with half of the free bytes, rounded down, on their left
abbrev pub head_text : ℕ → ℕ → List ℕ
head_text col width = take width (replicate ((width - length (column_name col)) / 2) ascii.space ++ column_name col)

-- what a column shows in the line of letters, or in a row
abbrev pub column_text : Sheet → Option ℕ → Column → Option (List ℕ)
column_text s None x = Some (head_text x.col x.width)
column_text s (Some row) x = cell_text s (record { row = row; col = x.col }) x.width

-- The columns beside each other, each cut or filled to its width. What is left of a text runs on over blank cells to
-- the right. Nothing runs in from the left of the first column.
unfoldable pub beside : Sheet → Option ℕ → List Column → List ℕ → List ℕ
beside s row [] over = []
beside s row (x ∷ xs) over =
    padded x.width (unwrap_or (column_text s row x) over)
    ++ beside s row xs (drop x.width (unwrap_or (column_text s row x) over))

-- a number, right in four bytes
abbrev pub row_number : ℕ → List ℕ
row_number n = replicate (4 - length (decimal n)) ascii.space ++ decimal n

-- four blanks in the line of letters, and the number of a row
abbrev pub margin : Option ℕ → List ℕ
margin None = codes "    "
margin (Some row) = row_number (row + 1)

-- the line of letters, or a row, from a column on
abbrev pub columns_line : Sheet → Option ℕ → ℕ → List ℕ
columns_line s row first = margin row ++ beside s row (shown_columns s first) []
