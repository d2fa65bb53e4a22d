-- How large the sheet is.
use Rattle.std.specs.Prelude.{ℕ}

-- how many rows the sheet has (Release 2 Reference Manual)
abbrev pub ROWS : ℕ
ROWS = 8192

-- the last row, counted from 0
abbrev pub LAST_ROW : ℕ
LAST_ROW = 8191

-- how many columns the sheet has, A to IV (Release 2 Reference Manual)
abbrev pub COLUMNS : ℕ
COLUMNS = 256

-- the last column, counted from 0
abbrev pub LAST_COLUMN : ℕ
LAST_COLUMN = 255
