-- Where places are after lines, rows or columns, were inserted or deleted.
use Rattle.std.specs.Prelude.{ℕ, ◌+◌, ◌-◌, ◌≤◌, nat_lt, Option, Some, None, if◌then◌else◌}
use Rattle.grid_address.specs.Limits.{COLUMNS, ROWS}
use Rattle.grid_address.specs.Place.{Extent, Place}
use Rattle.ref_adjust.specs.declared.change.Change.{Change}
use Rattle.ref_adjust.specs.declared.change.Change.TheVariants.{InsertRows, InsertColumns, DeleteRows, DeleteColumns}
use Rattle.ref_adjust.specs.Moves.{span_of_corners}

-- a later line moves on by the count, and is lost past the last of so many lines
abbrev pub line_inserted : ℕ → ℕ → ℕ → ℕ → Option ℕ
line_inserted lines first count line =
    if nat_lt line first then Some line
    else (if nat_lt (line + count) lines then Some (line + count) else None)

-- a deleted line is lost, and a later one moves back by the count
abbrev pub line_deleted : ℕ → ℕ → ℕ → Option ℕ
line_deleted first count line =
    if nat_lt line first then Some line
    else (if nat_lt line (first + count) then None else Some (line - count))

-- a place with another row, or with another column
abbrev pub with_row : Place → Option ℕ → Option Place
with_row p (Some row) = Some (record { row = row; col = p.col })
with_row p None = None

-- a cell in another column; none where there is no column
abbrev pub with_col : Place → Option ℕ → Option Place
with_col p (Some col) = Some (record { row = p.row; col = col })
with_col p None = None

-- where a cell comes to by inserted or deleted rows or columns; none where it is deleted or pushed off the sheet
abbrev pub place_shifted : Change → Place → Option Place
place_shifted (InsertRows first count) p = with_row p (line_inserted ROWS first count p.row)
place_shifted (InsertColumns first count) p = with_col p (line_inserted COLUMNS first count p.col)
place_shifted (DeleteRows first count) p = with_row p (line_deleted first count p.row)
place_shifted (DeleteColumns first count) p = with_col p (line_deleted first count p.col)

-- where a span comes to by its two corners; none where one of them is lost
abbrev pub span_shifted : Change → Extent → Option Extent
span_shifted change s = span_of_corners (place_shifted change s.first) (place_shifted change s.last)

-- at least one line, and none past the last of so many
abbrev pub AreLines : ℕ → ℕ → ℕ → Type 0
AreLines lines first count = (1 ≤ count) × (first + count ≤ lines)

-- the lines of a change, and how many of their kind the sheet has
abbrev pub first_of : Change → ℕ
first_of (InsertRows first count) = first
first_of (InsertColumns first count) = first
first_of (DeleteRows first count) = first
first_of (DeleteColumns first count) = first

-- how many rows or columns are inserted or deleted
abbrev pub count_of : Change → ℕ
count_of (InsertRows first count) = count
count_of (InsertColumns first count) = count
count_of (DeleteRows first count) = count
count_of (DeleteColumns first count) = count

-- how many rows or columns a sheet has, as the change is one of rows or of columns
abbrev pub lines_of : Change → ℕ
lines_of (InsertRows first count) = ROWS
lines_of (InsertColumns first count) = COLUMNS
lines_of (DeleteRows first count) = ROWS
lines_of (DeleteColumns first count) = COLUMNS

-- a change that a sheet has room for: its lines lie on the sheet
abbrev pub IsChange : Change → Type 0
IsChange change = AreLines (lines_of change) (first_of change) (count_of change)
