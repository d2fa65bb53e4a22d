-- The screen: 25 lines of 80 bytes, painted from nothing, at the second of a day where the clock has a day.
use Rattle.std.specs.Prelude.{ℕ, ◌+◌, ◌-◌, List, [], map, Option, Some, None, nat_lt, if◌then◌else◌}
use Rattle.std.specs.List.{range_with_len}
use Rattle.grid_address.specs.Limits.{ROWS}
use Rattle.grid_address.specs.Place.{Place}
use Rattle.screen_layout.specs.Columns.{columns_line}
use Rattle.screen_layout.specs.Control.{below_line, entry_line, pointer_line}
use Rattle.screen_layout.specs.Foot.{foot_line}
use Rattle.screen_layout.specs.Lines.{shown_line}
use Rattle.work_sheet.specs.Seen.{Sheet}
use Rattle.session_rooms.specs.declared.panel.Panel.{Panel}

-- a row of the sheet; below row 8192 there is none
abbrev pub row_line : Sheet → ℕ → ℕ → List ℕ
row_line s row first = if nat_lt row ROWS then columns_line s (Some row) first else []

-- a line of the screen
abbrev pub line_text : Sheet → Panel → Place → Option ℕ → ℕ → ℕ → List ℕ
line_text s p corner day second n =
    if nat_lt n 1 then pointer_line s p
    else if nat_lt n 2 then entry_line p
    else if nat_lt n 3 then below_line p
    else if nat_lt n 4 then columns_line s None corner.col
    else if nat_lt n 24 then row_line s (corner.row + (n - 4)) corner.col
    else foot_line s p day second

-- the same as it is shown, 80 bytes
abbrev pub screen_line : Sheet → Panel → Place → Option ℕ → ℕ → ℕ → List ℕ
screen_line s p corner day second n = shown_line (line_text s p corner day second n)

-- the 25 lines of the screen
unfoldable pub screen : Sheet → Panel → Place → Option ℕ → ℕ → List (List ℕ)
screen s p corner day second = map (screen_line s p corner day second) (range_with_len 0 25)
