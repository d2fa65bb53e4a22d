-- How the code keeps the shown columns that are still to come.
use Rattle.std.specs.Prelude.{◌≡◌, ℕ, ◌-◌, nat_eq, List, [], ◌∷◌, Option, Some, None}
use Rattle.grid_address.specs.Limits.{COLUMNS}
use Rattle.work_sheet.specs.Seen.{Sheet}
use Rattle.screen_layout.specs.Columns.{columns_from}
use Rattle.screen_layout.specs.Sheets.{ROOM}
use Rattle.screen_layout.specs.declared.shown_columns.Column.{Column}
use Rattle.screen_layout.specs.declared.shown_columns.Coming.{Coming}

-- from a column on, behind those that take so many of the bytes
abbrev pub behind : Sheet → ℕ → ℕ → List Column
behind s used col = columns_from s (nat_eq used 0) (COLUMNS - col) col (ROOM - used)

-- from the first column on that wasn't looked at
abbrev pub coming : Sheet → Coming → List Column
coming s c = behind s c.used c.col

-- the first of them comes next, and the others still, or none is left
abbrev pub ComesNext : Sheet → Coming → Option Column → Coming → Type 0
ComesNext s old None new = coming s old ≡ []
ComesNext s old (Some x) new = coming s old ≡ x ∷ coming s new
