-- Which cell stands at the top left of the screen.
use Rattle.std.specs.Prelude.{ℕ, zero, suc, ◌+◌, ◌-◌, max, nat_le, nat_lt, if◌then◌else◌}
use Rattle.grid_address.specs.Place.{Place}
use Rattle.sheet_store.specs.Grid.{is_hidden}
use Rattle.work_sheet.specs.Seen.{Sheet}
use Rattle.screen_layout.specs.Sheets.{width_in, ROOM}

-- the first of 20 shown rows moves as little as lets the pointer's be one of them
abbrev pub first_row : ℕ → ℕ → ℕ
first_row first pointer = if nat_lt pointer first then pointer else max first (pointer - 19)

-- how wide so many columns from one on are, without the hidden ones
unfoldable pub wide : Sheet → ℕ → ℕ → ℕ
wide s zero col = 0
wide s (suc count) col = (if is_hidden s.grid col then 0 else width_in s col) + wide s count (col + 1)

-- Of the columns from one on, the first from which the pointer's column, which stands so many columns further, is shown
-- whole, or else the pointer's column itself.
unfoldable pub nearest : Sheet → ℕ → ℕ → ℕ
nearest s zero col = col
nearest s (suc further) col = if nat_le (wide s (suc (suc further)) col) ROOM then col else nearest s further (col + 1)

-- the first shown column moves as little as lets the pointer's be shown whole; it stays while the pointer's is hidden
abbrev pub first_column : Sheet → ℕ → ℕ → ℕ
first_column s first pointer =
    if is_hidden s.grid pointer then first
    else if nat_lt pointer first then pointer
    else nearest s (pointer - first) first

-- the cell at the top left, by the one before
abbrev pub corner_for : Sheet → Place → Place
corner_for s corner =
    record { row = first_row corner.row s.settings.pointer.row; col = first_column s corner.col s.settings.pointer.col }
