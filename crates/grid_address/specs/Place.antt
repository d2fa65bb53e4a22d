-- A place of the sheet, and the order of places: by row, then by column.
use Rattle.std.specs.Prelude.{ℕ, ◌+◌, ◌-◌, ◌*◌, ◌<◌, Bool, ◌&&◌, nat_eq, nat_le, min, max}
use Rattle.std.specs.declared.cmp.Ordering.{Ordering}
use Rattle.std.specs.Ordering.{nat_cmp, ordering_then}
use Rattle.grid_address.specs.Limits.{COLUMNS, LAST_COLUMN, LAST_ROW, ROWS}

-- a cell of the sheet, by its row and its column from 0 on
pub record Place : Type 0 where
  pub row : ℕ
  pub col : ℕ

-- a place that a cell can have
abbrev pub InSheet : Place → Type 0
InSheet p = (p.row < ROWS) × (p.col < COLUMNS)

-- the order of cells row by row, and within a row by columns
abbrev pub place_cmp : Place → Place → Ordering
place_cmp a b = ordering_then (nat_cmp a.row b.row) (nat_cmp a.col b.col)

-- where a place stands among all of the sheet, in row order
abbrev pub rank : Place → ℕ
rank p = p.row * 256 + p.col

-- whether two cells are the same
abbrev pub same_place : Place → Place → Bool
same_place a b = nat_eq a.row b.row && nat_eq a.col b.col

-- a rectangle, by its first and last corner
pub record Extent : Type 0 where
  pub first : Place
  pub last : Place

-- whether a cell lies in a span
abbrev pub is_within : Extent → Place → Bool
is_within s p =
    (nat_le s.first.row p.row && nat_le p.row s.last.row) && (nat_le s.first.col p.col && nat_le p.col s.last.col)

-- how many columns it has
abbrev pub width_of : Extent → ℕ
width_of s = s.last.col + 1 - s.first.col

-- how many rows it has
abbrev pub height_of : Extent → ℕ
height_of s = s.last.row + 1 - s.first.row

-- the corners in order
abbrev pub spanned : Place → Place → Extent
spanned a b = record {
  first = record { row = min a.row b.row; col = min a.col b.col };
  last = record { row = max a.row b.row; col = max a.col b.col };
}

-- the whole sheet
abbrev pub whole : Extent
whole = record { first = record { row = 0; col = 0 }; last = record { row = LAST_ROW; col = LAST_COLUMN } }
