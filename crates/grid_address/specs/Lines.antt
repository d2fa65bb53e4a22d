-- The rows and the columns of a range, as numbers.
use Rattle.std.specs.Prelude.{ℕ, zero, suc, ◌+◌, ◌-◌, ◌%◌, List, [], ◌∷◌}
use Rattle.grid_address.specs.Place.{height_of, whole, width_of, Extent, Place}

-- so many numbers, from one on
abbrev pub numbers_from : ℕ → ℕ → List ℕ
numbers_from n zero = []
numbers_from n (suc count) = n ∷ numbers_from (n + 1) count

-- the rows of a span
abbrev pub rows_of : Extent → List ℕ
rows_of s = numbers_from s.first.row (height_of s)

-- its columns
abbrev pub columns_of : Extent → List ℕ
columns_of s = numbers_from s.first.col (width_of s)

-- the rows below the first
abbrev pub rows_below : Extent → List ℕ
rows_below s = numbers_from (s.first.row + 1) (s.last.row - s.first.row)

-- the cell of a row and a column
abbrev pub at : ℕ → ℕ → Place
at row col = record { row = row; col = col }

-- the last row of the sheet
abbrev pub last_row : ℕ
last_row = whole.last.row

-- a cell so many rows further down; behind the last row comes the first
abbrev pub rows_down : ℕ → Place → Place
rows_down count p = at ((p.row + count) % height_of whole) p.col
