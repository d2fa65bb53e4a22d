-- The number of a place, in pages of 64 rows and 4 columns.
use Rattle.std.specs.Prelude.{ℕ, zero, suc, ◌+◌, ◌*◌, ◌/◌, ◌%◌, ◌<◌, List, get_or}
use Rattle.grid_address.specs.Place.{Place}

-- for each page of the sheet, as far as told, which one of the pages with room it is, the first with 1, and 0 where it
-- has none; and the numbers of those, page behind page
pub record Numbers : Type 0 where
  pub heads : List ℕ
  pub numbers : List ℕ

-- the band of a place: 64 rows
abbrev pub band_of : Place → ℕ
band_of c = c.row / 64

-- the page of a place: those of a band stand one behind another
abbrev pub page_of : Place → ℕ
page_of c = c.row / 64 * 64 + c.col / 4

-- where the place lies in its page, row by row
abbrev pub place_of : Place → ℕ
place_of c = c.row % 64 * 4 + c.col % 4

-- which one of the pages with room the page of a place is
abbrev pub head_of : Numbers → Place → ℕ
head_of t c = get_or t.heads (page_of c) 0

-- the number at a place of one of the pages; a page without room has zeros
abbrev pub number_in : List ℕ → ℕ → ℕ → ℕ
number_in numbers zero p = 0
number_in numbers (suc k) p = get_or numbers (k * 256 + p) 0

-- the number of a place, 0 where it has none
abbrev pub number_at : Numbers → Place → ℕ
number_at t c = number_in t.numbers (head_of t c) (place_of c)

-- a number of the place can be set
abbrev pub HasRoom : Numbers → Place → Type 0
HasRoom t c = 0 < head_of t c
