-- The columns and rows of a span.
use Rattle.std.specs.Prelude.{ℕ, ◌+◌, Bool, ◌&&◌, nat_le, nat_lt}
use Rattle.grid_address.specs.Place.{Place}

-- as many columns, from one on
abbrev pub in_columns : ℕ → ℕ → Place → Bool
in_columns first count c = nat_le first c.col && nat_lt c.col (first + count)

-- as many rows, from one on
abbrev pub in_rows : ℕ → ℕ → Place → Bool
in_rows first count c = nat_le first c.row && nat_lt c.row (first + count)
