-- Widths that the code may set.
use Rattle.std.specs.Prelude.{ℕ, ◌≤◌}
use Rattle.sheet_store.specs.Limits.{MOST_WIDTH}

-- a width of a column
abbrev pub IsWidth : ℕ → Type 0
IsWidth n = (1 ≤ n) × (n ≤ MOST_WIDTH)
