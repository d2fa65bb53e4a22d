-- What putting a row leaves.
use Rattle.std.specs.Prelude.{ℕ, ◌==◌, Option, if◌then◌else◌}
use Rattle.grid_address.specs.Place.{Place}
use Rattle.sheet_store.specs.State.{CellState}
use Rattle.sheet_gen.specs.Rows.{in_row}

-- a cell after a row was put in
abbrev pub with_row : ℕ → Place → Option CellState → Option CellState
with_row row p was = if p.row == row then in_row row p.col was else was
