-- Where a reference leads.
use Rattle.std.specs.Prelude.{Bool}
use Rattle.grid_address.specs.Limits.{COLUMNS, ROWS}
use Rattle.grid_address.specs.Place.{Place}
use Rattle.grid_address.specs.Axes.{axis_to, resolved, Reference}

-- the cell that a reference of a formula in a cell leads to; offsets go round at the sheet's edge
abbrev pub resolve : Reference → Place → Place
resolve r at = record { row = resolved r.row at.row ROWS; col = resolved r.col at.col COLUMNS }

-- the reference in a cell that names another, with the column or the row absolute where it is asked for
abbrev pub reference_to : Place → Place → Bool → Bool → Reference
reference_to target at fixed_col fixed_row =
    record { col = axis_to fixed_col target.col at.col COLUMNS; row = axis_to fixed_row target.row at.row ROWS }
