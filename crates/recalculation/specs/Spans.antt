-- The order in which the formulas of a span are evaluated.
use Rattle.std.specs.Prelude.{Bool, true, false, List}
use Rattle.grid_address.specs.Place.{Extent, Place}
use Rattle.sheet_store.specs.Grid.{formulas_within, Grid}
use Rattle.recalculation.specs.Reading.{by_columns}

-- the formulas of a span by column and then by row, or by row and then by column
abbrev pub span_order : Bool → Extent → Grid → List Place
span_order true span g = by_columns (formulas_within g span)
span_order false span g = formulas_within g span
