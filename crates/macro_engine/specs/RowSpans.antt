-- Which rows of the sheet a step may have changed.
use Rattle.std.specs.Prelude.{◌≡◌, ℕ, ◌&&◌, nat_le, Bool, false, Option, None, Some}
use Rattle.std.specs.FinMap as map
use Rattle.grid_address.specs.Place.{Place}
use Rattle.work_sheet.specs.Seen.{Sheet}
use Rattle.macro_engine.specs.declared.row_span.RowSpan.{RowSpan}

-- whether a row is one of a span of rows
abbrev pub is_in : RowSpan → ℕ → Bool
is_in span row = nat_le span.first row && nat_le row span.last

-- a sheet became another that has the same cells but in some rows, and the same columns, names and settings
pub record IsBeside (rows : ℕ → Bool) (s t : Sheet) : Type 0 where
  pub names : t.names ≡ s.names
  pub settings : t.settings ≡ s.settings
  pub widths : t.grid.widths ≡ s.grid.widths
  pub hidden : t.grid.hidden ≡ s.grid.hidden
  pub cells : (c : Place) → rows c.row ≡ false → map.get t.grid.cells c ≡ map.get s.grid.cells c

-- a sheet became another by a change of these rows; where none are told, nothing is known
abbrev pub ChangesRows : Option RowSpan → Sheet → Sheet → Type 0
ChangesRows None s t = Unit {0}
ChangesRows (Some span) s t = IsBeside (is_in span) s t
