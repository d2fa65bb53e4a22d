-- What the lines of a sheet hang on.
use Rattle.std.specs.Prelude.{◌≡◌, ℕ, Bool, false}
use Rattle.std.specs.FinMap as map
use Rattle.grid_address.specs.Place.{Place}
use Rattle.work_sheet.specs.Seen.{Sheet}

-- Two sheets have the same cells but in some rows, the columns of both have the same widths and are hidden or not,
-- their formats stand in for the default one, and their names are printed: no line of another row tells them apart.
pub record AreAlike (touched : ℕ → Bool) (s t : Sheet) : Type 0 where
  pub cells : (c : Place) → touched c.row ≡ false → map.get t.grid.cells c ≡ map.get s.grid.cells c
  pub widths : t.grid.widths ≡ s.grid.widths
  pub hidden : t.grid.hidden ≡ s.grid.hidden
  pub width : t.settings.width ≡ s.settings.width
  pub format : t.settings.format ≡ s.settings.format
  pub names : t.names ≡ s.names
