-- What a worksheet keeps beside its cells.
use Rattle.std.specs.Prelude.{◌≡◌, true, List}
use Rattle.grid_address.specs.Place.{same_place, Place}
use Rattle.depend_graph.specs.Network.{Network}
use Rattle.cell_maps.specs.Sets.{has}
use Rattle.sheet_store.specs.Grid.{Grid}
use Rattle.sheet_store.specs.declared.order.Order.{Order}
use Rattle.recalculation.specs.Context.{Context}
use Rattle.recalculation.specs.Passes.{IsSound, Meaning}
use Rattle.recalculation.specs.Reading.{is_formula_at, Matches}
use Rattle.work_sheet.specs.Sheets.{AllDirtyIn, Worksheet}

-- what a sheet keeps: the graph holds its formulas, what holds of the dirty ones holds whatever the moment, the names
-- and the settings are, and in another order than the natural one all are dirty
pub record IsKept (mean : Meaning) (n : Network) (g : Grid) (dirty : List Place) (order : Order) : Type 0 where
  pub matches : Matches n g
  pub only : (c : Place) → has same_place dirty c ≡ true → is_formula_at g c ≡ true
  pub sound : (x : Context) → IsSound mean x g (has same_place dirty)
  pub whole : AllDirtyIn order g dirty

-- what an edit of cells leaves
pub record SameBeside (old new : Worksheet) : Type 0 where
  pub circular : new.circular ≡ old.circular
  pub names : new.names ≡ old.names
  pub settings : new.settings ≡ old.settings
