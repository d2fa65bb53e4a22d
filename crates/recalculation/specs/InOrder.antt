-- Formulas in an order in which each comes after all of them that it reads.
use Rattle.std.specs.Prelude.{◌≡◌, Bool, false, List}
use Rattle.grid_address.specs.Place.{same_place, Place}
use Rattle.cell_maps.specs.Sets.{has}
use Rattle.depend_graph.specs.InOrder.{AreInOrder}
use Rattle.sheet_store.specs.Grid.{Grid}
use Rattle.recalculation.specs.Context.{formula_at, Context}
use Rattle.recalculation.specs.Passes.{pass, IsSound, Meaning}
use Rattle.recalculation.specs.Reading.{natural_order, reads_at, volatile_of}

-- whether the formula of a cell is volatile
abbrev pub is_volatile_at : Grid → Place → Bool
is_volatile_at g c = volatile_of (formula_at g c)

-- no formula is volatile, and none reads itself or one that stands behind it, by what the grid holds
abbrev pub GoesInOrder : Grid → List Place → Type 0
GoesInOrder g cells = AreInOrder (is_volatile_at g) (reads_at g) cells

-- where all dirty formulas go in an order, a pass along it is a pass along all formulas in their natural order, and
-- there is no circle
abbrev pub AnyOrderServes : Meaning → Context → Type 0
AnyOrderServes mean x = (g : Grid) (cells : List Place) → IsSound mean x g (has same_place cells) → GoesInOrder g cells
    → (pass mean x cells g ≡ pass mean x (natural_order g).done g) × ((natural_order g).circular ≡ false)
