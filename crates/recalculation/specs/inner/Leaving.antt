-- The formulas that stay dirty, while the others leave the set.
use Rattle.std.specs.Prelude.{◌≡◌, ◌||◌, Bool, true, false, List}
use Rattle.std.specs.List.{list_any}
use Rattle.grid_address.specs.Place.{same_place, Place}
use Rattle.cell_maps.specs.Sets.{has}
use Rattle.sheet_store.specs.Grid.{Grid}
use Rattle.recalculation.specs.Context.{formula_at}
use Rattle.recalculation.specs.Reading.{pre, volatile_of, StaysDirty}

-- whether a cell keeps its place in the set: it is volatile, or reads one that is in it
abbrev pub is_held : Grid → (Place → Bool) → Place → Bool
is_held g dirty c = volatile_of (formula_at g c) || list_any dirty (pre g c)

-- the set now, where the cells seen have been tried
pub record LeftSoFar (g : Grid) (old : Place → Bool) (seen : List Place) (now : Place → Bool) : Type 0 where
  pub within : (c : Place) → now c ≡ true → old c ≡ true
  pub later : (c : Place) → old c ≡ true → has same_place seen c ≡ false → now c ≡ true
  pub earned : (c : Place) → has same_place seen c ≡ true → now c ≡ true → StaysDirty g c
  pub all : (c : Place) → StaysDirty g c → now c ≡ true
