-- What a sheet is seen as, and what it keeps.
use Rattle.std.specs.Prelude.{◌≡◌, Bool, true, false, List, Option, None, Some, Result, Ok, Err}
use Rattle.std.specs.FinMap as map
use Rattle.grid_address.specs.Place.{same_place, Place}
use Rattle.range_names.specs.Names.{NameMap}
use Rattle.cell_maps.specs.Sets.{has}
use Rattle.sheet_store.specs.Choices.{Choices}
use Rattle.sheet_store.specs.Grid.{Grid}
use Rattle.formula_tree.specs.declared.value.Value.{Value}
use Rattle.sheet_store.specs.State.{CellState}
use Rattle.sheet_store.specs.declared.writes.SheetFault.{SheetFault}
use Rattle.sheet_store.specs.declared.writes.SheetFault.TheVariants as faults
use Rattle.sheet_store.specs.declared.order.Order.{Order}
use Rattle.sheet_store.specs.declared.order.Order.TheVariants as orders
use Rattle.sheet_undo.specs.Histories.{History}
use Rattle.recalculation.specs.Reading.{is_formula_at}

-- the cells and columns, the dirty formulas, whether the last recalculation told a circle, whether a change was made
-- since then, the names, the settings, and the states before the last commands
pub record Worksheet : Type 0 where
  pub grid : Grid
  pub dirty : List Place
  pub circular : Bool
  pub stale : Bool
  pub names : NameMap
  pub settings : Choices
  pub history : History

-- in another order than the natural one all formulas are dirty
abbrev pub AllDirtyIn : Order → Grid → List Place → Type 0
AllDirtyIn orders.Natural g dirty = Unit {0}
AllDirtyIn orders.Columnwise g dirty = (c : Place) → is_formula_at g c ≡ true → has same_place dirty c ≡ true
AllDirtyIn orders.Rowwise g dirty = (c : Place) → is_formula_at g c ≡ true → has same_place dirty c ≡ true

-- the value of what is held of a cell
abbrev pub value_in : Option CellState → Option Value
value_in None = None
value_in (Some s) = Some s.value

-- the value of a cell, where the sheet holds something of it
abbrev pub value_told : Grid → Place → Option Value
value_told g c = value_in (map.get g.cells c)

-- an edit of a cell is refused as protected exactly where it is, and is refused otherwise for want of memory alone
abbrev pub IsFaultOf : Bool → Place → Result (Unit {0}) SheetFault → Type 0
IsFaultOf true cell r = r ≡ Err (faults.Protected cell)
IsFaultOf false cell (Ok x) = Unit {0}
IsFaultOf false cell (Err f) = f ≡ faults.Memory

-- an edit is refused by its fault, where it has one, and is refused otherwise for want of memory alone
abbrev pub IsRefusedBy : Option SheetFault → Result (Unit {0}) SheetFault → Type 0
IsRefusedBy (Some f) r = r ≡ Err f
IsRefusedBy None (Ok x) = Unit {0}
IsRefusedBy None (Err f) = f ≡ faults.Memory
