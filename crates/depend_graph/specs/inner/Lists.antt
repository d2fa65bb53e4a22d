-- For each cell the formulas that read it by itself.
use Rattle.std.specs.Prelude.{◌≡◌, true, List, [], ◌∷◌, Option, None, Some}
use Rattle.std.specs.FinMap.{get, FinMap}
use Rattle.std.specs.List.{filter}
use Rattle.cell_maps.specs.Sets.{has}
use Rattle.grid_address.specs.Place.{place_cmp, same_place, Extent, Place}
use Rattle.range_index.specs.Owners.{hold}
use Rattle.depend_graph.specs.inner.Banks.{is_one}
use Rattle.depend_graph.specs.inner.Slots.{Slots}
use Rattle.depend_graph.specs.declared.lists.Readers.{Readers}
use Rattle.depend_graph.specs.declared.node.Node.{Node}
use Rattle.depend_graph.specs.declared.slots.Slot.{Slot}

-- readers for each cell
abbrev pub Lists : Type 0
Lists = FinMap place_cmp Readers

-- all readers of a cell
abbrev pub cells_in : Readers → List Place
cells_in r = r.first ∷ r.more.items

-- all readers, where there are some
abbrev pub items_in : Option Readers → List Place
items_in None = []
items_in (Some r) = cells_in r

-- the list of a cell
abbrev pub list_at : Lists → Place → List Place
list_at m c = items_in (get m c)

-- what stood in lists still does
abbrev pub AreKept : Lists → Lists → Type 0
AreKept old new = (c d : Place) → has same_place (list_at old c) d ≡ true → has same_place (list_at new c) d ≡ true

-- a formula stands in the list of each cell that one of the spans is
abbrev pub IsListed : Lists → Place → List Extent → Type 0
IsListed m c spans = (d : Place) → hold (filter is_one spans) d ≡ true → has same_place (list_at m d) c ≡ true

-- the cells that a formula reads by themselves have it in their lists
abbrev pub IsInListsOf : Lists → Place → Option Node → Type 0
IsInListsOf m c None = Unit {0}
IsInListsOf m c (Some n) = IsListed m c n.reads

-- both for a cell's formula and for its offer
pub record IsInLists (m : Lists) (c : Place) (s : Slot) : Type 0 where
  pub node : IsInListsOf m c s.node
  pub offer : IsInListsOf m c s.offer

-- for each slot
abbrev pub AreInLists : Slots → Lists → Type 0
AreInLists slots m = (c : Place) (s : Slot) → get slots c ≡ Some s → IsInLists m c s
