-- The entries of held cells, and how their numbers tell them apart.
use Rattle.std.specs.Prelude.{ℕ, ◌≡◌, List, [], ◌∷◌, map, Option, None, Some, slice_get}
use Rattle.grid_address.specs.Place.{Place}
use Rattle.cell_maps.specs.declared.held.Held.{Held}
use Rattle.cell_maps.specs.declared.held.Held.TheVariants as held

-- the cell that is held
abbrev pub cell_in : {T : Type 0} → Held T → Place
cell_in (held.Filled c x) = c
cell_in (held.Erased c) = c

-- its item, if it has one
abbrev pub item_in : {T : Type 0} → Held T → Option T
item_in (held.Filled c x) = Some x
item_in (held.Erased c) = None

-- the entries behind that of a cell, which has one if it has an item
abbrev pub with_item : {T : Type 0} → Place → Option T → List (Place × T) → List (Place × T)
with_item c None es = es
with_item c (Some x) es = (c, x) ∷ es

-- the entries of the held cells that have an item, in their order
abbrev pub filled : {T : Type 0} → List (Held T) → List (Place × T)
filled [] = []
filled (h ∷ hs) = with_item (cell_in h) (item_in h) (filled hs)

-- the cells that are held, in their order
abbrev pub cells_of : {T : Type 0} → List (Held T) → List Place
cells_of hs = map cell_in hs

-- no cell stands twice
abbrev pub AreOnce : List Place → Type 0
AreOnce cells = (i j : ℕ) (c : Place) → slice_get cells i ≡ Some c → slice_get cells j ≡ Some c → i ≡ j
