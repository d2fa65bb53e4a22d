-- What is kept of a search, for the next one from the same cell.
use Rattle.std.specs.Prelude.{◌≡◌, ◌↔◌, Bool, true, false, List, [], ◌∷◌, Option, None, Some}
use Rattle.std.specs.Option.{ForSome}
use Rattle.cell_maps.specs.Sets.{has}
use Rattle.grid_address.specs.Place.{same_place, Place}
use Rattle.depend_graph.specs.InOrder.{GoesInOrder}
use Rattle.depend_graph.specs.Network.{IsSpread, Network}
use Rattle.depend_graph.specs.declared.spread.LastSpreads.{LastSpreads}
use Rattle.depend_graph.specs.declared.spread.Spread.{Spread}

-- the list has the formulas among the cell and those that reach it, and stands in order where that is told
pub record IsSpreadOf (g : Network) (s : Spread) : Type 0 where
  pub members : (c : Place) → (has same_place s.list c ≡ true) ↔ IsSpread g (s.cell ∷ []) c
  pub order : s.is_in_order ≡ true → GoesInOrder g s.list

-- so is what is kept, where something is
abbrev pub IsKept : Network → Option Spread → Type 0
IsKept g kept = ForSome kept (λ s. IsSpreadOf g s)

-- so are both that are kept
abbrev pub AreKept : Network → LastSpreads → Type 0
AreKept g kept = IsKept g kept.last × IsKept g kept.before

-- whether what is kept is of a cell
abbrev pub is_of : Option Spread → Place → Bool
is_of None c = false
is_of (Some s) c = same_place s.cell c

-- the list that is kept, empty where none is
abbrev pub list_of : Option Spread → List Place
list_of None = []
list_of (Some s) = s.list
