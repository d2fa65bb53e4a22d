-- Which formulas there are, what they read, and which of them reach a cell.
use Rattle.std.specs.Prelude.{◌≡◌, ◌⊎◌, Bool, true, false, List, Option, None, Some, is_some}
use Rattle.std.specs.FinMap.{get, insert, remove, FinMap}
use Rattle.cell_maps.specs.Sets.{has}
use Rattle.grid_address.specs.Place.{place_cmp, same_place, Place}
use Rattle.range_index.specs.Owners.{hold}
use Rattle.depend_graph.specs.declared.node.Node.{Node}

-- for each cell what its formula reads, and whether that is volatile
abbrev pub Nodes : Type 0
Nodes = FinMap place_cmp Node

-- the formulas, and those that are offered to take their place
pub record Network : Type 0 where
  pub formulas : Nodes
  pub offers : Nodes

-- a formula waits at a cell, and the one that is there stays in force
abbrev pub offered : Network → Place → Node → Network
offered g c n = record g { offers = insert g.offers c n }

-- the formula that waits at a cell is given up
abbrev pub withdrawn : Network → Place → Network
withdrawn g c = record g { offers = remove g.offers c }

-- what waits at a cell, where something does, becomes its formula
abbrev pub promoted : Option Node → Network → Place → Network
promoted None g c = g
promoted (Some n) g c = record { formulas = insert g.formulas c n; offers = remove g.offers c }

-- the formula that is offered takes its place
abbrev pub accepted : Network → Place → Network
accepted g c = promoted (get g.offers c) g c

-- a formula takes its place, and no offer is left
abbrev pub put : Network → Place → Node → Network
put g c n = record { formulas = insert g.formulas c n; offers = remove g.offers c }

-- the cell has no formula any more; what waits there goes on waiting
abbrev pub dropped : Network → Place → Network
dropped g c = record g { formulas = remove g.formulas c }

-- whether the cell has a formula in force
abbrev pub is_formula : Network → Place → Bool
is_formula g c = is_some (get g.formulas c)

-- whether a formula, where there is one, reads the cell
abbrev pub holds : Option Node → Place → Bool
holds None d = false
holds (Some n) d = hold n.reads d

-- one of the spans that the formula at c reads holds d
abbrev pub reads : Network → Place → Place → Bool
reads g c d = holds (get g.formulas c) d

-- the formula at c reads d, or a formula that reaches d; what it reads is told by a graph or by a grid
pub data ReachesCell (reading : Place → Place → Bool) : Place → Place → Type 0 where
  direct : {c d : Place} → reading c d ≡ true → ReachesCell reading c d
  through : {c e d : Place} → reading c e ≡ true → ReachesCell reading e d → ReachesCell reading c d

-- the formula at c reads one of the cells, by itself or through other formulas
pub record ReachesOneOf (g : Network) (cells : List Place) (c : Place) : Type 0 where
  pub cell : Place
  pub among : has same_place cells cell ≡ true
  pub reached : ReachesCell (reads g) c cell

-- c is a formula, and is one of the cells or reaches one of them
pub record IsSpread (g : Network) (cells : List Place) (c : Place) : Type 0 where
  pub formula : is_formula g c ≡ true
  pub way : (has same_place cells c ≡ true) ⊎ ReachesOneOf g cells c
