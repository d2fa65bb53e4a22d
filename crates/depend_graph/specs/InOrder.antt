-- Formulas in an order in which each comes after all of them that it reads.
use Rattle.std.specs.Prelude.{◌≡◌, Bool, true, false, List, [], ◌∷◌, Option, None, Some}
use Rattle.std.specs.FinMap.{get}
use Rattle.cell_maps.specs.Sets.{has}
use Rattle.grid_address.specs.Place.{same_place, Place}
use Rattle.depend_graph.specs.Network.{reads, Network}
use Rattle.depend_graph.specs.declared.node.Node.{Node}

-- whether a formula is volatile, where there is one
abbrev pub is_volatile : Option Node → Bool
is_volatile None = false
is_volatile (Some n) = n.volatile

-- whether the formula at c is volatile
abbrev pub is_volatile_at : Network → Place → Bool
is_volatile_at g c = is_volatile (get g.formulas c)

-- which formulas are volatile, and which cells they read, is told by a graph or by a grid
module _ (volatile : Place → Bool) (reading : Place → Place → Bool) where
  -- the formula of a cell isn't volatile, and reads none of the cells
  pub record StandsFirst (cells : List Place) (c : Place) : Type 0 where
    pub steady : volatile c ≡ false
    pub ahead : (d : Place) → has same_place cells d ≡ true → reading c d ≡ false

  -- no formula is volatile, and none reads itself or one that stands behind it
  abbrev pub AreInOrder : List Place → Type 0
  AreInOrder [] = Unit {0}
  AreInOrder (c ∷ cs) = StandsFirst (c ∷ cs) c × AreInOrder cs

-- the same of what a graph tells
abbrev pub GoesInOrder : Network → List Place → Type 0
GoesInOrder g cells = AreInOrder (is_volatile_at g) (reads g) cells
