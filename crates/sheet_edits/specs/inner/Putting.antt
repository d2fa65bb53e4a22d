-- How the states that cells are given are put, one by one.
use Rattle.std.specs.Prelude.{◌≡◌, ◌⊎◌, Bool, false, true, List, Option, None, Some}
use Rattle.std.specs.FinMap as cells
use Rattle.grid_address.specs.Place.{same_place, Place}
use Rattle.depend_graph.specs.Network.{Network}
use Rattle.depend_graph.specs.declared.node.Node.{Node}
use Rattle.cell_maps.specs.Sets.{has}
use Rattle.recalculation.specs.Context.{formula_at, formula_in}
use Rattle.recalculation.specs.Reading.{node_of}
use Rattle.sheet_store.specs.Grid.{is_formula, is_kept, put_state, Cells, Grid}
use Rattle.sheet_store.specs.State.{CellState}
use Rattle.sheet_edits.specs.Spans.{changed}

-- the grid with a state put, or without one
abbrev pub put_given : Grid → Place → Option CellState → Grid
put_given g c None = g
put_given g c (Some s) = put_state g c s

-- a change gives a formula
abbrev pub gives_formula : Option CellState → Bool
gives_formula None = false
gives_formula (Some s) = is_formula s.content

-- no change gives a formula
abbrev pub GivePlain : Cells → Type 0
GivePlain changes = (c : Place) → gives_formula (cells.get changes c) ≡ false

-- what is offered to the graph for a change
abbrev pub node_given : Option CellState → Place → Option Node
node_given None c = None
node_given (Some s) c = node_of (formula_in s.content) c

-- every cell that is given a state that is kept is there
abbrev pub HaveRoom : Cells → (Place → Bool) → Grid → Type 0
HaveRoom changes written g = (c : Place) (s : CellState) → written c ≡ true → cells.get changes c ≡ Some s →
    is_kept s ≡ true → cells.get g.cells c ≡ None → ⊥

-- some cells were added that weren't there
pub record IsGrown (grown : List Place) (old new : Grid) : Type 0 where
  pub absent : (c : Place) → has same_place grown c ≡ true → cells.get old.cells c ≡ None
  pub others : (c : Place) → has same_place grown c ≡ false → cells.get new.cells c ≡ cells.get old.cells c
  pub widths : new.widths ≡ old.widths
  pub hidden : new.hidden ≡ old.hidden

-- some of the given states were put, and with those that are left each cell becomes what it was to become
pub record ArePut (given : Cells) (old : Grid) (left : Cells) (new : Grid) : Type 0 where
  pub among : (c : Place) (s : CellState) → cells.get left c ≡ Some s → cells.get given c ≡ Some s
  pub held : (c : Place) →
      changed (cells.get left c) (cells.get new.cells c) ≡ changed (cells.get given c) (cells.get old.cells c)
  pub widths : new.widths ≡ old.widths
  pub hidden : new.hidden ≡ old.hidden

-- the graph holds or is offered what the cell's formula reads
pub record IsOffered (n : Network) (g : Grid) (c : Place) : Type 0 where
  pub offer : (cells.get n.offers c ≡ None) ⊎ (cells.get n.offers c ≡ node_of (formula_at g c) c)
  pub some : (cells.get n.formulas c ≡ node_of (formula_at g c) c) ⊎ (cells.get n.offers c ≡ node_of (formula_at g c) c)

-- a cell is given a state, or keeps what it is given
abbrev pub given_at : Cells → Place → Option CellState → Cells
given_at m c None = m
given_at m c (Some s) = cells.insert m c s
