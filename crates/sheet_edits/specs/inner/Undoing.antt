-- How an edit that is evaluated at once is undone and counted.
use Rattle.std.specs.Prelude.{ℕ, false, ◌≡◌, Bool, true, Option, None, Some}
use Rattle.std.specs.FinMap as map
use Rattle.grid_address.specs.Place.{Place}
use Rattle.sheet_store.specs.Grid.{clear_cell, is_kept, Grid, IsSound}
use Rattle.sheet_store.specs.State.{CellState}

-- a state that a store has
pub record IsOldState (s : CellState) : Type 0 where
  pub sound : IsSound s
  pub kept : is_kept s ≡ true

-- the cell has what it had
abbrev pub put_back : Grid → Place → Option CellState → Grid
put_back g c None = clear_cell g c
put_back g c (Some s) = record g { cells = map.insert g.cells c s }

-- how often an entry evaluates its formula
abbrev pub evaluations : Bool → ℕ
evaluations true = 1
evaluations false = 0
