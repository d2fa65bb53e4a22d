-- How it is kept which cells are noted.
use Rattle.std.specs.Prelude.{ℕ, ◌≡◌, length, take, List, Option}
use Rattle.grid_address.specs.Place.{Place}
use Rattle.sheet_store.specs.State.{CellState}
use Rattle.edit_log.specs.Changes.{cells_of, AreOnce}

-- the keys are the cells of the first changes, and no cell changes twice
pub record AreListed (keys : List Place) (es : List (Place × Option CellState)) : Type 0 where
  pub first : keys ≡ take (length keys) (cells_of es)
  pub once : AreOnce es
