-- On the way from the cells of one store to those of another.
use Rattle.std.specs.Prelude.{◌≡◌, ◌⊎◌, List, [], ◌∷◌, Option, None}
use Rattle.std.specs.FinMap.{get}
use Rattle.grid_address.specs.Place.{Place}
use Rattle.sheet_store.specs.Grid.{Cells}
use Rattle.sheet_store.specs.State.{CellState}

-- cells go
abbrev pub gone_of : List Place → List (Place × Option CellState)
gone_of [] = []
gone_of (c ∷ cs) = (c, None) ∷ gone_of cs

-- on the way from the next one's cells to the kept ones, those that are only in the next one are away
abbrev pub AreTaken : (kept next now : Cells) → Type 0
AreTaken kept next now =
    (p : Place) → (get now p ≡ get kept p) ⊎ ((get now p ≡ get next p) × (get kept p ≡ None → get next p ≡ None))
