-- Sets of cells, seen as lists in which no cell stands twice.
use Rattle.std.specs.Prelude.{Bool, List, ◌∷◌, ◌++◌, [], if◌then◌else◌}
use Rattle.std.specs.List.{list_any}
use Rattle.grid_address.specs.Place.{Place}

-- the cells of a set, in its order
pub record Cells : Type 0 where
  pub keys : List Place

module _ {K : Type 0} (same : K → K → Bool) where
  -- whether an item is one of these, by the given equality: for cells by `same_place`
  abbrev pub has : List K → K → Bool
  has items x = list_any (same x) items

-- the cells after one is added behind them, unless it is there by the given equality
abbrev pub insert_key : (Place → Place → Bool) → List Place → Place → List Place
insert_key same cells c = if list_any (same c) cells then cells else cells ++ c ∷ []
