-- How the graph and the set of dirty formulas follow an edit of a cell.
use Rattle.std.specs.Prelude.{false, cond, ◌≡◌, ◌⊎◌, ◌↔◌, Bool, true, List}
use Rattle.grid_address.specs.Place.{same_place, Place}
use Rattle.depend_graph.specs.Network.{accepted, dropped, IsSpread, Network}
use Rattle.cell_maps.specs.Sets.{has}

-- the set has what it had, the cells that are given a formula, and what the graph tells of the written cells
abbrev pub WithReached : Network → List Place → (Place → Bool) → List Place → List Place → Type 0
WithReached n cells given old new = (c : Place) →
    (has same_place new c ≡ true) ↔ ((has same_place old c ≡ true) ⊎ ((given c ≡ true) ⊎ IsSpread n cells c))

-- the graph takes the formula that is offered, or drops the one that is there
abbrev pub settled : Bool → Network → Place → Network
settled true n cell = accepted n cell
settled false n cell = dropped n cell

-- a cell without a formula leaves the set
abbrev pub kept_at : Bool → Place → Place → Bool → Bool
kept_at true cell c b = b
kept_at false cell c b = cond (same_place cell c) false b
