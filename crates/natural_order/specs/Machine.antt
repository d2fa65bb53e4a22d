-- The machine that walks with a list.
use Rattle.std.specs.Prelude.{ℕ, suc, Bool, List, length}
use Rattle.grid_address.specs.Place.{Place}
use Rattle.indexmap.specs.IndexSet.{IndexSet}
use Rattle.natural_order.specs.Walk.{Walked}

-- what a set of done cells says of a walk: these in the order in which they were done, and whether it met a circle
abbrev pub walked : {S : Type 0} → IndexSet Place S → Bool → Walked Place
walked set circular = record { done = set.keys; circular = circular }

-- no path is longer than this
abbrev pub fuel : List Place → ℕ
fuel all = suc (length all)
