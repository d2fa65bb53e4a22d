use Rattle.std.proofs.Common.{◌≡◌, ◌<◌, ◌-◌, true, None}
use Rattle.std.specs.FinMap.{get}
use Rattle.grid_address.specs.Place.{is_within, Place}
use Rattle.sheet_store.proofs.store.Store.is_unused.Given as goal

-- no cell of the rows that were gone over has a state
abbrev pub invariant-loop-row : goal.invariant-loop-row
invariant-loop-row l = (p : Place) → is_within l.fn.span p ≡ true → p.row < l.row → get l.self.cells p ≡ None

abbrev pub decreases-loop-row : goal.decreases-loop-row
decreases-loop-row l = 8192 - l.row
