use Rattle.std.proofs.Common.{◌≡◌, replicate, false}
use Rattle.std.specs.FinMap as map
use Rattle.grid_address.specs.Place.{Place}
use Rattle.sheet_gen.specs.Rows.{generated}
use Rattle.sheet_gen.proofs.generate.Given as goal

abbrev pub invariant-loop-row : goal.invariant-loop-row
invariant-loop-row l =
    ((p : Place) → map.get l.store.cells p ≡ generated l.row p) × (l.store.widths ≡ replicate 256 0)
    × (l.store.hidden ≡ replicate 256 false)
