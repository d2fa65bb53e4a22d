use Rattle.std.proofs.Common.{◌≡◌, ◌++◌, drop}
use Rattle.cell_maps.specs.Filled.{filled}
use Rattle.sheet_store.specs.Grid.{picked}
use Rattle.sheet_store.specs.inner.Scan.{wanted}
use Rattle.sheet_store.proofs.scan.picked_held.Given as goal

abbrev pub invariant-loop-one : goal.invariant-loop-one
invariant-loop-one l =
    l.list.items ++ picked (wanted l.only_formulas) l.span (filled (drop l.one-index l.held))
    ≡ picked (wanted l.only_formulas) l.span (filled l.held)
