use Rattle.std.specs.Prelude.{◌≡◌, ◌++◌, true, IfSome}
use Rattle.std.specs.FinMap.{entries}
use Rattle.grid_address.specs.Place.{is_within}
use Rattle.sheet_store.specs.Grid.{picked}
use Rattle.sheet_store.specs.inner.Scan.{left_from, places_left, wanted}
use Rattle.sheet_store.proofs.scan.scan_places.Given as goal

abbrev pub invariant-loop-from : goal.invariant-loop-from
invariant-loop-from l = record {
  within : IfSome l.from (λ c. is_within l.span c ≡ true);
  whole : l.list ++ picked (wanted l.only_formulas) l.span (left_from l.from (entries l.cells))
      ≡ picked (wanted l.only_formulas) l.span (entries l.cells);
}

abbrev pub decreases-loop-from : goal.decreases-loop-from
decreases-loop-from l = places_left l.from
