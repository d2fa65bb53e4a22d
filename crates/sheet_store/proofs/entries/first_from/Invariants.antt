use Rattle.std.proofs.Common.{◌≡◌, Some}
use Rattle.std.specs.FinMap.{entries}
use Rattle.sheet_store.specs.inner.RowOrder.{IsEdge}
use Rattle.sheet_store.specs.inner.Scan.{left_from, places_left}
use Rattle.sheet_store.proofs.entries.first_from.Given as goal

abbrev pub invariant-loop-next : goal.invariant-loop-next
invariant-loop-next l = record {
  edge : IsEdge l.store.cells l.edge;
  left : left_from l.next (entries l.store.cells) ≡ left_from (Some l.fn.from) (entries l.store.cells);
}

abbrev pub decreases-loop-next : goal.decreases-loop-next
decreases-loop-next l = places_left l.next
