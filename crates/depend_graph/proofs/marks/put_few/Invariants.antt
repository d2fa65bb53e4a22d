use Rattle.std.specs.Prelude.{◌≡◌, ◌≤◌, drop, length}
use Rattle.cell_maps.specs.Numbers.{number_at}
use Rattle.grid_address.specs.Place.{InSheet, Place}
use Rattle.depend_graph.specs.inner.Marked.{mark_among}
use Rattle.depend_graph.proofs.marks.put_few.Given as goal

abbrev pub invariant-back : goal.invariant-back
invariant-back l = record {
  within : l.next ≤ length l.fn.few;
  marks : (d : Place) → InSheet d → number_at l.table d ≡ mark_among (drop l.next l.fn.few) (number_at l.fn.table d) d;
}

abbrev pub decreases-back : goal.decreases-back
decreases-back l = l.next
