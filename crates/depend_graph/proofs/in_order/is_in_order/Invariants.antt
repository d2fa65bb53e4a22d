use Rattle.std.specs.Prelude.{◌≤◌, drop, length}
use Rattle.depend_graph.specs.InOrder.{GoesInOrder}
use Rattle.depend_graph.specs.inner.Marked.{AreMarked}
use Rattle.depend_graph.proofs.in_order.is_in_order.Given as goal

abbrev pub invariant-back : goal.invariant-back
invariant-back l = record {
  within : l.next ≤ length l.fn.cells;
  marked : AreMarked l.marked l.hull (drop l.next l.fn.cells);
  goes : GoesInOrder l.fn.graph (drop l.next l.fn.cells);
}

abbrev pub decreases-back : goal.decreases-back
decreases-back l = l.next
