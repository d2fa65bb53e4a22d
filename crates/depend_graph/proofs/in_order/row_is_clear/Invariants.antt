use Rattle.std.specs.Prelude.{◌≡◌, ◌<◌, ◌≤◌}
use Rattle.grid_address.specs.Place.{Place}
use Rattle.depend_graph.specs.inner.Marked.{mark_at}
use Rattle.depend_graph.proofs.in_order.row_is_clear.Given as goal

abbrev pub invariant-loop-col : goal.invariant-loop-col
invariant-loop-col l = (d : Place) → d.row ≡ l.fn.row → l.fn.first ≤ d.col → d.col < l.col → mark_at l.fn.marked d ≡ 0
