use Rattle.std.specs.Prelude.{◌≡◌, ◌<◌, ◌≤◌}
use Rattle.grid_address.specs.Place.{Place}
use Rattle.depend_graph.specs.inner.Marked.{mark_at}
use Rattle.depend_graph.proofs.in_order.places_are_clear.Given as goal

abbrev pub invariant-loop-row : goal.invariant-loop-row
invariant-loop-row l = (d : Place) → l.fn.span.first.row ≤ d.row → d.row < l.row → l.fn.span.first.col ≤ d.col
    → d.col ≤ l.fn.span.last.col → mark_at l.fn.marked d ≡ 0
