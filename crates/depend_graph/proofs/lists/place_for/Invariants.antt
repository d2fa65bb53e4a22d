use Rattle.std.specs.Prelude.{◌≤◌, ◌-◌, length}
use Rattle.depend_graph.proofs.lists.place_for.Given as goal

abbrev pub invariant-halves : goal.invariant-halves
invariant-halves l = record {
  order : l.first ≤ l.behind;
  within : l.behind ≤ length l.list;
}

abbrev pub decreases-halves : goal.decreases-halves
decreases-halves l = l.behind - l.first
