use Rattle.std.specs.Prelude.{◌≡◌, ◌≤◌, ◌-◌, false, length, take}
use Rattle.depend_graph.specs.inner.Marked.{is_among}
use Rattle.depend_graph.proofs.marks.place_among.Given as goal

abbrev pub invariant-places : goal.invariant-places
invariant-places l = record {
  within : l.at ≤ length l.few;
  before : is_among (take l.at l.few) l.cell ≡ false;
}

abbrev pub decreases-places : goal.decreases-places
decreases-places l = length l.few - l.at
