use Rattle.std.specs.Prelude.{take}
use Rattle.sheet_edits.specs.Spans.{AreGathered}
use Rattle.sheet_edits.specs.inner.Ranks.{StandBefore}
use Rattle.sheet_edits.proofs.writes.gathered.Given as goal

abbrev pub invariant-loop-place : goal.invariant-loop-place
invariant-loop-place l = record {
  gathered : AreGathered l.store (take l.place l.writes) l.cells l.changes;
  before : StandBefore l.least l.cells;
}
