use Rattle.std.proofs.Common.{◌≡◌, ◌≤◌, ◌-◌, length}
use Rattle.sheet_listing.specs.inner.Reading.{IsSplit}
use Rattle.sheet_listing.specs.Ending.{MOST_READ}
use Rattle.sheet_listing.proofs.run.read_bytes.Given as goal

abbrev pub invariant-loop-file : goal.invariant-loop-file
invariant-loop-file g l =
    IsSplit (g.K.Keys.left l.fn.file) l.bytes.items (g.K.Keys.left l.file) ×
    (g.K.Keys.faults l.file ≡ g.K.Keys.faults l.fn.file) × (length l.bytes.items ≤ MOST_READ)

abbrev pub decreases-loop-file : goal.decreases-loop-file
decreases-loop-file g l = MOST_READ - length l.bytes.items
