use Rattle.std.proofs.Common.{◌≡◌, ◌++◌, length}
use Rattle.std.specs.Prelude.{flat_map}
use Rattle.sheet_listing.specs.Listed.{cell_line, cell_lines}
use Rattle.sheet_listing.specs.Waiting.{added}
use Rattle.sheet_listing.proofs.cells.list_cells.Given as goal

abbrev pub invariant-loop-entry : goal.invariant-loop-entry
invariant-loop-entry g l =
    (added (g.N.Notes.written l.lines) (l.waiting.items ++ flat_map (cell_line l.names) l.entries)
    ≡ added (g.N.Notes.written l.fn.lines) (l.fn.waiting.items ++ cell_lines l.names l.store))
    × (g.N.Notes.faults l.lines ≡ g.N.Notes.faults l.fn.lines)

abbrev pub decreases-loop-entry : goal.decreases-loop-entry
decreases-loop-entry g l = length l.entries
