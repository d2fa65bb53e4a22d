use Rattle.std.specs.FinMap.{entries}
use Rattle.sheet_undo.proofs.Twins.{maps_decided, twins_over}
use Rattle.sheet_undo.proofs.cells.are_same_cells.Goals as goal

pub returns : goal.returns
returns c = maps_decided c.is_over.result c.args.one.now.cells c.args.other.now.cells
    (twins_over (entries c.args.one.now.cells) (entries c.args.other.now.cells) c.loop-entry.left c.loop-entry.right
    c.is_over.result c.loop-entry.invariant c.in_default.ensures.none c.is_over.ensures)
