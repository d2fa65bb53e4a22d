use Rattle.std.specs.FinMap.{entries}
use Rattle.sheet_undo.proofs.Twins.{maps_decided, twins_over}
use Rattle.sheet_undo.proofs.names.are_same_names.Goals as goal

pub returns : goal.returns
returns c = maps_decided c.is_over.result c.args.one.now c.args.other.now
    (twins_over (entries c.args.one.now) (entries c.args.other.now) c.loop-key.key-iterator c.loop-key.right
    c.is_over.result c.loop-key.invariant c.in-None.ensures.steps.0 c.is_over.ensures)
