use Rattle.std.specs.FinMap.{entries}
use Rattle.sheet_undo.proofs.Twins.{AreTwins}
use Rattle.sheet_undo.proofs.names.are_same_names.Given as goal

abbrev pub invariant-loop-key : goal.invariant-loop-key
invariant-loop-key l = AreTwins (entries l.one) (entries l.other) l.key-iterator l.right
