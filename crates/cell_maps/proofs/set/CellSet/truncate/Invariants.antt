use Rattle.std.proofs.Common.{◌≡◌, length, take}
use Rattle.cell_maps.proofs.set.CellSet.truncate.Given as goal

abbrev pub invariant-loop-self : goal.invariant-loop-self
invariant-loop-self l = take l.count l.self.keys ≡ take l.count l.fn.self.keys

abbrev pub decreases-loop-self : goal.decreases-loop-self
decreases-loop-self l = length l.self.keys
