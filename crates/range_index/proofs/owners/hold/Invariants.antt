use Rattle.std.proofs.Common.{◌≡◌, drop}
use Rattle.range_index.specs.Owners.{hold}
use Rattle.range_index.proofs.owners.hold.Given as goal

abbrev pub invariant-loop-span : goal.invariant-loop-span
invariant-loop-span l = hold (drop l.span-index l.spans) l.cell ≡ hold l.spans l.cell
