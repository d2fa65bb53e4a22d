use Rattle.std.proofs.Common.{take}
use Rattle.formula_parts.specs.Lists.{items_of}
use Rattle.formula_parts.specs.inner.Totals.{IsTotal}
use Rattle.formula_parts.proofs.lists.total_of.Given as goal

abbrev pub invariant-loop-argument : goal.invariant-loop-argument
invariant-loop-argument g l =
    IsTotal l.total (items_of (g.K.Look.sight l.look).values (take l.argument-index l.arguments))
