use Rattle.formula_parts.specs.inner.Kept.{RisesTo}
use Rattle.formula_parts.proofs.Ascent.{IsAbove}
use Rattle.formula_parts.proofs.rising.rises.Given as goal

abbrev pub invariant-loop-row : goal.invariant-loop-row
invariant-loop-row g l =
    let values = (g.K.Look.sight l.look).values in
    record { rising : RisesTo values l.span l.row; above : IsAbove values l.span l.row l.low }
