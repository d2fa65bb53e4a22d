use Rattle.std.proofs.Common.{subst}
use Rattle.formula_parts.specs.inner.Totals.{IsTotal}
use Rattle.formula_parts.proofs.Gathered.{next_argument}
use Rattle.formula_parts.proofs.lists.total_of.Goals as goal

pub loop-argument-preserved : goal.loop-argument-preserved
loop-argument-preserved g c =
    let values = (g.K.Look.sight c.args.look.now).values in
    subst (IsTotal c.put_argument.new.total) (next_argument values c.args.arguments.now c.loop-argument.argument-index
    c.argument-item.result c.loop-argument-test.true c.argument-item.is)
    (c.in_ok-put_argument.ensures _ c.loop-argument.invariant)
