use Rattle.std.proofs.Common.{sym, ap, ◌∙◌, arith}
use Rattle.formula_parts.specs.Lookups.{passes}
use Rattle.formula_parts.proofs.Lines.{goes_on}
use Rattle.formula_parts.proofs.lookups.passed.Goals as goal

pub loop-line-preserved : goal.loop-line-preserved
loop-line-preserved g c =
    let values = (g.K.Look.sight c.args.look.now).values in (
      omega (arith, c.loop-line-test.true),
      goes_on (passes c.args.x) values c.args.across c.args.span c.lines_of-lines.result c.loop-line.line
          (values c.line_cell.result) c.loop-line-test.true c.loop-line.invariant.1
          (ap values c.line_cell.ensures) (sym c.passes_at.ensures ∙ c.if-not-passes_at.false),
    )
