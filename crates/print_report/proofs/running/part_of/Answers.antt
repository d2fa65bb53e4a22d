use Rattle.std.proofs.Common.{arith}
use Rattle.print_report.proofs.Parting.{all_filled, byte_filled, still_short}
use Rattle.print_report.proofs.running.part_of.Goals as goal

pub loop-at-preserved : goal.loop-at-preserved
loop-at-preserved c = (
  still_short c.args.width _ c.add_filled.new.part c.add_filled.ensures,
  byte_filled c.args.width c.args.number c.args.day c.args.text.now c.loop-at.part c.add_filled.new.part c.loop-at.at 0
      (omega (arith, c.loop-at-test.true)) c.loop-at.invariant.1 c.add_filled.ensures,
)

pub returns-clause-part : goal.returns-clause-part
returns-clause-part c =
    all_filled c.args.width c.args.number c.args.day c.args.text.now c.loop-at.part c.loop-at.at (omega arith)
    c.loop-at.invariant.0 c.loop-at.invariant.1
