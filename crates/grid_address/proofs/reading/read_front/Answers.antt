use Rattle.std.proofs.Common.{arith, sym, ◌∙◌}
use Rattle.grid_address.proofs.AddressFunction.{one_on}
use Rattle.grid_address.proofs.AddressReading.{reads_on}
use Rattle.grid_address.proofs.reading.read_front.Goals as goal

pub loop-at-preserved : goal.loop-at-preserved
loop-at-preserved c = (
  reads_on c.loop-at.progress c.in-Some.next c.args.bytes.now c.loop-at.at (omega arith) c.loop-at.invariant.0
      (sym c.after.ensures ∙ c.in-Some.is),
  c.loop-at.invariant.1 ∙ one_on c.loop-at.progress c.in-Some.next c.args.bytes.now c.loop-at.at (omega arith)
      (sym c.after.ensures ∙ c.in-Some.is),
)
