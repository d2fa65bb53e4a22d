use Rattle.std.proofs.Common.{arith}
use Rattle.data_blocks.proofs.Halves.{above}
use Rattle.data_blocks.proofs.distributing.share_above.Goals as goal

pub returns : goal.returns
returns c = omega (arith, c.saturating_sub.ensures, c.up_to_before.ensures, above c.args.before c.args.numbers.now)
