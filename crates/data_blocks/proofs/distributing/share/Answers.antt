use Rattle.std.proofs.Common.{arith}
use Rattle.data_blocks.proofs.Halves.{in_bin}
use Rattle.data_blocks.proofs.distributing.share.Goals as goal

pub returns : goal.returns
returns c =
    omega (
      arith,
      c.saturating_sub.ensures,
      c.up_to.ensures,
      c.up_to_before.ensures,
      in_bin c.args.before c.args.bin c.args.numbers.now,
    )
