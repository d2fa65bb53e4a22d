use Rattle.std.proofs.Common.{arith}
use Rattle.fixed_value.proofs.WrittenBits.{read_back}
use Rattle.fixed_value.proofs.doubles.to_double_bits.Goals as goal

pub returns-clause-back : goal.returns-clause-back
returns-clause-back c = read_back c.args.value c.written_bits.result c.written_bits.ensures (omega arith)
