use Rattle.std.proofs.Common.{◌≡◌, ◌++◌, take, drop}
use Rattle.wk1_records.specs.Meanings.{bits_in}
use Rattle.wk1_records.proofs.name_said.put_bits.Given as goal

abbrev pub invariant-loop-col : goal.invariant-loop-col
invariant-loop-col l = l.bits ≡ take l.col (bits_in l.body) ++ drop l.col l.fn.bits
