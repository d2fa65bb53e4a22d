use Rattle.std.proofs.Common.{◌≡◌, ◌-◌, ◌≤◌}
use Rattle.range_index.specs.inner.Blocks.{power, power_from}
use Rattle.range_index.proofs.block.power.Given as goal

abbrev pub invariant-loop-power : goal.invariant-loop-power
invariant-loop-power l = record {
  rest : power_from (13 - l.power) l.power l.first l.last ≡ power l.first l.last;
  most : l.power ≤ 13;
}
