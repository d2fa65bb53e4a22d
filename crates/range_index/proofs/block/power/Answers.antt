use Rattle.std.proofs.Common.{◌∙◌, arith}
use Rattle.range_index.proofs.Sizes.{last_power, next_power, this_power}
use Rattle.range_index.proofs.block.power.Goals as goal

pub returns-then-first-power-clause-is : goal.returns-then-first-power-clause-is
returns-then-first-power-clause-is c = this_power c.loop-power.power c.args.first c.args.last c.loop-power-test.true
    c.if-first-power.true ∙ c.loop-power.invariant.rest

pub loop-power-preserved : goal.loop-power-preserved
loop-power-preserved c = record {
  rest = next_power c.loop-power.power c.args.first c.args.last c.loop-power-test.true
      c.if-first-power.false ∙ c.loop-power.invariant.rest;
  most = omega arith;
}

pub returns-clause-is : goal.returns-clause-is
returns-clause-is c = last_power c.loop-power.power c.args.first c.args.last (omega arith) ∙ c.loop-power.invariant.rest
