use Rattle.std.proofs.Common.{arith, sym, ◌-◌}
use Rattle.fixed_value.proofs.WrittenBits.{tiny, unit_small}
use Rattle.fixed_value.proofs.doubles.size_by.Goals as goal

pub overflow_add-size : goal.overflow_add-size
overflow_add-size c = omega (arith, unit_small (1075 - c.args.exponent) (omega arith))

pub overflow_mul-size-3 : goal.overflow_mul-size-3
overflow_mul-size-3 c = omega (arith, unit_small (1075 - c.args.exponent) (omega arith))

pub returns-then-scale-ge74-clause-some : goal.returns-then-scale-ge74-clause-some
returns-then-scale-ge74-clause-some c =
    (sym (tiny c.args.mantissa c.args.exponent c.requires.mantissa (omega arith)), omega arith)
