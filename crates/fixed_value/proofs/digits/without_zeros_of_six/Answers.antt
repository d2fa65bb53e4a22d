use Rattle.std.proofs.Common.{◌/◌, arith, refl, sym}
use Rattle.fixed_value.proofs.Few.{few_left, none_left}
use Rattle.fixed_value.proofs.Kept.{zero_raised}
use Rattle.fixed_value.proofs.digits.without_zeros_of_six.Goals as goal

pub returns-then-tenths-gt0-clause-places : goal.returns-then-tenths-gt0-clause-places
returns-then-tenths-gt0-clause-places c =
    few_left 1 5 c.args.number (c.args.number / 100000) refl (omega arith) (omega arith) (omega arith)

pub returns-then-tenths-gt0-clause-zero : goal.returns-then-tenths-gt0-clause-zero
returns-then-tenths-gt0-clause-zero c = sym (zero_raised (c.args.number / 100000) 5 c.args.number (omega arith))

pub returns-else-tenths-gt0-clause-places : goal.returns-else-tenths-gt0-clause-places
returns-else-tenths-gt0-clause-places c = none_left c.args.number (c.args.number / 100000 / 10) (omega arith)

pub returns-else-tenths-gt0-clause-zero : goal.returns-else-tenths-gt0-clause-zero
returns-else-tenths-gt0-clause-zero c = sym (zero_raised (c.args.number / 100000 / 10) 6 c.args.number (omega arith))
