use Rattle.std.proofs.Common.{ap, arith, length, sym}
use Rattle.fixed_value.proofs.LastDigits.{count_is, one_digit}
use Rattle.fixed_value.proofs.digits.count_digits.Goals as goal

pub returns-then-number-lt10-clause-len : goal.returns-then-number-lt10-clause-len
returns-then-number-lt10-clause-len c = sym (ap length (one_digit 10 c.args.number (omega arith) (omega arith)))

pub returns-then-number-lt100-clause-len : goal.returns-then-number-lt100-clause-len
returns-then-number-lt100-clause-len c =
    count_is 1 10 c.args.number (omega arith) (omega arith) (omega arith) (omega arith)

pub returns-then-number-lt1000-clause-len : goal.returns-then-number-lt1000-clause-len
returns-then-number-lt1000-clause-len c =
    count_is 2 10 c.args.number (omega arith) (omega arith) (omega arith) (omega arith)

pub returns-then-number-lt10000-clause-len : goal.returns-then-number-lt10000-clause-len
returns-then-number-lt10000-clause-len c =
    count_is 3 10 c.args.number (omega arith) (omega arith) (omega arith) (omega arith)

pub returns-then-number-lt100000-clause-len : goal.returns-then-number-lt100000-clause-len
returns-then-number-lt100000-clause-len c =
    count_is 4 10 c.args.number (omega arith) (omega arith) (omega arith) (omega arith)

pub returns-then-number-lt1000000-clause-len : goal.returns-then-number-lt1000000-clause-len
returns-then-number-lt1000000-clause-len c =
    count_is 5 10 c.args.number (omega arith) (omega arith) (omega arith) (omega arith)

pub returns-then-number-lt10000000-clause-len : goal.returns-then-number-lt10000000-clause-len
returns-then-number-lt10000000-clause-len c =
    count_is 6 10 c.args.number (omega arith) (omega arith) (omega arith) (omega arith)

pub returns-then-number-lt100000000-clause-len : goal.returns-then-number-lt100000000-clause-len
returns-then-number-lt100000000-clause-len c =
    count_is 7 10 c.args.number (omega arith) (omega arith) (omega arith) (omega arith)

pub returns-then-number-lt1000000000-clause-len : goal.returns-then-number-lt1000000000-clause-len
returns-then-number-lt1000000000-clause-len c =
    count_is 8 10 c.args.number (omega arith) (omega arith) (omega arith) (omega arith)

pub returns-else-number-lt1000000000-clause-len : goal.returns-else-number-lt1000000000-clause-len
returns-else-number-lt1000000000-clause-len c =
    count_is 9 10 c.args.number (omega arith) (omega arith) (omega arith) (omega arith)
