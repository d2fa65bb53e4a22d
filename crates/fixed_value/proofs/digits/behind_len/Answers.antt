use Rattle.std.proofs.Common.{arith}
use Rattle.fixed_value.specs.Written.{fixed_digits}
use Rattle.fixed_value.proofs.Kept.{pointed_len}
use Rattle.fixed_value.proofs.Written.{fixed_digits_length}
use Rattle.fixed_value.proofs.digits.behind_len.Goals as goal

pub returns-then-places-gt0-clause-len : goal.returns-then-places-gt0-clause-len
returns-then-places-gt0-clause-len c number =
    let long = fixed_digits_length c.args.places number in
    omega (
      arith,
      c.from.ensures,
      long,
      pointed_len (fixed_digits c.args.places number) (omega (arith, long, c.if-places-gt0.true)),
    )
