use Rattle.fixed_value.proofs.Places.{whole_are_digits}
use Rattle.fixed_value.proofs.decimal.read_decimal.Goals as goal

pub fraction-requires-clause-whole : goal.fraction-requires-clause-whole
fraction-requires-clause-whole c =
    rw c.digits_len-len.ensures.whole (whole_are_digits c.without_sign-unsigned.result.now)
