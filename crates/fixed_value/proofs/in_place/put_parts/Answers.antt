use Rattle.std.proofs.Common.{arith}
use Rattle.fixed_value.specs.Written.{minus_sign}
use Rattle.fixed_value.proofs.InPlace.{parts_stand, whole_fits_len}
use Rattle.fixed_value.proofs.in_place.put_parts.Goals as goal

pub put_digits-requires-clause-below : goal.put_digits-requires-clause-below
put_digits-requires-clause-below c =
    whole_fits_len c.args.parts.whole c.args.len c.requires.len (omega (arith, c.requires.whole))

pub returns : goal.returns
returns c =
    parts_stand (minus_sign c.args.minus) c.args.parts.whole c.args.parts.behind c.args.parts.places c.args.len
    c.put_sign.result c.put_behind-point.result c.args.end c.from.result
    c.args.bytes.now c.put_behind-point.new.bytes c.put_digits.new.bytes c.put_sign.new.bytes c.requires.len
    (omega (arith, c.requires.whole)) c.from.ensures
    c.put_behind-point.ensures c.put_digits.ensures c.put_sign.ensures
