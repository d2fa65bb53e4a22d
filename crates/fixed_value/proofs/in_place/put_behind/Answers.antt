use Rattle.std.proofs.Common.{arith}
use Rattle.fixed_value.proofs.InPlace.{places_room, places_stand}
use Rattle.fixed_value.proofs.in_place.put_behind.Goals as goal

pub put_digits-requires-clause-room : goal.put_digits-requires-clause-room
put_digits-requires-clause-room c =
    omega (
      arith,
      places_room c.args.places c.args.behind c.args.end (omega (arith, c.if-places-eq0.false))
          c.requires.room,
    )

pub overflow_sub-point : goal.overflow_sub-point
overflow_sub-point c =
    omega (
      arith,
      c.from.ensures,
      places_room c.args.places c.args.behind c.args.end (omega (arith, c.if-places-eq0.false)) c.requires.room,
    )

pub put_byte-requires-clause-some : goal.put_byte-requires-clause-some
put_byte-requires-clause-some c =
    omega (
      arith,
      c.from.ensures,
      places_room c.args.places c.args.behind c.args.end (omega (arith, c.if-places-eq0.false)) c.requires.room,
    )

pub returns : goal.returns
returns c =
    places_stand c.args.places c.args.behind c.args.end c.from.result c.args.bytes.now c.put_digits.new.bytes
    c.put_byte.new.bytes
    (omega (arith, c.if-places-eq0.false)) c.from.ensures c.put_digits.ensures c.put_byte.ensures
