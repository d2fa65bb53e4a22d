use Rattle.std.proofs.Common.{arith, ap, length, ◌∙◌}
use Rattle.fixed_value.specs.Written.{short, written}
use Rattle.fixed_value.proofs.Kept.{len_of_short, len_with_zeros, no_room_for, room_for, short_is}
use Rattle.fixed_value.proofs.digits.write_fitting.Goals as goal

pub returns-then-bytes-behind_len : goal.returns-then-bytes-behind_len
returns-then-bytes-behind_len c =
    let strip = c.without_zeros_at_end-number in
    let front =
    len_of_short c.args.value strip.result.1 strip.result.0 c.is_minus.result c.write-text.result c.is_minus.ensures
    c.write-text.ensures in
    let long =
    len_with_zeros c.args.value c.args.places c.scaled.result strip.result.1 strip.result.0 c.is_minus.result
    c.write-text.result c.scaled.ensures.value c.is_minus.ensures strip.ensures.whole strip.ensures.zero
    c.write-text.ensures in
    no_room_for (length (written c.args.value c.args.places)) c.args.room (short c.args.value c.args.places)
    (omega (
      arith,
      front,
      long,
      ap length c.bytes.ensures.bytes,
      c.behind_len.ensures.len strip.result.0,
      c.behind_len-2.ensures.len c.scaled.result,
      c.if-bytes-behind_len.true,
    ))

pub returns : goal.returns
returns c =
    let strip = c.without_zeros_at_end-number in
    let front =
    len_of_short c.args.value strip.result.1 strip.result.0 c.is_minus.result c.write-text.result c.is_minus.ensures
    c.write-text.ensures in
    let long =
    len_with_zeros c.args.value c.args.places c.scaled.result strip.result.1 strip.result.0 c.is_minus.result
    c.write-text.result c.scaled.ensures.value c.is_minus.ensures strip.ensures.whole strip.ensures.zero
    c.write-text.ensures in
    room_for (length (written c.args.value c.args.places)) c.args.room c.write-text.result
    (short c.args.value c.args.places)
    (omega (
      arith,
      front,
      long,
      ap length c.bytes.ensures.bytes,
      c.behind_len.ensures.len strip.result.0,
      c.behind_len-2.ensures.len c.scaled.result,
      c.if-bytes-behind_len.false,
    ))
    (c.write-text.ensures
    ∙ short_is c.args.value c.args.places c.args.places c.scaled.result strip.result.1 strip.result.0 c.is_minus.result
    c.scaled.ensures.size (omega (arith, c.requires)) c.scaled.ensures.value c.is_minus.ensures
    strip.ensures.places strip.ensures.whole strip.ensures.zero)
