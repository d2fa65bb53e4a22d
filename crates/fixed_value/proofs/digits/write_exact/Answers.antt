use Rattle.std.proofs.Common.{◌≡◌, ◌/◌, arith, ap, sym, length, ◌∙◌}
use Rattle.fixed_value.specs.Written.{decimals, fixed_digits, without_zeros, written}
use Rattle.fixed_value.proofs.Exact.{enough_places, exact_is, exact_len}
use Rattle.fixed_value.proofs.Kept.{no_room_for, room_for}
use Rattle.fixed_value.proofs.digits.write_exact.Goals as goal

pub returns-then-sign_len-from-clause-text : goal.returns-then-sign_len-from-clause-text
returns-then-sign_len-from-clause-text c =
    let strip = c.without_zeros_of_six-number in
    let len =
    exact_len c.args.value c.size_of-size.result strip.result.1 strip.result.0 c.size_of-size.ensures.size
    c.size_of-size.ensures.most strip.ensures.places strip.ensures.whole strip.ensures.zero in
    let is : c.args.whole ≡ length (without_zeros (fixed_digits 10 (c.size_of-size.result / 1000000))) =
    c.requires ∙ ap (λ n. length (without_zeros (fixed_digits 10 (n / 1000000)))) (sym c.size_of-size.ensures.size) in
    no_room_for (length (written c.args.value (decimals c.args.value))) c.args.room
    (written c.args.value (decimals c.args.value))
    (omega (
      arith,
      len,
      c.sign_len.ensures.len,
      c.from.ensures,
      is,
      c.behind_len.ensures.len strip.result.0,
      c.if-sign_len-from.true,
    ))

pub returns-then-sign_len-from-clause-enough : goal.returns-then-sign_len-from-clause-enough
returns-then-sign_len-from-clause-enough c places enough = enough_places c.args.value places enough

pub returns-clause-text : goal.returns-clause-text
returns-clause-text c =
    let strip = c.without_zeros_of_six-number in
    let len =
    exact_len c.args.value c.size_of-size.result strip.result.1 strip.result.0 c.size_of-size.ensures.size
    c.size_of-size.ensures.most strip.ensures.places strip.ensures.whole strip.ensures.zero in
    let is : c.args.whole ≡ length (without_zeros (fixed_digits 10 (c.size_of-size.result / 1000000))) =
    c.requires ∙ ap (λ n. length (without_zeros (fixed_digits 10 (n / 1000000)))) (sym c.size_of-size.ensures.size) in
    room_for (length (written c.args.value (decimals c.args.value))) c.args.room c.write.result
    (written c.args.value (decimals c.args.value))
    (omega (
      arith,
      len,
      c.sign_len.ensures.len,
      c.from.ensures,
      is,
      c.behind_len.ensures.len strip.result.0,
      c.if-sign_len-from.false,
    ))
    (c.write.ensures ∙ exact_is c.args.value c.size_of-size.result strip.result.1 strip.result.0 c.is_minus.result
    c.size_of-size.ensures.size c.size_of-size.ensures.most c.is_minus.ensures strip.ensures.places strip.ensures.whole
    strip.ensures.zero)

pub returns-clause-enough : goal.returns-clause-enough
returns-clause-enough c places enough = enough_places c.args.value places enough
