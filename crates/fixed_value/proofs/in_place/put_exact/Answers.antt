use Rattle.std.proofs.Common.{◌≡◌, ◌/◌, ◌∙◌, ap, arith, length}
use Rattle.fixed_value.specs.Written.{decimals, fixed_digits, minus_sign, without_zeros, written}
use Rattle.fixed_value.proofs.Exact.{enough_places, few_decimals}
use Rattle.fixed_value.proofs.Standing.{does_fit, does_not_fit, number_stands, parts_long}
use Rattle.fixed_value.proofs.in_place.put_exact.Goals as goal

pub returns-then-sign_len-from-clause-fits : goal.returns-then-sign_len-from-clause-fits
returns-then-sign_len-from-clause-fits c =
    let s = c.short_places-behind in
    let n = c.size_of-size.result in
    let long =
    parts_long c.args.value n s.result.1 s.result.0 c.size_of-size.ensures.size c.size_of-size.ensures.most
    s.ensures.places s.ensures.below s.ensures.zero
    c.sign_len.result c.count_digits-len.result c.behind_len.result c.from.result c.sign_len.ensures.len
    (omega (arith, c.from.ensures)) c.count_digits-len.ensures.len (c.behind_len.ensures.len s.result.0) in
    does_not_fit (length (written c.args.value (decimals c.args.value))) c.args.end
    (omega (arith, long, c.from-2.ensures, c.if-sign_len-from.true))

pub returns-then-sign_len-from-clause-text : goal.returns-then-sign_len-from-clause-text
returns-then-sign_len-from-clause-text c done = absurd cc

pub returns-then-sign_len-from-clause-few : goal.returns-then-sign_len-from-clause-few
returns-then-sign_len-from-clause-few c = few_decimals c.args.value

pub returns-then-sign_len-from-clause-enough : goal.returns-then-sign_len-from-clause-enough
returns-then-sign_len-from-clause-enough c places enough = enough_places c.args.value places enough

pub put_parts-requires-clause-len : goal.put_parts-requires-clause-len
put_parts-requires-clause-len c =
    c.count_digits-len.ensures.len
    ∙ (let same : c.from.result ≡ c.size_of-size.result / 1000000 = omega (arith, c.from.ensures) in
    ap (λ k. length (without_zeros (fixed_digits 10 k))) same)

pub put_parts-requires-clause-room : goal.put_parts-requires-clause-room
put_parts-requires-clause-room c =
    let sign = ap (λ b. length (minus_sign b)) c.has_sign.ensures in
    omega (
      arith,
      sign,
      c.sign_len.ensures.len,
      c.behind_len.ensures.len c.short_places-behind.result.0,
      c.from-2.ensures,
      c.if-sign_len-from.false,
    )

pub returns-clause-fits : goal.returns-clause-fits
returns-clause-fits c =
    let s = c.short_places-behind in
    let n = c.size_of-size.result in
    let long =
    parts_long c.args.value n s.result.1 s.result.0 c.size_of-size.ensures.size c.size_of-size.ensures.most
    s.ensures.places s.ensures.below s.ensures.zero
    c.sign_len.result c.count_digits-len.result c.behind_len.result c.from.result c.sign_len.ensures.len
    (omega (arith, c.from.ensures)) c.count_digits-len.ensures.len (c.behind_len.ensures.len s.result.0) in
    does_fit (length (written c.args.value (decimals c.args.value))) c.args.end
    (omega (arith, long, c.from-2.ensures, c.if-sign_len-from.false))

pub returns-clause-text : goal.returns-clause-text
returns-clause-text c done =
    let s = c.short_places-behind in
    let n = c.size_of-size.result in
    number_stands c.args.value n s.result.1 s.result.0 c.size_of-size.ensures.size c.size_of-size.ensures.most
    s.ensures.places s.ensures.below s.ensures.zero
    c.has_sign.result (n / 1000000) c.put_parts.result c.args.end c.args.bytes.now c.put_parts.new.bytes
    c.has_sign.ensures (omega arith) c.put_parts.ensures

pub returns-clause-enough : goal.returns-clause-enough
returns-clause-enough c places enough = enough_places c.args.value places enough

pub returns-clause-same : goal.returns-clause-same
returns-clause-same c done = absurd cc

pub returns-clause-size : goal.returns-clause-size
returns-clause-size c = c.put_parts.ensures.size

pub returns-clause-few : goal.returns-clause-few
returns-clause-few c = few_decimals c.args.value
