-- Doubles by their bits: a sign, 11 bits of exponent, 52 bits of fraction.
use Rattle.std.specs.Int.RustNames.{int_lt}
use Rattle.std.specs.Prelude.{ℕ, ◌≡◌, ◌≤◌, ◌<◌, ◌+◌, ◌-◌, ◌*◌, ◌/◌, ◌%◌, ◌^◌, max, ℤ, pos, nat_abs, Bool, ◌==◌, nat_le, nat_lt, if◌then◌else◌}
use Rattle.fixed_value.specs.declared.doubles.DoubleRead.{DoubleRead}
use Rattle.fixed_value.specs.declared.doubles.DoubleRead.TheVariants.{Num, Na, Err, TooLarge}
use Rattle.fixed_value.specs.Numbers.{nearest, signed}

-- the exponent in the bits of a double, as it is stored
abbrev pub exponent_of : ℕ → ℕ
exponent_of bits = bits / 4503599627370496 % 2048

-- the fraction in the bits of a double
abbrev pub fraction_bits : ℕ → ℕ
fraction_bits bits = bits % 4503599627370496

-- whether the bits of a double have the sign of a number below zero
abbrev pub has_minus : ℕ → Bool
has_minus bits = nat_le 9223372036854775808 bits

-- the fraction's bits, and above them the one that an exponent of 0 leaves out
abbrev pub mantissa_of : ℕ → ℕ → ℕ
mantissa_of exponent fraction = if exponent == 0 then fraction else 4503599627370496 + fraction

-- the exact size is the mantissa times 2 to the exponent less 1075, where the exponents 0 and 1 are alike; in
-- millionths, rounded once
abbrev pub size_by : ℕ → ℕ → ℕ
size_by mantissa exponent = nearest (mantissa * 1000000 * 2 ^ (exponent - 1075)) (2 ^ (1075 - exponent))

-- the size of a double in millionths, rounded
abbrev pub double_size : ℕ → ℕ
double_size bits = size_by (mantissa_of (exponent_of bits) (fraction_bits bits)) (max (exponent_of bits) 1)

-- the number of a sign and a size in millionths, or that it is too large
abbrev pub sized : Bool → ℕ → DoubleRead
sized minus size = if nat_le size 999999999999999 then Num (signed minus size) else TooLarge

-- all ones in the exponent are ERR, but for one pattern that is NA
abbrev pub double_of : ℕ → DoubleRead
double_of bits =
    if bits == 18442240474082181120
    then Na
    else (if exponent_of bits == 2047 then Err else sized (has_minus bits) (double_size bits))

-- n / d to the nearest whole number, and at the same distance to the even one
abbrev pub nearest_even : ℕ → ℕ → ℕ
nearest_even n d = if nat_lt d (2 * (n % d) + n / d % 2) then n / d + 1 else n / d

-- the sign of a number as the highest bit of its double
abbrev pub sign_bit : ℤ → ℕ
sign_bit v = if int_lt v (pos 0) then 9223372036854775808 else 0

-- The bits of the double that is nearest to a number that isn't 0. At the scale of its exponent the size has 53 bits; a
-- size that is rounded up to the next power of two raises the exponent by itself.
pub record IsWritten (v : ℤ) (bits : ℕ) : Type 0 where
  pub scale : ℕ
  pub scale_in : scale ≤ 72
  pub scale_from : 23 ≤ scale
  pub least : 4503599627370496 * 1000000 ≤ nat_abs v * 2 ^ scale
  pub below : nat_abs v * 2 ^ scale < 9007199254740992 * 1000000
  pub bits_are : bits ≡ sign_bit v
      + ((1075 - scale) * 4503599627370496 + (nearest_even (nat_abs v * 2 ^ scale) 1000000 - 4503599627370496))
