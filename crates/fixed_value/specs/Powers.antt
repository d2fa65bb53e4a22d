-- Powers, and rounding to decimals.
use Rattle.std.specs.Int.RustNames.{int_lt}
use Rattle.std.specs.Prelude.{ℕ, zero, suc, ◌*◌, ◌/◌, ◌%◌, ◌^◌, ◌||◌, ◌==◌, ℤ, pos, negsuc, ◌-ℤ◌, nat_abs, nat_lt, Option, Some, None, if◌then◌else◌}
use Rattle.fixed_value.specs.Numbers.{within, nearest, signed, product, quotient}

-- a number times one more factor
abbrev pub times : Option ℤ → ℤ → Option ℤ
times None x = None
times (Some p) x = product p x

-- 1 times x, times x and so on from the left, each product rounded
abbrev pub powered : ℤ → ℕ → Option ℤ
powered x zero = Some (pos 1000000)
powered x (suc n) = times (powered x n) x

-- 1 divided by a number
abbrev pub inverted : Option ℤ → Option ℤ
inverted None = None
inverted (Some p) = quotient (pos 1000000) p

-- a power by a whole number of at most 1000 in size; below 0 it is 1 divided by the positive power
abbrev pub power : ℤ → ℤ → Option ℤ
power x e =
    if nat_abs e % 1000000 == 0
    then (if nat_lt 1000 (nat_abs e / 1000000)
    then None
    else (if int_lt e (pos 0)
    then inverted (powered x (nat_abs e / 1000000))
    else powered x (nat_abs e / 1000000)))
    else None

-- the unit of a decimal place, in millionths, for places below 6
abbrev pub unit_of : ℤ → ℕ
unit_of places = 10 ^ nat_abs (pos 6 -ℤ places)

-- the nearest multiple of the unit, halves away from zero
abbrev pub nearest_multiple : ℤ → ℕ → ℤ
nearest_multiple x unit = signed (int_lt x (pos 0)) (nearest (nat_abs x) unit * unit)

-- rounded to decimals, from 15 before the point to 15 behind it; from the sixth place on it is the number itself
abbrev pub rounded_to : ℤ → ℤ → Option ℤ
rounded_to x places =
    if int_lt places (negsuc 14) || int_lt (pos 15) places
    then None
    else (if int_lt places (pos 6) then within (nearest_multiple x (unit_of places)) else Some x)
