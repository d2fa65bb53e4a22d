-- The bits of the nearest double, as a function.
use Rattle.std.specs.Prelude.{ℕ, zero, suc, ◌+◌, ◌-◌, ◌*◌, ◌^◌, ℤ, nat_abs, ◌==◌, nat_lt, if◌then◌else◌}
use Rattle.fixed_value.specs.Doubles.{nearest_even, sign_bit}

-- the bits that stand for ERR
abbrev pub ERR_BITS : ℕ
ERR_BITS = 0x7FF0000000000000

-- the bits that stand for NA
abbrev pub NA_BITS : ℕ
NA_BITS = 0xFFF0000000000000

-- the first scale, from one on and within so many, at which a size has 53 bits
abbrev pub scale_from : ℕ → ℕ → ℕ → ℕ
scale_from zero size scale = scale
scale_from (suc n) size scale =
    if nat_lt (size * 2 ^ scale) 4503599627370496000000 then scale_from n size (scale + 1) else scale

-- by how many powers of two a size in millionths is raised to have 53 bits: 23 to 72
unfoldable pub scale_of : ℕ → ℕ
scale_of size = scale_from 49 size 23

-- the bits of the double that is nearest to a number, ties to even; 0 has no sign
unfoldable pub bits_of : ℤ → ℕ
bits_of v =
    if nat_abs v == 0
    then 0
    else sign_bit v + ((1075 - scale_of (nat_abs v)) * 4503599627370496
    + (nearest_even (nat_abs v * 2 ^ scale_of (nat_abs v)) 1000000 - 4503599627370496))
