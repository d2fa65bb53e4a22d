-- Numbers are whole counts of millionths. An operation is the exact fraction, rounded once.
use Rattle.std.specs.Int.RustNames.{int_lt}
use Rattle.std.specs.Prelude.{ℕ, Bool, true, false, not, suc, ◌+◌, ◌*◌, ◌/◌, ◌%◌, ◌≤◌, ◌≡◌, ℤ, pos, negsuc, ◌-ℤ◌, ◌*ℤ◌, neg_ℤ, nat_abs, Option, Some, None, nat_le, if◌then◌else◌, ◌==◌}

-- the number, unless its size is too large
abbrev pub within : ℤ → Option ℤ
within z = if nat_le (nat_abs z) 999999999999999 then Some z else None

-- the whole number nearest to n / d, halves up
abbrev pub nearest : ℕ → ℕ → ℕ
nearest n d = (2 * n + d) / (2 * d)

-- whether two signs differ
abbrev pub unlike : Bool → Bool → Bool
unlike true b = not b
unlike false b = b

-- the number of that size, below zero if so
abbrev pub signed : Bool → ℕ → ℤ
signed true n = neg_ℤ (pos n)
signed false n = pos n

-- the whole number nearest to num / den, halves away from zero: its sign, and its size
unfoldable pub rounded : ℤ → ℤ → ℤ
rounded num den = signed (unlike (int_lt num (pos 0)) (int_lt den (pos 0))) (nearest (nat_abs num) (nat_abs den))

-- x * y in millionths
abbrev pub product : ℤ → ℤ → Option ℤ
product x y = within (rounded (x *ℤ y) (pos 1000000))

-- x / y in millionths, with no value at 0
abbrev pub quotient : ℤ → ℤ → Option ℤ
quotient x y = if nat_abs y == 0 then None else within (rounded (x *ℤ pos 1000000) y)

-- what is left of x by whole steps of y toward zero, with the sign of x and no value at 0
abbrev pub remainder : ℤ → ℤ → Option ℤ
remainder x y = if nat_abs y == 0 then None else Some (signed (int_lt x (pos 0)) (nat_abs x % nat_abs y))

-- cut toward zero
abbrev pub whole_part : ℤ → ℤ
whole_part (pos n) = pos (n / 1000000 * 1000000)
whole_part (negsuc n) = neg_ℤ (pos (suc n / 1000000 * 1000000))

-- r is nearest to num / den, and at the same distance to two numbers it is the larger in size
pub record IsNearest (num den r : ℤ) : Type 0 where
  pub near : 2 * nat_abs (num -ℤ r *ℤ den) ≤ nat_abs den
  pub halves : 2 * nat_abs (num -ℤ r *ℤ den) ≡ nat_abs den → nat_abs num ≤ nat_abs (r *ℤ den)
