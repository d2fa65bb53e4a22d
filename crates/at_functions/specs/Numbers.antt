-- Arguments and results of functions, in millionths.
use Rattle.std.specs.Prelude.{ℕ, ◌*◌, ℤ, pos, negsuc, int_div, unsigned_abs, Option, Some, None, if◌then◌else◌}
use Rattle.fixed_value.specs.Powers.{rounded_to}
use Rattle.serial_date.specs.Calendar.{is_between}

-- cut toward zero
abbrev pub whole : ℤ → ℤ
whole v = int_div v (pos 1000000)

-- a whole number as a value
abbrev pub units : ℕ → ℤ
units n = pos (n * 1000000)

-- a count as a number; none where there is no count
abbrev pub in_units : Option ℕ → Option ℤ
in_units None = None
in_units (Some n) = Some (units n)

-- a whole number as a count; none below zero
abbrev pub not_negative : ℤ → Option ℕ
not_negative (pos n) = Some n
not_negative (negsuc n) = None

-- a place or a count: cut toward zero, and none below that
abbrev pub count_of : ℤ → Option ℕ
count_of v = not_negative (whole v)

-- a whole number within bounds
abbrev pub within : ℕ → ℕ → ℤ → Option ℕ
within low high z = if is_between low high z then Some (unsigned_abs z) else None

-- to so many decimals, cut toward zero
abbrev pub round : ℤ → ℤ → Option ℤ
round v places = rounded_to v (whole places)
