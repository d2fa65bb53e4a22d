-- Seconds of a day, and days in millionths.
use Rattle.std.specs.Prelude.{ℕ, ◌*◌, ◌/◌, ◌%◌, ℤ, pos, negsuc}
use Rattle.fixed_value.specs.Numbers.{nearest}

-- the nearest second of so many millionths of a day, on a clock of one day
abbrev pub second_of_day : ℕ → ℕ
second_of_day millionths = nearest (millionths * 86400) 1000000 % 86400

-- the nearest millionth of a day
abbrev pub millionths_of_day : ℕ → ℕ
millionths_of_day second = nearest (second * 1000000) 86400

-- the whole part of a number of millionths as a day, of which there is none below zero
abbrev pub whole_day : ℤ → ℕ
whole_day (pos n) = n / 1000000
whole_day (negsuc n) = 0
