-- The worksheet's calendar, from 1 January 1900, which is day 1, to 31 December 2099, which is day 73050.
use Rattle.std.specs.Prelude.{ℕ, zero, suc, ◌+◌, ◌-◌, ◌%◌, Bool, not, ◌&&◌, ◌||◌, ◌==◌, nat_le, ℤ, pos, int_lt, unsigned_abs, Option, Some, None, if◌then◌else◌}
use Rattle.serial_date.specs.declared.calendar.Civil.{Civil}

-- every fourth year, and 1900 too, which is none in the civil calendar
abbrev pub is_leap : ℕ → Bool
is_leap y = y % 4 == 0

-- the days of a year
unfoldable pub days_in_year : ℕ → ℕ
days_in_year y = if is_leap y then 366 else 365

-- thirty days have September, April, June and November
unfoldable pub days_in_month : ℕ → ℕ → ℕ
days_in_month y m =
    if m == 2 then (if is_leap y then 29 else 28)
    else (if (m == 4) || (m == 6) || (m == 9) || (m == 11) then 30 else 31)

-- how long so many pieces are, from the first on
unfoldable pub total : (ℕ → ℕ) → ℕ → ℕ → ℕ
total length first zero = 0
total length first (suc count) = length first + total length (first + 1) count

-- whole pieces are taken off, at most so many: the piece in which the number lies, and its place there
unfoldable pub piece_of : (ℕ → ℕ) → ℕ → ℕ → ℕ → ℕ × ℕ
piece_of length zero first n = (first, n)
piece_of length (suc count) first n =
    if nat_le n (length first) then (first, n) else piece_of length count (first + 1) (n - length first)

-- whether a whole number lies between two others, or is one of them
abbrev pub is_between : ℕ → ℕ → ℤ → Bool
is_between low high z = not (int_lt z (pos low)) && not (int_lt (pos high) z)

-- the calendar has this day
abbrev pub is_date : ℤ → ℤ → ℤ → Bool
is_date y m d =
    is_between 1900 2099 y
    && (is_between 1 12 m && is_between 1 (days_in_month (unsigned_abs y) (unsigned_abs m)) d)

-- its number: the days of the years before, of the months before, and of its month
abbrev pub number_of : ℕ → ℕ → ℕ → ℕ
number_of y m d = total days_in_year 1900 (y - 1900) + (total (days_in_month y) 1 (m - 1) + d)

-- the serial number of a date; none where the calendar has no such date
abbrev pub day_number : ℤ → ℤ → ℤ → Option ℕ
day_number y m d = if is_date y m d then Some (number_of (unsigned_abs y) (unsigned_abs m) (unsigned_abs d)) else None

-- the date of a year, a month and a day
abbrev pub date_at : ℕ → ℕ → ℕ → Civil
date_at y m d = record { year = pos y; month = pos m; day = pos d }

-- whole months are taken off the days of a year
abbrev pub date_in_year : ℕ × ℕ → Civil
date_in_year (y, n) = date_at y (piece_of (days_in_month y) 11 1 n).0 (piece_of (days_in_month y) 11 1 n).1

-- the date of a day number: whole years are taken off, and then whole months
abbrev pub date_of : ℕ → Option Civil
date_of n = if nat_le 1 n && nat_le n 73050 then Some (date_in_year (piece_of days_in_year 199 1900 n)) else None
