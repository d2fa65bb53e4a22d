-- The functions of dates and times.
use Rattle.std.specs.Prelude.{ℕ, ◌+◌, ◌-◌, ◌*◌, ◌/◌, ◌%◌, ℤ, pos, negsuc, unsigned_abs, Option, Some, None}
use Rattle.serial_date.specs.declared.calendar.Civil.{Civil}
use Rattle.serial_date.specs.Calendar.{date_of, day_number}
use Rattle.serial_date.specs.Fractions.{millionths_of_day, second_of_day, whole_day}
use Rattle.at_functions.specs.Numbers.{in_units, units, whole, within}

-- the serial number of a year behind 1900, a month and a day; none where one of them isn't a number there
abbrev pub date_by : Option ℕ → Option ℕ → Option ℕ → Option ℤ
date_by None m d = None
date_by (Some y) None d = None
date_by (Some y) (Some m) None = None
date_by (Some y) (Some m) (Some d) = in_units (day_number (pos (1900 + y)) (pos m) (pos d))

-- the day number of a year from 0 to 199, counted from 1900, a month and a day
abbrev pub date : ℤ → ℤ → ℤ → Option ℤ
date y m d = date_by (within 0 199 (whole y)) (within 1 12 (whole m)) (within 1 31 (whole d))

-- the part of a day that hours, minutes and seconds come to; none where one of them isn't a number there
abbrev pub time_by : Option ℕ → Option ℕ → Option ℕ → Option ℤ
time_by None m s = None
time_by (Some h) None s = None
time_by (Some h) (Some m) None = None
time_by (Some h) (Some m) (Some s) = Some (pos (millionths_of_day (h * 3600 + m * 60 + s)))

-- the part of a day of an hour to 23, a minute and a second to 59
abbrev pub time_of : ℤ → ℤ → ℤ → Option ℤ
time_of h m s = time_by (within 0 23 h) (within 0 59 m) (within 0 59 s)

-- the answer of @TIME to three numbers, whose whole parts count
abbrev pub time : ℤ → ℤ → ℤ → Option ℤ
time h m s = time_of (whole h) (whole m) (whole s)

-- the parts of the date of the whole part
abbrev pub day_part : Option Civil → Option ℤ
day_part None = None
day_part (Some c) = Some (units (unsigned_abs c.day))

-- the month of a date as a number
abbrev pub month_part : Option Civil → Option ℤ
month_part None = None
month_part (Some c) = Some (units (unsigned_abs c.month))

-- the year, less 1900
abbrev pub year_part : Option Civil → Option ℤ
year_part None = None
year_part (Some c) = Some (units (unsigned_abs c.year - 1900))

-- the answer of @DAY: the day of the month of a serial number
abbrev pub day : ℤ → Option ℤ
day v = day_part (date_of (whole_day v))

-- the answer of @MONTH: the month of a serial number, 1 to 12
abbrev pub month : ℤ → Option ℤ
month v = month_part (date_of (whole_day v))

-- the answer of @YEAR: the year of a serial number, counted from 1900
abbrev pub year : ℤ → Option ℤ
year v = year_part (date_of (whole_day v))

-- the second of the day of the fraction, of which there is none below zero
abbrev pub second_in : ℤ → Option ℕ
second_in (pos n) = Some (second_of_day (n % 1000000))
second_in (negsuc n) = None

-- the hours in seconds of a day
abbrev pub hour_part : Option ℕ → Option ℤ
hour_part None = None
hour_part (Some s) = Some (units (s / 3600))

-- the minutes past the hour in seconds of a day
abbrev pub minute_part : Option ℕ → Option ℤ
minute_part None = None
minute_part (Some s) = Some (units (s / 60 % 60))

-- the seconds past the minute in seconds of a day
abbrev pub second_part : Option ℕ → Option ℤ
second_part None = None
second_part (Some s) = Some (units (s % 60))

-- the answer of @HOUR: the hours of the time in a serial number, 0 to 23
abbrev pub hour : ℤ → Option ℤ
hour v = hour_part (second_in v)

-- the answer of @MINUTE: the minutes of the time in a serial number
abbrev pub minute : ℤ → Option ℤ
minute v = minute_part (second_in v)

-- the answer of @SECOND: the seconds of the time in a serial number
abbrev pub second : ℤ → Option ℤ
second v = second_part (second_in v)
