-- The civil calendar beside the worksheet's.
use Rattle.std.specs.Prelude.{ℤ, pos, ◌+ℤ◌, ◌-ℤ◌, int_lt, if◌then◌else◌}
use Rattle.jiff_core.specs.declared.civil.date.Date.{Date}
use Rattle.jiff_core.specs.Calendar.{days_from_civil}
use Rattle.jiff_core.specs.Date.{epoch_day}

-- the days from 31 December 1899 to a date of the civil calendar
abbrev pub days_since_1899 : Date → ℤ
days_since_1899 date = epoch_day date -ℤ days_from_civil (pos 1899) 12 31

-- one day more from 1 March 1900 on, since 29 February 1900 has the number 60
abbrev pub numbered : ℤ → ℤ
numbered days = if int_lt days (pos 60) then days else days +ℤ pos 1
