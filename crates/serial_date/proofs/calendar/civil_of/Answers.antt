use Rattle.std.proofs.Common.{arith, ap, sym, ◌∙◌, pos}
use Rattle.serial_date.specs.Calendar.{date_of}
use Rattle.serial_date.proofs.CivilDates.{date_found, leap_day_number}
use Rattle.serial_date.proofs.DayNumbers.{number_to_date}
use Rattle.serial_date.proofs.calendar.civil_of.Goals as goal

pub returns-then-day-eq-LEAP_DAY_1900 : goal.returns-then-day-eq-LEAP_DAY_1900
returns-then-day-eq-LEAP_DAY_1900 c =
    sym (ap date_of c.if-day-eq-LEAP_DAY_1900.true ∙ number_to_date 60 (pos 1900) (pos 2) (pos 29) leap_day_number)

pub returns-in-Ok : goal.returns-in-Ok
returns-in-Ok c =
    sym (date_found c.in-Ok.date c.parts_of.result.year c.parts_of.result.month c.parts_of.result.day c.args.day
    (omega arith) (omega arith) c.in-Ok.ensures.ok c.parts_of.ensures)
