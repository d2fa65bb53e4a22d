use Rattle.std.proofs.Common.{pos, sym, ◌∙◌, ◌≡◌, false, true, FitsSigned, w8, w16}
use Rattle.std.proofs.lemmas.Int.{to_z-of_z}
use Rattle.serial_date.proofs.DayNumbers.{number_in_range}
use Rattle.serial_date.proofs.CivilDates.{leap_day_found, no_number}
use Rattle.serial_date.proofs.calendar.day_of.Goals as goal

pub returns-then-is_leap_day_1900-clause-number : goal.returns-then-is_leap_day_1900-clause-number
returns-then-is_leap_day_1900-clause-number c =
    let year : FitsSigned w16 c.args.year = c.ranges.year in
    let month : FitsSigned w8 c.args.month = c.ranges.month in
    let day : FitsSigned w8 c.args.day = c.ranges.day in
    let parts = simp to_z-of_z at c.is_leap_day_1900.ensures.yes c.if-is_leap_day_1900.true in
    leap_day_found c.args.year c.args.month c.args.day parts

pub returns-in-Err-clause-number : goal.returns-in-Err-clause-number
returns-in-Err-clause-number c =
    let year : FitsSigned w16 c.args.year = c.ranges.year in
    let month : FitsSigned w8 c.args.month = c.ranges.month in
    let day : FitsSigned w8 c.args.day = c.ranges.day in
    let other = simp to_z-of_z at c.is_leap_day_1900.ensures.no c.if-is_leap_day_1900.false in
    let date = simp to_z-of_z at c.in-Err.ensures.succeeds.1 in
    no_number c.args.year c.args.month c.args.day (λ is. (let clash : false ≡ true = date is in absurd cc)) other

pub returns-in-Ok-clause-range : goal.returns-in-Ok-clause-range
returns-in-Ok-clause-range c n is =
    number_in_range c.in-Ok.date.year (pos c.in-Ok.date.month) (pos c.in-Ok.date.day) n (sym c.day_of_date.ensures ∙ is)
