use Rattle.std.proofs.Common.{arith, ap, sym, ◌∙◌, ◌+◌, pos, refl, FitsSigned, w16}
use Rattle.std.proofs.lemmas.Int.{to_z-of_z}
use Rattle.jiff_core.proofs.SignedLemmas.{signed_arith}
use Rattle.serial_date.specs.Calendar.{is_between}
use Rattle.serial_date.proofs.CivilDates.{dated, numbered_high, numbered_low, years_tested}
use Rattle.serial_date.proofs.calendar.day_of_date.Goals as goal

pub returns-then-days-lt-LEAP_DAY_1900 : goal.returns-then-days-lt-LEAP_DAY_1900
returns-then-days-lt-LEAP_DAY_1900 c =
    let fits : FitsSigned w16 c.year.result = omega (arith, signed_arith, c.year.ensures, c.args.date.year_in) in
    let test = simp to_z-of_z at c.is_in_years.ensures in
    let years =
    years_tested c.args.date.year
    (ap (is_between 1900 2099) (sym c.year.ensures) ∙ sym test ∙ c.if-not-is_in_years.false) in
    dated c.args.date c.days_since_1899-days.result c.days_since_1899-days.result years.0 years.1
    c.days_since_1899-days.ensures.days
    (numbered_low (pos c.days_since_1899-days.result) c.days_since_1899-days.result refl
    c.if-days-lt-LEAP_DAY_1900.true)

pub returns-else-days-lt-LEAP_DAY_1900 : goal.returns-else-days-lt-LEAP_DAY_1900
returns-else-days-lt-LEAP_DAY_1900 c =
    let fits : FitsSigned w16 c.year.result = omega (arith, signed_arith, c.year.ensures, c.args.date.year_in) in
    let test = simp to_z-of_z at c.is_in_years.ensures in
    let years =
    years_tested c.args.date.year
    (ap (is_between 1900 2099) (sym c.year.ensures) ∙ sym test ∙ c.if-not-is_in_years.false) in
    dated c.args.date c.days_since_1899-days.result (c.days_since_1899-days.result + 1) years.0 years.1
    c.days_since_1899-days.ensures.days
    (numbered_high (pos c.days_since_1899-days.result) c.days_since_1899-days.result refl
    c.if-days-lt-LEAP_DAY_1900.false)
