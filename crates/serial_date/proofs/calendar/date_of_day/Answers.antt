use Rattle.std.proofs.Common.{arith, ◌≤◌, FitsSigned, w64}
use Rattle.std.proofs.lemmas.Int.{to_z-of_z}
use Rattle.jiff.proofs.SpanFacts.{can_add-days}
use Rattle.jiff_core.proofs.SignedLemmas.{signed_arith}
use Rattle.serial_date.proofs.CivilDates.{eve_date, ok_is_no_err}
use Rattle.serial_date.proofs.calendar.date_of_day.Goals as goal
use Rattle.serial_date.proofs.calendar.date_of_day.Goals.{then-day-lt-LEAP_DAY_1900, else-day-lt-LEAP_DAY_1900}

pub returns-clause-err : goal.returns-clause-err
returns-clause-err c =
    let few : c.if-day-lt-LEAP_DAY_1900.days
    ≤ 73050 = elim c.if-day-lt-LEAP_DAY_1900.branch [
      | then-day-lt-LEAP_DAY_1900 w ↦ omega (arith, w.days-is)
      | else-day-lt-LEAP_DAY_1900 w ↦ omega (arith, w.days-is)
    ] in
    let fits : FitsSigned w64 c.from.result = omega (arith, signed_arith, c.from.ensures, few) in
    let only = simp to_z-of_z at c.days.ensures in
    let can = can_add-days c.date.result c.from.result c.days.result only in
    ok_is_no_err c.checked_add.result
    (c.checked_add.ensures.succeeds.1
    (can.1 (omega (arith, signed_arith, few, c.from.ensures, eve_date c.date.result c.date.ensures))))
