use Rattle.serial_date.proofs.DayNumbers.{date_to_number, number_to_date}
use Rattle.serial_date.proofs.calendar.dates_and_numbers.Goals as goal

pub returns-clause-date : goal.returns-clause-date
returns-clause-date c = number_to_date

pub returns-clause-number : goal.returns-clause-number
returns-clause-number c = date_to_number
