-- What the code prints from, as what a report is told of.
use Rattle.sheet_store.specs.declared.writes.SavedSheet.{SavedSheet}
use Rattle.print_report.specs.declared.job.Job.{Job}
use Rattle.print_report.specs.declared.sheet.PrintedSheet.{PrintedSheet}
use Rattle.print_report.specs.Pages.{printing, Printing}

-- a worksheet that is printed, as a file would hold it
abbrev pub sheet_of : PrintedSheet → SavedSheet
sheet_of s = record { store = s.store.now; names = s.names.now; settings = s.settings.now }

-- all that is printed, and how
abbrev pub printed_by : Job → Printing
printed_by job = printing job.set.now (sheet_of job.sheet) job.range job.moment.day
