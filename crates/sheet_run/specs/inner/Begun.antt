-- How a run has begun.
use Rattle.std.specs.Prelude.{◌≡◌}
use Rattle.command_desk.specs.Desks.{of_desk, Desk}
use Rattle.command_desk.specs.declared.desk.Desk as declared
use Rattle.commands_file.specs.Calls.{HaveAnswered, ShelfView}
use Rattle.sheet_undo.specs.Histories.{no_history}
use Rattle.work_sheet.specs.Did.{work_of}
use Rattle.work_sheet.specs.Work.{no_work, HasWorked}
use Rattle.sheet_run.specs.declared.options.Start.{Start}
use Rattle.sheet_run.specs.Opening.{StartSheet, IsAskedFor, desk_from, log_from, calls_from}

-- a desk was made, with the sheet that the words ask for, for which the shelf was asked so, and which keeps no states
pub record HasBegun (asked : Start) (desk : declared.Desk) (before now : ShelfView) : Type 0 where
  pub start : StartSheet
  pub named : IsAskedFor asked start
  pub answered : HaveAnswered (calls_from start) before now
  pub desk_is : of_desk desk ≡ desk_from start
  pub worked : HasWorked (log_from start) no_work (work_of desk.sheet 0)
  pub none_kept : desk.sheet.history ≡ no_history
