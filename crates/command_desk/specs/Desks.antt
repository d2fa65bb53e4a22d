-- The desk: the worksheet, what the commands on data and those on reports keep, and the name of the file that was saved
-- last.
use Rattle.std.specs.Prelude.{ℕ, List, Option, None}
use Rattle.data_blocks.specs.Ranges.{no_ranges}
use Rattle.data_blocks.specs.declared.ranges.DeskRanges.{DeskRanges}
use Rattle.work_sheet.specs.Seen.{fresh_sheet, of_worksheet, Sheet}
use Rattle.command_desk.specs.Printing.{nothing_to_print}
use Rattle.command_desk.specs.declared.desk.Desk as declared
use Rattle.command_desk.specs.declared.printing.PrintDesk.{PrintDesk}

-- the worksheet as it is seen, with what is kept beside it
pub record Desk : Type 0 where
  pub sheet : Sheet
  pub ranges : DeskRanges
  pub file_name : Option (List ℕ)
  pub print : PrintDesk

-- a desk without the dirty formulas of its worksheet
abbrev pub of_desk : declared.Desk → Desk
of_desk d = record { sheet = of_worksheet d.sheet; ranges = d.ranges; file_name = d.file_name; print = d.print }

-- a fresh desk
abbrev pub fresh_desk : Desk
fresh_desk = record { sheet = fresh_sheet; ranges = no_ranges; file_name = None; print = nothing_to_print }

-- the sheet alone changes
abbrev pub on_sheet : Desk → Sheet → Desk
on_sheet d s = record d { sheet = s }
