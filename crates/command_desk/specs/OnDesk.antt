-- What commands leave of the desk.
use Rattle.std.specs.Prelude.{[], Result, Ok, Err}
use Rattle.desk_errors.specs.declared.error.CommandError.{CommandError}
use Rattle.work_sheet.specs.Doing.{Done}
use Rattle.command_desk.specs.Acting.{DeskActed}
use Rattle.command_desk.specs.Desks.{on_sheet, Desk}
use Rattle.command_desk.specs.declared.ending.CommandEnd.TheVariants.{Finished, Refused}

-- the desk stays, and the command is refused
abbrev pub refused : CommandError → Desk → DeskActed
refused e d = record { end = Refused e; desk = d; log = [] }

-- a value that a command needs, or the error of its answer
abbrev pub given : {A : Type 0} → Result A CommandError → (A → DeskActed) → Desk → DeskActed
given (Ok a) next d = next a
given (Err e) next d = refused e d

-- the sheet becomes what was done to it
abbrev pub finished : Done → Desk → DeskActed
finished done d = record { end = Finished; desk = on_sheet d done.sheet; log = done.log }

-- nothing is done to the desk
abbrev pub left : Desk → DeskActed
left d = record { end = Finished; desk = d; log = [] }
