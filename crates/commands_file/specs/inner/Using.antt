-- What a file's sheet is used for.
use Rattle.std.specs.Prelude.{List, ℕ}
use Rattle.command_desk.specs.Acting.{finished, on_desk, Acted}
use Rattle.command_desk.specs.Desks.{Desk}
use Rattle.commands_file.specs.Calls.{gets, Reply}
use Rattle.commands_file.specs.Combined.{combined}
use Rattle.commands_file.specs.Commands.{by_call, retrieved_sheet, with_file, FileActed}
use Rattle.commands_file.specs.declared.acting.FileUse.{FileUse}
use Rattle.commands_file.specs.declared.acting.FileUse.TheVariants.{Retrieve, Combine}
use Rattle.formula_parts.specs.declared.look.Scene.{Scene}
use Rattle.sheet_store.specs.declared.writes.SavedSheet.{SavedSheet}
use Rattle.work_sheet.specs.Seen.{Sheet}

-- a file's sheet takes the place of the sheet, or its cells are combined with those of the sheet
abbrev pub used : FileUse → SavedSheet → Scene → Sheet → Acted
used Retrieve saved scene s = finished (retrieved_sheet saved scene s)
used (Combine kind) saved scene s = combined kind saved.store scene s

-- a file is read, and its sheet used
abbrev pub file_used : FileUse → List ℕ → Scene → Desk → Reply → FileActed
file_used how name scene d reply = by_call (gets name) reply (with_file (λ saved. on_desk (used how saved scene) d) d)
