-- One command: which area carries it out.
use Rattle.std.specs.Prelude.{ℕ, Bool, true, false, List}
use Rattle.command_desk.specs.Acting.{finished, given, on_desk, quits, Acted}
use Rattle.command_desk.specs.Answered.{cell_at}
use Rattle.command_desk.specs.Desks.{Desk}
use Rattle.commands_data.specs.Commands as on_data
use Rattle.commands_file.specs.Calls.{Reply}
use Rattle.commands_file.specs.Commands.{without_call, FileActed}
use Rattle.commands_file.specs.Commands as on_file
use Rattle.commands_print.specs.Commands as on_print
use Rattle.commands_range.specs.Commands as on_range
use Rattle.commands_worksheet.specs.Commands as on_worksheet
use Rattle.formula_parts.specs.declared.look.Scene.{Scene}
use Rattle.menu_tree.specs.declared.menu.Action.{Action}
use Rattle.menu_tree.specs.declared.menu.Action.TheVariants as action
use Rattle.menu_tree.specs.declared.menu.CommonAction.{CommonAction}
use Rattle.menu_tree.specs.declared.menu.CommonAction.TheVariants as common
use Rattle.work_sheet.specs.Doing.{quiet, with_pointer}
use Rattle.work_sheet.specs.Seen.{Sheet}

-- the pointer goes to the cell that the answer is
abbrev pub gone_to : List (List ℕ) → Sheet → Acted
gone_to answers s = given (cell_at s.names answers 0) (λ p. finished (quiet (with_pointer p s))) s

-- No, Cancel and Quit of a menu do nothing, GOTO moves the pointer, and Quit's Yes ends the run
abbrev pub act_common : CommonAction → List (List ℕ) → Scene → Sheet → Acted
act_common common.No answers scene s = finished (quiet s)
act_common common.Cancel answers scene s = finished (quiet s)
act_common common.Leave answers scene s = finished (quiet s)
act_common common.Copy answers scene s = on_range.copied answers scene s
act_common common.Move answers scene s = on_range.moved answers scene s
act_common common.QuitYes answers scene s = quits s
act_common common.Goto answers scene s = gone_to answers s

-- a command that works on the worksheet alone, and makes no call of the shelf
abbrev pub on_sheet_alone : (Sheet → Acted) → Desk → FileActed
on_sheet_alone act d = without_call (on_desk act d)

-- what a command with these answers does to the desk, over what the shelf answers its call
abbrev pub act : Action → List (List ℕ) → Scene → Desk → Reply → FileActed
act (action.Common a) answers scene d reply = on_sheet_alone (act_common a answers scene) d
act (action.Worksheet a) answers scene d reply = on_sheet_alone (on_worksheet.act a answers scene) d
act (action.Range a) answers scene d reply = on_sheet_alone (λ s. on_range.act answers scene s a) d
act (action.File a) answers scene d reply = on_file.act a answers scene d reply
act (action.Print a) answers scene d reply = on_print.act a answers scene d reply
act (action.Data a) answers scene d reply = without_call (on_data.act a answers scene d)

-- a command stands below Print
abbrev pub is_print : Action → Bool
is_print (action.Print a) = true
is_print a = false
