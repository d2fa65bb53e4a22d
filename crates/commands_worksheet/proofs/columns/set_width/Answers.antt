use Rattle.std.proofs.Common.{rules}
use Rattle.command_desk.specs.Answered.{whole_at}
use Rattle.menu_tree.specs.declared.menu.Action.TheVariants as action
use Rattle.menu_tree.specs.declared.menu.WorksheetAction.TheVariants as worksheet
use Rattle.commands_worksheet.proofs.Acts.{was_given, was_refused}
use Rattle.commands_worksheet.proofs.columns.set_width.Goals as goal

pub returns-in-Ok : goal.returns-in-Ok
returns-in-Ok c = λ n.
    was_given (whole_at (action.Worksheet worksheet.SetWidth) c.args.answers.now 0) c.in-Ok.width _ _ _ _ n
    (search rules) (c.widen.ensures n)

pub returns-in-Err : goal.returns-in-Err
returns-in-Err c = λ n.
    was_refused (whole_at (action.Worksheet worksheet.SetWidth) c.args.answers.now 0) c.in-Err.error _ _ n
    (search rules)
