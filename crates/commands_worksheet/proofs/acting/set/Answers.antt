use Rattle.std.proofs.Common.{rules, refl}
use Rattle.commands_worksheet.specs.Commands.{settings_after}
use Rattle.commands_worksheet.proofs.Acts.{was_given, was_refused}
use Rattle.commands_worksheet.proofs.acting.set.Goals as goal

pub returns-in-Ok : goal.returns-in-Ok
returns-in-Ok c = λ n.
    was_given (settings_after c.args.action c.args.answers.now c.args.sheet.now.settings) c.in-Ok.settings _ _ _ _ n
    (search rules)
    (record { end = refl; did = c.set_settings.ensures n })

pub returns-in-Err : goal.returns-in-Err
returns-in-Err c = λ n.
    was_refused (settings_after c.args.action c.args.answers.now c.args.sheet.now.settings) c.in-Err.error _ _ n
    (search rules)
