use Rattle.std.proofs.Common.{rules, refl}
use Rattle.command_desk.specs.Answered.{span_at}
use Rattle.commands_worksheet.proofs.Acts.{was_given, was_refused}
use Rattle.commands_worksheet.proofs.columns.hide.Goals as goal

pub returns-in-Ok : goal.returns-in-Ok
returns-in-Ok c = λ n.
    was_given (span_at c.args.sheet.now.names c.args.answers.now 0) c.in-Ok.span _ _ _ _ n (search rules)
    (record { end = refl; did = c.hide_columns.ensures n })

pub returns-in-Err : goal.returns-in-Err
returns-in-Err c =
    λ n. was_refused (span_at c.args.sheet.now.names c.args.answers.now 0) c.in-Err.error _ _ n (search rules)
