use Rattle.std.proofs.Common.{sym, ap, ◌∙◌}
use Rattle.command_desk.specs.Acting as acting
use Rattle.commands_data.proofs.First.{found_then, or_then}
use Rattle.commands_data.specs.TableCommands.{answer_cells}
use Rattle.sheet_edits.specs.Edits.{is_protected}
use Rattle.work_sheet.specs.Seen.{of_worksheet}
use Rattle.commands_data.proofs.protection.protected_of_table.Goals as goal

pub returns-in-Some : goal.returns-in-Some
returns-in-Some c =
    let sheet = c.args.sheet.now in
    let answers = answer_cells c.args.span in
    sym (found_then (is_protected sheet.settings sheet.grid) c.args.inputs.now answers
    ∙ ap (λ o. or_then o (acting.first_protected answers (of_worksheet sheet)))
    (sym c.protected_among.ensures ∙ c.in-Some.is))

pub returns-in-None : goal.returns-in-None
returns-in-None c =
    let sheet = c.args.sheet.now in
    let answers = answer_cells c.args.span in
    c.protected_answer.ensures
    ∙ sym (found_then (is_protected sheet.settings sheet.grid) c.args.inputs.now answers
    ∙ ap (λ o. or_then o (acting.first_protected answers (of_worksheet sheet)))
    (sym c.protected_among.ensures ∙ c.in-None.is))
