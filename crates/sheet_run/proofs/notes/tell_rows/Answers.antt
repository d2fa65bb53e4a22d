use Rattle.std.proofs.Common.{ap, sym, ◌∙◌}
use Rattle.command_desk.specs.Desks.{Desk}
use Rattle.sheet_run.specs.Notes.{generated_notes, rows_notes}
use Rattle.sheet_run.proofs.Telling.{nothing_written, written_as}
use Rattle.sheet_run.proofs.notes.tell_rows.Goals as goal

pub returns-in-Fresh : goal.returns-in-Fresh
returns-in-Fresh g c = nothing_written _ _ _ tt (ap (λ s. rows_notes s c.args.session.now.state) c.in-Fresh.is)

pub returns-in-File : goal.returns-in-File
returns-in-File g c = nothing_written _ _ _ tt (ap (λ s. rows_notes s c.args.session.now.state) c.in-File.is)

pub returns-in-Rows : goal.returns-in-Rows
returns-in-Rows g c =
    written_as _ _ _ _ _ _ c.tell_generated.result (ap (λ s. rows_notes s c.args.session.now.state) c.in-Rows.is
    ∙ ap (λ n. generated_notes n c.args.session.now.state.desk.sheet.grid) (sym c.rows.ensures.rows)
    ∙ ap (λ (d : Desk). generated_notes c.rows.result d.sheet.grid) (sym c.desk.ensures)) c.tell_generated.ensures
