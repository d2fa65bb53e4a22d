use Rattle.sheet_run.specs.Notes.{count_note, count_of, rows_notes}
use Rattle.sheet_run.proofs.Telling.{written_after, written_none}
use Rattle.sheet_run.proofs.notes.tell_session.Goals as goal

pub returns : goal.returns
returns g c = written_after _ _ _ _ _ _ _ _ c.tell_count.result c.in_ok-tell_rows.ensures.0 c.in_ok-tell_rows.ensures.1
    c.tell_count.ensures

pub returns-in_err-tell_rows : goal.returns-in_err-tell_rows
returns-in_err-tell_rows g c =
    written_none (rows_notes c.args.options.now.start c.args.session.now.state) (count_note (count_of c.args.options.now
    c.args.session.now.work)) (g.N.Notes.written c.args.notes.now) (g.N.Notes.written c.tell_rows.new.notes)
    (g.N.Notes.faults c.args.notes.now) (g.N.Notes.faults c.tell_rows.new.notes) c.from_residual.result
    c.from_residual.ensures.0 c.in_err-tell_rows.ensures
