use Rattle.sheet_run.specs.Notes.{row_count_note, sum_note}
use Rattle.sheet_run.proofs.Telling.{written_after, written_none}
use Rattle.sheet_run.proofs.notes.tell_generated.Goals as goal

pub returns : goal.returns
returns g c = written_after _ _ _ _ _ _ _ _ c.tell_sum.result c.in_ok-tell_row_count.ensures.0
    c.in_ok-tell_row_count.ensures.1 c.tell_sum.ensures

pub returns-in_err-tell_row_count : goal.returns-in_err-tell_row_count
returns-in_err-tell_row_count g c =
    written_none (row_count_note c.args.rows) (sum_note c.args.rows c.args.sheet.now.grid)
    (g.N.Notes.written c.args.notes.now) (g.N.Notes.written c.tell_row_count.new.notes)
    (g.N.Notes.faults c.args.notes.now) (g.N.Notes.faults c.tell_row_count.new.notes) c.from_residual.result
    c.from_residual.ensures.0 c.in_err-tell_row_count.ensures
