use Rattle.std.proofs.Common.{rules}
use Rattle.sheet_run.proofs.Begun.{file_or, fresh_or, not_read, rows_or}
use Rattle.sheet_run.proofs.opening.begin.Goals as goal

-- the shelf was not asked
pub returns-in-Fresh : goal.returns-in-Fresh
returns-in-Fresh g c = rw c.or_memory.ensures (fresh_or c.args.start.now c.new.result _
    (search rules) c.new.ensures.desk c.new.ensures.dirty c.new.ensures.history)

pub returns-in-Rows : goal.returns-in-Rows
returns-in-Rows g c = rw c.or_memory-in-Rows.ensures
    (rows_or c.args.start.now c.in-Rows.rows c.generated_desk.result _ (search rules) c.generated_desk.ensures)

-- the start file was asked for once, and read as the sheet that the desk holds
pub returns-in_ok-saved-in-File : goal.returns-in_ok-saved-in-File
returns-in_ok-saved-in-File g c =
    rw c.or_memory-in-File.ensures (file_or c.args.start.now c.in-File.name c.in_ok-saved-in-File.saved
    c.desk_over.result _ _ (search rules) c.in_ok-saved-in-File.ensures c.desk_over.ensures)
