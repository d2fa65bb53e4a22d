use Rattle.std.proofs.Common.{sym}
use Rattle.sheet_shifts.proofs.cells.put_at.Goals as goal

pub put_cell-requires-clause-held : goal.put_cell-requires-clause-held
put_cell-requires-clause-held c = c.are_held.ensures c.args.cell c.in-Some.state.now (sym c.in-Some.ensures)
