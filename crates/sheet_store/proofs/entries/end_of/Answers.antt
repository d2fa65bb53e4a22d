use Rattle.std.proofs.Common.{sym}
use Rattle.sheet_store.proofs.Grids.{ends_at_last, ends_with_sheet}
use Rattle.sheet_store.proofs.entries.end_of.Goals as goal

pub returns-in-Some : goal.returns-in-Some
returns-in-Some c = ends_at_last c.args.store.now.cells c.in-Some.last (sym c.in-Some.ensures)

pub returns : goal.returns
returns c = ends_with_sheet c.args.store.now.cells c.are_held.ensures
