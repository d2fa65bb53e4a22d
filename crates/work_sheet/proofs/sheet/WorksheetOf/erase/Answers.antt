use Rattle.std.specs.FinMap.{get}
use Rattle.std.proofs.Common.{rules}
use Rattle.grid_address.specs.Place.{same_place}
use Rattle.cell_maps.specs.Sets.{has}
use Rattle.sheet_edits.specs.Spans.{blanked, AreGiven}
use Rattle.work_sheet.proofs.Done.{on_all, spanned_did}
use Rattle.work_sheet.proofs.sheet.WorksheetOf.erase.Goals as goal

pub returns-clause-did : goal.returns-clause-did
returns-clause-did g c =
    let given : AreGiven c.in-Ok-erased.changes (has same_place c.in-Ok.cells)
    (λ x. blanked (get c.args.self.now.grid.cells x)) = search rules in
    on_all c.put_changes.result
    (λ grid dirty distinct stale n. spanned_did c.args.self.now c.put_changes.new.self c.args.span
    (λ x. blanked (get c.args.self.now.grid.cells x)) c.in-Ok.cells c.in-Ok-erased.changes n
    c.in-Ok.ensures given grid dirty distinct stale c.put_changes.ensures.beside c.put_changes.ensures.history)
    c.put_changes.ensures.grid c.put_changes.ensures.dirty c.put_changes.ensures.distinct c.put_changes.ensures.stale
