use Rattle.std.specs.Prelude.{Some}
use Rattle.std.specs.FinMap.{get}
use Rattle.std.proofs.Common.{rules}
use Rattle.grid_address.specs.Place.{same_place}
use Rattle.cell_maps.specs.Sets.{has}
use Rattle.sheet_edits.specs.Spans.{copied_state, source_of, AreGiven}
use Rattle.work_sheet.proofs.Done.{on_all, spanned_did}
use Rattle.work_sheet.proofs.sheet.WorksheetOf.copy_onto.Goals as goal

pub returns-clause-did : goal.returns-clause-did
returns-clause-did g c =
    let given : AreGiven c.in-Ok-copied.changes (has same_place c.in-Ok.cells) (λ x. Some (copied_state
    (get c.args.self.now.grid.cells (source_of c.args.from c.args.target.first x)))) = search rules in
    on_all c.put_changes.result
    (λ grid dirty distinct stale n. spanned_did c.args.self.now c.put_changes.new.self c.args.target
    (λ x. Some (copied_state (get c.args.self.now.grid.cells (source_of c.args.from c.args.target.first x))))
    c.in-Ok.cells c.in-Ok-copied.changes n
    c.in-Ok.ensures given grid dirty distinct stale c.put_changes.ensures.beside c.put_changes.ensures.history)
    c.put_changes.ensures.grid c.put_changes.ensures.dirty c.put_changes.ensures.distinct c.put_changes.ensures.stale
