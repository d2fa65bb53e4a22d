use Rattle.std.proofs.Common.{ap, subst}
use Rattle.grid_address.specs.Place.{same_place}
use Rattle.cell_maps.specs.Sets.{has}
use Rattle.sheet_store.specs.Grid.{Grid}
use Rattle.sheet_edits.proofs.Gathering.{written_is}
use Rattle.sheet_edits.specs.Spans.{written_all, written_cells, AreGathered}
use Rattle.work_sheet.proofs.Done.{edited_did, on_all}
use Rattle.work_sheet.specs.Sheets.{Worksheet}
use Rattle.work_sheet.proofs.sheet.WorksheetOf.write_many.Goals as goal

pub returns-in-Ok-clause-did : goal.returns-in-Ok-clause-did
returns-in-Ok-clause-did g c =
    let gathered = subst (λ (x : Grid). AreGathered x c.args.writes.now c.gathered.new.cells c.gathered.new.changes)
    (ap (λ (w : Worksheet). w.grid) c.self.view_is) c.in-Ok.ensures in
    on_all c.put_changes.result
    (λ grid dirty distinct stale n. edited_did c.args.self.now c.put_changes.new.self
    (has same_place c.gathered.new.cells) (has same_place (written_cells c.args.writes.now))
    (written_all c.args.self.now.grid c.args.writes.now) n
    (λ x. ap (λ l. has same_place l x) gathered.listed_all) (written_is c.args.self.now.grid c.put_changes.new.self.grid
    c.args.writes.now c.gathered.new.cells c.gathered.new.changes gathered grid)
    dirty distinct stale c.put_changes.ensures.beside c.put_changes.ensures.history)
    c.put_changes.ensures.grid c.put_changes.ensures.dirty c.put_changes.ensures.distinct c.put_changes.ensures.stale
