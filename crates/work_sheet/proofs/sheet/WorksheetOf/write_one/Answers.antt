use Rattle.std.specs.Prelude.{[], ◌∷◌}
use Rattle.std.proofs.Common.{rules}
use Rattle.grid_address.specs.Place.{same_place}
use Rattle.cell_maps.specs.Sets.{has}
use Rattle.recalculation.specs.Passes.{Meaning}
use Rattle.recalculation.specs.inner.Meanings.{IsMeaning}
use Rattle.sheet_edits.specs.Edits.{just}
use Rattle.sheet_edits.specs.Spans.{written_all}
use Rattle.work_sheet.proofs.Alone.{only_cell}
use Rattle.work_sheet.proofs.Done.{edited_did}
use Rattle.work_sheet.proofs.Held.{kept_edit}
use Rattle.std.proofs.Common.{ap, ◌∙◌}
use Rattle.work_sheet.proofs.Noted.{one_changed}
use Rattle.work_sheet.specs.Sheets.{Worksheet}
use Rattle.work_sheet.proofs.Upward.{upward}
use Rattle.work_sheet.proofs.sheet.WorksheetOf.write_one.Goals as goal

pub write_cell-requires-clause-only : goal.write_cell-requires-clause-only
write_cell-requires-clause-only g c = c.self.invariant.only

pub write_cell-requires-clause-upward : goal.write_cell-requires-clause-upward
write_cell-requires-clause-upward g c = upward g.E.Means.meaning c.self.inside.graph c.self.inside.store
    c.self.inside.dirty.keys c.self.inside.settings.order c.self.inside.names c.self.inside.settings c.self.invariant

pub invariant_of-self-in-Ok-write_cell : goal.invariant_of-self-in-Ok-write_cell
invariant_of-self-in-Ok-write_cell g c =
    let mean : Meaning = g.E.Means.meaning in
    let meaning : IsMeaning mean = record { reads = g.met.E.Means.reads_alone } in
    kept_edit mean meaning c.self.inside.store c.write_cell.new.store c.args.write.now.cell c.in-Ok.state
    c.self.inside.dirty.keys c.write_cell.new.dirty.keys
    c.in-Ok-write_cell.ensures.store c.in-Ok-write_cell.ensures.dirty c.self.inside.settings.order c.self.inside.graph
    c.write_cell.new.graph c.self.invariant c.write_cell.ensures.matches

pub returns-in-Ok-write_cell-clause-did : goal.returns-in-Ok-write_cell-clause-did
returns-in-Ok-write_cell-clause-did g c = λ n. edited_did c.args.self.now _ (just c.args.write.now.cell)
    (has same_place (c.args.write.now.cell ∷ [])) (written_all c.args.self.now.grid (c.args.write.now ∷ [])) n
    (only_cell c.args.write.now.cell) (search rules) (search rules) (search rules) (search rules) (search rules)
    (c.in_ok-note.ensures.free c.write_cell.new.store c.self.inside.names
    (one_changed c.self.inside.store c.write_cell.new.store c.args.write.now.cell c.in-Ok.state
    c.in-Ok-write_cell.ensures.store)
    ∙ ap (λ (w : Worksheet). w.history) c.self.view_is)
