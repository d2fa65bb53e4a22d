use Rattle.std.specs.FinMap.{get}
use Rattle.std.proofs.Common.{ap, ◌∙◌}
use Rattle.grid_address.specs.Place.{same_place}
use Rattle.cell_maps.specs.Sets.{has}
use Rattle.recalculation.specs.Passes.{Meaning}
use Rattle.recalculation.specs.inner.Meanings.{IsMeaning}
use Rattle.work_sheet.proofs.Held.{kept_changed}
use Rattle.sheet_edits.specs.Spans.{changed}
use Rattle.std.specs.Prelude.{◌≡◌, false, List}
use Rattle.std.proofs.Common.{subst}
use Rattle.grid_address.specs.Place.{Place}
use Rattle.work_sheet.proofs.Noted.{many_changed}
use Rattle.work_sheet.specs.Sheets.{Worksheet}
use Rattle.work_sheet.proofs.sheet.WorksheetOf.put_changes.Goals as goal

pub invariant_of-self-in-Ok : goal.invariant_of-self-in-Ok
invariant_of-self-in-Ok g c =
    let mean : Meaning = g.E.Means.meaning in
    let meaning : IsMeaning mean = record { reads = g.met.E.Means.reads_alone } in
    kept_changed mean meaning c.self.inside.store c.write_cells.new.store (has same_place c.args.cells.now)
    (λ x f. c.in-Ok.ensures.store.cells x
    ∙ ap (λ o. changed o (get c.self.inside.store.cells x)) (c.requires.given x f))
    c.self.inside.dirty.keys c.write_cells.new.dirty.keys c.in-Ok.ensures.dirty c.self.inside.settings.order
    c.self.inside.graph c.write_cells.new.graph c.self.invariant c.write_cells.ensures.matches

pub returns-in-Ok-clause-history : goal.returns-in-Ok-clause-history
returns-in-Ok-clause-history g c =
    let listed : List Place = c.as_slice-listed.result.now in
    c.in_ok-note.ensures.free c.write_cells.new.store c.self.inside.names
    (many_changed c.self.inside.store c.write_cells.new.store listed c.args.changes
    (λ x f. c.requires.given x (subst (λ (l : List Place). has same_place l x ≡ false) c.as_slice-listed.ensures f))
    c.in-Ok.ensures.store)
    ∙ ap (λ (w : Worksheet). w.history) c.self.view_is
