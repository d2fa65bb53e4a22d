use Rattle.recalculation.specs.Passes.{Meaning}
use Rattle.recalculation.specs.inner.Meanings.{IsMeaning}
use Rattle.std.proofs.Common.{ap, rules, ◌∙◌}
use Rattle.sheet_store.specs.Grid.{Grid}
use Rattle.work_sheet.proofs.Held.{kept_beside}
use Rattle.work_sheet.specs.Sheets.{Worksheet}
use Rattle.work_sheet.proofs.sheet.WorksheetOf.set_width.Goals as goal

pub invariant_of-self : goal.invariant_of-self
invariant_of-self g c =
    let mean : Meaning = g.E.Means.meaning in
    let meaning : IsMeaning mean = record { reads = g.met.E.Means.reads_alone } in
    kept_beside mean meaning c.self.inside.graph c.self.inside.store c.set_width.new.self c.self.inside.dirty.keys
    c.self.inside.settings.order (ap (λ (x : Grid). x.cells) c.set_width.ensures) c.self.invariant

pub returns : goal.returns
returns g c = λ n. record {
  sheet = search rules;
  work = search rules;
  history =
      c.note_columns.ensures c.set_width.new.self c.self.inside.names (ap (λ (x : Grid). x.cells) c.set_width.ensures)
      ∙ ap (λ (w : Worksheet). w.history) c.self.view_is;
}
