use Rattle.recalculation.specs.Passes.{Meaning}
use Rattle.recalculation.specs.inner.Meanings.{IsMeaning}
use Rattle.std.proofs.Common.{ap, rules, sym, ◌∙◌}
use Rattle.work_sheet.proofs.Done.{reformatted_did}
use Rattle.work_sheet.proofs.Reformatted.{kept_reformatted}
use Rattle.sheet_edits.specs.Spans.{rule_of}
use Rattle.std.specs.Prelude.{List}
use Rattle.grid_address.specs.Place.{Place}
use Rattle.sheet_store.specs.Grid.{Grid}
use Rattle.work_sheet.proofs.Noted.{many_changed, not_given}
use Rattle.work_sheet.specs.Sheets.{Worksheet}
use Rattle.work_sheet.proofs.sheet.WorksheetOf.reformat.Goals as goal

pub invariant_of-self-2 : goal.invariant_of-self-2
invariant_of-self-2 g c =
    let mean : Meaning = g.E.Means.meaning in
    let meaning : IsMeaning mean = record { reads = g.met.E.Means.reads_alone } in
    kept_reformatted mean meaning c.self.inside.graph c.self.inside.store c.change_cells.new.store
    c.self.inside.dirty.keys c.self.inside.settings.order (rule_of c.args.change) c.as_slice.result.now
    c.in_ok-changes.changes
    c.reformatted.ensures.held c.in_ok-changes.ensures.given c.in_ok-change_cells.ensures.ok c.self.invariant

pub returns-clause-did : goal.returns-clause-did
returns-clause-did g c =
    let listed : List Place = c.as_slice-2.result.now in
    let new : Grid = c.change_cells.new.store in
    let history = c.in_ok-note.ensures.free new c.self.inside.names
    (many_changed c.self.inside.store new listed c.in_ok-changes.changes
    (not_given listed c.as_slice.result.now c.in_ok-changes.changes _
    (c.as_slice-2.ensures ∙ sym c.as_slice.ensures) c.in_ok-changes.ensures.given)
    c.in_ok-change_cells.ensures.ok)
    ∙ ap (λ (w : Worksheet). w.history) c.self.view_is in
    λ n. reformatted_did c.args.self.now _ c.args.span (rule_of c.args.change) c.in_ok-cells.cells
    c.in_ok-changes.changes n (search rules) (search rules) (search rules)
    (λ i. record {
      grid = new;
      dirty = (c.self.view_is i).dirty;
      circular = (c.self.view_is i).circular;
      stale = (c.self.view_is i).stale;
      names = (c.self.view_is i).names;
      settings = (c.self.view_is i).settings;
      history = history i;
    })
