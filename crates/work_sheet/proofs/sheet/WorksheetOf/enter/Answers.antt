use Rattle.recalculation.specs.Passes.{Meaning}
use Rattle.recalculation.specs.inner.Meanings.{IsMeaning}
use Rattle.work_sheet.proofs.Held.{kept_edit}
use Rattle.std.proofs.Common.{ap, rules, ◌∙◌}
use Rattle.work_sheet.proofs.Noted.{one_changed}
use Rattle.work_sheet.specs.Sheets.{Worksheet}
use Rattle.work_sheet.proofs.Upward.{upward}
use Rattle.work_sheet.proofs.sheet.WorksheetOf.enter.Goals as goal

pub write_cell-requires-clause-only : goal.write_cell-requires-clause-only
write_cell-requires-clause-only g c = c.self.invariant.only

pub write_cell-requires-clause-upward : goal.write_cell-requires-clause-upward
write_cell-requires-clause-upward g c = upward g.E.Means.meaning c.self.inside.graph c.self.inside.store
    c.self.inside.dirty.keys c.self.inside.settings.order c.self.inside.names c.self.inside.settings c.self.invariant

pub invariant_of-self-in-Ok : goal.invariant_of-self-in-Ok
invariant_of-self-in-Ok g c =
    let mean : Meaning = g.E.Means.meaning in
    let meaning : IsMeaning mean = record { reads = g.met.E.Means.reads_alone } in
    kept_edit mean meaning c.self.inside.store c.write_cell.new.store c.args.cell c.in_ok-state.state
    c.self.inside.dirty.keys c.write_cell.new.dirty.keys
    c.in-Ok.ensures.store c.in-Ok.ensures.dirty c.self.inside.settings.order c.self.inside.graph c.write_cell.new.graph
    c.self.invariant c.write_cell.ensures.matches

pub returns-in-Ok-clause-did : goal.returns-in-Ok-clause-did
returns-in-Ok-clause-did g c = λ n. record {
  sheet = search rules;
  work = search rules;
  history =
      c.in_ok-note.ensures.free c.write_cell.new.store c.self.inside.names
      (one_changed c.self.inside.store c.write_cell.new.store c.args.cell c.in_ok-state.state c.in-Ok.ensures.store)
      ∙ ap (λ (w : Worksheet). w.history) c.self.view_is;
}
