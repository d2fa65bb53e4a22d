use Rattle.recalculation.specs.Context.{context_of}
use Rattle.recalculation.specs.Passes.{Meaning}
use Rattle.recalculation.specs.inner.Meanings.{IsMeaning}
use Rattle.std.proofs.Common.{rules}
use Rattle.work_sheet.proofs.Done.{content_did, put_did}
use Rattle.work_sheet.proofs.Held.{kept_line}
use Rattle.std.proofs.Common.{ap, ◌∙◌}
use Rattle.work_sheet.proofs.Noted.{line_changed}
use Rattle.work_sheet.specs.Sheets.{Worksheet}
use Rattle.work_sheet.proofs.Upward.{upward}
use Rattle.work_sheet.proofs.sheet.WorksheetOf.enter_line.Goals as goal

pub write_evaluated-requires-clause-upward : goal.write_evaluated-requires-clause-upward
write_evaluated-requires-clause-upward g c = upward g.E.Means.meaning c.self.inside.graph c.self.inside.store
    c.self.inside.dirty.keys c.self.inside.settings.order c.self.inside.names c.self.inside.settings c.self.invariant

pub invariant_of-self-in-Ok : goal.invariant_of-self-in-Ok
invariant_of-self-in-Ok g c =
    let mean : Meaning = g.E.Means.meaning in
    let meaning : IsMeaning mean = record { reads = g.met.E.Means.reads_alone } in
    kept_line mean meaning c.self.inside.store c.write_evaluated.new.parts.store.now c.args.cell c.in_ok-state.state
    c.self.inside.dirty.keys c.write_evaluated.new.parts.dirty.now.keys
    (context_of c.self.inside.names c.self.inside.settings c.args.scene.now) c.in-Ok.ensures.store
    c.in-Ok.ensures.dirty c.self.inside.settings.order c.self.inside.graph c.write_evaluated.new.parts.graph.now
    c.self.invariant c.in-Ok.ensures.matches

pub returns-then-settings-clause-did : goal.returns-then-settings-clause-did
returns-then-settings-clause-did g c =
    content_did c.args.self.now c.enter.new.self g.E.Means.meaning c.args.scene.now c.args.cell c.args.content
    (g.E.Means.count c.args.tally.now) (search rules) (c.in_ok-enter.ensures.did (g.E.Means.count c.args.tally.now))

pub returns-in-Ok-clause-did : goal.returns-in-Ok-clause-did
returns-in-Ok-clause-did g c = put_did c.args.self.now _ g.E.Means.meaning c.args.scene.now c.args.cell c.args.content
    (g.E.Means.count c.args.tally.now) (g.E.Means.count c.write_evaluated.new.tally)
    (search rules) (search rules) (search rules) (search rules) (search rules) (search rules)
    (c.in_ok-note.ensures.free c.write_evaluated.new.parts.store.now c.self.inside.names
    (line_changed g.E.Means.meaning (context_of c.self.inside.names c.self.inside.settings c.args.scene.now)
    c.self.inside.store
    c.write_evaluated.new.parts.store.now c.args.cell c.in_ok-state.state c.in-Ok.ensures.store)
    ∙ ap (λ (w : Worksheet). w.history) c.self.view_is)
