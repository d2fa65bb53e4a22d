use Rattle.std.proofs.Common.{ap, rules, ◌∙◌}
use Rattle.cell_maps.specs.Sets.{has}
use Rattle.grid_address.specs.Place.{same_place}
use Rattle.recalculation.specs.Context.{context_of}
use Rattle.recalculation.specs.Passes.{Meaning}
use Rattle.recalculation.specs.inner.Meanings.{IsMeaning}
use Rattle.work_sheet.proofs.Done.{recalculated_did}
use Rattle.work_sheet.proofs.Held.{kept_after, kept_same}
use Rattle.work_sheet.proofs.Noted.{values_changed}
use Rattle.work_sheet.specs.Sheets.{Worksheet}
use Rattle.work_sheet.proofs.sheet.WorksheetOf.calc.Goals as goal

pub invariant_of-self-in_err-circ : goal.invariant_of-self-in_err-circ
invariant_of-self-in_err-circ g c =
    let mean : Meaning = g.E.Means.meaning in
    let meaning : IsMeaning mean = record { reads = g.met.E.Means.reads_alone } in
    kept_same mean meaning c.self.inside.graph c.self.inside.store c.recalc.new.store
    c.self.inside.dirty.keys c.recalc.new.dirty.keys c.self.inside.settings.order
    (context_of c.self.inside.names c.self.inside.settings c.args.scene.now)
    c.recalc.ensures.contents c.recalc.ensures.matches c.recalc.ensures.sound c.in_err-circ.ensures.err c.self.invariant

pub invariant_of-self-2 : goal.invariant_of-self-2
invariant_of-self-2 g c =
    let mean : Meaning = g.E.Means.meaning in
    let meaning : IsMeaning mean = record { reads = g.met.E.Means.reads_alone } in
    kept_after mean meaning c.self.inside.graph c.self.inside.store c.recalc.new.store
    c.self.inside.dirty.keys c.recalc.new.dirty.keys c.self.inside.settings.order
    (context_of c.self.inside.names c.self.inside.settings c.args.scene.now)
    c.recalc.ensures.contents c.recalc.ensures.matches c.recalc.ensures.sound c.in_ok-circ.ensures.dirty
    c.self.invariant

pub returns-clause-did : goal.returns-clause-did
returns-clause-did g c = recalculated_did c.args.self.now _ g.E.Means.meaning c.args.scene.now
    (g.E.Means.count c.args.tally.now) (g.E.Means.count c.recalc.new.tally)
    (search rules) (search rules) (search rules) (search rules) (search rules) (search rules) (search rules)
    (search rules)
    (c.in_ok-note_set.ensures.free c.recalc.new.store c.self.inside.names
    (values_changed (has same_place c.self.inside.dirty.keys) c.self.inside.store c.recalc.new.store
    c.recalc.ensures.contents c.recalc.ensures.outside)
    ∙ ap (λ (w : Worksheet). w.history) c.self.view_is)
