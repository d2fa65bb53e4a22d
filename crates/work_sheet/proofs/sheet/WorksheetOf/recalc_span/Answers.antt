use Rattle.std.specs.Prelude.{refl}
use Rattle.std.proofs.Common.{ap, rules, ◌∙◌}
use Rattle.sheet_store.specs.Grid.{formulas_within}
use Rattle.recalculation.proofs.Contents.{matches_on}
use Rattle.recalculation.specs.Context.{context_of}
use Rattle.recalculation.specs.Passes.{Meaning}
use Rattle.recalculation.specs.inner.Meanings.{IsMeaning}
use Rattle.work_sheet.proofs.Held.{kept_same}
use Rattle.work_sheet.proofs.Noted.{listed_changed}
use Rattle.work_sheet.specs.Sheets.{Worksheet}
use Rattle.work_sheet.proofs.sheet.WorksheetOf.recalc_span.Goals as goal

pub invariant_of-self-in_err-recalc_span : goal.invariant_of-self-in_err-recalc_span
invariant_of-self-in_err-recalc_span g c =
    let mean : Meaning = g.E.Means.meaning in
    let meaning : IsMeaning mean = record { reads = g.met.E.Means.reads_alone } in
    kept_same mean meaning c.self.inside.graph c.self.inside.store c.recalc_span.new.store
    c.self.inside.dirty.keys c.self.inside.dirty.keys c.self.inside.settings.order
    (context_of c.self.inside.names c.self.inside.settings c.args.scene.now)
    c.recalc_span.ensures.contents (matches_on c.self.inside.graph c.self.inside.store c.recalc_span.new.store
    c.recalc_span.ensures.contents c.self.invariant.matches) c.recalc_span.ensures.sound refl c.self.invariant

pub invariant_of-self-2 : goal.invariant_of-self-2
invariant_of-self-2 g c =
    let mean : Meaning = g.E.Means.meaning in
    let meaning : IsMeaning mean = record { reads = g.met.E.Means.reads_alone } in
    kept_same mean meaning c.self.inside.graph c.self.inside.store c.recalc_span.new.store
    c.self.inside.dirty.keys c.self.inside.dirty.keys c.self.inside.settings.order
    (context_of c.self.inside.names c.self.inside.settings c.args.scene.now)
    c.recalc_span.ensures.contents (matches_on c.self.inside.graph c.self.inside.store c.recalc_span.new.store
    c.recalc_span.ensures.contents c.self.invariant.matches) c.recalc_span.ensures.sound refl c.self.invariant

pub returns-clause-did : goal.returns-clause-did
returns-clause-did g c = record {
  sheet = search rules;
  work = search rules;
  history =
      c.in_ok-note.ensures.free c.recalc_span.new.store c.self.inside.names
      (listed_changed c.as_slice.result.now (formulas_within c.self.inside.store c.args.span) c.self.inside.store
      c.recalc_span.new.store
      (c.as_slice.ensures ∙ c.in_ok-formulas.ensures) c.recalc_span.ensures.contents c.recalc_span.ensures.outside)
      ∙ ap (λ (w : Worksheet). w.history) c.self.view_is;
}
