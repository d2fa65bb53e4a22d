use Rattle.std.proofs.Common.{false}
use Rattle.recalculation.specs.Passes.{Meaning}
use Rattle.recalculation.specs.inner.Meanings.{IsMeaning}
use Rattle.work_sheet.proofs.Held.{kept_empty}
use Rattle.work_sheet.proofs.sheet.WorksheetOf.new.Goals as goal

pub invariant_of-result : goal.invariant_of-result
invariant_of-result g c =
    let mean : Meaning = g.E.Means.meaning in
    let meaning : IsMeaning mean = record { reads = g.met.E.Means.reads_alone } in
    kept_empty mean meaning c.new.result c.new.ensures.cells c.new-2.result c.new-3.result.keys c.fresh.result.order
    c.new-2.ensures.formulas c.new-3.ensures

-- no cell, no name, and fresh settings
pub returns-clause-sheet : goal.returns-clause-sheet
returns-clause-sheet g c = λ i. record {
  grid = record { cells = c.new.ensures.cells i; widths = c.new.ensures.widths i; hidden = c.new.ensures.hidden i };
  circular = false;
  stale = false;
  names = c.new-4.ensures i;
  settings = c.fresh.ensures i;
}
