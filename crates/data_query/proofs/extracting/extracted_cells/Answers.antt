use Rattle.std.proofs.Common.{arith}
use Rattle.formula_parts.specs.Scenes.{outlook_of}
use Rattle.data_query.proofs.Differing.{all_rows, few_cells, few_kept, rows_that_differ}
use Rattle.data_query.proofs.extracting.extracted_cells.Goals as goal

pub returns-in_ok-kept : goal.returns-in_ok-kept
returns-in_ok-kept g c =
    let outlook = outlook_of (g.K.Look.sight c.args.look.now) c.args.scene.now in
    let made = c.args.extraction.now in
    let input = made.query.input in
    let criterion = made.query.criterion in
    record {
      rows =
          rows_that_differ outlook input criterion made.unique c.args.fields.now c.in_ok-kept.kept c.as_slice.result.now
          c.in_ok-cells.cells c.in_ok-kept.ensures c.as_slice.ensures c.in_ok-cells.ensures
          c.if-extraction.true;
      count =
          few_kept outlook input criterion c.args.fields.now c.in_ok-kept.kept c.as_slice.result.now
          c.in_ok-cells.cells c.in_ok-kept.ensures c.as_slice.ensures c.in_ok-cells.ensures (omega arith);
    }

pub returns-else-extraction : goal.returns-else-extraction
returns-else-extraction g c =
    let outlook = outlook_of (g.K.Look.sight c.args.look.now) c.args.scene.now in
    let made = c.args.extraction.now in
    let input = made.query.input in
    let criterion = made.query.criterion in
    record {
      rows =
          all_rows outlook input criterion made.unique c.args.fields.now c.in_ok-cells.cells
          c.in_ok-cells.ensures c.if-extraction.false;
      count = few_cells outlook input criterion c.in_ok-cells.cells c.in_ok-cells.ensures (omega arith);
    }
