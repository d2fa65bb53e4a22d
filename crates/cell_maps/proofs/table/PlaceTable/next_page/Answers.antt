use Rattle.std.proofs.Common.{ap, arith, sym, ◌∙◌}
use Rattle.grid_address.specs.Place.{Place}
use Rattle.cell_maps.specs.Numbers.{head_of}
use Rattle.cell_maps.proofs.Tables.{none_further}
use Rattle.cell_maps.proofs.table.PlaceTable.next_page.Goals as goal

pub loop-col-preserved : goal.loop-col-preserved
loop-col-preserved c =
    let from = c.loop-col.invariant.from in
    let within = c.loop-col-test.true in
    let row = ap (λ (p : Place). p.row) (sym c.cell.view_is) in
    let past = c.page_end-col.ensures in
    let empty = ap (λ r. head_of c.args.self.now (record { row = r; col = c.loop-col.col })) row ∙ sym c.head_of.ensures
    ∙ c.if-head_of-ne0.false in
    record {
      from = omega (arith, from);
      within = omega (arith, within);
      none = λ d inside same on below. none_further c.args.self.now c.args.cell c.loop-col.col c.loop-col.invariant.none
          empty d inside same on (omega (arith, past, below));
    }
