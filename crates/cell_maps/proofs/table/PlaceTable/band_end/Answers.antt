use Rattle.std.specs.Prelude.{◌-◌}
use Rattle.std.proofs.Common.{ap, arith, sym, ◌∙◌}
use Rattle.grid_address.specs.Place.{Place}
use Rattle.cell_maps.specs.Numbers.{head_of}
use Rattle.cell_maps.proofs.Tables.{none_behind}
use Rattle.cell_maps.proofs.table.PlaceTable.band_end.Goals as goal

pub loop-end-preserved : goal.loop-end-preserved
loop-end-preserved c =
    let i = c.loop-end.invariant in
    let some = c.loop-end-test.true in
    let row = ap (λ (p : Place). p.row) (sym c.cell.view_is) in
    let empty = ap (λ r. head_of c.args.self.now (record { row = r; col = c.loop-end.end - 4 })) row
    ∙ sym c.head_of.ensures ∙ c.if-head_of-ne0.false in
    let within = i.within in
    let even = i.even in
    record {
      within = omega (arith, within);
      even = omega (arith, even, some);
      none = none_behind c.args.self.now c.args.cell c.loop-end.end i.none even some empty;
    }
