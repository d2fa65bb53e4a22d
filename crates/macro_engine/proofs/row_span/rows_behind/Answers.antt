use Rattle.std.proofs.Common.{◌≡◌, ℕ, true, arith, ap, rules, subst, List}
use Rattle.cell_maps.specs.Sets.{has}
use Rattle.grid_address.specs.Place.{same_place, Place}
use Rattle.sheet_store.specs.declared.writes.Write.{Write}
use Rattle.macro_engine.specs.RowSpans.{is_in}
use Rattle.macro_engine.proofs.Writing.{covering}
use Rattle.macro_engine.proofs.row_span.rows_behind.Goals as goal

-- the row of the only write was put into the span, and those of the dirty formulas
pub returns : goal.returns
returns c =
    covering c.of-span.result c.insert_all.new.self c.args.writes.now c.in-Some.write.now c.args.sheet.now
    c.in-Some.ensures.some.1 (omega (arith, c.len.ensures, c.if-len-ne1.false))
    (subst (λ (k : ℕ). is_in c.of-span.result k ≡ true) (ap (λ (x : Write). x.cell.row) c.write.view_is)
    c.of-span.ensures)
    c.insert_all.ensures.others
    (subst (λ (ds : List Place). (d : Place) → has same_place ds d ≡ true → is_in c.insert_all.new.self d.row ≡ true)
    c.dirty_cells.ensures c.insert_all.ensures.cells)
    (search rules) c.recalculation_is_cut.ensures c.is_kept.ensures.sound c.is_kept.ensures.all
