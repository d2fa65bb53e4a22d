use Rattle.std.proofs.Common.{ap, arith, inl, subst, sym, ◌∙◌}
use Rattle.cell_maps.specs.inner.Numbering.{AreNumbered}
use Rattle.cell_maps.specs.inner.Numbering.{above}
use Rattle.cell_maps.specs.Sets.{has, Cells}
use Rattle.grid_address.specs.Place.{same_place}
use Rattle.cell_maps.proofs.Filled.{few_places, number_last}
use Rattle.cell_maps.proofs.Sets.{no_number}
use Rattle.cell_maps.proofs.set.CellSet.insert_apart.Goals as goal

pub add-requires-clause-few : goal.add-requires-clause-few
add-requires-clause-few c =
    let most = few_places (above c.self.inside.gone c.self.inside.table) c.self.inside.cells.items
    c.self.invariant.1.0 in
    let up_to = c.self.invariant.0 in
    omega (arith, most, up_to)

pub add-requires-clause-fresh : goal.add-requires-clause-fresh
add-requires-clause-fresh c =
    let absent = ap (λ (s : Cells). has same_place s.keys c.args.cell) c.self.view_is ∙ sym c.contains.ensures
    ∙ c.if-contains.false in
    no_number (above c.self.inside.gone c.self.inside.table) c.self.inside.cells.items c.self.invariant.1.0 c.args.cell
    c.is_on_sheet.ensures absent

pub invariant_of-self-2 : goal.invariant_of-self-2
invariant_of-self-2 c =
    let gone = c.self.inside.gone in
    let old = above gone c.self.inside.table in
    let new = above gone c.add.new.table in
    let cells = c.self.inside.cells.items in
    let inside = c.is_on_sheet.ensures in
    let absent = ap (λ (s : Cells). has same_place s.keys c.args.cell) c.self.view_is ∙ sym c.contains.ensures
    ∙ c.if-contains.false in (
      c.self.invariant.0,
      (
        subst (AreNumbered new) (sym c.in_ok-add.ensures.cells)
            (number_last old new cells c.args.cell c.self.invariant.1.0 inside
            (no_number old cells c.self.invariant.1.0 c.args.cell inside absent) c.in_ok-add.ensures.numbers),
        inl c.clear.ensures.items,
      ),
    )
