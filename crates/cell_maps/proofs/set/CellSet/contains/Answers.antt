use Rattle.std.proofs.Common.{ap, sym, ◌∙◌}
use Rattle.cell_maps.specs.inner.Numbering.{above}
use Rattle.cell_maps.specs.Sets.{has, Cells}
use Rattle.grid_address.specs.Place.{same_place}
use Rattle.cell_maps.proofs.Sets.{member, no_member}
use Rattle.cell_maps.proofs.set.CellSet.contains.Goals as goal

pub returns-in-Some : goal.returns-in-Some
returns-in-Some c =
    sym (member (above c.self.inside.gone c.self.inside.table) c.self.inside.cells.items c.self.invariant.1.0
    c.args.cell _ c.is_on_sheet.ensures c.in-Some.ensures.some)
    ∙ ap (λ (s : Cells). has same_place s.keys c.args.cell) c.self.view_is

pub returns-in-None : goal.returns-in-None
returns-in-None c =
    sym (no_member (above c.self.inside.gone c.self.inside.table) c.self.inside.cells.items c.self.invariant.1.0
    c.args.cell c.in-None.ensures.none)
    ∙ ap (λ (s : Cells). has same_place s.keys c.args.cell) c.self.view_is
