use Rattle.std.specs.List.{IsDistinct}
use Rattle.std.proofs.Common.{subst}
use Rattle.grid_address.specs.Place.{same_place}
use Rattle.cell_maps.specs.inner.Numbering.{above}
use Rattle.cell_maps.specs.Sets.{Cells}
use Rattle.cell_maps.proofs.Sets.{distinct}
use Rattle.cell_maps.proofs.set.CellSet.as_slice.Goals as goal

pub returns-clause-unique : goal.returns-clause-unique
returns-clause-unique c = subst (λ (s : Cells). IsDistinct same_place s.keys) c.self.view_is
    (distinct (above c.self.inside.gone c.self.inside.table) c.self.inside.cells.items c.self.invariant.1.0)
