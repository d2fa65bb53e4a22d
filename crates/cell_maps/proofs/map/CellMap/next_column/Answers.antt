use Rattle.std.specs.FinMap.{get}
use Rattle.std.proofs.Common.{ap, sym, ◌∙◌}
use Rattle.cell_maps.proofs.Filled.{got_none}
use Rattle.cell_maps.proofs.map.CellMap.next_column.Goals as goal

pub returns-clause-none : goal.returns-clause-none
returns-clause-none g c d inside same from below =
    ap (λ m. get m d) (sym c.self.view_is) ∙ got_none c.self.inside.table c.self.inside.held.items c.self.invariant d
    inside (c.next_column.ensures.none d inside same from below)
