use Rattle.grid_address.specs.Place.{same_place}
use Rattle.cell_maps.specs.Sets.{has}
use Rattle.recalculation.proofs.RowOrder.{dirty_sorted}
use Rattle.recalculation.proofs.recalculation.dirty_formulas.Goals as goal

pub returns : goal.returns
returns c = dirty_sorted c.args.store.now (has same_place c.args.dirty.now.keys) c.in_ok-list.list.items
    c.in_ok-list.ensures.ascends c.in_ok-list.ensures.members c.requires
