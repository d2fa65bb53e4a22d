use Rattle.std.proofs.Common.{ap, sym, ◌∙◌}
use Rattle.cell_maps.specs.Sets.{has}
use Rattle.grid_address.specs.Place.{same_place}
use Rattle.edit_log.proofs.AtOnce.{beside_next}
use Rattle.edit_log.proofs.runs.are_beside.Goals as goal

pub loop-change-preserved : goal.loop-change-preserved
loop-change-preserved c = beside_next c.args.changes.now c.loop-change.change-index c.change-item.result
    c.change-item.is c.loop-change-test.true c.args.set.now.keys
    (ap (has same_place c.args.set.now.keys) (sym c.cell.ensures) ∙ sym c.contains.ensures ∙ c.if-contains.false)
    c.loop-change.invariant
