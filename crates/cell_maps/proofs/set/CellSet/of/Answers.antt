use Rattle.std.proofs.Common.{◌<◌, ◌++◌, ◌∷◌, [], ap, length, take, sym, ◌∙◌, List, if◌then◌else◌}
use Rattle.std.proofs.lemmas.List.{take_more}
use Rattle.grid_address.specs.Place.{same_place, Place}
use Rattle.cell_maps.specs.Sets.{insert_key}
use Rattle.cell_maps.proofs.Sets.{fresh}
use Rattle.cell_maps.proofs.set.CellSet.of.Goals as goal

pub loop-cell-preserved : goal.loop-cell-preserved
loop-cell-preserved c =
    let cells : List Place = c.args.cells.now in
    let x : Place = c.cell-item.result in
    let lt : c.loop-cell.cell-index < length cells = c.loop-cell-test.true in
    let seen : List Place = take c.loop-cell.cell-index cells in
    c.in_ok-insert.ensures.ok ∙ ap (λ ks. insert_key same_place ks x) c.loop-cell.invariant
    ∙ ap (λ b. if b then seen else seen ++ x ∷ []) (fresh cells c.loop-cell.cell-index x c.requires lt c.cell-item.is)
    ∙ sym (take_more cells c.loop-cell.cell-index x lt ∙ ap (λ y. seen ++ y ∷ []) (sym c.cell-item.is))
