use Rattle.std.specs.Prelude.{◌≡◌, ◌++◌, ◌∷◌, [], List, cond}
use Rattle.std.specs.List.{filter}
use Rattle.std.proofs.Common.{ap, ◌∙◌}
use Rattle.grid_address.specs.Place.{same_place, Place}
use Rattle.cell_maps.specs.Sets.{has}
use Rattle.recalculation.proofs.Items.{kept_step}
use Rattle.recalculation.proofs.reads.add_kept.Goals as goal
use Rattle.recalculation.proofs.reads.add_kept.Goals.{then-contains+in_ok-push, else-contains}

pub loop-cell-preserved : goal.loop-cell-preserved
loop-cell-preserved c =
    let done : List Place = c.loop-cell.list.items in
    let x : Place = c.cell-item.result in
    let kept : c.if-contains.list.items ≡ cond (has same_place c.args.set.now.keys x) (done ++ x ∷ []) done =
    elim c.if-contains.branch [
      | then-contains+in_ok-push w ↦ ap (λ v. v.items) w.list-is ∙ w.in_ok-push.ensures.items
          ∙ ap (λ b. cond b (done ++ x ∷ []) done) w.if-contains.ensures
      | else-contains w ↦ ap (λ v. v.items) w.list-is ∙ ap (λ b. cond b (done ++ x ∷ []) done) w.if-contains.ensures
    ] in
    kept_step (has same_place c.args.set.now.keys) c.args.cells.now done _
    (c.args.list.now.items ++ filter (has same_place c.args.set.now.keys) c.args.cells.now) c.loop-cell.cell-index x
    c.cell-item.is c.loop-cell-test.true kept c.loop-cell.invariant
