use Rattle.std.specs.Prelude.{◌≡◌, ◌+◌, ◌<◌, length, take, ◌∷◌, [], ◌++◌, List, filter, ◌⊎◌, true, Bool}
use Rattle.std.proofs.Common.{sym, ◌∙◌, ap, subst}
use Rattle.std.proofs.lemmas.List.{take_more}
use Rattle.cell_maps.specs.Sets.{has}
use Rattle.natural_order.specs.Walk.{Reaches}
use Rattle.sheet_store.specs.Grid.{Grid}
use Rattle.grid_address.specs.Place.{same_place, Place}
use Rattle.recalculation.specs.inner.Leaving.{LeftSoFar}
use Rattle.recalculation.specs.Reading.{pre}
use Rattle.recalculation.proofs.Held.{precedes_at, held, left_kept, left_removed}
use Rattle.recalculation.proofs.leave.leave.Goals as goal
use Rattle.recalculation.proofs.leave.leave.Goals.{then-not-held, else-not-held}

pub loop-cell-preserved : goal.loop-cell-preserved
loop-cell-preserved c =
    let g : Grid = c.args.store.now in
    let order : List Place = c.args.order.now in
    let old : Place → Bool = has same_place c.args.dirty.now.keys in
    let now : Place → Bool = has same_place c.loop-cell.dirty.keys in
    let x : Place = c.cell-item.result in
    let lt : c.loop-cell.cell-index < length order = c.loop-cell-test.true in
    let seen : List Place = take c.loop-cell.cell-index order in
    let more : take (c.loop-cell.cell-index + 1) order ≡ seen ++ x ∷ [] = take_more order c.loop-cell.cell-index x lt
    ∙ ap (λ y. seen ++ y ∷ []) (sym c.cell-item.is) in
    elim c.if-not-held.branch [
      | then-not-held w ↦
          let after : Place → Bool = has same_place w.remove.new.self.keys in
          let done : LeftSoFar g old (seen ++ x ∷ []) after = left_removed g old now after seen x c.loop-cell.invariant
          (sym c.in_ok-held.ensures ∙ w.if-not-held.true) w.remove.ensures in
          subst (λ s. LeftSoFar g old s (has same_place c.if-not-held.dirty.keys)) (sym more)
          (subst (λ ks. LeftSoFar g old (seen ++ x ∷ []) (has same_place ks)) (sym (ap (λ h. h.keys) w.dirty-is)) done)
      | else-not-held w ↦
          let before : (d : Place) → has same_place (filter old (pre g x)) d ≡ true
          → (has same_place seen d ≡ true) ⊎ Reaches same_place (λ y. filter old (pre g y)) x x =
          precedes_at (λ y. filter old (pre g y)) [] order c.loop-cell.cell-index x x c.requires.order lt
          c.cell-item.is in
          let done : LeftSoFar g old (seen ++ x ∷ []) now = left_kept g old now seen x c.loop-cell.invariant
          (held g old now seen x c.loop-cell.invariant before (sym c.in_ok-held.ensures ∙ w.if-not-held.false)) in
          subst (λ s. LeftSoFar g old s (has same_place c.if-not-held.dirty.keys)) (sym more)
          (subst (λ ks. LeftSoFar g old (seen ++ x ∷ []) (has same_place ks)) (sym (ap (λ h. h.keys) w.dirty-is)) done)
    ]
