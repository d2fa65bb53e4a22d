-- What evaluations found of the values is so still where a cell is written or taken out.
use Rattle.std.specs.Prelude.{◌≡◌, false, cond, None, Some}
use Rattle.std.specs.FinMap.{get, insert, remove}
use Rattle.std.proofs.Common.{◌∙◌, ap}
use Rattle.formula_parts.specs.declared.kept.Kept.{Kept}
use Rattle.formula_parts.specs.inner.Kept.{IsKept}
use Rattle.formula_tree.specs.declared.value.Value.{Value}
use Rattle.grid_address.proofs.Places.{get_inserted, get_removed, same_place_itself}
use Rattle.grid_address.specs.Place.{same_place, Place}
use Rattle.sheet_store.proofs.Held.{inserted_held, removed_held}
use Rattle.sheet_store.specs.Grid.{value_in, value_of, Cells, IsHeld}
use Rattle.sheet_store.specs.State.{CellState}
use Rattle.sheet_store.specs.inner.Keeping.{GoesOn, Keeps}

module _ (m : Cells) (c : Place) (k new : Kept) (keeps : Keeps m k) where
  -- a cell is taken out
  pub cleared : ((values others : Place → Value) → IsKept k values
      → ((d : Place) → same_place d c ≡ false → others d ≡ values d) → IsKept new others)
      → Keeps (remove m c) new
  cleared goes_on = record {
    held = removed_held m c keeps.held;
    found = goes_on (value_in m) (value_in (remove m c)) keeps.found
        (λ d f. ap value_of (get_removed m c d ∙ ap (λ b. cond b None (get m d)) f));
  }

  -- a cell takes a state
  pub put_in : (s : CellState) → IsHeld c s → GoesOn k new m c s.value → Keeps (insert m c s) new
  put_in s here goes_on = record {
    held = inserted_held m c s here keeps.held;
    found = goes_on (value_in (insert m c s)) keeps.found
        (ap value_of (get_inserted m c s c ∙ ap (λ b. cond b (Some s) (get m c)) (same_place_itself c)))
        (λ d f. ap value_of (get_inserted m c s d ∙ ap (λ b. cond b (Some s) (get m d)) f));
  }
