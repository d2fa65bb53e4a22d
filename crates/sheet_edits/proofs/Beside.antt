-- The cells beside one that is put.
use Rattle.std.specs.Prelude.{◌≡◌, false, cond, None, Some}
use Rattle.std.specs.FinMap.{get, insert, remove}
use Rattle.std.proofs.Common.{◌∙◌, ap, inl, inr}
use Rattle.std.proofs.lemmas.Bool.{cases_Bool}
use Rattle.grid_address.proofs.Places.{get_inserted, get_removed}
use Rattle.grid_address.specs.Place.{same_place, Place}
use Rattle.sheet_store.specs.Grid.{is_kept, put_state, Grid}
use Rattle.sheet_store.specs.State.{CellState}

-- the other cells hold what they held where a cell's state is put
pub beside : (g : Grid) (cell : Place) (s : CellState) (c : Place) → same_place c cell ≡ false
    → get (put_state g cell s).cells c ≡ get g.cells c
beside g cell s c h = elim (cases_Bool (is_kept s)) [
  | inl k ↦ ap (λ b. get (cond b (insert g.cells cell s) (remove g.cells cell)) c) k ∙ get_inserted g.cells cell s c
      ∙ ap (λ b. cond b (Some s) (get g.cells c)) h
  | inr k ↦ ap (λ b. get (cond b (insert g.cells cell s) (remove g.cells cell)) c) k ∙ get_removed g.cells cell c
      ∙ ap (λ b. cond b None (get g.cells c)) h
]
