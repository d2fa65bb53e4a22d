-- A cell that gets its old state back.
use Rattle.std.specs.Prelude.{◌≡◌, true, false, cond, is_some, refl, Option, None, Some}
use Rattle.std.specs.FinMap.{get, insert, remove}
use Rattle.std.proofs.Common.{sym, ◌∙◌, ap}
use Rattle.std.proofs.lemmas.Bool.{false≢true}
use Rattle.grid_address.proofs.Places.{get_inserted, get_removed, same_place_is, same_place_itself, same_places}
use Rattle.grid_address.specs.Place.{same_place, Place}
use Rattle.sheet_store.specs.Grid.{is_formula, is_kept, put_state, Cells, Grid}
use Rattle.sheet_store.specs.State.{CellState}
use Rattle.recalculation.specs.Reading.{is_formula_at}
use Rattle.sheet_edits.proofs.Beside.{beside}
use Rattle.sheet_edits.proofs.Reaching.{formula_here, formula_in_is}
use Rattle.sheet_edits.specs.inner.Undoing.{put_back}

module _ (g : Grid) (cell : Place) (s : CellState) where
  -- a cell whose state is kept is there once it was put
  pub is_there : is_kept s ≡ true → get (put_state g cell s).cells cell ≡ None → ⊥
  is_there k h =
      false≢true (ap is_some (sym h ∙ ap (λ b. get (cond b (insert g.cells cell s) (remove g.cells cell)) cell) k
      ∙ get_inserted g.cells cell s cell ∙ ap (λ b. cond b (Some s) (get g.cells cell)) (same_place_itself cell)))

  -- a formula's cell holds a formula once it was put
  pub formula_there : is_kept s ≡ true → is_formula s.content ≡ true → is_formula_at (put_state g cell s) cell ≡ true
  formula_there k h = ap is_some (formula_here g cell s (λ _. k)) ∙ sym (formula_in_is s.content) ∙ h

  -- a cell that gets back what it held makes the grid that was
  pub back_is : (o : Option CellState) → get g.cells cell ≡ o → put_back (put_state g cell s) cell o ≡ g
  back_is None e =
      ap (λ (m : Cells). record g { cells = m }) (same_places _ _ (λ q. get_removed (put_state g cell s).cells cell q
      ∙ elim (same_place q cell) as
      (λ b. same_place q cell ≡ b → cond b None (get (put_state g cell s).cells q) ≡ get g.cells q) [
        | true ↦ λ h. sym (ap (get g.cells) (same_place_is q cell h) ∙ e)
        | false ↦ λ h. beside g cell s q h
      ] refl))
  back_is (Some x) e =
      ap (λ (m : Cells). record g { cells = m }) (same_places _ _ (λ q. get_inserted (put_state g cell s).cells cell x q
      ∙ elim (same_place q cell) as
      (λ b. same_place q cell ≡ b → cond b (Some x) (get (put_state g cell s).cells q) ≡ get g.cells q) [
        | true ↦ λ h. sym (ap (get g.cells) (same_place_is q cell h) ∙ e)
        | false ↦ λ h. beside g cell s q h
      ] refl))
