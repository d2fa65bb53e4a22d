-- On the way from the cells of the next store to those of the kept one.
use Rattle.std.specs.Prelude.{◌≡◌, ◌⊎◌, cond, false, List, [], ◌∷◌, Option, None, Some}
use Rattle.std.specs.FinMap.{entries, find, get, get-entries, insert, remove}
use Rattle.std.specs.List.{AllByRecursion}
use Rattle.std.proofs.Common.{ap, sym, subst, ◌∙◌, inl, inr}
use Rattle.std.proofs.lemmas.Bool.{cases_Bool}
use Rattle.grid_address.proofs.Places.{cells_exact, cells_total, get_inserted, get_removed, place_tied, same_place_is}
use Rattle.grid_address.proofs.Places.{same_places}
use Rattle.grid_address.specs.Place.{place_cmp, same_place, Place}
use Rattle.sheet_shifts.proofs.Maps.{each, entries_apart, some_is_none}
use Rattle.sheet_store.specs.Grid.{Cells}
use Rattle.sheet_store.specs.State.{CellState}
use Rattle.edit_log.specs.Changes.{all_changed}
use Rattle.sheet_undo.specs.inner.Changes.{AreTaken}

-- an entry at another place isn't found
find_other : (p : Place) (e : Place × CellState) (es : List (Place × CellState)) → same_place p e.0 ≡ false
    → find place_cmp p (e ∷ es) ≡ find place_cmp p es
find_other p e es other = ap (λ b. cond b (Some e.1) (find place_cmp p es)) (place_tied p e.0 ∙ other)

module _ (kept next : Cells) where
  -- the entries of the next one that are left are still to be looked at
  abbrev pub IsTaking : (now : Cells) (left : List (Place × CellState)) → Type 0
  IsTaking now left =
      (p : Place) → (get now p ≡ get kept p)
      ⊎ ((get now p ≡ get next p) × (get kept p ≡ None → get next p ≡ find place_cmp p left))

  -- before any change all entries of the next one are still to be looked at
  pub taking_begun : (es : List (Place × Option CellState)) (left : List (Place × CellState)) → es ≡ []
      → left ≡ entries next → IsTaking (all_changed next es) left
  taking_begun es left none is p =
      inr (ap (λ xs. get (all_changed next xs) p) none, λ h. get-entries next p ∙ ap (find place_cmp p) (sym is))

  -- a cell that the kept one hasn't is taken away
  pub taken_gone : (now new : Cells) (e : Place × CellState) (left : List (Place × CellState)) → get kept e.0 ≡ None
      → new ≡ remove now e.0 → IsTaking now (e ∷ left) → IsTaking new left
  taken_gone now new e left none is taking p =
      let at : get new p ≡ cond (same_place p e.0) None (get now p) = ap (λ m. get m p) is ∙ get_removed now e.0 p in
      elim (cases_Bool (same_place p e.0)) [
        | inl same ↦
            inl (at ∙ ap (λ b. cond b None (get now p)) same ∙ sym (ap (get kept) (same_place_is p e.0 same) ∙ none))
        | inr other ↦ (
            let stays : get new p ≡ get now p = at ∙ ap (λ b. cond b None (get now p)) other in
            elim (taking p) [
              | inl is_kept ↦ inl (stays ∙ is_kept)
              | inr is_next ↦
                  inr (stays ∙ is_next.0, λ h. is_next.1 h ∙ find_other p e left other)
            ])
      ]

  -- the entries of the kept one that are left are still to be given
  pub record IsGiving (now : Cells) (left : List (Place × CellState)) : Type 0 where
    pub told : AllByRecursion (λ e. get kept e.0 ≡ Some e.1) left
    pub none : (p : Place) → get kept p ≡ None → get now p ≡ None
    pub here : (p : Place) → (get now p ≡ get kept p)
        ⊎ ((get now p ≡ get next p) × (get kept p ≡ find place_cmp p left))

  -- with the cells taken away that the kept one hasn't, all entries of the kept one are still to be given
  pub giving_begun : (now : Cells) (left : List (Place × CellState)) → AreTaken kept next now → left ≡ entries kept
      → IsGiving now left
  giving_begun now left taken is = record {
    told = subst (λ es. AllByRecursion (λ e. get kept e.0 ≡ Some e.1) es) (sym is)
        (each cells_total cells_exact (λ q s. get kept q ≡ Some s) (entries kept)
        (entries_apart cells_total cells_exact kept) (λ q s h. get-entries kept q ∙ h));
    none = λ p h. elim (taken p) [ inl is_kept ↦ is_kept ∙ h | inr is_next ↦ is_next.0 ∙ is_next.1 h ];
    here = λ p. elim (taken p) [
      | inl is_kept ↦ inl is_kept
      | inr is_next ↦
          inr (is_next.0, get-entries kept p ∙ ap (find place_cmp p) (sym is))
    ];
  }

  -- another is given its state
  pub given_other : (now new : Cells) (e : Place × CellState) (left : List (Place × CellState))
      → new ≡ insert now e.0 e.1 → IsGiving now (e ∷ left) → IsGiving new left
  given_other now new e left is giving =
      let at : (p : Place) → get new p ≡ cond (same_place p e.0) (Some e.1) (get now p) = λ p. ap (λ m. get m p) is
      ∙ get_inserted now e.0 e.1 p in
      record {
        told = giving.told.1;
        none = λ p h. elim (cases_Bool (same_place p e.0)) [
          | inl same ↦ absurd (some_is_none (sym giving.told.0 ∙ sym (ap (get kept) (same_place_is p e.0 same)) ∙ h))
          | inr other ↦ at p ∙ ap (λ b. cond b (Some e.1) (get now p)) other ∙ giving.none p h
        ];
        here = λ p. elim (cases_Bool (same_place p e.0)) [
          | inl same ↦ inl (at p ∙ ap (λ b. cond b (Some e.1) (get now p)) same
              ∙ sym (ap (get kept) (same_place_is p e.0 same) ∙ giving.told.0))
          | inr other ↦ (
              let stays : get new p ≡ get now p = at p ∙ ap (λ b. cond b (Some e.1) (get now p)) other in
              elim (giving.here p) [
                | inl is_kept ↦ inl (stays ∙ is_kept)
                | inr is_next ↦
                    inr (stays ∙ is_next.0, is_next.1 ∙ find_other p e left other)
              ])
        ];
      }

  -- all are given
  pub all_given : (now : Cells) (left : List (Place × CellState)) → left ≡ [] → IsGiving now left → now ≡ kept
  all_given now left over giving = same_places now kept (λ p. elim (giving.here p) [
    | inl is_kept ↦ is_kept
    | inr is_next ↦
        (let absent : get kept p ≡ None = is_next.1 ∙ ap (find place_cmp p) over in giving.none p absent ∙ sym absent)
  ])
