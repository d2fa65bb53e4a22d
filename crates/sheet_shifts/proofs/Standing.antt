-- Each cell stands where it went, and each cell that is there came so.
use Rattle.std.specs.Prelude.{◌≡◌, true, false, cond, List, [], ◌∷◌, Option, None, Some, refl}
use Rattle.std.specs.Cmp.{tied_itself}
use Rattle.std.specs.FinMap.{entries, find, get, get-entries, get-from_entries}
use Rattle.std.specs.List.{cons_option, filter_map}
use Rattle.std.specs.Ordering.{eq_by_cmp, is_eq}
use Rattle.std.proofs.Common.{sym, ◌∙◌, ap, inl, inr}
use Rattle.std.proofs.lemmas.Bool.{cases_Bool, true≢false}
use Rattle.std.proofs.lemmas.Option.{same_Some}
use Rattle.grid_address.proofs.Places.{cells_exact, cells_total}
use Rattle.grid_address.specs.Place.{place_cmp, InSheet, Place}
use Rattle.sheet_store.specs.Grid.{AreHeld, Cells}
use Rattle.sheet_store.specs.State.{CellState}
use Rattle.sheet_shifts.specs.Laws.{CellsCame, CellsGo}
use Rattle.sheet_shifts.specs.Shifts.{cells_after, entry_after, place_after, state_after, state_at, IsShift}
use Rattle.sheet_shifts.specs.declared.shift.Shift.{Shift}
use Rattle.sheet_shifts.proofs.Apart.{shift_apart}
use Rattle.sheet_shifts.proofs.Listed.{all_held, AreAllHeld}
use Rattle.sheet_shifts.proofs.Maps.{entries_apart, first_found, found_later, same_key, AreApart}

tied : (c : Place) → eq_by_cmp place_cmp c c ≡ true
tied c = ap is_eq (tied_itself cells_total c)

-- a cell among entries that came to a place
record CameOf (shift : Shift) (es : List (Place × CellState)) (here : Place) (t : CellState) : Type 0 where
  place : Place
  state : CellState
  found : find place_cmp place es ≡ Some state
  goes : place_after shift place ≡ Some here
  is : t ≡ state_after shift place here state

module _ (shift : Shift) (is : IsShift shift) where
  stands : (es : List (Place × CellState)) → AreAllHeld es → (p here : Place) (s : CellState) → InSheet p
      → find place_cmp p es ≡ Some s → place_after shift p ≡ Some here
      → find place_cmp here (filter_map (entry_after shift) es) ≡ Some (state_after shift p here s)
  stands [] held p here s inside h goes = absurd cc
  stands (e ∷ es) held p here s inside h goes = elim (cases_Bool (eq_by_cmp place_cmp p e.0)) [
    | inl same ↦ (
        let at : p ≡ e.0 = same_key cells_exact p e.0 same in
        let holds : e.1 ≡ s = same_Some _ _ (sym (ap (λ b. cond b (Some e.1) (find place_cmp p es)) same) ∙ h) in
        ap (λ o. find place_cmp here (cons_option (state_at shift e o) (filter_map (entry_after shift) es)))
        (ap (place_after shift) (sym at) ∙ goes)
        ∙ ap (λ b. cond b (Some (state_after shift e.0 here e.1))
        (find place_cmp here (filter_map (entry_after shift) es))) (tied here)
        ∙ ap (λ x. Some (state_after shift x here e.1)) (sym at) ∙ ap (λ x. Some (state_after shift p here x)) holds)
    | inr other ↦
        by other (stands es held.1 p here s inside (sym (ap (λ b. cond b (Some e.1) (find place_cmp p es)) other) ∙ h)
        goes) (place_after shift e.0) refl
  ]
    where
      by : eq_by_cmp place_cmp p e.0 ≡ false
          → find place_cmp here (filter_map (entry_after shift) es) ≡ Some (state_after shift p here s)
          → (o : Option Place) → place_after shift e.0 ≡ o
          → find place_cmp here (cons_option (state_at shift e o) (filter_map (entry_after shift) es))
          ≡ Some (state_after shift p here s)
      by other rest None g = rest
      by other rest (Some x) g = elim (cases_Bool (eq_by_cmp place_cmp here x)) [
        | inl same ↦ (
            let one : p ≡ e.0 =
            shift_apart shift is p e.0 here inside held.0.inside goes
            (g ∙ ap Some (sym (same_key cells_exact here x same))) in
            absurd (true≢false (sym (ap (eq_by_cmp place_cmp p) (sym one) ∙ tied p) ∙ other)))
        | inr free ↦
            ap (λ b. cond b (Some (state_after shift e.0 x e.1))
            (find place_cmp here (filter_map (entry_after shift) es))) free ∙ rest
      ]

  came : (es : List (Place × CellState)) → AreApart place_cmp es → (here : Place) (t : CellState)
      → find place_cmp here (filter_map (entry_after shift) es) ≡ Some t → CameOf shift es here t
  came [] apart here t h = absurd cc
  came (e ∷ es) apart here t h = by (came es apart.1 here t) (place_after shift e.0) refl h
    where
      later : CameOf shift es here t → CameOf shift (e ∷ es) here t
      later r = record {
        place = r.place;
        state = r.state;
        found = found_later cells_total cells_exact e es r.place r.state apart.0 r.found;
        goes = r.goes;
        is = r.is;
      }

      by : (find place_cmp here (filter_map (entry_after shift) es) ≡ Some t → CameOf shift es here t)
          → (o : Option Place) → place_after shift e.0 ≡ o
          → find place_cmp here (cons_option (state_at shift e o) (filter_map (entry_after shift) es)) ≡ Some t
          → CameOf shift (e ∷ es) here t
      by rest None g k = later (rest k)
      by rest (Some x) g k = elim (cases_Bool (eq_by_cmp place_cmp here x)) [
        | inl same ↦ (
            let at : here ≡ x = same_key cells_exact here x same in
            let holds : state_after shift e.0 x e.1 ≡ t =
            same_Some _ _ (sym (ap (λ b. cond b (Some (state_after shift e.0 x e.1))
            (find place_cmp here (filter_map (entry_after shift) es))) same) ∙ k) in
            record {
              place = e.0;
              state = e.1;
              found = first_found cells_total cells_exact e es;
              goes = g
                  ∙ ap Some (sym at);
              is = sym holds ∙ ap (λ y. state_after shift e.0 y e.1) (sym at);
            })
        | inr free ↦
            later (rest (sym (ap (λ b. cond b (Some (state_after shift e.0 x e.1))
            (find place_cmp here (filter_map (entry_after shift) es))) free) ∙ k))
      ]

  got : (m : Cells) (here : Place)
      → get (cells_after shift m) here ≡ find place_cmp here (filter_map (entry_after shift) (entries m))
  got m here = get-from_entries cells_total (filter_map (entry_after shift) (entries m)) here

  -- every cell goes where the shift brings it
  pub cells_go : (m : Cells) → AreHeld m → CellsGo shift m
  cells_go m held p here s found goes =
      got m here ∙ stands (entries m) (all_held m held) p here s (held p s found).inside
      (sym (get-entries m p) ∙ found) goes

  -- every cell behind it came from there
  pub cells_came : (m : Cells) → AreHeld m → CellsCame shift m
  cells_came m held here t found =
      let r = came (entries m) (entries_apart cells_total cells_exact m) here t (sym (got m here) ∙ found) in
      record { place = r.place; state = r.state; found = get-entries m r.place ∙ r.found; goes = r.goes; is = r.is }
