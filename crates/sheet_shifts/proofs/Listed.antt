-- The cells of a map, each with what the map holds there.
use Rattle.std.specs.Prelude.{◌≡◌, ◌&&◌, Bool, true, false, cond, not, is_some, List, [], ◌∷◌, Option, None, Some, refl}
use Rattle.std.specs.FinMap.{entries, get, get-entries}
use Rattle.std.specs.List.{cons_option, filter_map, AllByRecursion}
use Rattle.std.specs.Map.{keys_of}
use Rattle.std.proofs.Common.{sym, ◌∙◌, ap, inl, inr}
use Rattle.std.proofs.lemmas.Bool.{cases_Bool}
use Rattle.grid_address.proofs.Places.{cells_exact, cells_total, in_whole}
use Rattle.grid_address.specs.Place.{is_within, whole, Extent, InSheet, Place}
use Rattle.ref_adjust.specs.Lines.{place_shifted}
use Rattle.ref_adjust.specs.declared.change.Change.{Change}
use Rattle.sheet_store.specs.Grid.{any_state, is_blank, picked, AreHeld, Cells, IsHeld}
use Rattle.sheet_store.specs.State.{CellState}
use Rattle.sheet_shifts.specs.inner.Puts.{entry_at, entry_from, first_pushed_at, is_pushed_from}
use Rattle.sheet_shifts.specs.Refusals.{first_pushed, is_pushed}
use Rattle.sheet_shifts.specs.Shifts.{entry_after}
use Rattle.sheet_shifts.specs.declared.shift.Shift.{Shift}
use Rattle.sheet_shifts.proofs.Maps.{each, entries_apart}

-- each entry is a cell that a store keeps
abbrev pub AreAllHeld : List (Place × CellState) → Type 0
AreAllHeld es = AllByRecursion (λ e. IsHeld e.0 e.1) es

-- the entries of held cells are held
pub all_held : (m : Cells) → AreHeld m → AreAllHeld (entries m)
all_held m held =
    each cells_total cells_exact IsHeld (entries m) (entries_apart cells_total cells_exact m)
    (λ p s h. held p s (get-entries m p ∙ h))

-- each entry is what the map holds at its place
abbrev pub AreStates : Cells → List (Place × CellState) → Type 0
AreStates m es = AllByRecursion (λ e. get m e.0 ≡ Some e.1) es

-- each entry is what the map holds there
pub all_states : (m : Cells) → AreStates m (entries m)
all_states m =
    each cells_total cells_exact (λ p s. get m p ≡ Some s) (entries m) (entries_apart cells_total cells_exact m)
    (λ p s h. get-entries m p ∙ h)

-- all entries lie in the whole sheet
pub whole_picked : (es : List (Place × CellState)) → AreAllHeld es → picked any_state whole es ≡ keys_of es
whole_picked [] held = refl
whole_picked (e ∷ es) held =
    ap (λ b. cond (b && true) (e.0 ∷ picked any_state whole es) (picked any_state whole es))
    (in_whole e.0 held.0.inside) ∙ ap (λ l. e.0 ∷ l) (whole_picked es held.1)

-- what the map holds at the entries' places are the entries
pub entries_at : (shift : Shift) (m : Cells) (es : List (Place × CellState)) → AreStates m es
    → filter_map (entry_at shift m) (keys_of es) ≡ filter_map (entry_after shift) es
entries_at shift m [] states = refl
entries_at shift m (e ∷ es) states =
    ap (λ o. cons_option (entry_from shift e.0 o) (filter_map (entry_at shift m) (keys_of es))) states.0
    ∙ ap (cons_option (entry_after shift e)) (entries_at shift m es states.1)

-- all cells that a change takes out of the sheet lie in a span
abbrev pub Leaves : Change → Extent → Type 0
Leaves change span = (p : Place) → InSheet p → place_shifted change p ≡ None → is_within span p ≡ true

module _ (change : Change) (span : Extent) (leaves : Leaves change span) where
  beside_stays : (e : Place × CellState) → InSheet e.0 → is_within span e.0 ≡ false → is_pushed change e ≡ false
  beside_stays e inside beside = by (not (is_blank e.1.content)) (place_shifted change e.0) refl
    where
      by : (filled : Bool) (o : Option Place) → place_shifted change e.0 ≡ o → (filled && not (is_some o)) ≡ false
      by true (Some q) h = refl
      by false (Some q) h = refl
      by filled None h = absurd (let t = leaves e.0 inside h in cc)

  -- the first pushed cell of the span is the first of all
  pub first_listed : (m : Cells) (es : List (Place × CellState)) → AreAllHeld es → AreStates m es
      → first_pushed_at change m (picked any_state span es) ≡ first_pushed change es
  first_listed m [] held states = refl
  first_listed m (e ∷ es) held states = elim (cases_Bool (is_within span e.0)) [
    | inl within ↦
        ap (λ b. first_pushed_at change m
        (cond (b && true) (e.0 ∷ picked any_state span es) (picked any_state span es))) within
        ∙ ap (λ o. cond (is_pushed_from change e.0 o) (Some e.0) (first_pushed_at change m (picked any_state span es)))
        states.0
        ∙ ap (cond (is_pushed change e) (Some e.0)) (first_listed m es held.1 states.1)
    | inr beside ↦
        ap (λ b. first_pushed_at change m
        (cond (b && true) (e.0 ∷ picked any_state span es) (picked any_state span es))) beside
        ∙ first_listed m es held.1 states.1
        ∙ sym (ap (λ b. cond b (Some e.0) (first_pushed change es)) (beside_stays e held.0.inside beside))
  ]
