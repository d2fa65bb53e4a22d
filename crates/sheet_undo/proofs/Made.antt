-- Changes that a store has already.
use Rattle.std.specs.Prelude.{◌≡◌, ◌<◌, ◌||◌, ℕ, zero, suc, true, false, cond, refl, length, get_or}
use Rattle.std.specs.Prelude.{List, [], ◌∷◌, Option}
use Rattle.std.specs.FinMap.{get}
use Rattle.std.specs.List.{AllByRecursion, IsDistinct}
use Rattle.std.proofs.Common.{ap, arith, sym, subst, ◌∙◌, inl, inr}
use Rattle.std.proofs.lemmas.Bool.{cases_Bool}
use Rattle.edit_log.proofs.Changed.{get_beside, get_changed}
use Rattle.edit_log.specs.Changes.{all_changed, cells_of, changed_at, is_noted, AreOnce}
use Rattle.grid_address.proofs.Places.{same_place_is, same_place_itself, same_places}
use Rattle.grid_address.specs.Place.{same_place, Place}
use Rattle.sheet_store.specs.Grid.{Cells}
use Rattle.sheet_store.specs.State.{CellState}

-- a cell that gets what it has
pub same_changed : (m : Cells) (c : Place) (o : Option CellState) → get m c ≡ o → changed_at m c o ≡ m
same_changed m c o is =
    same_places (changed_at m c o) m (λ q. get_changed m c o q ∙ elim (cases_Bool (same_place q c)) [
      | inl t ↦ ap (λ b. cond b o (get m q)) t ∙ sym is ∙ ap (get m) (sym (same_place_is q c t))
      | inr f ↦ ap (λ b. cond b o (get m q)) f
    ])

-- all cells get what they have
pub all_made : (m : Cells) (es : List (Place × Option CellState)) → AllByRecursion (λ e. get m e.0 ≡ e.1) es
    → all_changed m es ≡ m
all_made m [] h = refl
all_made m (e ∷ es) h = ap (λ n. all_changed n es) (same_changed m e.0 e.1 h.0) ∙ all_made m es h.1

-- a cell that none of these is
none_of : (c : Place) (es : List (Place × Option CellState))
    → AllByRecursion (λ d. same_place c d ≡ false) (cells_of es) → is_noted es c ≡ false
none_of c [] h = refl
none_of c (e ∷ es) h = ap (λ b. b || is_noted es c) h.0 ∙ none_of c es h.1

-- a cell that changes once has what the change gives it
pub told_at : (m : Cells) (es : List (Place × Option CellState)) (i : ℕ) (e : Place × Option CellState) → AreOnce es
    → e ≡ get_or es i e → i < length es → get (all_changed m es) e.0 ≡ e.1
unfolding IsDistinct
told_at m [] i e once is l = absurd (omega (arith, l))
told_at m (x ∷ es) zero e once is l =
    let here : get (all_changed (changed_at m x.0 x.1) es) x.0 ≡ x.1 =
    get_beside (changed_at m x.0 x.1) es x.0 (none_of x.0 es once.0) ∙ get_changed m x.0 x.1 x.0
    ∙ ap (λ b. cond b x.1 (get m x.0)) (same_place_itself x.0) in
    subst (λ (y : Place × Option CellState). get (all_changed m (x ∷ es)) y.0 ≡ y.1) (sym is) here
told_at m (x ∷ es) (suc i) e once is l = told_at (changed_at m x.0 x.1) es i e once.1 is (omega (arith, l))

-- one that gives a cell something else
pub made_otherwise : (m : Cells) (es : List (Place × Option CellState)) (i : ℕ) (e : Place × Option CellState)
    → AreOnce es → e ≡ get_or es i e → i < length es → (get m e.0 ≡ e.1 → ⊥) → all_changed m es ≡ m → ⊥
made_otherwise m es i e once is l differs same = differs (sym (ap (λ n. get n e.0) same) ∙ told_at m es i e once is l)
