-- The dirty formulas, sorted, are those among all formulas.
use Rattle.std.specs.Prelude.{◌≡◌, ◌&&◌, Bool, true, false, refl, List}
use Rattle.std.specs.List.{filter}
use Rattle.std.proofs.Common.{sym, ◌∙◌, ap}
use Rattle.std.proofs.lemmas.List.Kept.{IsStrictlySortedBy-filter}
use Rattle.grid_address.specs.Place.{place_cmp, same_place, Place}
use Rattle.cell_maps.specs.Sets.{has}
use Rattle.sheet_store.proofs.RowOrder.{same_members}
use Rattle.sheet_store.specs.Grid.{formulas, Grid}
use Rattle.recalculation.proofs.Ascending.{formulas_ascend}
use Rattle.recalculation.proofs.Filled.{has_filtered}
use Rattle.recalculation.specs.inner.Laws.{has_formula, Ascends}
use Rattle.recalculation.specs.Reading.{is_formula_at}

-- the dirty formulas in row order are those among all formulas
pub dirty_sorted : (g : Grid) (dirty : Place → Bool) (xs : List Place) → Ascends xs
    → ((c : Place) → has same_place xs c ≡ dirty c) → ((c : Place) → dirty c ≡ true → is_formula_at g c ≡ true)
    → xs ≡ filter dirty (formulas g)
dirty_sorted g dirty xs a m only = same_members xs (filter dirty (formulas g)) a
    (IsStrictlySortedBy-filter place_cmp dirty (formulas g) (formulas_ascend g))
    (λ c. m c ∙ both (dirty c) (is_formula_at g c) (only c)
    ∙ sym (has_filtered dirty (formulas g) c ∙ ap (λ b. dirty c && b) (has_formula g c)))
  where
    both : (d f : Bool) → (d ≡ true → f ≡ true) → d ≡ (d && f)
    both true f h = sym (h refl)
    both false f h = refl
