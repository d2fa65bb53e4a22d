-- What is picked among a sheet's cells stands in row order, and so do its formulas.
use Rattle.std.specs.Prelude.{◌≡◌, ◌&&◌, Bool, true, false, cond, List, [], ◌∷◌}
use Rattle.std.specs.FinMap.{entries}
use Rattle.std.specs.List.{AllByRecursion}
use Rattle.std.specs.List.Sorted.{IsStrictlySortedBy}
use Rattle.std.specs.Map.{keys_of}
use Rattle.std.specs.declared.cmp.Ordering.TheVariants.{Less}
use Rattle.std.proofs.Common.{sym, subst}
use Rattle.grid_address.specs.Place.{is_within, place_cmp, Extent, Place}
use Rattle.sheet_store.specs.Grid.{formulas, is_formula, picked, Grid}
use Rattle.sheet_store.specs.State.{CellState}
use Rattle.recalculation.specs.inner.Laws.{among_chosen, chosen, chosen_above, entries_ascend, picked_chosen, Ascends}

-- of entries in row order those that pass a test stand in it
pub chosen_ascends : (p : Place × CellState → Bool) (es : List (Place × CellState)) → Ascends (keys_of es)
    → Ascends (chosen p es)
unfolding IsStrictlySortedBy
chosen_ascends p [] h = tt
chosen_ascends p (e ∷ es) h = with (p e) (chosen_above p e.0 es h.0) (chosen_ascends p es h.1)
  where
    with : (b : Bool) → AllByRecursion (λ y. place_cmp e.0 y ≡ Less) (chosen p es) → Ascends (chosen p es)
        → Ascends (cond b (e.0 ∷ chosen p es) (chosen p es))
    with true a s = (a, s)
    with false a s = s

-- what is picked among a sheet's cells stands in row order
pub picked_ascends : (test : CellState → Bool) (g : Grid) (s : Extent) → Ascends (picked test s (entries g.cells))
picked_ascends test g s = subst Ascends (sym (picked_chosen test s (entries g.cells)))
    (chosen_ascends (λ e. is_within s e.0 && test e.1) (entries g.cells) (entries_ascend g))

-- all formulas of a sheet stand in row order
pub formulas_ascend : (g : Grid) → Ascends (formulas g)
formulas_ascend g = subst Ascends (sym (among_chosen (entries g.cells)))
    (chosen_ascends (λ e. is_formula e.1.content) (entries g.cells) (entries_ascend g))
