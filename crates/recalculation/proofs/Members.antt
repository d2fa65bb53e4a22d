-- Which cells the formulas of a span are, and that nothing but the formulas and their places decides them.
use Rattle.std.specs.Prelude.{◌≡◌, ◌&&◌, Bool, true, false, is_some, refl, List, [], ◌∷◌, ◌++◌, Option}
use Rattle.std.proofs.Common.{sym, ◌∙◌, ap}
use Rattle.std.proofs.lemmas.Bool.{and_from, and_parts}
use Rattle.grid_address.specs.Place.{is_within, same_place, Extent, Place}
use Rattle.formula_tree.specs.Tree.{Tree}
use Rattle.cell_maps.specs.Sets.{has}
use Rattle.range_index.specs.Owners.{hold}
use Rattle.sheet_store.proofs.RowOrder.{same_members}
use Rattle.sheet_store.specs.Grid.{formulas, formulas_within, holds_formula, Grid}
use Rattle.recalculation.proofs.Ascending.{picked_ascends}
use Rattle.recalculation.specs.Context.{formula_at}
use Rattle.recalculation.specs.Reading.{formulas_in, is_formula_at, pre, spans_at, spans_in}
use Rattle.recalculation.specs.inner.Laws.{has_formula, has_in, has_within}

module _ (a b : Grid) (same : formula_at a ≡ formula_at b) where
  -- grids with the same formulas have them in the same cells
  pub formula_along : (c : Place) → is_formula_at a c ≡ is_formula_at b c
  formula_along c = ap (λ (h : Place → Option Tree). is_some (h c)) same

  -- grids with the same formulas have them in the same cells of a span
  pub within_along : (s : Extent) → formulas_within a s ≡ formulas_within b s
  within_along s = same_members _ _ (picked_ascends holds_formula a s) (picked_ascends holds_formula b s)
      (λ d. has_within a s d ∙ ap (λ x. is_within s d && x) (formula_along d) ∙ sym (has_within b s d))

  in_along : (ss : List Extent) → formulas_in a ss ≡ formulas_in b ss
  in_along [] = refl
  in_along (s ∷ ss) = λ i. within_along s i ++ in_along ss i

  -- grids with the same formulas have them read the same formulas
  pub pre_along : pre a ≡ pre b
  pre_along = λ i c. (in_along (spans_in (formula_at a c) c)
      ∙ ap (λ (h : Place → Option Tree). formulas_in b (spans_in (h c) c)) same) i

-- a formula is among those that a formula reads exactly where one of the spans holds it
pub has_pre : (g : Grid) (c d : Place) → has same_place (pre g c) d ≡ (is_formula_at g d && hold (spans_at g c) d)
has_pre g c d = has_in g (spans_at g c) d

-- such a formula lies in one of the spans
pub read_of_pre : (g : Grid) (c d : Place) → has same_place (pre g c) d ≡ true → hold (spans_at g c) d ≡ true
read_of_pre g c d h = (and_parts _ _ (sym (has_pre g c d) ∙ h)).1

-- and a formula that lies in one of them is such a one
pub pre_of_read : (g : Grid) (c d : Place) → hold (spans_at g c) d ≡ true → is_formula_at g d ≡ true
    → has same_place (pre g c) d ≡ true
pre_of_read g c d m k = has_pre g c d ∙ and_from _ _ k m

-- what a formula reads is among all formulas
pub pre_formulas : (g : Grid) (c d : Place) → has same_place (pre g c) d ≡ true → has same_place (formulas g) d ≡ true
pre_formulas g c d h = has_formula g d ∙ (and_parts _ _ (sym (has_pre g c d) ∙ h)).0
