-- Other formats leave what a sheet keeps.
use Rattle.std.specs.Prelude.{ℕ, ◌≡◌, Bool, true, false, cond, refl, List, None, Some}
use Rattle.std.specs.FinMap.{get}
use Rattle.std.proofs.Common.{◌∙◌, ap}
use Rattle.grid_address.specs.Place.{same_place, Place}
use Rattle.depend_graph.specs.Network.{Network}
use Rattle.cell_maps.specs.Sets.{has}
use Rattle.recalculation.specs.Context.{formula_of}
use Rattle.recalculation.specs.Passes.{Meaning}
use Rattle.recalculation.specs.inner.Meanings.{IsMeaning}
use Rattle.sheet_store.specs.Grid.{value_of, AreHeld, Cells, Grid}
use Rattle.sheet_store.specs.declared.order.Order.{Order}
use Rattle.work_sheet.proofs.Held.{kept_values}
use Rattle.sheet_edits.proofs.Sound.{same_formula, same_value}
use Rattle.work_sheet.specs.inner.Keeping.{IsKept}
use Rattle.sheet_edits.specs.Spans.{changed, reformatted, reformatted_state, AreGiven, Becomes}

module _ (g h : Grid) (rule : ℕ → ℕ) (cells : List Place) (changes : Cells) (held : AreHeld g.cells)
    (given : AreGiven changes (has same_place cells) (λ c. Some (reformatted_state rule (get g.cells c))))
    (b : Becomes g (λ c. changed (get changes c) (get g.cells c)) h) where
  cell_is : (c : Place)
      → get h.cells c ≡ cond (has same_place cells c) (reformatted rule (get g.cells c)) (get g.cells c)
  cell_is c = b.cells c ∙ ap (λ o. changed o (get g.cells c)) (given c) ∙ by (has same_place cells c)
    where
      by : (t : Bool) → changed (cond t (Some (reformatted_state rule (get g.cells c))) None) (get g.cells c)
          ≡ cond t (reformatted rule (get g.cells c)) (get g.cells c)
      by true = refl
      by false = refl

  formula_is : (c : Place) → formula_of (get h.cells c) ≡ formula_of (get g.cells c)
  formula_is c = ap formula_of (cell_is c) ∙ by (has same_place cells c)
    where
      by : (t : Bool)
          → formula_of (cond t (reformatted rule (get g.cells c)) (get g.cells c)) ≡ formula_of (get g.cells c)
      by true = same_formula g.cells held rule c
      by false = refl

  value_is : (c : Place) → value_of (get h.cells c) ≡ value_of (get g.cells c)
  value_is c = ap value_of (cell_is c) ∙ by (has same_place cells c)
    where
      by : (t : Bool) → value_of (cond t (reformatted rule (get g.cells c)) (get g.cells c)) ≡ value_of (get g.cells c)
      by true = same_value g.cells held rule c
      by false = refl

-- cells that get other formats alone leave what a sheet keeps
pub kept_reformatted : (mean : Meaning) → IsMeaning mean → (n : Network) (g h : Grid) (dirty : List Place)
    (order : Order) (rule : ℕ → ℕ) (cells : List Place) (changes : Cells) → AreHeld g.cells
    → AreGiven changes (has same_place cells) (λ c. Some (reformatted_state rule (get g.cells c)))
    → Becomes g (λ c. changed (get changes c) (get g.cells c)) h → IsKept mean n g dirty order
    → IsKept mean n h dirty order
kept_reformatted mean meaning n g h dirty order rule cells changes held given b = kept_values mean meaning n g h dirty
    order (formula_is g h rule cells changes held given b) (value_is g h rule cells changes held given b)
