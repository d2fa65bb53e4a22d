-- A recalculation leaves the rows that hold no dirty formula.
use Rattle.std.proofs.Common.{◌≡◌, ℕ, Bool, true, false, List, ap, sym, ◌∙◌}
use Rattle.std.proofs.lemmas.Bool.{false_from_ne_true, true≢false}
use Rattle.cell_maps.specs.Sets.{has}
use Rattle.formula_eval.specs.Mean.{mean}
use Rattle.formula_parts.specs.declared.look.Scene.{Scene}
use Rattle.grid_address.specs.Place.{same_place, Place}
use Rattle.macro_engine.proofs.Settled.{recalculated_beside}
use Rattle.macro_engine.specs.RowSpans.{IsBeside}
use Rattle.recalculation.specs.Context.{Context}
use Rattle.recalculation.specs.Passes.{IsSound, RecalculationIsCut}
use Rattle.screen_layout.specs.inner.Alike.{AreAlike}
use Rattle.work_sheet.specs.Doing.{recalculated}
use Rattle.work_sheet.specs.Seen.{Sheet}
use Rattle.work_sheet.specs.Sheets.{AllDirtyIn}

-- where all else stays, no line tells the sheets apart that shows none of the rows, nor any of some more
pub alike_beside : (rows more : ℕ → Bool) (s t : Sheet) → ((k : ℕ) → rows k ≡ true → more k ≡ true)
    → IsBeside rows s t → AreAlike more s t
alike_beside rows more s t within h = record {
  cells = λ c apart. h.cells c (false_from_ne_true (rows c.row) (λ k. true≢false (sym (within c.row k) ∙ apart)));
  widths = h.widths;
  hidden = h.hidden;
  width = ap (λ u. u.width) h.settings;
  format = ap (λ u. u.format) h.settings;
  names = h.names;
}

-- a sheet of which its invariant is told, and rows that hold no dirty formula
pub recalculated_alike : (s : Sheet) (dirty : List Place) (rows : ℕ → Bool)
    → ((x : Context) → RecalculationIsCut mean x) → ((x : Context) → IsSound mean x s.grid (has same_place dirty)) →
    AllDirtyIn s.settings.order s.grid dirty → ((c : Place) → rows c.row ≡ false → has same_place dirty c ≡ false)
    → (scene : Scene) → AreAlike rows s (recalculated mean scene s).sheet
recalculated_alike s dirty rows cut sound all clean scene =
    alike_beside rows rows s (recalculated mean scene s).sheet (λ k h. h)
    (recalculated_beside s dirty rows cut sound all clean scene)
