-- A recalculation leaves the cells that hold no dirty formula.
use Rattle.std.proofs.Common.{◌≡◌, ℕ, zero, suc, Bool, true, false, List, [], ◌∷◌, Option, None, Some, refl, ap, sym}
use Rattle.std.proofs.Common.{◌∙◌, inl, inr}
use Rattle.std.specs.FinMap.{get}
use Rattle.std.specs.List.{filter}
use Rattle.std.specs.Prelude.{is_some}
use Rattle.std.proofs.lemmas.Bool.{cases_Bool, cond-false, false_from_ne_true, or_left, or_right, true≢false}
use Rattle.cell_maps.specs.Sets.{has}
use Rattle.formula_eval.specs.Mean.{mean}
use Rattle.formula_parts.specs.declared.look.Scene.{Scene}
use Rattle.formula_tree.specs.Tree.{Tree}
use Rattle.grid_address.proofs.Places.{same_place_is}
use Rattle.grid_address.specs.Place.{same_place, Place}
use Rattle.recalculation.proofs.Contents.{same_evaluated, same_itself, same_on}
use Rattle.recalculation.proofs.Outside.{passed_out}
use Rattle.recalculation.proofs.Valued.{get_valued, with_value}
use Rattle.recalculation.specs.Passes.{evaluated, pass, passes, revalued, IsRest, IsSound, Meaning, RecalculationIsCut}
use Rattle.recalculation.specs.Passes.{SameContents}
use Rattle.recalculation.specs.Reading.{is_formula_at, natural_order, order_in, plain_order}
use Rattle.recalculation.specs.Context.{formula_at, formula_of, outlook_at, Context}
use Rattle.macro_engine.specs.RowSpans.{IsBeside}
use Rattle.sheet_store.specs.Grid.{Grid}
use Rattle.sheet_store.specs.declared.order.Order.{Order}
use Rattle.sheet_store.specs.declared.order.Order.TheVariants as orders
use Rattle.work_sheet.specs.Doing.{all_passed, context_in, ordered, recalculated}
use Rattle.work_sheet.specs.Seen.{Sheet}
use Rattle.work_sheet.specs.Sheets.{AllDirtyIn}

none_of : (o : Option Tree) → (is_some o ≡ true → ⊥) → o ≡ None
none_of None apart = refl
none_of (Some t) apart = absurd (apart refl)

module _ (mean : Meaning) (x : Context) where
  -- an evaluation writes no other cell
  apart_from_one : (g : Grid) (d : Place) (o : Option Tree) (c : Place) → same_place c d ≡ false
      → get (revalued mean x g d o).cells c ≡ get g.cells c
  apart_from_one g d None c apart = refl
  apart_from_one g d (Some t) c apart =
      get_valued g.cells (get g.cells d) d (mean t d (outlook_at x g)) c refl
      ∙ cond-false (same_place c d) (with_value (get g.cells d) (mean t d (outlook_at x g))) (get g.cells c) apart

  -- passes write none but theirs
  apart_from_all : (cells : List Place) (g : Grid) (c : Place) → has same_place cells c ≡ false
      → get (pass mean x cells g).cells c ≡ get g.cells c
  apart_from_all [] g c out = refl
  apart_from_all (d ∷ cells) g c out =
      apart_from_all cells (evaluated mean x g d) c (false_from_ne_true (has same_place cells c)
      (λ k. true≢false (sym (or_right (same_place c d) (has same_place cells c) k) ∙ out)))
      ∙ apart_from_one g d (formula_at g d) c (false_from_ne_true (same_place c d)
      (λ k. true≢false (sym (or_left (same_place c d) (has same_place cells c) k) ∙ out)))

  apart_again : (n : ℕ) (cells : List Place) (g : Grid) (c : Place) → has same_place cells c ≡ false
      → get (passes mean x n cells g).cells c ≡ get g.cells c
  apart_again zero cells g c out = refl
  apart_again (suc n) cells g c out = apart_again n cells (pass mean x cells g) c out ∙ apart_from_all cells g c out

  -- and none that holds no formula
  no_formula : (cells : List Place) (g : Grid) (c : Place) → formula_at g c ≡ None
      → get (pass mean x cells g).cells c ≡ get g.cells c
  no_formula [] g c none = refl
  no_formula (d ∷ cells) g c none = elim (cases_Bool (same_place c d)) [
    | inl here ↦
        let same : evaluated mean x g d ≡ g =
        ap (revalued mean x g d) (ap (formula_at g) (sym (same_place_is c d here)) ∙ none) in
        ap (λ (h : Grid). get (pass mean x cells h).cells c) same ∙ no_formula cells g c none
    | inr apart ↦
        let same : get (evaluated mean x g d).cells c ≡ get g.cells c = apart_from_one g d (formula_at g d) c apart in
        no_formula cells (evaluated mean x g d) c (ap formula_of same ∙ none) ∙ same
  ]

  no_formula_again : (n : ℕ) (cells : List Place) (g : Grid) (c : Place) → formula_at g c ≡ None
      → get (passes mean x n cells g).cells c ≡ get g.cells c
  no_formula_again zero cells g c none = refl
  no_formula_again (suc n) cells g c none =
      let same : get (pass mean x cells g).cells c ≡ get g.cells c = no_formula cells g c none in
      no_formula_again n cells (pass mean x cells g) c (ap formula_of same ∙ none) ∙ same

  same_pass : (cells : List Place) (g : Grid) → SameContents g (pass mean x cells g)
  same_pass [] g = same_itself g
  same_pass (d ∷ cells) g = same_on g (evaluated mean x g d) (pass mean x cells (evaluated mean x g d))
      (same_evaluated mean x g d) (same_pass cells (evaluated mean x g d))

  same_passes : (n : ℕ) (cells : List Place) (g : Grid) → SameContents g (passes mean x n cells g)
  same_passes zero cells g = same_itself g
  same_passes (suc n) cells g = same_on g (pass mean x cells g) (passes mean x n cells (pass mean x cells g))
      (same_pass cells g) (same_passes n cells (pass mean x cells g))

  -- a cell that holds no dirty formula
  module _ (g : Grid) (dirty : List Place) (cut : RecalculationIsCut mean x)
      (sound : IsSound mean x g (has same_place dirty)) (c : Place) (clean : has same_place dirty c ≡ false) where
    rest : IsRest g (has same_place dirty)
    rest = record { only = sound.only; volatile = sound.calm; up = sound.up; acyclic = sound.acyclic }

    abbrev along : List Place
    along = filter (has same_place dirty) (natural_order g).done

    not_along : has same_place along c ≡ false
    not_along = passed_out (has same_place dirty) (natural_order g).done c clean

    -- in the natural order the passes are passes over the dirty ones
    naturally : (n : ℕ) → get (passes mean x n (natural_order g).done g).cells c ≡ get g.cells c
    naturally zero = refl
    naturally (suc n) =
        ap (λ (h : Grid). get h.cells c) (cut g (has same_place dirty) (has same_place dirty) sound rest n)
        ∙ apart_again n along (pass mean x along g) c not_along ∙ apart_from_all along g c not_along

    -- in another all formulas are dirty
    holds_none : ((d : Place) → is_formula_at g d ≡ true → has same_place dirty d ≡ true) → formula_at g c ≡ None
    holds_none all = none_of (formula_at g c) (λ k. true≢false (sym (all c k) ∙ clean))

    stays : (order : Order) (n : ℕ) → AllDirtyIn order g dirty
        → get (passes mean x n (order_in order g).done g).cells c ≡ get g.cells c
    stays orders.Natural n all = naturally n
    stays orders.Columnwise n all = no_formula_again n (plain_order true g) g c (holds_none all)
    stays orders.Rowwise n all = no_formula_again n (plain_order false g) g c (holds_none all)

-- a sheet of which its invariant is told, and rows that hold no dirty formula
pub recalculated_beside : (s : Sheet) (dirty : List Place) (rows : ℕ → Bool)
    → ((x : Context) → RecalculationIsCut mean x) → ((x : Context) → IsSound mean x s.grid (has same_place dirty)) →
    AllDirtyIn s.settings.order s.grid dirty → ((c : Place) → rows c.row ≡ false → has same_place dirty c ≡ false)
    → (scene : Scene) → IsBeside rows s (recalculated mean scene s).sheet
recalculated_beside s dirty rows cut sound all clean scene =
    let x : Context = context_in scene s in
    let same : SameContents s.grid (all_passed mean scene s) =
    same_passes mean x s.settings.passes (ordered s).done s.grid in
    record {
      names = refl;
      settings = refl;
      widths = same.widths;
      hidden = same.hidden;
      cells = λ c apart. stays mean x s.grid dirty (cut x) (sound x) c
          (clean c apart) s.settings.order s.settings.passes all;
    }
