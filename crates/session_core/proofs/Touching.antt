-- What a key may have touched of the sheet.
use Rattle.std.proofs.Common.{◌≡◌, ℕ, Bool, true, false, Option, None, Some, refl, ap, sym, subst, ◌∙◌}
use Rattle.std.specs.FinMap.{get}
use Rattle.std.specs.Prelude.{◌&&◌, if◌then◌else◌, not}
use Rattle.std.proofs.lemmas.Bool.{false_from_ne_true, false≢true, true≢false}
use Rattle.formula_eval.specs.Mean.{mean}
use Rattle.formula_parts.specs.declared.look.Scene.{Scene}
use Rattle.formula_tree.specs.declared.value.Content.{Content}
use Rattle.grid_address.proofs.Places.{same_place_is}
use Rattle.grid_address.specs.Place.{same_place, Place}
use Rattle.macro_engine.specs.RowSpans.{is_in, ChangesRows}
use Rattle.macro_engine.specs.declared.row_span.RowSpan.{RowSpan}
use Rattle.screen_layout.specs.inner.Alike.{AreAlike}
use Rattle.sheet_edits.proofs.Beside.{beside}
use Rattle.sheet_edits.specs.Edits.{entered, written, written_state}
use Rattle.sheet_store.specs.Grid.{is_formula, Grid}
use Rattle.work_sheet.specs.Doing.{context_in, put, quiet, recalculated, settled}
use Rattle.work_sheet.specs.Seen.{Sheet}
use Rattle.session_core.specs.Moving.{IsMoved}
use Rattle.session_core.proofs.Settled.{alike_beside}
use Rattle.session_core.specs.inner.Touches.{touches_row, AreTouched, IsSettled, Settles, Touches}
use Rattle.session_core.specs.declared.touched.Touched.{Touched}
use Rattle.session_core.specs.declared.touched.Touched.TheVariants as touched

same_alike : (rows : ℕ → Bool) (s : Sheet) → AreAlike rows s s
same_alike rows s =
    record { cells = λ c apart. refl; widths = refl; hidden = refl; width = refl; format = refl; names = refl }

alike_on : (rows : ℕ → Bool) (s m t : Sheet) → AreAlike rows s m → AreAlike rows m t → AreAlike rows s t
alike_on rows s m t a b = record {
  cells = λ c apart. b.cells c apart ∙ a.cells c apart;
  widths = b.widths ∙ a.widths;
  hidden = b.hidden ∙ a.hidden;
  width = b.width ∙ a.width;
  format = b.format ∙ a.format;
  names = b.names ∙ a.names;
}

-- a sheet whose pointer moved
moved_alike : (rows : ℕ → Bool) (s t : Sheet) → IsMoved s t → AreAlike rows s t
moved_alike rows s t (p, is) = record {
  cells = λ c apart. ap (λ (u : Sheet). get u.grid.cells c) is;
  widths = ap (λ (u : Sheet). u.grid.widths) is;
  hidden = ap (λ (u : Sheet). u.grid.hidden) is;
  width = ap (λ (u : Sheet). u.settings.width) is;
  format = ap (λ (u : Sheet). u.settings.format) is;
  names = ap (λ (u : Sheet). u.names) is;
}

-- whatever was touched, but anything
pub touched_alike : (x : Touched) (first : ℕ) (s t : Sheet) → (x ≡ touched.Anything → ⊥) → Touches x first s t
    → AreAlike (touches_row x first) s t
touched_alike touched.Nothing first s t sure h = subst (λ (u : Sheet). AreAlike (touches_row touched.Nothing first) s u)
    (sym h) (same_alike (touches_row touched.Nothing first) s)
touched_alike touched.Pointer first s t sure h = h
touched_alike (touched.Rows lines) first s t sure h = h
touched_alike touched.Anything first s t sure h = absurd (sure refl)

-- Content was written into a cell, what follows by itself was done, and the pointer moved.
module _ (s m n t : Sheet) (scene there : Scene) (c : Place) (x : Content) (entry : m ≡ (put mean scene c x s).sheet)
    (after : n ≡ (settled mean there m).sheet) (moved : IsMoved n t) where
  -- a recalculation was, and left all but some rows, of which the cell's is one
  module _ (rows : ℕ → Bool) (row : rows c.row ≡ true) (settles : IsSettled rows m) where
    automatic : s.settings.automatic ≡ true
    automatic = sym (ap (λ (u : Sheet). u.settings.automatic) entry) ∙ settles.automatic

    grid_written : m.grid ≡ written s.grid c x
    grid_written = ap (λ (u : Sheet). u.grid) entry
        ∙ ap (λ (b : Bool). entered mean (context_in scene s) (not b && is_formula x) s.grid c x) automatic

    apart_rows : (d : Place) → rows d.row ≡ false → same_place d c ≡ false
    apart_rows d apart = false_from_ne_true (same_place d c)
        (λ e. true≢false (sym row ∙ ap (λ (p : Place). rows p.row) (sym (same_place_is d c e)) ∙ apart))

    written_alike : AreAlike rows s m
    written_alike = record {
      cells = λ d apart. ap (λ (g : Grid). get g.cells d) grid_written
          ∙ beside s.grid c (written_state s.grid c x) d (apart_rows d apart);
      widths = ap (λ (g : Grid). g.widths) grid_written;
      hidden = ap (λ (g : Grid). g.hidden) grid_written;
      width = ap (λ (u : Sheet). u.settings.width) entry;
      format = ap (λ (u : Sheet). u.settings.format) entry;
      names = ap (λ (u : Sheet). u.names) entry;
    }

    after_is : n ≡ (recalculated mean there m).sheet
    after_is = after ∙ ap (λ (b : Bool). (if b then recalculated mean there m else quiet m).sheet) settles.automatic

    entry_alike : AreAlike rows s t
    entry_alike =
        let recalculated_too : AreAlike rows m n = subst (AreAlike rows m) (sym after_is) (settles.alike there) in
        alike_on rows s n t (alike_on rows s m n written_alike recalculated_too) (moved_alike rows n t moved)

  -- an entry, what follows it by itself and a move touch no more than is told of them
  pub entry_touches : (y : Touched) (first : ℕ) → touches_row y first c.row ≡ true → Settles y first m
      → Touches y first s t
  entry_touches touched.Nothing first row settles = absurd (false≢true row)
  entry_touches touched.Pointer first row settles = absurd (false≢true row)
  entry_touches (touched.Rows lines) first row settles =
      entry_alike (touches_row (touched.Rows lines) first) row settles
  entry_touches touched.Anything first row settles = tt

-- what a step that left the sheet or told rows or none has touched
by_rows : (rows : Option RowSpan) (x : Touched) (first : ℕ) (s t : Sheet) → AreTouched rows first x
    → ChangesRows rows s t → Touches x first s t
by_rows None touched.Nothing first s t h changes = absurd h
by_rows None touched.Pointer first s t h changes = absurd h
by_rows None (touched.Rows lines) first s t h changes = absurd h
by_rows None touched.Anything first s t h changes = tt
by_rows (Some span) touched.Nothing first s t h changes = absurd h
by_rows (Some span) touched.Pointer first s t h changes = absurd h
by_rows (Some span) (touched.Rows lines) first s t h changes =
    alike_beside (is_in span) (touches_row (touched.Rows lines) first) s t h changes
by_rows (Some span) touched.Anything first s t h changes = absurd h

-- the same, by whether it left the sheet
pub step_touches : (left : Bool) (rows : Option RowSpan) (x : Touched) (first : ℕ) (s t : Sheet)
    → (left ≡ true → t ≡ s) → (left ≡ true → x ≡ touched.Nothing) → (left ≡ false → AreTouched rows first x)
    → ChangesRows rows s t → Touches x first s t
step_touches true rows x first s t leaves still told changes =
    subst (λ (y : Touched). Touches y first s t) (sym (still refl)) (leaves refl)
step_touches false rows x first s t leaves still told changes = by_rows rows x first s t (told refl) changes

-- what was touched behind a step that touched nothing
pub touches_alone : (x y : Touched) → x ≡ touched.Nothing → (first : ℕ) (s m t : Sheet) → Touches x first s m
    → Touches y first m t → Touches y first s t
touches_alone x y still first s m t before h =
    subst (λ (u : Sheet). Touches y first u t) (subst (λ (z : Touched). Touches z first s m) still before) h

-- what was touched by a step where nothing was behind it
pub touches_before : (x y : Touched) → y ≡ touched.Nothing → (first : ℕ) (s m t : Sheet) → Touches x first s m
    → Touches y first m t → Touches x first s t
touches_before x y still first s m t h behind =
    subst (λ (u : Sheet). Touches x first s u) (sym (subst (λ (z : Touched). Touches z first m t) still behind)) h

-- of an act at a row that a step left at the top
pub touches_at : (x : Touched) (first last : ℕ) (s t : Sheet) → last ≡ first → Touches x last s t → Touches x first s t
touches_at x first last s t same h = subst (λ (n : ℕ). Touches x n s t) same h
